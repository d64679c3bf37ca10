-- At most one link is taken behind the fields of a draft.
use Rattle.std.proofs.Common.{◌≡◌, ℕ, ◌*◌, List, length, Bool, true, false, Option, Some, None, IsSome, IsTrue, ◌↔◌, refl, sym, ap, ◌∙◌, subst, arith}
use Rattle.std.specs.Prelude.{pos, slice_get}
use Rattle.std.proofs.lemmas.Int.{ints}
use Rattle.rx_types.specs.Domain.{Domain, IsNumberOf}
use Rattle.rx_types.specs.Environment.{Environment}
use Rattle.rx_graph.specs.declared.message.Node.TheVariants.{At}
use Rattle.rx_graph.specs.Checks.{size_to}
use Rattle.rx_graph.specs.Fits.{Content, Number, Bytes}
use Rattle.rx_graph.specs.Graph.{Arrow, Graph, type_of}
use Rattle.rx_graph.specs.Paths.{first_of, LiesWithin, Ends}
use Rattle.rx_graph.proofs.Unique.{at_field, at_null, some_same}
use Rattle.rx_context.specs.Plan.{Planned}
use Rattle.rx_draft.specs.Drafts.{StandsForSound, IsUnderway, end_node}
use Rattle.rx_draft.specs.Puts.{TakesTo, IsNext, HasValue, HasSize, Lies}
use Rattle.rx_draft.specs.Steps.{LiesAt}

clash : true ≡ false → ⊥
clash e = cc

number_bytes : (n : ℕ) (b : List ℕ) → Bytes b ≡ Number n → ⊥
number_bytes n b e = cc

bytes_number : (n : ℕ) (b : List ℕ) → Number n ≡ Bytes b → ⊥
bytes_number n b e = cc

pub bytes_same : (a b : List ℕ) → Bytes a ≡ Bytes b → a ≡ b
bytes_same a b e = cc

pub number_same : (a b : ℕ) → Number a ≡ Number b → a ≡ b
number_same a b e = cc

not_some : false ≡ true → ⊥
not_some e = cc

pub some_domain : (o : Option Domain) → IsSome o → (t : Domain) × (o ≡ Some t)
some_domain None h = absurd (not_some h)
some_domain (Some t) h = (t, refl)

module _ (domains : List Domain) (m : Graph) (p : Planned) (s : StandsForSound domains m p) (e : Environment) (u : IsUnderway p e) where
  pub same_link : (f g : ℕ) (a b : Arrow) → TakesTo m e f a → TakesTo m e g b → a ≡ b
  same_link f g a b t v =
      let o = u.on domains m s in
      let same : t.index ≡ v.index = s.stands.exclusive e.total o.0 e.fields (end_node e.fields) t.index v.index a b o.1 t.is v.is t.source v.source t.taken v.taken in
      some_same a b (sym t.is ∙ ap (λ i. slice_get m.links i) same ∙ v.is)

  -- at most one field is the next
  pub same_field : (f g : ℕ) (a b : Arrow) → TakesTo m e f a → TakesTo m e g b → f ≡ g
  same_field f g a b t v = at_field f g (sym t.target ∙ ap (λ (x : Arrow). x.target) (same_link f g a b t v) ∙ v.target)

  -- where the path ends, no field is the next
  pub not_next : (i f : ℕ) → Ends domains m e.total e.fields (end_node e.fields) i → IsNext m e f → ⊥
  not_next i f end (a, t) =
      let o = u.on domains m s in
      let same : t.index ≡ i = s.stands.exclusive e.total o.0 e.fields (end_node e.fields) t.index i a end.link o.1 t.is end.is t.source end.source t.taken end.taken in
      let link = some_same a end.link (sym t.is ∙ ap (λ k. slice_get m.links k) same ∙ end.is) in
      at_null f (sym t.target ∙ ap (λ (x : Arrow). x.target) link ∙ end.target)

  -- bytes that are as long as the field that is the next
  pub has_size : (f : ℕ) (link : Arrow) (bytes : List ℕ) → TakesTo m e f link → size_to domains m link e f ≡ pos (8 * length bytes) → HasSize domains m e f (Bytes bytes)
  has_size f link bytes t size other more v is =
      ap (λ l. size_to domains m l e f) (same_link f f other link v t) ∙ size ∙ ap (λ b. pos (8 * length b)) (bytes_same bytes more is)

  -- a field that lies within the message, wherever a link that is taken leads to it
  pub lies_here : (f first size : ℕ) → LiesAt domains m e f first size → Lies domains m e f
  lies_here f first size l other v =
      let within : LiesWithin e (pos first) (pos size) = let ends = l.4 in record { begins = omega (arith, ints); long = omega (arith, ints); ends = omega (arith, ints, ends) } in
      let here = subst (λ z. LiesWithin e z (size_to domains m l.0 e f)) (sym l.2) (subst (λ z. LiesWithin e (pos first) z) (sym l.3) within) in
      subst (λ k. LiesWithin e (first_of k e) (size_to domains m k e f)) (same_link f f l.0 other l.1 v) here

-- bytes are no number, and a number is no bytes
pub bytes_have_value : (domains : List Domain) (m : Graph) (e : Environment) (f : ℕ) (bytes : List ℕ) → HasValue domains m e f (Bytes bytes)
bytes_have_value domains m e f bytes t n typed is = absurd (number_bytes n bytes is)

pub number_has_size : (domains : List Domain) (m : Graph) (e : Environment) (f n : ℕ) → HasSize domains m e f (Number n)
number_has_size domains m e f n link bytes t is = absurd (bytes_number n bytes is)

-- a number that the plan does not allow
pub value_refused :
    (domains : List Domain) (m : Graph) (e : Environment) (f n : ℕ) (allowed : Bool) → IsSome (type_of domains m f) → ((t : Domain) → type_of domains m f ≡ Some t → IsTrue allowed ↔ IsNumberOf t n) → allowed ≡ false
    → HasValue domains m e f (Number n) → ⊥
value_refused domains m e f n allowed scalar h wrong value =
    let t = some_domain (type_of domains m f) scalar in
    clash (sym ((h t.0 t.1).1 (value t.0 n t.1 refl)) ∙ wrong)
