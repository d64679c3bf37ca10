-- What is put over a field that was put has the bits of that field, or else it stands nowhere in the buffer.
use Rattle.std.proofs.Common.{◌≡◌, ◌≢◌, ℕ, ◌+◌, ◌*◌, ◌/◌, ◌%◌, ◌^◌, ◌<◌, Bool, true, false, List, [], ◌∷◌, ◌++◌, length, Option, Some, None, IsSome, refl, sym, ap, ◌∙◌, subst, ◌⊎◌, inl, inr, arith}
use Rattle.std.specs.Prelude.{pos, nat_abs, slice_get, slice_range, if◌then◌else◌, ◌==◌}
use Rattle.std.proofs.lemmas.Int.{ints}
use Rattle.std.proofs.lemmas.Bool.Decides.{Decides-eqb}
use Rattle.rx_model.specs.Bits.{bits, number, place_bits, ordered}
use Rattle.rx_model.specs.Order.{number_in, number_bits}
use Rattle.rx_types.specs.Domain.{Domain, size_of, IsNumberOf}
use Rattle.rx_types.specs.Environment.{Placed, Environment, in_message, place_of, end_of, IsAmong}
use Rattle.rx_graph.specs.declared.message.Node.TheVariants.{Start}
use Rattle.rx_graph.specs.Checks.{IsNumbered, number_of, size_to}
use Rattle.rx_graph.specs.Elaborated.{FitsOrder}
use Rattle.rx_graph.specs.Fits.{Content, Number, Bytes, content_of, content_at, content_bits, contents_of}
use Rattle.rx_graph.specs.Graph.{Graph, type_of, overlay_of}
use Rattle.rx_graph.specs.Paths.{value_or}
use Rattle.rx_graph.proofs.Facts.{laid_over_overlay}
use Rattle.rx_context.specs.Plan.{Planned}
use Rattle.rx_context.proofs.Within.{field_of_place}
use Rattle.rx_draft.specs.Drafts.{drafted, StandsForSound, IsOnPath, IsDraft, end_node}
use Rattle.rx_draft.specs.Puts.{Agrees}
use Rattle.rx_draft.specs.Steps.{LiesAt}
use Rattle.rx_draft.proofs.Adding.{has_order, on_bytes}
use Rattle.rx_draft.proofs.ContentBits.{ordered_twice, length-number_bits, number-number_bits, bits_range}
use Rattle.rx_draft.proofs.Numbers.{number_below, proper_type}
use Rattle.rx_draft.proofs.Settled.{Settled, AllSettled, settled, bits_at}

clash : true ≡ false → ⊥
clash e = cc

pub some_field : (o : Option ℕ) → IsSome o → (x : ℕ) × (o ≡ Some x)
some_field None h = absurd (clash (sym h))
some_field (Some x) h = (x, refl)

-- ---- a field among those that were put

among_if : (b : Bool) (q : Placed) (x : ℕ) (ps : List Placed) → (b ≡ true → q.field ≡ x) → IsAmong x ps ⊎ ((place_of x ps).size ≡ pos 0) → IsAmong x (q ∷ ps) ⊎ ((if b then q else place_of x ps).size ≡ pos 0)
among_if true q x ps same rest = inl (inl (same refl))
among_if false q x ps same (inl k) = inl (inr k)
among_if false q x ps same (inr z) = inr z

-- an absent field has Size 0
among_or : (x : ℕ) (ps : List Placed) → IsAmong x ps ⊎ ((place_of x ps).size ≡ pos 0)
among_or x [] = inr refl
among_or x (q ∷ ps) = among_if (q.field == x) q x ps (Decides-eqb q.field x).0 (among_or x ps)

rest_of : (b : Bool) (q : Placed) (x : ℕ) (ps : List Placed) → (q.field ≡ x → b ≡ true) → b ≡ false → IsAmong x (q ∷ ps) → IsAmong x ps
rest_of b q x ps back is (inl e) = absurd (clash (sym (back e) ∙ is))
rest_of b q x ps back is (inr k) = k

module _ (domains : List Domain) (m : Graph) where
  settled_if : (b : Bool) (total : ℕ) (before : List Placed) (q : Placed) (x : ℕ) (ps : List Placed) → Settled domains m total before q → (b ≡ false → (front : List Placed) × Settled domains m total front (place_of x ps)) → (front : List Placed) × Settled domains m total front (if b then q else place_of x ps)
  settled_if true total before q x ps h rest = (before, h)
  settled_if false total before q x ps h rest = rest refl

  pub settled_at : (total : ℕ) (before : List Placed) (x : ℕ) (ps : List Placed) → AllSettled domains m total before ps → IsAmong x ps → (front : List Placed) × Settled domains m total front (place_of x ps)
  settled_at total before x [] h among = absurd among
  settled_at total before x (q ∷ ps) h among =
      settled_if (q.field == x) total before q x ps h.0 (λ is. settled_at total (before ++ q ∷ []) x ps h.1 (rest_of (q.field == x) q x ps (Decides-eqb q.field x).1 is among))

  content_if : (b : Bool) (bytes : List ℕ) (q : Placed) (x : ℕ) (ps : List Placed) → (b ≡ true → q.field ≡ x) → (b ≡ false → content_of x (contents_of domains m bytes ps) ≡ Some (content_at m.low_order (type_of domains m x) bytes (place_of x ps)))
      → (if b then Some (content_at m.low_order (type_of domains m q.field) bytes q) else content_of x (contents_of domains m bytes ps)) ≡ Some (content_at m.low_order (type_of domains m x) bytes (if b then q else place_of x ps))
  content_if true bytes q x ps same rest = ap (λ f. Some (content_at m.low_order (type_of domains m f) bytes q)) (same refl)
  content_if false bytes q x ps same rest = rest refl

  -- what stands at the place of a field that was put is what it holds
  pub content_among : (bytes : List ℕ) (x : ℕ) (ps : List Placed) → IsAmong x ps → content_of x (contents_of domains m bytes ps) ≡ Some (content_at m.low_order (type_of domains m x) bytes (place_of x ps))
  content_among bytes x [] among = absurd among
  content_among bytes x (q ∷ ps) among =
      content_if (q.field == x) bytes q x ps (Decides-eqb q.field x).0 (λ is. content_among bytes x ps (rest_of (q.field == x) q x ps (Decides-eqb q.field x).1 is among))

-- ---- an overlay that is the next

number_by : (low : Bool) (o : Option Domain) (t : Domain) (n : ℕ) (l : List ℕ) → o ≡ Some t → content_bits low o (Number n) ≡ l → ordered low (number_bits (size_of t) n) ≡ l
number_by low o t n l typed h = subst (λ k. content_bits low k (Number n) ≡ l) typed h

no_bits : (b : List ℕ) → length b ≡ 0 → bits b ≡ []
no_bits [] h = refl
no_bits (y ∷ ys) h = absurd (omega (arith, h))

bytes_by : (low : Bool) (o : Option Domain) (b l : List ℕ) → content_bits low o (Bytes b) ≡ l → bits b ≡ l
bytes_by low (Some t) b l h = h
bytes_by low None b l h = h

module _ (p : Planned) (old : List ℕ) (e : Environment) (d : IsDraft (drafted old p e)) (domains : List Domain) (m : Graph) (s : StandsForSound domains m p) (f first size : ℕ) (l : LiesAt domains m e f first size) (x : ℕ) (over : overlay_of (slice_get m.fields f) ≡ Some x) where
  on : IsOnPath domains m e
  on = d.underway.on domains m s

  first_is : (place_of x e.fields).first ≡ pos first
  first_is = sym (ap (λ o. value_or o e (end_of e.fields)) (laid_over_overlay domains m s.stands.elaborated l.1.index l.0 f x l.1.is l.1.target over)) ∙ l.2

  size_is : (place_of x e.fields).size ≡ pos size
  size_is =
      let t = l.1 in
      let numbered : IsNumbered m (end_node e.fields) (number_of m.links (end_node e.fields) t.index) t.index l.0 = record { is = t.is; source = t.source; number = refl } in
      sym (s.holds.overlay (end_node e.fields) (number_of m.links (end_node e.fields) t.index) e.total on.0 e.fields t.index l.0 on.1 numbered t.taken f x t.target over) ∙ l.3

  -- what is put has the bits that stand there
  bits_there : (c : Content) → IsAmong x e.fields → Agrees domains m e (contents_of domains m old e.fields) f c → content_bits m.low_order (type_of domains m f) c ≡ place_bits first size old
  bits_there c among agrees =
      let q = place_of x e.fields in
      let all = settled domains m s.stands.elaborated s.holds e.total on.1.short [] [] Start refl on.0 e.fields (end_node e.fields) on.1.leads in
      let at = settled_at domains m e.total [] x e.fields all among in
      let same : content_bits m.low_order (type_of domains m q.field) (content_at m.low_order (type_of domains m q.field) old q) ≡ place_bits (nat_abs q.first) (nat_abs q.size) old = bits_at domains m s.stands.elaborated e.total at.0 q at.1 old d.room in
      let there = subst (λ g. content_bits m.low_order (type_of domains m g) (content_at m.low_order (type_of domains m g) old q) ≡ place_bits (nat_abs q.first) (nat_abs q.size) old) (field_of_place x e.fields) same in
      agrees x (content_at m.low_order (type_of domains m x) old q) over among (content_among domains m old x e.fields among) ∙ there ∙ ap (λ z. place_bits (nat_abs z) (nat_abs q.size) old) first_is ∙ ap (λ z. place_bits first (nat_abs z) old) size_is

  -- so a number stands there
  pub number_there : (t : Domain) (n : ℕ) → type_of domains m f ≡ Some t → IsNumberOf t n → Agrees domains m e (contents_of domains m old e.fields) f (Number n) → number_in m.low_order old first size ≡ n
  number_there t n typed fine agrees =
      let order = has_order p old e d domains m s f first size l t typed in
      elim (among_or x e.fields) [
        | inl among ↦ (let same = number_by m.low_order (type_of domains m f) t n (place_bits first size old) typed (bits_there (Number n) among agrees) in
            let long : length (number_bits (size_of t) n) ≡ size = length-number_bits (size_of t) n ∙ sym order.0 in
            let back = ordered_twice m.low_order (number_bits (size_of t) n) (subst (λ k. FitsOrder m.low_order k) (sym long) order.1.order) in
            ap (λ k. number (ordered m.low_order k)) (sym same) ∙ ap number back ∙ number-number_bits (size_of t) n (number_below t n (proper_type domains m s.stands.elaborated f t typed) fine))
        | inr absent ↦ (let z = sym absent ∙ size_is in let some = order.1.some in absurd (omega (arith, ints, z, some)))
      ]

  -- and so do bytes
  pub bytes_there : (b : List ℕ) → type_of domains m f ≡ None → size ≡ 8 * length b → Agrees domains m e (contents_of domains m old e.fields) f (Bytes b) → bits (slice_range old (first / 8) (first / 8 + length b)) ≡ bits b
  bytes_there b none long agrees =
      let fits = on_bytes p old e d domains m s f first size l none in
      let begin : 8 * (first / 8) ≡ first = let g = fits.0 in omega (arith, g) in
      let there : bits (slice_range old (first / 8) (first / 8 + length b)) ≡ place_bits first size old = bits_range old (first / 8) (length b) ∙ ap (λ k. place_bits k (8 * length b) old) begin ∙ ap (λ k. place_bits first k old) (sym long) in
      elim (among_or x e.fields) [
        | inl among ↦ there ∙ sym (bytes_by m.low_order (type_of domains m f) b (place_bits first size old) (bits_there (Bytes b) among agrees))
        | inr absent ↦ (let z = sym absent ∙ size_is in
            let nothing : size ≡ 0 = omega (arith, ints, z) in
            there ∙ ap (λ k. place_bits first k old) nothing ∙ sym (no_bits b (omega (arith, long, nothing))))
      ]
