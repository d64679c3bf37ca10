-- The valuation that a buffer reads as has what its fields may hold, so that its JSON reads back.
use Rattle.std.proofs.Common.{◌≡◌, ℕ, ◌/◌, ◌<◌, Bool, true, false, cond, List, [], ◌∷◌, ◌++◌, length, Option, Some, None, IsSome, refl, sym, ap, ◌∙◌, subst, inl, inr}
use Rattle.std.specs.Prelude.{◌==◌, ◌+ℤ◌, nat_abs}
use Rattle.std.specs.List.{AllByRecursion}
use Rattle.std.proofs.lemmas.Bool.Decides.{Decides-eqb}
use Rattle.rx_types.specs.Domain.{Domain}
use Rattle.rx_types.specs.Environment.{Placed, IsAmong}
use Rattle.rx_graph.specs.declared.message.Node.{Node}
use Rattle.rx_graph.specs.declared.message.Node.TheVariants.{Start, At}
use Rattle.rx_graph.specs.Elaborated.{IsElaborated}
use Rattle.rx_graph.specs.Graph.{Graph, type_of}
use Rattle.rx_graph.specs.Fits.{Content, Number, Assigned, content_of, content_at, IsContent, IsAscending, ReadsAs}
use Rattle.rx_graph.specs.Paths.{HasNumber, Leads}
use Rattle.rx_graph.proofs.Facts.{targets_are_fields}
use Rattle.rx_graph.proofs.Lengths.{Once, once}
use Rattle.rx_values.specs.Laws.{HasKind, IsHeld, IsValued}
use Rattle.rx_draft.proofs.SameBytes.{bytes_range}
use Rattle.rx_serial.specs.Laws.{AreBytes}

none_some : (c : Content) → None ≡ Some c → ⊥
none_some c e = cc

same_content : (o : Option Content) (c d : Content) → o ≡ Some c → o ≡ Some d → c ≡ d
same_content o c d h k = cc

is_some : (o : Option Content) (c : Content) → o ≡ Some c → IsSome o
is_some None c e = absurd (none_some c e)
is_some (Some x) c e = refl

-- what a scalar or a field of bytes holds in a buffer
kind_of : (low : Bool) (bytes : List ℕ) (o : Option Domain) (p : Placed) (given : Option Content) → AreBytes bytes → HasNumber o p.number → IsContent o p given → given ≡ Some (content_at low o bytes p) → (c : Content) → given ≡ Some c → HasKind o c
kind_of low bytes (Some t) p given are number is there c e = subst (HasKind (Some t)) (same_content given (Number p.number) c is e) number
kind_of low bytes None p given are number is there c e =
    subst (HasKind None) (same_content given (content_at low None bytes p) c there e) (bytes_range bytes (nat_abs p.first / 8) (nat_abs (p.first +ℤ p.size) / 8) are)

behind : (a : Assigned) (rest : List Assigned) (f : ℕ) (c : Content) → content_of a.field rest ≡ None → content_of f rest ≡ Some c → content_of f (a ∷ rest) ≡ Some c
behind a rest f c none e = go (a.field == f) refl
  where
    go : (b : Bool) → (a.field == f) ≡ b → cond b (Some a.content) (content_of f rest) ≡ Some c
    go true is = absurd (none_some c (sym none ∙ ap (λ g. content_of g rest) ((Decides-eqb a.field f).0 is) ∙ e))
    go false is = e

module _ (domains : List Domain) (m : Graph) (el : IsElaborated domains m) (bytes : List ℕ) (are : AreBytes bytes) (values : List Assigned) where
  abbrev IsTyped : Placed → Type 0
  IsTyped p = (p.field < length m.fields) × HasNumber (type_of domains m p.field) p.number

  typed : (total : ℕ) (before : List Placed) (at : Node) (path : List ℕ) (fields : List Placed) (end : Node) → Leads domains m total before at path fields end → AllByRecursion IsTyped fields
  typed total before at [] [] end h = tt
  typed total before at [] (p ∷ fields) end h = absurd h
  typed total before at (i ∷ path) [] end h = absurd h
  typed total before at (i ∷ path) (p ∷ fields) end h =
      ((targets_are_fields domains m el i h.0 p.field h.1 h.3.target, h.3.number), typed total (before ++ p ∷ []) (At p.field) path fields end h.4)

  abbrev IsGood : ℕ → Type 0
  IsGood f = (f < length m.fields) × ((c : Content) → content_of f values ≡ Some c → HasKind (type_of domains m f) c)

  good : (fields : List Placed) → AllByRecursion IsTyped fields → AllByRecursion (λ p. IsContent (type_of domains m p.field) p (content_of p.field values)) fields → AllByRecursion (λ p. content_of p.field values ≡ Some (content_at m.low_order (type_of domains m p.field) bytes p)) fields → (f : ℕ) → IsAmong f fields → IsGood f
  good [] t is there f among = absurd among
  good (p ∷ fields) t is there f (inl e) =
      subst IsGood e (t.0.0, kind_of m.low_order bytes (type_of domains m p.field) p (content_of p.field values) are t.0.1 is.0 there.0)
  good (p ∷ fields) t is there f (inr among) = good fields t.1 is.1 there.1 f among

  each : (some : List Assigned) → ((f : ℕ) (c : Content) → content_of f some ≡ Some c → content_of f values ≡ Some c) → Once some → ((f : ℕ) → IsSome (content_of f values) → IsGood f) → AllByRecursion (IsHeld domains m) some
  each [] up once all = tt
  each (a ∷ rest) up once all =
      let here : content_of a.field (a ∷ rest) ≡ Some a.content = ap (λ b. cond b (Some a.content) (content_of a.field rest)) ((Decides-eqb a.field a.field).1 refl) in
      let there = up a.field a.content here in
      let held = all a.field (is_some (content_of a.field values) a.content there) in
      (record { within = held.0; kind = held.1 a.content there }, each rest (λ f c e. up f c (behind a rest f c once.0 e)) once.1 all)

  pub valued : IsAscending values → ReadsAs domains m bytes values → IsValued domains m values
  valued ascending r =
      let t = typed (length bytes) [] Start r.fits.whole.front r.fields r.fits.whole.node r.fits.whole.partial.leads in
      record {
        ascending = ascending;
        held = each values (λ f c e. e) (once values ascending) (λ f some. good r.fields t r.fits.contents r.contents f ((r.fits.named f).0 some));
      }
