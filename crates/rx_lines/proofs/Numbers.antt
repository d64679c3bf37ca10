-- Valuations that grow by a field behind those of lesser ids.
use Rattle.std.proofs.Common.{◌≡◌, refl, sym, ap, ◌∙◌, ℕ, ◌+◌, ◌<◌, arith, Bool, List, [], ◌∷◌, ◌++◌, length, drop, Option, Some, None, if◌then◌else◌}
use Rattle.std.specs.List.{AllByRecursion}
use Rattle.std.proofs.lemmas.Bool.{lt-ltb, ne_eqb}
use Rattle.std.proofs.lemmas.List.{append_assoc, drop_more}
use Rattle.rx_graph.specs.declared.message.Field.{Field}
use Rattle.rx_graph.specs.Fits.{Content, Assigned, content_of}
use Rattle.rx_values.specs.Valuation.{inserted}
use Rattle.rx_lines.specs.Subjects.{assigned_if, values_from}

-- all ids are below f
abbrev pub AllBelow : ℕ → List Assigned → Type 0
AllBelow f values = AllByRecursion (λ a. a.field < f) values

pub content_none : (f : ℕ) (values : List Assigned) → AllBelow f values → content_of f values ≡ None
content_none f [] below = refl
content_none f (a ∷ values) below =
    let other : a.field ≡ f → ⊥ = λ e. let less : a.field < f = below.0 in omega arith in
    ap (λ (b : Bool). if b then Some a.content else content_of f values) (ne_eqb a.field f other) ∙ content_none f values below.1

pub inserted_last : (f : ℕ) (c : Content) (values : List Assigned) → AllBelow f values → inserted f c values ≡ values ++ record { field = f; content = c } ∷ []
inserted_last f c [] below = refl
inserted_last f c (a ∷ values) below =
    ap (λ (b : Bool). if b then a ∷ inserted f c values else record { field = f; content = c } ∷ a ∷ values) (lt-ltb a.field f below.0)
    ∙ ap (λ (vs : List Assigned). a ∷ vs) (inserted_last f c values below.1)

weaker : (f : ℕ) (values : List Assigned) → AllBelow f values → AllBelow (f + 1) values
weaker f [] below = tt
weaker f (a ∷ values) below = let less : a.field < f = below.0 in (omega arith, weaker f values below.1)

pub below_more : (f : ℕ) (values : List Assigned) (number : Option ℕ) → AllBelow f values → AllBelow (f + 1) (values ++ assigned_if f number)
below_more f [] None below = tt
below_more f [] (Some n) below = (omega arith, tt)
below_more f (a ∷ values) number below = let less : a.field < f = below.0 in (omega arith, below_more f values number below.1)

-- one field more
pub values_more : (number : ℕ → Option ℕ) (fields : List Field) (i : ℕ) (values new : List Assigned) → i < length fields → new ≡ values ++ assigned_if i (number i) → new ++ values_from number (i + 1) (drop (i + 1) fields) ≡ values ++ values_from number i (drop i fields)
values_more number [] i values new within put = absurd (omega arith)
values_more number (f ∷ fields) i values new within put =
    ap (λ (vs : List Assigned). vs ++ values_from number (i + 1) (drop (i + 1) (f ∷ fields))) put
    ∙ append_assoc values (assigned_if i (number i)) (values_from number (i + 1) (drop (i + 1) (f ∷ fields)))
    ∙ sym (ap (λ (fs : List Field). values ++ values_from number i fs) (drop_more (f ∷ fields) i f within))
