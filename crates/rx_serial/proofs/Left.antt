-- The entries of a valuation that are left, from one on.
use Rattle.std.proofs.Common.{◌≡◌, ℕ, zero, suc, ◌+◌, ◌<◌, ◌≤◌, Bool, true, false, List, [], ◌∷◌, length, drop, get_or, Option, Some, IsSome, ◌∙◌, ◌⊎◌, inl, inr, refl, sym, ap, subst, arith, add-one}
use Rattle.std.specs.Prelude.{is_some, if◌then◌else◌, ◌==◌, IsTrue, ◌↔◌}
use Rattle.std.proofs.lemmas.Bool.Decides.{Decides-eqb}
use Rattle.rx_types.specs.Environment.{Placed, IsAmong}
use Rattle.rx_graph.specs.Fits.{Content, Assigned, content_of, AscendFrom, IsAscending}
use Rattle.rx_values.specs.declared.valuation.Value.{Value}
use Rattle.rx_values.specs.Valuation.{assigned, content}
use Rattle.rx_serial.specs.Unfit.{IsUnused}

clash : true ≡ false → ⊥
clash e = cc

not_some : false ≡ true → ⊥
not_some e = cc

abbrev pub as_assigned : ℕ × Value → Assigned
as_assigned e = record { field = e.0; content = content e.1 }

from_entry : (es : List (ℕ × Value)) (k : ℕ) (e : ℕ × Value) → k < length es → e ≡ get_or es k e → assigned (drop k es) ≡ as_assigned e ∷ assigned (drop (suc k) es)
from_entry [] k e lt is = absurd (omega (arith, lt))
from_entry (x ∷ es) zero e lt is = ap (λ y. as_assigned y ∷ assigned es) (sym is)
from_entry (x ∷ es) (suc k) e lt is = from_entry es k e (omega (arith, lt)) is

-- one entry, and those behind it
pub entry_at : (es : List (ℕ × Value)) (k : ℕ) (e : ℕ × Value) → k < length es → e ≡ get_or es k e → assigned (drop k es) ≡ as_assigned e ∷ assigned (drop (k + 1) es)
entry_at es k e lt is = from_entry es k e lt is ∙ ap (λ n. as_assigned e ∷ assigned (drop n es)) (sym (add-one k))

some_if : (b : Bool) (c : Content) (y : Option Content) → IsSome y → IsSome (if b then Some c else y)
some_if true c y h = refl
some_if false c y h = h

-- what is named by those that are left is named
pub named_left : (f : ℕ) (es : List (ℕ × Value)) (k : ℕ) → IsSome (content_of f (assigned (drop k es))) → IsSome (content_of f (assigned es))
named_left f [] zero h = h
named_left f [] (suc k) h = h
named_left f (x ∷ es) zero h = h
named_left f (x ∷ es) (suc k) h = some_if (x.0 == f) (content x.1) (content_of f (assigned es)) (named_left f es k h)

ascending_rest : (a : Assigned) (rest : List Assigned) → IsAscending (a ∷ rest) → IsAscending rest
ascending_rest a [] h = tt
ascending_rest a (b ∷ rest) h = h.1

pub ascending_left : (es : List (ℕ × Value)) (k : ℕ) → IsAscending (assigned es) → IsAscending (assigned (drop k es))
ascending_left [] zero h = tt
ascending_left [] (suc k) h = tt
ascending_left (x ∷ es) zero h = h
ascending_left (x ∷ es) (suc k) h = ascending_left es k (ascending_rest (as_assigned x) (assigned es) h)

above_if : (b : Bool) (least f g : ℕ) (c : Content) (y : Option Content) → (b ≡ true → f ≡ g) → least < f → (IsSome y → f < g) → IsSome (if b then Some c else y) → least < g
above_if true least f g c y same lt rest h = omega (arith, lt, same refl)
above_if false least f g c y same lt rest h = let k = rest h in omega (arith, lt, k)

above : (least : ℕ) (rest : List Assigned) → AscendFrom least rest → (g : ℕ) → IsSome (content_of g rest) → least < g
above least [] h g some = absurd (not_some some)
above least (b ∷ rest) h g some = above_if (b.field == g) least b.field g b.content (content_of g rest) (Decides-eqb b.field g).0 h.0 (above b.field rest h.1 g) some

first_if : (b : Bool) (f g : ℕ) (c : Content) (y : Option Content) → (b ≡ true → f ≡ g) → (IsSome y → f < g) → IsSome (if b then Some c else y) → f ≤ g
first_if true f g c y same rest h = omega (arith, same refl)
first_if false f g c y same rest h = let k = rest h in omega (arith, k)

-- the first id is the least
pub first_is_least : (a : Assigned) (rest : List Assigned) → IsAscending (a ∷ rest) → (g : ℕ) → IsSome (content_of g (a ∷ rest)) → a.field ≤ g
first_is_least a rest h g some = first_if (a.field == g) a.field g a.content (content_of g rest) (Decides-eqb a.field g).0 (above a.field rest h g) some

-- ---- the fields of a valuation are among those that were put, or left

abbrev pub ArePutOrLeft : List Assigned → List Placed → List Assigned → Type 0
ArePutOrLeft values fields left = (f : ℕ) → IsSome (content_of f values) → IsAmong f fields ⊎ IsSome (content_of f left)

put_if : (b : Bool) (a : Assigned) (f : ℕ) (fields : List Placed) (y : Option Content) → (b ≡ true → a.field ≡ f) → IsAmong a.field fields → IsSome (if b then Some a.content else y) → IsAmong f fields ⊎ IsSome y
put_if true a f fields y same among h = inl (subst (λ x. IsAmong x fields) (same refl) among)
put_if false a f fields y same among h = inr h

pub put_first : (values : List Assigned) (fields : List Placed) (a : Assigned) (rest : List Assigned) → ArePutOrLeft values fields (a ∷ rest) → IsAmong a.field fields → ArePutOrLeft values fields rest
put_first values fields a rest h among f some =
    elim (h f some) [
      | inl put ↦ inl put
      | inr left ↦ put_if (a.field == f) a f fields (content_of f rest) (Decides-eqb a.field f).0 among left
    ]

pub all_put : (values : List Assigned) (fields : List Placed) → ArePutOrLeft values fields [] → (f : ℕ) → IsSome (content_of f values) → IsAmong f fields
all_put values fields h f some =
    elim (h f some) [
      | inl put ↦ put
      | inr left ↦ absurd (not_some left)
    ]

-- the first of those that are left was not put
least_unused : (values : List Assigned) (fields : List Placed) (a : Assigned) (rest : List Assigned) → ArePutOrLeft values fields (a ∷ rest) → IsAscending (a ∷ rest) → (g : ℕ) → IsUnused values fields g → a.field ≤ g
least_unused values fields a rest h ascending g u =
    elim (h g u.0) [
      | inl put ↦ absurd (u.1 put)
      | inr left ↦ first_is_least a rest ascending g left
    ]

here : (a : Assigned) (rest : List Assigned) → IsSome (content_of a.field (a ∷ rest))
here a rest = ap is_some (ap (λ b. if b then Some a.content else content_of a.field rest) ((Decides-eqb a.field a.field).1 refl))

pub first_unused :
    (values : List Assigned) (fields : List Placed) (es : List (ℕ × Value)) (k : ℕ) (e : ℕ × Value) → assigned es ≡ values → IsAscending values → k < length es → e ≡ get_or es k e → ArePutOrLeft values fields (assigned (drop k es)) → (present : Bool) → IsTrue present ↔ IsAmong e.0 fields → present ≡ false
    → IsUnused values fields e.0 × ((g : ℕ) → IsUnused values fields g → e.0 ≤ g)
first_unused values fields es k e all ascending lt is h present put none =
    let at = entry_at es k e lt is in
    let rest = assigned (drop (k + 1) es) in
    let left : IsSome (content_of e.0 (assigned (drop k es))) = subst (λ l. IsSome (content_of e.0 l)) (sym at) (here (as_assigned e) rest) in
    let named : IsSome (content_of e.0 values) = subst (λ l. IsSome (content_of e.0 l)) all (named_left e.0 es k left) in
    let rising : IsAscending (as_assigned e ∷ rest) = subst IsAscending at (ascending_left es k (subst IsAscending (sym all) ascending)) in
    ((named, λ among. clash (sym (put.1 among) ∙ none)), least_unused values fields (as_assigned e) rest (subst (ArePutOrLeft values fields) at h) rising)
