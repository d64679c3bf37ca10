-- A point satisfies the query of a form exactly where it meets the form.
use Rattle.std.proofs.Common.{◌≡◌, refl, sym, ap, subst, ◌∙◌, ℕ, zero, suc, ◌-◌, List, [], ◌∷◌, ◌++◌, map, length, replicate, Bool, true, false, ◌&&◌, ◌||◌, ℤ, pos, neg_ℤ, ◌+ℤ◌, ◌*ℤ◌, ◌≤ℤ◌, int_le, arith}
use Rattle.std.specs.List.{list_all, list_any}
use Rattle.std.proofs.lemmas.Int.{ints}
use Rattle.std.proofs.lemmas.List.Folds.{list_all-append}
use Rattle.std.proofs.Math.IntN.{zero-*ℤ}
use Rattle.rx_model.specs.Sums.{product_sum}
use Rattle.rx_linear.specs.Joining.{holds, all_hold}
use Rattle.rx_proof.specs.declared.query.Query.{Query}
use Rattle.rx_proof.specs.declared.query.Query.TheFolds.{fold-Query, fold-roll-Query}
use Rattle.rx_proof.specs.Queries.{satisfied, satisfied_step, each_satisfied}
use Rattle.rx_forms.specs.declared.linear.Linear.{Linear}
use Rattle.rx_forms.specs.declared.linear.Form.{Form}
use Rattle.rx_forms.specs.declared.linear.Form.TheOpen.{Form-F}
use Rattle.rx_forms.specs.declared.linear.Form.TheFolds.{ind-Form, map-Form, fold-roll-Form}
use Rattle.rx_forms.specs.Linear.{at, meets, meets_step}
use Rattle.rx_layout.specs.declared.parts.Parts.{Parts}
use Rattle.rx_layout.specs.Parts.{row_of, false_row, query_of, all_of, one_of, parts_step, parts_of}

-- whether the point meets all the parts
abbrev pub meets_parts : List ℤ → Parts → Bool
meets_parts point parts = all_hold point parts.rows && each_satisfied parts.either point

any-map : (f : Query → List ℤ → Bool) (point : List ℤ) (branches : List Query) → list_any (λ (b : List ℤ → Bool). b point) (map f branches) ≡ list_any (λ b. f b point) branches
any-map f point [] = refl
any-map f point (b ∷ bs) = ap (λ (t : Bool). f b point || t) (any-map f point bs)

each-map : (f : Query → List ℤ → Bool) (point : List ℤ) (either : List (List Query)) → list_all (λ (bs : List (List ℤ → Bool)). list_any (λ (b : List ℤ → Bool). b point) bs) (map (map f) either) ≡ list_all (λ bs. list_any (λ b. f b point) bs) either
each-map f point [] = refl
each-map f point (bs ∷ either) = ap (λ (t : Bool). t && list_all (λ (bs : List (List ℤ → Bool)). list_any (λ (b : List ℤ → Bool). b point) bs) (map (map f) either)) (any-map f point bs) ∙ ap (λ (t : Bool). list_any (λ b. f b point) bs && t) (each-map f point either)

pub satisfied_is : (n : ℕ) (parts : Parts) (point : List ℤ) → satisfied (query_of n parts) point ≡ meets_parts point parts
unfolding satisfied
satisfied_is n parts point =
    ap (λ (f : List ℤ → Bool). f point) (fold-roll-Query (List ℤ → Bool) satisfied_step (record { system = record { variables = n; rows = parts.rows }; either = parts.either }))
    ∙ ap (λ (t : Bool). all_hold point parts.rows && t) (each-map (fold-Query (List ℤ → Bool) satisfied_step) point parts.either)

-- ---- rows

padded_sum : (cs ds point : List ℤ) (k : ℕ) → product_sum (cs ++ replicate k (pos 0)) point ≡ product_sum cs point
padded_sum [] ds point zero = refl
padded_sum [] ds [] (suc k) = refl
padded_sum [] ds (x ∷ point) (suc k) = let e = padded_sum [] ds point k in omega (arith, ints, zero-*ℤ x)
padded_sum (c ∷ cs) ds [] k = refl
padded_sum (c ∷ cs) ds (x ∷ point) k = ap (λ (z : ℤ). c *ℤ x +ℤ z) (padded_sum cs ds point k)

same_test : (a b : Bool) → (a ≡ true → b ≡ true) → (b ≡ true → a ≡ true) → a ≡ b
same_test true b f g = sym (f refl)
same_test false true f g = g refl
same_test false false f g = refl

from_le : (x y : ℤ) → int_le x y ≡ true → x ≤ℤ y
from_le x y e = omega (arith, ints, e)

to_le : (x y : ℤ) → x ≤ℤ y → int_le x y ≡ true
to_le x y h = grind (arith, ints, h)

moved : (c s : ℤ) → int_le (neg_ℤ c) s ≡ int_le (pos 0) (s +ℤ c)
moved c s = same_test _ _ (λ h. let k = from_le (neg_ℤ c) s h in to_le (pos 0) (s +ℤ c) (omega (arith, ints))) (λ h. let k = from_le (pos 0) (s +ℤ c) h in to_le (neg_ℤ c) s (omega (arith, ints)))

row_holds : (n : ℕ) (form : Linear) (point : List ℤ) → holds point (row_of n form) ≡ int_le (pos 0) (at form point)
row_holds n form point = ap (λ (z : ℤ). int_le (neg_ℤ form.constant) z) (padded_sum form.coefficients [] point (n - length form.coefficients)) ∙ moved form.constant (product_sum form.coefficients point)

-- ---- forms

swap_and : (a b c d : Bool) → ((a && b) && (c && d)) ≡ ((a && c) && (b && d))
swap_and true b true d = refl
swap_and true true false d = refl
swap_and true false false d = refl
swap_and false b c d = refl

all_meet : (point : List ℤ) (parts : List Parts) → meets_parts point (all_of parts) ≡ list_all (λ p. meets_parts point p) parts
all_meet point [] = refl
all_meet point (p ∷ ps) =
    ap (λ (t : Bool). t && each_satisfied (p.either ++ (all_of ps).either) point) (list_all-append (holds point) p.rows (all_of ps).rows)
    ∙ ap (λ (t : Bool). (all_hold point p.rows && all_hold point (all_of ps).rows) && t) (list_all-append (λ bs. list_any (λ b. satisfied b point) bs) p.either (all_of ps).either)
    ∙ swap_and (all_hold point p.rows) (all_hold point (all_of ps).rows) (each_satisfied p.either point) (each_satisfied (all_of ps).either point)
    ∙ ap (λ (t : Bool). meets_parts point p && t) (all_meet point ps)

false_nowhere : (n : ℕ) (point : List ℤ) → holds point (false_row n) ≡ false
false_nowhere n point = ap (λ (z : ℤ). int_le (pos 1) z) (padded_sum [] [] point n)

branches : (n : ℕ) (point : List ℤ) (ps : List Parts) → list_any (λ b. satisfied b point) (map (query_of n) ps) ≡ list_any (λ p. meets_parts point p) ps
branches n point [] = refl
branches n point (p ∷ ps) = ap (λ (t : Bool). t || list_any (λ b. satisfied b point) (map (query_of n) ps)) (satisfied_is n p point) ∙ ap (λ (t : Bool). meets_parts point p || t) (branches n point ps)

or_false : (t : Bool) → (t || false) ≡ t
or_false true = refl
or_false false = refl

and_true_right : (t : Bool) → (t && true) ≡ t
and_true_right true = refl
and_true_right false = refl

any_meets : (n : ℕ) (point : List ℤ) (parts : List Parts) → meets_parts point (one_of n parts) ≡ list_any (λ p. meets_parts point p) parts
any_meets n point [] = ap (λ (t : Bool). (t && true) && true) (false_nowhere n point)
any_meets n point (p ∷ []) = sym (or_false (meets_parts point p))
any_meets n point (p ∷ q ∷ ps) = and_true_right (list_any (λ b. satisfied b point) (map (query_of n) (p ∷ q ∷ ps))) ∙ branches n point (p ∷ q ∷ ps)

abbrev Same : ℕ → List ℤ → Form → Type 0
Same n point form = meets_parts point (parts_of n form) ≡ meets form point

all_same : (n : ℕ) (point : List ℤ) (forms : List ((f : Form) × Same n point f)) → list_all (λ p. meets_parts point p) (map (parts_of n) (map (λ e. e.0) forms)) ≡ list_all (λ (t : List ℤ → Bool). t point) (map meets (map (λ e. e.0) forms))
all_same n point [] = refl
all_same n point (f ∷ fs) = ap (λ (t : Bool). t && list_all (λ p. meets_parts point p) (map (parts_of n) (map (λ e. e.0) fs))) f.1 ∙ ap (λ (t : Bool). meets f.0 point && t) (all_same n point fs)

any_same : (n : ℕ) (point : List ℤ) (forms : List ((f : Form) × Same n point f)) → list_any (λ p. meets_parts point p) (map (parts_of n) (map (λ e. e.0) forms)) ≡ list_any (λ (t : List ℤ → Bool). t point) (map meets (map (λ e. e.0) forms))
any_same n point [] = refl
any_same n point (f ∷ fs) = ap (λ (t : Bool). t || list_any (λ p. meets_parts point p) (map (parts_of n) (map (λ e. e.0) fs))) f.1 ∙ ap (λ (t : Bool). meets f.0 point || t) (any_same n point fs)

layer_same : (n : ℕ) (point : List ℤ) (y : Form-F ((f : Form) × Same n point f)) → meets_parts point (parts_step n (map-Form Form Parts (parts_of n) (map-Form ((f : Form) × Same n point f) Form (λ e. e.0) y))) ≡ meets_step (map-Form Form (List ℤ → Bool) meets (map-Form ((f : Form) × Same n point f) Form (λ e. e.0) y)) point
layer_same n point (Form-F.AtLeast form) = and_true_right (holds point (row_of n form) && true) ∙ and_true_right (holds point (row_of n form)) ∙ row_holds n form point
layer_same n point (Form-F.All forms) = all_meet point (map (parts_of n) (map (λ e. e.0) forms)) ∙ all_same n point forms
layer_same n point (Form-F.Any forms) = any_meets n point (map (parts_of n) (map (λ e. e.0) forms)) ∙ any_same n point forms

abbrev LayerSame : ℕ → List ℤ → Form-F Form → Type 0
LayerSame n point layer = meets_parts point (parts_step n (map-Form Form Parts (parts_of n) layer)) ≡ meets_step (map-Form Form (List ℤ → Bool) meets layer) point

pub parts_meet : (n : ℕ) (point : List ℤ) (form : Form) → Same n point form
unfolding parts_of meets
parts_meet n point = ind-Form (Same n point) (λ x y is.
    ap (λ (p : Parts). meets_parts point p) (fold-roll-Form Parts (parts_step n) x)
    ∙ subst (LayerSame n point) is (layer_same n point y)
    ∙ sym (ap (λ (f : List ℤ → Bool). f point) (fold-roll-Form (List ℤ → Bool) meets_step x)))

-- a point satisfies the query of a form exactly where it meets the form
pub query_meets : (n : ℕ) (form : Form) (point : List ℤ) → satisfied (query_of n (parts_of n form)) point ≡ meets form point
query_meets n form point = satisfied_is n (parts_of n form) point ∙ parts_meet n point form
