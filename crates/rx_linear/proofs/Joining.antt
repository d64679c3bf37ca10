-- What joining keeps.
use Rattle.std.proofs.Common.{◌≡◌, refl, ap, ◌∙◌, List, [], ◌∷◌, ◌++◌, Bool, true, false, cond, ◌&&◌, ◌||◌, ℤ, pos, ◌*ℤ◌, ◌+ℤ◌, arith}
use Rattle.std.specs.List.{list_all, list_any}
use Rattle.std.proofs.lemmas.List.Folds.{list_all-append}
use Rattle.std.proofs.lemmas.Int.{ints}
use Rattle.std.specs.Ordering.{int_eq}
use Rattle.std.proofs.Math.IntN.{zero-*ℤ}
use Rattle.std.proofs.lemmas.Bool.Decides.{Decides-int_eq}
use Rattle.rx_linear.specs.declared.row.Row.{Row}
use Rattle.rx_model.specs.Sums.{product_sum}
use Rattle.rx_linear.specs.Rows.{Holds, tight}
use Rattle.rx_linear.specs.Joining.{holds, all_hold, is_true, is_false, same_row, joined_one, joined}
use Rattle.rx_linear.proofs.Soundness.{tight_holds_always}

pub both : {a b : Bool} → (a && b) ≡ true → (a ≡ true) × (b ≡ true)
both {a = true} {b = b} e = (refl, e)
both {a = false} {b = b} e = absurd (cc)

pub and_true : {a b : Bool} → a ≡ true → b ≡ true → (a && b) ≡ true
and_true {a = true} {b = b} p q = q
and_true {a = false} {b = b} p q = p

pub Holds-from_test : (point : List ℤ) (row : Row) → holds point row ≡ true → Holds row point
Holds-from_test point row e = omega (arith, ints, e)

pub test-from_Holds : (point : List ℤ) (row : Row) → Holds row point → holds point row ≡ true
test-from_Holds point row h = grind (arith, ints, h)

joined_one_holds : (point : List ℤ) (rows : List Row) (row : Row) → all_hold point rows ≡ true → holds point row ≡ true → all_hold point (joined_one rows row) ≡ true
joined_one_holds point rows row hr h = by_test (is_true row || list_any (same_row row) rows)
  where
    by_test : (b : Bool) → all_hold point (cond b rows (rows ++ row ∷ [])) ≡ true
    by_test true = hr
    by_test false = list_all-append (holds point) rows (row ∷ []) ∙ and_true hr (and_true h refl)

-- a point of the rows and of the new rows is a point of the joined rows
pub joined_holds : (point : List ℤ) (rows more : List Row) → all_hold point rows ≡ true → all_hold point more ≡ true → all_hold point (joined rows more) ≡ true
joined_holds point rows [] hr hm = hr
joined_holds point rows (row ∷ more) hr hm =
    let parts = both hm in
    let t : holds point (tight row) ≡ true = test-from_Holds point (tight row) ((tight_holds_always row point).0 (Holds-from_test point row parts.0)) in
    joined_holds point (joined_one rows (tight row)) more (joined_one_holds point rows (tight row) hr t) parts.1

same_int : (x y : ℤ) → int_eq x y ≡ true → x ≡ y
same_int x y e = (Decides-int_eq x y).0 e

pub zero_products : (cs xs : List ℤ) → list_all (λ c. int_eq c (pos 0)) cs ≡ true → product_sum cs xs ≡ pos 0
zero_products [] xs h = refl
zero_products (c ∷ cs) [] h = refl
zero_products (c ∷ cs) (x ∷ xs) h =
    let parts = both h in
    let z : c ≡ pos 0 = same_int c (pos 0) parts.0 in
    zero_step c x _ z (zero_products cs xs parts.1)
  where
    zero_step : (c x s : ℤ) → c ≡ pos 0 → s ≡ pos 0 → c *ℤ x +ℤ s ≡ pos 0
    zero_step c x s e f = ap (λ (y : ℤ). y *ℤ x +ℤ s) e ∙ ap (λ (y : ℤ). y +ℤ s) (zero-*ℤ x) ∙ ap (λ (y : ℤ). pos 0 +ℤ y) f

-- a false row without variables holds nowhere
pub false_nowhere : (point : List ℤ) (row : Row) → is_false row ≡ true → holds point row ≡ true → ⊥
false_nowhere point row f h =
    let parts = both f in
    let z = zero_products row.coefficients point parts.0 in
    omega (arith, ints, z, parts.1, Holds-from_test point row h)

-- a row of a list that holds
pub hold-any : (point : List ℤ) (rows : List Row) → all_hold point rows ≡ true → list_any is_false rows ≡ true → ⊥
hold-any point [] h a = cc
hold-any point (row ∷ rows) h a = by_test (is_false row) refl (both h) a (λ b. hold-any point rows (both h).1 b)
  where
    by_test : (b : Bool) → is_false row ≡ b → (holds point row ≡ true) × (all_hold point rows ≡ true) → (b || list_any is_false rows) ≡ true → (list_any is_false rows ≡ true → ⊥) → ⊥
    by_test true e parts a rest = false_nowhere point row e parts.0
    by_test false e parts a rest = rest a
