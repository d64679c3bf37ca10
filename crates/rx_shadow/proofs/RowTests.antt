-- Tests of rows, and the facts that they tell.
use Rattle.std.proofs.Common.{◌≡◌, refl, sym, ap, ◌∙◌, ℕ, suc, length, Result, Ok, Err, ◌<◌, ◌^◌, arith, List, [], ◌∷◌, Bool, true, ◌||◌, nat_lt, ℤ, pos, ◌≤ℤ◌, int_le, unsigned_abs}
use Rattle.std.specs.List.{list_any}
use Rattle.std.proofs.lemmas.Bool.Decides.{nat_tests}
use Rattle.std.proofs.lemmas.Int.{ints}
use Rattle.std.proofs.lemmas.List.Elements.{All-head, All-tail, All-nil, All-cons}
use Rattle.rx_linear.specs.declared.row.Row.{Row}
use Rattle.std.specs.Result.{OnOk}
use Rattle.rx_model.specs.Sums.{weighted_sum}
use Rattle.rx_linear.specs.Rows.{combined, AllBelow, Narrow, IsMultiplier, all_below, is_narrow, is_multiplier}
use Rattle.rx_linear.proofs.Joining.{both, and_true}
use Rattle.rx_shadow.specs.declared.known.Known.{Known}
use Rattle.rx_shadow.specs.Known.{rows_of}

pub any_rows : (p : Row → Bool) (known : List Known) → list_any p (rows_of known) ≡ list_any (λ k. p k.row) known
any_rows p [] = refl
any_rows p (k ∷ known) = ap (λ (b : Bool). p k.row || b) (any_rows p known)

below_test : (n m : ℕ) → n < m → nat_lt n m ≡ true
below_test n m h = grind (arith, nat_tests, h)

pub all_below_test : (limit : ℕ) (zs : List ℤ) → AllBelow limit zs → all_below limit zs ≡ true
all_below_test limit [] h = refl
all_below_test limit (z ∷ zs) h =
    and_true (below_test (unsigned_abs z) limit (All-head (λ y. unsigned_abs y < limit) z zs h)) (all_below_test limit zs (All-tail (λ y. unsigned_abs y < limit) z zs h))

pub below_from_test : (limit : ℕ) (zs : List ℤ) → all_below limit zs ≡ true → AllBelow limit zs
below_from_test limit [] h = All-nil (λ y. unsigned_abs y < limit)
below_from_test limit (z ∷ zs) h =
    let parts = both {a = nat_lt (unsigned_abs z) limit} {b = all_below limit zs} h in
    All-cons (λ y. unsigned_abs y < limit) z zs (let l : unsigned_abs z < limit = grind (arith, nat_tests, parts.0) in l) (below_from_test limit zs parts.1)

pub narrow_test : (row : Row) → Narrow row → is_narrow row ≡ true
narrow_test row h = and_true (all_below_test (2 ^ 20) row.coefficients h.0) (below_test (unsigned_abs row.least) (2 ^ 100) h.1)

pub narrow_from_test : (row : Row) → is_narrow row ≡ true → Narrow row
narrow_from_test row h =
    let parts = both {a = all_below (2 ^ 20) row.coefficients} {b = nat_lt (unsigned_abs row.least) (2 ^ 100)} h in
    (below_from_test (2 ^ 20) row.coefficients parts.0, below_from (unsigned_abs row.least) (2 ^ 100) parts.1)
  where
    below_from : (n m : ℕ) → nat_lt n m ≡ true → n < m
    below_from n m e = grind (arith, nat_tests, e)

le_test : (a b : ℤ) → a ≤ℤ b → int_le a b ≡ true
le_test a b h = grind (arith, ints, h)

pub multiplier_test : (k : ℤ) → IsMultiplier k → is_multiplier k ≡ true
multiplier_test k h = and_true (le_test (pos 0) k h.0) (below_test (unsigned_abs k) (2 ^ 20) h.1)

pub length-weighted_sum : (ls rs : List ℤ) (a b : ℤ) → length ls ≡ length rs → length (weighted_sum ls a rs b) ≡ length ls
length-weighted_sum [] [] a b e = refl
length-weighted_sum [] (r ∷ rs) a b e = absurd (omega arith)
length-weighted_sum (l ∷ ls) [] a b e = absurd (omega arith)
length-weighted_sum (l ∷ ls) (r ∷ rs) a b e = ap suc (length-weighted_sum ls rs a b (let s : length ls ≡ length rs = omega arith in s))

pub combined_length : (left right : Row) (a b : ℤ) (n : ℕ) → length left.coefficients ≡ n → length right.coefficients ≡ n → length (combined left a right b).coefficients ≡ n
combined_length left right a b n el er = length-weighted_sum left.coefficients right.coefficients a b (el ∙ sym er) ∙ el

pub on_ok : {T E : Type 0} (r : Result T E) (P Q : Type 0) → (P → Q) → OnOk r P → OnOk r Q
on_ok (Ok x) P Q f h = f h
on_ok (Err e) P Q f h = tt
