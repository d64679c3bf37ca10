-- Stacks of rows: what a new row leaves.
use Rattle.std.proofs.Common.{◌≡◌, refl, sym, ap, ◌∙◌, subst, ℕ, zero, suc, ◌+◌, ◌*◌, ◌<◌, ◌≤◌, ◌^◌, arith, List, [], ◌∷◌, ◌++◌, take, drop, length, get_or, ℤ, pos, neg_ℤ, unsigned_abs, Bool, true, false, cond, ◌&&◌, ◌||◌, nat_lt, int_le, Option, Some, None, inl, inr, replicate, length-append}
use Rattle.std.specs.Prelude.{slice_get}
use Rattle.std.specs.List.{All, list_any}
use Rattle.std.specs.Int.{int_div_euclid}
use Rattle.std.proofs.lemmas.Int.{ints}
use Rattle.std.proofs.lemmas.Bool.{ltb-true, cases_lt}
use Rattle.std.proofs.lemmas.Option.{slice_get_past, slice_get-get_or}
use Rattle.std.proofs.lemmas.List.Elements.{All-take, All-push, All-get_or, All-head, All-tail, All-nil, All-replicate, All-cons, All-map, All-weaker}
use Rattle.rx_linear.specs.declared.row.Row.{Row}
use Rattle.rx_linear.specs.Rows.{Wide, Narrow, AllBelow, IsMultiplier, is_narrow, is_multiplier, all_below, combined, tight, divisor_of}
use Rattle.rx_linear.specs.Divisors.{divided_up, divided_down}
use Rattle.rx_linear.specs.Joining.{joined_one, is_true, same_row}
use Rattle.rx_linear.specs.Units.{unit, unit_row}
use Rattle.std.specs.Option.{option_and_then}
use Rattle.std.proofs.lemmas.List.{take-append-le}
use Rattle.rx_linear.specs.declared.step.Step.{Step}
use Rattle.rx_linear.specs.Steps.{step_gives, rows_after, combine_found, combined_if, tighten_found}
use Rattle.rx_linear.specs.Cells.{row_of, rows_of, Stacked, stacked, IsStack, Pushes, can_combine, is_narrow_row}
use Rattle.rx_linear.proofs.Divisors.{div_small}
use Rattle.rx_linear.proofs.Joining.{both, and_true}
use Rattle.rx_linear.proofs.Stacks.{length-rows_of, rows_of-front, row_found, place_below}
use Rattle.std.proofs.Math.Nat.{mul-le-mul_right}

-- ---- what is seen of a stack

pub count_is : (n k limit : ℕ) (cells : List ℤ) (s : Stacked) → stacked n k limit cells ≡ s → k ≡ length s.rows
count_is n k limit cells s e = sym (length-rows_of n k cells) ∙ ap (λ (x : Stacked). length x.rows) e

pub count_below : (n k limit : ℕ) (cells : List ℤ) (s : Stacked) → stacked n k limit cells ≡ s → length s.rows < s.limit → k < limit
count_below n k limit cells s e h =
    let c = count_is n k limit cells s e in
    let l = ap (λ (x : Stacked). x.limit) e in
    omega (arith, c, l)

abbrev stack_of : ℕ → List Row → ℕ → Stacked
stack_of n rows limit = record { variables = n; rows = rows; limit = limit }

pub with_rows : (n limit : ℕ) (rows news final : List Row) (s : Stacked) → stack_of n rows limit ≡ s → news ≡ final → stack_of n news limit ≡ stack_of s.variables final s.limit
with_rows n limit rows news final s e f =
    ap (λ (x : Stacked). stack_of x.variables news x.limit) e ∙ ap (λ (rs : List Row). stack_of s.variables rs s.limit) f

-- ---- room

pub room_for : (n k limit : ℕ) (cells : List ℤ) → IsStack n k limit cells → k < limit → k * (n + 1) + n < length cells
room_for n k limit cells is h = let p = place_below k limit (n + 1) h in omega (arith, is.size, p)

pub room_of_row : (n k limit i : ℕ) (cells : List ℤ) → IsStack n k limit cells → i < k → i * (n + 1) + n < length cells
room_of_row n k limit i cells is h = let l : i < limit = omega (arith, is.within) in let p = place_below i limit (n + 1) l in omega (arith, is.size, p)

pub room_of_all : (n k limit : ℕ) (cells : List ℤ) → IsStack n k limit cells → k * (n + 1) ≤ length cells
room_of_all n k limit cells is = omega (arith, is.size, mul-le-mul_right (n + 1) is.within)

-- ---- limits

div_below : (z : ℤ) (d m : ℕ) → unsigned_abs z < m → unsigned_abs (divided_down z d) < m
div_below z d m h = omega (arith, div_small z d)

neg_same : (z : ℤ) → unsigned_abs (neg_ℤ z) ≡ unsigned_abs z
neg_same z = omega (arith, ints)

up_below : (z : ℤ) (d m : ℕ) → unsigned_abs z < m → unsigned_abs (divided_up z d) < m
up_below z d m h = omega (arith, neg_same (int_div_euclid (neg_ℤ z) (pos d)), div_small (neg_ℤ z) d, neg_same z)

pub tight_wide : (row : Row) → Wide row → Wide (tight row)
tight_wide row w = (
  All-map (λ z. unsigned_abs z < 2 ^ 41) (λ c. divided_down c (divisor_of row)) row.coefficients (All-weaker (λ z. unsigned_abs z < 2 ^ 41) (λ z. unsigned_abs (divided_down z (divisor_of row)) < 2 ^ 41) (λ z h. div_below z (divisor_of row) (2 ^ 41) h) row.coefficients w.0),
  up_below row.least (divisor_of row) (2 ^ 121) w.1,
)

pub narrow_wide : (row : Row) → Narrow row → Wide row
narrow_wide row n = (All-weaker (λ z. unsigned_abs z < 2 ^ 20) (λ z. unsigned_abs z < 2 ^ 41) (λ z h. omega (arith, h)) row.coefficients n.0, omega (arith, n.1))

pub joined_one_wide : (rows : List Row) (row : Row) → All Wide rows → Wide row → All Wide (joined_one rows row)
joined_one_wide rows row hs h = by_test (is_true row || list_any (same_row row) rows)
  where
    by_test : (b : Bool) → All Wide (cond b rows (rows ++ row ∷ []))
    by_test true = hs
    by_test false = All-push Wide rows row hs h

all_below_from_test : (limit : ℕ) (zs : List ℤ) → all_below limit zs ≡ true → AllBelow limit zs
all_below_from_test limit [] h = All-nil (λ z. unsigned_abs z < limit)
all_below_from_test limit (z ∷ zs) h =
    let parts = both {a = nat_lt (unsigned_abs z) limit} {b = all_below limit zs} h in
    All-cons (λ z. unsigned_abs z < limit) z zs (ltb-true (unsigned_abs z) limit parts.0) (all_below_from_test limit zs parts.1)

pub narrow_from_test : (row : Row) → is_narrow row ≡ true → Narrow row
narrow_from_test row h =
    let parts = both {a = all_below (2 ^ 20) row.coefficients} {b = nat_lt (unsigned_abs row.least) (2 ^ 100)} h in
    (all_below_from_test (2 ^ 20) row.coefficients parts.0, ltb-true (unsigned_abs row.least) (2 ^ 100) parts.1)

pub multiplier_from_test : (k : ℤ) → is_multiplier k ≡ true → IsMultiplier k
multiplier_from_test k h =
    let parts = both {a = int_le (pos 0) k} {b = nat_lt (unsigned_abs k) (2 ^ 20)} h in
    (omega (arith, ints, parts.0), ltb-true (unsigned_abs k) (2 ^ 20) parts.1)

pub wide_row : (n k i : ℕ) (cells : List ℤ) → All Wide (rows_of n k cells) → i < k → Wide (row_of n (drop (i * (n + 1)) cells))
wide_row n k i cells w h =
    let found = row_found n k i cells h in
    let within : i < length (rows_of n k cells) = omega (arith, length-rows_of n k cells) in
    let at = slice_get-get_or (rows_of n k cells) i (row_of n cells) within in
    let same : get_or (rows_of n k cells) i (row_of n cells) ≡ row_of n (drop (i * (n + 1)) cells) = cc in
    subst (λ (r : Row). Wide r) same (All-get_or Wide (rows_of n k cells) i (row_of n cells) within w)

-- ---- stacks that stay stacks

pub cut_stack : (n k limit j : ℕ) (cells : List ℤ) → IsStack n k limit cells → j ≤ k → IsStack n j limit cells
cut_stack n k limit j cells is h =
    record {
      few = is.few;
      within = omega (arith, is.within);
      size = is.size;
      wide = subst (λ (rs : List Row). All Wide rs) (rows_of-front n j k cells h) (All-take Wide j (rows_of n k cells) is.wide);
    }

pub kept_stack : (n k limit j : ℕ) (cells others : List ℤ) → IsStack n k limit cells → length others ≡ length cells → j ≤ limit → All Wide (rows_of n j others) → IsStack n j limit others
kept_stack n k limit j cells others is same h w = record { few = is.few; within = h; size = same ∙ is.size; wide = w }

-- a row is joined on top
pub joined_stack : (n k limit j : ℕ) (cells others : List ℤ) (row : Row) → IsStack n k limit cells → length others ≡ length cells → k < limit → j ≤ k + 1 → Wide row → rows_of n j others ≡ joined_one (rows_of n k cells) (tight row) → IsStack n j limit others
joined_stack n k limit j cells others row is same h l w e =
    kept_stack n k limit j cells others is same (omega arith) (subst (λ (rs : List Row). All Wide rs) (sym e) (joined_one_wide (rows_of n k cells) (tight row) is.wide (tight_wide row w)))

-- a row is put on top
pub pushed_stack : (n k limit : ℕ) (cells others : List ℤ) (row : Row) → IsStack n k limit cells → length others ≡ length cells → k < limit → Wide row → rows_of n (k + 1) others ≡ rows_of n k cells ++ row ∷ [] → IsStack n (k + 1) limit others
pushed_stack n k limit cells others row is same h w e =
    kept_stack n k limit (k + 1) cells others is same (omega arith) (subst (λ (rs : List Row). All Wide rs) (sym e) (All-push Wide (rows_of n k cells) row is.wide w))

-- ---- steps

-- what two rows that can be combined meet
pub record Combines (n k : ℕ) (cells : List ℤ) (left : ℕ) (a : ℤ) (right : ℕ) (b : ℤ) : Type 0 where
  pub left_there : left < k
  pub right_there : right < k
  pub left_narrow : Narrow (row_of n (drop (left * (n + 1)) cells))
  pub right_narrow : Narrow (row_of n (drop (right * (n + 1)) cells))
  pub left_multiplier : IsMultiplier a
  pub right_multiplier : IsMultiplier b

pub combines_from_test : (n k : ℕ) (cells : List ℤ) (left : ℕ) (a : ℤ) (right : ℕ) (b : ℤ) → can_combine n k cells left a right b ≡ true → Combines n k cells left a right b
combines_from_test n k cells left a right b h =
    let third = both {a = is_multiplier a && is_multiplier b && is_narrow_row n k cells left} {b = is_narrow_row n k cells right} h in
    let second = both {a = is_multiplier a && is_multiplier b} {b = is_narrow_row n k cells left} third.0 in
    let first = both {a = is_multiplier a} {b = is_multiplier b} second.0 in
    let l = both {a = nat_lt left k} {b = is_narrow (row_of n (drop (left * (n + 1)) cells))} second.1 in
    let r = both {a = nat_lt right k} {b = is_narrow (row_of n (drop (right * (n + 1)) cells))} third.1 in
    record {
      left_there = ltb-true left k l.0;
      right_there = ltb-true right k r.0;
      left_narrow = narrow_from_test (row_of n (drop (left * (n + 1)) cells)) l.1;
      right_narrow = narrow_from_test (row_of n (drop (right * (n + 1)) cells)) r.1;
      left_multiplier = multiplier_from_test a first.0;
      right_multiplier = multiplier_from_test b first.1;
    }

-- where both rows are there, the code's test is the definition's
same_test : (n k : ℕ) (cells : List ℤ) (left : ℕ) (a : ℤ) (right : ℕ) (b : ℤ) → left < k → right < k
    → can_combine n k cells left a right b ≡ (is_narrow (row_of n (drop (left * (n + 1)) cells)) && is_narrow (row_of n (drop (right * (n + 1)) cells)) && is_multiplier a && is_multiplier b)
same_test n k cells left a right b hl hr =
    turned (is_multiplier a) (is_multiplier b) (nat_lt left k) (nat_lt right k) _ _ (grind (arith, hl)) (grind (arith, hr))
  where
    turned : (p q s t x y : Bool) → s ≡ true → t ≡ true → (p && q && (s && x) && (t && y)) ≡ (x && y && p && q)
    turned p q s t x y e f = ap (λ (z : Bool). p && q && (z && x) && (t && y)) e ∙ ap (λ (z : Bool). p && q && x && (z && y)) f ∙ moved p q x y
      where
        moved : (p q x y : Bool) → (p && q && x && y) ≡ (x && y && p && q)
        moved true true true true = refl
        moved true true true false = refl
        moved true true false y = refl
        moved true false true true = refl
        moved true false true false = refl
        moved true false false y = refl
        moved false q true true = refl
        moved false q true false = refl
        moved false q false y = refl

combined_test : (t : Bool) (l r : Row) (a b : ℤ) → t ≡ true → combined_if t l a r b ≡ Some (combined l a r b)
combined_test true l r a b e = refl
combined_test false l r a b e = absurd (cc)

refused_test : (t : Bool) (l r : Row) (a b : ℤ) → t ≡ false → combined_if t l a r b ≡ None
refused_test false l r a b e = refl
refused_test true l r a b e = absurd (cc)

found_both : (rows : List Row) (left : ℕ) (a : ℤ) (right : ℕ) (b : ℤ) (l r : Row) → slice_get rows left ≡ Some l → slice_get rows right ≡ Some r
    → combine_found (slice_get rows left) a (slice_get rows right) b ≡ combined_if (is_narrow l && is_narrow r && is_multiplier a && is_multiplier b) l a r b
found_both rows left a right b l r el er = ap (λ (o : Option Row). combine_found o a (slice_get rows right) b) el ∙ ap (λ (o : Option Row). combine_found (Some l) a o b) er

pub combine_taken : (n k : ℕ) (cells : List ℤ) (left : ℕ) (a : ℤ) (right : ℕ) (b : ℤ) → can_combine n k cells left a right b ≡ true
    → combine_found (slice_get (rows_of n k cells) left) a (slice_get (rows_of n k cells) right) b ≡ Some (combined (row_of n (drop (left * (n + 1)) cells)) a (row_of n (drop (right * (n + 1)) cells)) b)
combine_taken n k cells left a right b h =
    let m = combines_from_test n k cells left a right b h in
    found_both (rows_of n k cells) left a right b _ _ (row_found n k left cells m.left_there) (row_found n k right cells m.right_there)
    ∙ combined_test _ (row_of n (drop (left * (n + 1)) cells)) (row_of n (drop (right * (n + 1)) cells)) a b (sym (same_test n k cells left a right b m.left_there m.right_there) ∙ h)

none_left : (rows : List Row) (left : ℕ) (a : ℤ) (right : ℕ) (b : ℤ) → length rows ≤ left → combine_found (slice_get rows left) a (slice_get rows right) b ≡ None
none_left rows left a right b h = ap (λ (o : Option Row). combine_found o a (slice_get rows right) b) (slice_get_past rows left h)

none_right : (rows : List Row) (left : ℕ) (a : ℤ) (right : ℕ) (b : ℤ) → length rows ≤ right → combine_found (slice_get rows left) a (slice_get rows right) b ≡ None
none_right rows left a right b h = ap (λ (o : Option Row). combine_found (slice_get rows left) a o b) (slice_get_past rows right h) ∙ either (slice_get rows left)
  where
    either : (o : Option Row) → combine_found o a None b ≡ None
    either None = refl
    either (Some l) = refl

pub combine_refused : (n k : ℕ) (cells : List ℤ) (left : ℕ) (a : ℤ) (right : ℕ) (b : ℤ) → can_combine n k cells left a right b ≡ false
    → combine_found (slice_get (rows_of n k cells) left) a (slice_get (rows_of n k cells) right) b ≡ None
combine_refused n k cells left a right b h =
    elim (cases_lt left k) [
      | inr past ↦ none_left (rows_of n k cells) left a right b (omega (arith, past, length-rows_of n k cells))
      | inl hl ↦ elim (cases_lt right k) [
        | inr past ↦ none_right (rows_of n k cells) left a right b (omega (arith, past, length-rows_of n k cells))
        | inl hr ↦
            found_both (rows_of n k cells) left a right b _ _ (row_found n k left cells hl) (row_found n k right cells hr)
            ∙ refused_test _ (row_of n (drop (left * (n + 1)) cells)) (row_of n (drop (right * (n + 1)) cells)) a b (sym (same_test n k cells left a right b hl hr) ∙ h)
      ]
    ]

pub tighten_taken : (n k i : ℕ) (cells : List ℤ) → i < k → tighten_found (slice_get (rows_of n k cells) i) ≡ Some (tight (row_of n (drop (i * (n + 1)) cells)))
tighten_taken n k i cells h = ap tighten_found (row_found n k i cells h)

pub tighten_refused : (n k i : ℕ) (cells : List ℤ) → k ≤ i → tighten_found (slice_get (rows_of n k cells) i) ≡ None
tighten_refused n k i cells h = ap tighten_found (slice_get_past (rows_of n k cells) i (omega (arith, h, length-rows_of n k cells)))

pub pushes_none : (old : List Row) (given : Option Row) → given ≡ None → Pushes old given false old
pushes_none old given e = subst (λ (o : Option Row). Pushes old o false old) (sym e) (refl, refl)

pub pushes_some : (old new : List Row) (given : Option Row) (row : Row) → given ≡ Some row → new ≡ old ++ row ∷ [] → Pushes old given true new
pushes_some old new given row e f = subst (λ (o : Option Row). Pushes old o true new) (sym e) (refl, f)

zeros_below : (n : ℕ) (m : ℕ) → 0 < m → All (λ z. unsigned_abs z < m) (replicate n (pos 0))
zeros_below n m h = All-replicate (λ z. unsigned_abs z < m) n (pos 0) h

unit_below : (n x : ℕ) (a : ℤ) → unsigned_abs a < 2 ^ 20 → AllBelow (2 ^ 20) (unit n x a)
unit_below zero x a h = All-nil (λ z. unsigned_abs z < 2 ^ 20)
unit_below (suc n) zero a h = All-cons (λ z. unsigned_abs z < 2 ^ 20) a (replicate n (pos 0)) h (zeros_below n (2 ^ 20) (omega arith))
unit_below (suc n) (suc x) a h = All-cons (λ z. unsigned_abs z < 2 ^ 20) (pos 0) (unit n x a) (omega arith) (unit_below n x a h)

pub unit_narrow : (n x : ℕ) (a c : ℤ) → unsigned_abs a < 2 ^ 20 → unsigned_abs c < 2 ^ 100 → Narrow (unit_row n x a c)
unit_narrow n x a c ha hc = (unit_below n x a ha, hc)

pub unit_wide : (n x : ℕ) (a c : ℤ) → unsigned_abs a < 2 ^ 20 → unsigned_abs c < 2 ^ 100 → Wide (unit_row n x a c)
unit_wide n x a c ha hc = narrow_wide (unit_row n x a c) (unit_narrow n x a c ha hc)

-- one step of many, taken
pub taken_step : (old new : List Row) (steps : List Step) (i : ℕ) (step : Step) (taken : Bool) → drop i steps ≡ step ∷ drop (i + 1) steps → Pushes old (step_gives old step) taken new → taken ≡ true
    → (rows_after old (drop i steps) ≡ rows_after new (drop (i + 1) steps)) × (length new ≡ length old + 1) × ((n : ℕ) → n ≤ length old → take n new ≡ take n old)
taken_step old new steps i step taken e p t = by_given (step_gives old step) refl p
  where
    by_given : (o : Option Row) → step_gives old step ≡ o → Pushes old o taken new → (rows_after old (drop i steps) ≡ rows_after new (drop (i + 1) steps)) × (length new ≡ length old + 1) × ((n : ℕ) → n ≤ length old → take n new ≡ take n old)
    by_given None f q = let g = q.0 in absurd (cc)
    by_given (Some row) f q = (
      ap (rows_after old) e ∙ ap (option_and_then (λ x. rows_after (old ++ x ∷ []) (drop (i + 1) steps))) f ∙ ap (λ (rows : List Row). rows_after rows (drop (i + 1) steps)) (sym q.1),
      ap length q.1 ∙ (let l = length-append old (row ∷ []) in omega (arith, l)),
      (λ n h. ap (take n) q.1 ∙ take-append-le n old (row ∷ []) h),
    )

pub test_from_all_below : (limit : ℕ) (zs : List ℤ) → AllBelow limit zs → all_below limit zs ≡ true
test_from_all_below limit [] h = refl
test_from_all_below limit (z ∷ zs) h =
    let here : unsigned_abs z < limit = All-head (λ x. unsigned_abs x < limit) z zs h in
    and_true {a = nat_lt (unsigned_abs z) limit} {b = all_below limit zs} (grind (arith, here)) (test_from_all_below limit zs (All-tail (λ x. unsigned_abs x < limit) z zs h))
