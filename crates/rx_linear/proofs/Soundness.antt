-- What combining and tightening keep.
use Rattle.std.proofs.Common.{◌≡◌, subst, ℕ, ◌<◌, ◌^◌, arith, List, [], ◌∷◌, map, ℤ, pos, ◌*ℤ◌, ◌≤ℤ◌, unsigned_abs, ◌↔◌}
use Rattle.std.proofs.lemmas.Int.{ints}
use Rattle.std.proofs.lemmas.List.Elements.{All-head, All-tail, All-nil, All-cons}
use Rattle.rx_linear.specs.declared.row.Row.{Row}
use Rattle.rx_model.specs.Sums.{product_sum, weighted_sum}
use Rattle.rx_linear.specs.Divisors.{IsCommonDivisor, divided_down, divided_up}
use Rattle.rx_linear.specs.Rows.{Holds, combined, tight, divisor_of, Narrow, Wide, AllBelow, IsMultiplier}
use Rattle.rx_model.proofs.Ring.{times_le}
use Rattle.rx_linear.proofs.Bounds.{weighted_below, product_below}
use Rattle.rx_model.proofs.Sums.{product_sum-weighted}
use Rattle.rx_linear.proofs.Divisors.{divided_up_least, divided_up_enough, product_sum-divided, divisor_divides}

pub combined_holds : (left right : Row) (a b : ℤ) (point : List ℤ) → pos 0 ≤ℤ a → pos 0 ≤ℤ b → Holds left point → Holds right point → Holds (combined left a right b) point
combined_holds left right a b point na nb hl hr =
    let e = product_sum-weighted left.coefficients right.coefficients point a b in
    let tl = times_le a left.least (product_sum left.coefficients point) na hl in
    let tr = times_le b right.least (product_sum right.coefficients point) nb hr in
    omega (arith, ints)

one_below : (l a : ℤ) → unsigned_abs l < 2 ^ 20 → unsigned_abs a < 2 ^ 20 → unsigned_abs (a *ℤ l) < 2 ^ 41
one_below l a hl ha = let h = product_below a l (2 ^ 20) (2 ^ 20) ha hl in omega (arith, h)

scaled_all_below : (rs : List ℤ) (b : ℤ) → AllBelow (2 ^ 20) rs → unsigned_abs b < 2 ^ 20 → AllBelow (2 ^ 41) (map (λ r. b *ℤ r) rs)
scaled_all_below [] b hr hb = All-nil (λ z. unsigned_abs z < 2 ^ 41)
scaled_all_below (r ∷ rs) b hr hb =
    All-cons (λ z. unsigned_abs z < 2 ^ 41) _ _ (one_below r b (All-head (λ z. unsigned_abs z < 2 ^ 20) r rs hr) hb) (scaled_all_below rs b (All-tail (λ z. unsigned_abs z < 2 ^ 20) r rs hr) hb)

weighted_all_below : (ls rs : List ℤ) (a b : ℤ) → AllBelow (2 ^ 20) ls → AllBelow (2 ^ 20) rs → unsigned_abs a < 2 ^ 20 → unsigned_abs b < 2 ^ 20 → AllBelow (2 ^ 41) (weighted_sum ls a rs b)
weighted_all_below [] rs a b hl hr ha hb = scaled_all_below rs b hr hb
weighted_all_below (l ∷ ls) [] a b hl hr ha hb =
    All-cons (λ z. unsigned_abs z < 2 ^ 41) _ _ (one_below l a (All-head (λ z. unsigned_abs z < 2 ^ 20) l ls hl) ha) (weighted_all_below ls [] a b (All-tail (λ z. unsigned_abs z < 2 ^ 20) l ls hl) hr ha hb)
weighted_all_below (l ∷ ls) (r ∷ rs) a b hl hr ha hb =
    All-cons (λ z. unsigned_abs z < 2 ^ 41) _ _
    (let h = weighted_below l a r b (2 ^ 20) (2 ^ 20) (All-head (λ z. unsigned_abs z < 2 ^ 20) l ls hl) (All-head (λ z. unsigned_abs z < 2 ^ 20) r rs hr) ha hb in omega (arith, h))
    (weighted_all_below ls rs a b (All-tail (λ z. unsigned_abs z < 2 ^ 20) l ls hl) (All-tail (λ z. unsigned_abs z < 2 ^ 20) r rs hr) ha hb)

pub combined_wide : (left right : Row) (a b : ℤ) → Narrow left → Narrow right → IsMultiplier a → IsMultiplier b → Wide (combined left a right b)
combined_wide left right a b nl nr ma mb =
    (weighted_all_below left.coefficients right.coefficients a b nl.0 nr.0 ma.1 mb.1, (let h = weighted_below left.least a right.least b (2 ^ 20) (2 ^ 100) nl.1 nr.1 ma.1 mb.1 in omega (arith, h)))

pub tight_holds : (row : Row) (point : List ℤ) → 0 < divisor_of row → IsCommonDivisor row.coefficients (divisor_of row) → Holds row point ↔ Holds (tight row) point
tight_holds row point p v =
    halves (divisor_of row) row.least (product_sum row.coefficients point) (product_sum (map (λ z. divided_down z (divisor_of row)) row.coefficients) point) p (product_sum-divided row.coefficients point (divisor_of row) p v)
  where
    halves : (d : ℕ) (z s t : ℤ) → 0 < d → s ≡ pos d *ℤ t → z ≤ℤ s ↔ divided_up z d ≤ℤ t
    halves d z s t p e = (
      (λ h. divided_up_least z t d p (let P : ℤ → Type 0 = λ y. z ≤ℤ y in subst P e h)),
      (λ h.
          let up = divided_up_enough z d p in
          let grow = times_le (pos d) (divided_up z d) t (let n : pos 0 ≤ℤ pos d = omega (arith, ints) in n) h in
          omega (arith, ints, e, up, grow)),
    )

-- for every row, since its divisor divides each coefficient
pub tight_holds_always : (row : Row) (point : List ℤ) → Holds row point ↔ Holds (tight row) point
tight_holds_always row point = tight_holds row point (omega arith) (divisor_divides row.coefficients)
