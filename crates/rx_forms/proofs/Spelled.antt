-- A comparison with a spelled truth value has what its other side has.
use Rattle.std.proofs.Common.{◌≡◌, ap, ◌∙◌, ℕ, ◌+◌, arith, List, [], Bool, not, ◌&&◌, nat_le, Some, None, append-nil}
use Rattle.rx_types.specs.declared.expr.Operator.TheVariants as op
use Rattle.rx_types.specs.Tree.{Tree, Truth, Binary}
use Rattle.rx_forms.specs.Normal.{Formed, linear, divisions_in, condition, agree, compared, comparison, truth_in}
use Rattle.rx_forms.specs.Divisions.{divisions}
use Rattle.rx_forms.specs.Limits.{of_sides, met, met_in_both, all_kept, is_within}

pub nothing_more : (n d : ℕ) → n + (0 + d) ≡ n + d
nothing_more n d = omega arith

pub nothing_behind : (n d : ℕ) → n + (d + 0) ≡ n + d
nothing_behind n d = omega arith

pub from_here : (n : ℕ) → n + 0 ≡ n
from_here n = omega arith

module _ (limit : ℕ → ℕ) (fields : List Formed) (n : ℕ) (t : Bool) where
  -- ---- on the left

  pub right_equal : (w : Bool) (b : Tree) → condition fields n w (Binary op.Equal (Truth t) b) ≡ condition fields n (agree w t) b
  right_equal w b = ap (λ (k : ℕ). condition fields k (agree w t) b) (from_here n)

  pub right_not_equal : (w : Bool) (b : Tree) → condition fields n w (Binary op.NotEqual (Truth t) b) ≡ condition fields n (agree (not w) t) b
  right_not_equal w b = ap (λ (k : ℕ). condition fields k (agree (not w) t) b) (from_here n)

  pub right_rows_equal : (b : Tree) → divisions limit fields n (Binary op.Equal (Truth t) b) ≡ divisions limit fields n b
  right_rows_equal b = ap (λ (k : ℕ). divisions limit fields k b) (from_here n)

  pub right_rows_not_equal : (b : Tree) → divisions limit fields n (Binary op.NotEqual (Truth t) b) ≡ divisions limit fields n b
  right_rows_not_equal b = ap (λ (k : ℕ). divisions limit fields k b) (from_here n)

  pub right_within_equal : (b : Tree) → is_within fields n (Binary op.Equal (Truth t) b) ≡ is_within fields n b
  right_within_equal b = ap (λ (k : ℕ). nat_le k 190 && all_kept (met fields (n + 0) b)) (nothing_more n (divisions_in b)) ∙ ap (λ (k : ℕ). nat_le (n + divisions_in b) 190 && all_kept (met fields k b)) (from_here n)

  pub right_within_not_equal : (b : Tree) → is_within fields n (Binary op.NotEqual (Truth t) b) ≡ is_within fields n b
  right_within_not_equal b = ap (λ (k : ℕ). nat_le k 190 && all_kept (met fields (n + 0) b)) (nothing_more n (divisions_in b)) ∙ ap (λ (k : ℕ). nat_le (n + divisions_in b) 190 && all_kept (met fields k b)) (from_here n)

  -- ---- on the right, where the left is not spelled

  pub left_equal : (w : Bool) (a : Tree) → truth_in a ≡ None → condition fields n w (Binary op.Equal a (Truth t)) ≡ condition fields n (agree w t) a
  left_equal w a e = ap (λ r. compared r (Some t) (λ u. condition fields n (agree w u) a) (λ u. condition fields (n + divisions_in a) (agree w u) (Truth t)) (comparison op.Equal w (linear fields n a) (linear fields (n + divisions_in a) (Truth t)))) e

  pub left_not_equal : (w : Bool) (a : Tree) → truth_in a ≡ None → condition fields n w (Binary op.NotEqual a (Truth t)) ≡ condition fields n (agree (not w) t) a
  left_not_equal w a e = ap (λ r. compared r (Some t) (λ u. condition fields n (agree (not w) u) a) (λ u. condition fields (n + divisions_in a) (agree (not w) u) (Truth t)) (comparison op.NotEqual w (linear fields n a) (linear fields (n + divisions_in a) (Truth t)))) e

  pub left_rows_equal : (a : Tree) → divisions limit fields n (Binary op.Equal a (Truth t)) ≡ divisions limit fields n a
  left_rows_equal a = append-nil (divisions limit fields n a)

  pub left_rows_not_equal : (a : Tree) → divisions limit fields n (Binary op.NotEqual a (Truth t)) ≡ divisions limit fields n a
  left_rows_not_equal a = append-nil (divisions limit fields n a)

  pub left_within_equal : (a : Tree) → truth_in a ≡ None → is_within fields n (Binary op.Equal a (Truth t)) ≡ is_within fields n a
  left_within_equal a e =
      ap (λ (k : ℕ). nat_le k 190 && all_kept (met fields n (Binary op.Equal a (Truth t)))) (nothing_behind n (divisions_in a))
      ∙ ap (λ r. nat_le (n + divisions_in a) 190 && all_kept (of_sides r (Some t) (met fields n a) [] (met_in_both fields n a (Truth t) (met fields n a) []))) e

  pub left_within_not_equal : (a : Tree) → truth_in a ≡ None → is_within fields n (Binary op.NotEqual a (Truth t)) ≡ is_within fields n a
  left_within_not_equal a e =
      ap (λ (k : ℕ). nat_le k 190 && all_kept (met fields n (Binary op.NotEqual a (Truth t)))) (nothing_behind n (divisions_in a))
      ∙ ap (λ r. nat_le (n + divisions_in a) 190 && all_kept (of_sides r (Some t) (met fields n a) [] (met_in_both fields n a (Truth t) (met fields n a) []))) e

  -- ---- where neither is spelled

  pub numbers_equal : (w : Bool) (a b : Tree) → truth_in a ≡ None → truth_in b ≡ None → condition fields n w (Binary op.Equal a b) ≡ comparison op.Equal w (linear fields n a) (linear fields (n + divisions_in a) b)
  numbers_equal w a b e f =
      ap (λ r. compared r (truth_in b) (λ u. condition fields n (agree w u) a) (λ u. condition fields (n + divisions_in a) (agree w u) b) (comparison op.Equal w (linear fields n a) (linear fields (n + divisions_in a) b))) e
      ∙ ap (λ r. compared None r (λ u. condition fields n (agree w u) a) (λ u. condition fields (n + divisions_in a) (agree w u) b) (comparison op.Equal w (linear fields n a) (linear fields (n + divisions_in a) b))) f

  pub numbers_not_equal : (w : Bool) (a b : Tree) → truth_in a ≡ None → truth_in b ≡ None → condition fields n w (Binary op.NotEqual a b) ≡ comparison op.NotEqual w (linear fields n a) (linear fields (n + divisions_in a) b)
  numbers_not_equal w a b e f =
      ap (λ r. compared r (truth_in b) (λ u. condition fields n (agree (not w) u) a) (λ u. condition fields (n + divisions_in a) (agree (not w) u) b) (comparison op.NotEqual w (linear fields n a) (linear fields (n + divisions_in a) b))) e
      ∙ ap (λ r. compared None r (λ u. condition fields n (agree (not w) u) a) (λ u. condition fields (n + divisions_in a) (agree (not w) u) b) (comparison op.NotEqual w (linear fields n a) (linear fields (n + divisions_in a) b))) f
