use Rattle.std.proofs.Common.{◌≡◌, ◌<◌, ◌++◌, sym, subst, max, length, get_or, drop, pos, true, List, ℤ, ◌+◌, ◌+ℤ◌, ◌*ℤ◌, arith}
use Rattle.std.specs.List.{list_all}
use Rattle.std.proofs.lemmas.Result.{err_from_is_err_and}
use Rattle.rx_model.specs.Sums.{weighted_sum}
use Rattle.rx_forms.specs.Limits.{is_word}
use Rattle.rx_forms.specs.Code.{sign}
use Rattle.rx_forms.proofs.Words.{sum_step, sum_fails, words_on}
use Rattle.rx_forms.proofs.arithmetic.side_by_side.Goals as goal

pub returns-in_err-push_sum-clause-limit : goal.returns-in_err-push_sum-clause-limit
returns-in_err-push_sum-clause-limit c =
    let p = err_from_is_err_and c.from_residual-in_err-push_sum.result c.from_residual-in_err-push_sum.ensures.1 in
    let h : c.loop-place.place < max (length c.args.left.now) (length c.args.right.now) = omega (arith, c.loop-place-test.true, c.max-width.ensures) in
    rw (p.1, p.2) (λ e. sum_fails (pos 1) (sign c.args.less) c.loop-place.numbers.items c.args.left.now c.args.right.now _ c.loop-place.place h c.loop-place.invariant.0 (c.in_err-push_sum.ensures.limit e))

pub loop-place-preserved : goal.loop-place-preserved
loop-place-preserved c =
    let left = c.args.left.now in
    let right = c.args.right.now in
    let s = sign c.args.less in
    let i = c.loop-place.place in
    let h : i < max (length left) (length right) = omega (arith, c.loop-place-test.true, c.max-width.ensures) in
    let pushed = c.in_ok-push_sum.ensures.pushed in (
      subst (λ (zs : List ℤ). zs ++ weighted_sum (drop (i + 1) left) (pos 1) (drop (i + 1) right) s ≡ weighted_sum left (pos 1) right s) (sym pushed) (sum_step (pos 1) s c.loop-place.numbers.items left right _ i h c.loop-place.invariant.0),
      subst (λ (zs : List ℤ). list_all is_word zs ≡ true) (sym pushed) (words_on c.loop-place.numbers.items (pos 1 *ℤ get_or left i (pos 0) +ℤ s *ℤ get_or right i (pos 0)) c.loop-place.invariant.1 c.in_ok-push_sum.ensures.word),
    )
