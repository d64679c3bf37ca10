use Rattle.std.proofs.Common.{◌≡◌, ◌+◌, ◌∙◌, ◌++◌, sym, ap, arith, ℕ, List, ℤ, pos, ◌*ℤ◌, ◌+ℤ◌, take, get_or, FitsSigned}
use Rattle.std.specs.Prelude.{slice_range}
use Rattle.std.specs.Int.{w128}
use Rattle.std.proofs.lemmas.Int.{to_z-of_z}
use Rattle.std.proofs.lemmas.List.{take_all}
use Rattle.rx_model.specs.Sums.{weighted_sum}
use Rattle.rx_linear.proofs.Bounds.{constant_fits, weighted_call}
use Rattle.rx_linear.proofs.Cells.{read_before, read_small, code_small, weighted_at_step, end_before, end_value, length-weighted, length-part}
use Rattle.rx_linear.proofs.buffer.weighted_at.Goals as goal

pub weighted-number-requires-clause-left_small : goal.weighted-number-requires-clause-left_small
weighted-number-requires-clause-left_small c =
    code_small (get_or c.loop-i.cells (c.args.left + c.loop-i.i) (pos 0)) (read_small c.args.cells.now c.loop-i.cells _ c.args.target c.loop-i.i c.args.left c.args.width c.loop-i.invariant (omega arith) c.requires.left_before c.loop-i-test.true c.requires.left_small)

pub weighted-number-requires-clause-right_small : goal.weighted-number-requires-clause-right_small
weighted-number-requires-clause-right_small c =
    code_small (get_or c.loop-i.cells (c.args.right + c.loop-i.i) (pos 0)) (read_small c.args.cells.now c.loop-i.cells _ c.args.target c.loop-i.i c.args.right c.args.width c.loop-i.invariant (omega arith) c.requires.right_before c.loop-i-test.true c.requires.right_small)

pub loop-i-preserved : goal.loop-i-preserved
loop-i-preserved c =
    let fa : FitsSigned w128 c.args.left_times = c.ranges.left_times in
    let fb : FitsSigned w128 c.args.right_times = c.ranges.right_times in
    let inv = simp to_z-of_z at c.loop-i.invariant in
    let fl : FitsSigned w128 (get_or c.loop-i.cells (c.args.left + c.loop-i.i) (pos 0)) = constant_fits _ (read_small c.args.cells.now c.loop-i.cells _ c.args.target c.loop-i.i c.args.left c.args.width c.loop-i.invariant (omega arith) c.requires.left_before c.loop-i-test.true c.requires.left_small) in
    let fr : FitsSigned w128 (get_or c.loop-i.cells (c.args.right + c.loop-i.i) (pos 0)) = constant_fits _ (read_small c.args.cells.now c.loop-i.cells _ c.args.target c.loop-i.i c.args.right c.args.width c.loop-i.invariant (omega arith) c.requires.right_before c.loop-i-test.true c.requires.right_small) in
    let fw : FitsSigned w128 c.weighted-number.result = record { sfits = c.weighted-number.type_inv } in
    let v = weighted_call (get_or c.loop-i.cells (c.args.left + c.loop-i.i) (pos 0)) c.args.left_times (get_or c.loop-i.cells (c.args.right + c.loop-i.i) (pos 0)) c.args.right_times c.weighted-number.result fa fb fl fr c.weighted-number.ensures
    ∙ ap (λ (z : ℤ). c.args.left_times *ℤ z +ℤ c.args.right_times *ℤ get_or c.loop-i.cells (c.args.right + c.loop-i.i) (pos 0)) (read_before c.args.cells.now c.loop-i.cells _ c.args.target c.loop-i.i c.args.left c.args.width c.loop-i.invariant (omega arith) c.requires.left_before c.loop-i-test.true)
    ∙ ap (λ (z : ℤ). c.args.left_times *ℤ get_or (slice_range c.args.cells.now c.args.left (c.args.left + c.args.width)) c.loop-i.i (pos 0) +ℤ c.args.right_times *ℤ z) (read_before c.args.cells.now c.loop-i.cells _ c.args.target c.loop-i.i c.args.right c.args.width c.loop-i.invariant (omega arith) c.requires.right_before c.loop-i-test.true) in
    simp to_z-of_z (weighted_at_step c.args.cells.now c.loop-i.cells c.args.target c.loop-i.i c.args.width c.args.left c.args.right c.args.left_times c.args.right_times c.weighted-number.result c.requires.room (omega arith) c.requires.left_before c.requires.right_before c.loop-i-test.true inv v)

-- the invariant at the end
finished : (c : goal.After-loop-i) → take (c.args.target + c.args.width) c.loop-i.cells ≡ take c.args.target c.args.cells.now ++ weighted_sum (slice_range c.args.cells.now c.args.left (c.args.left + c.args.width)) c.args.left_times (slice_range c.args.cells.now c.args.right (c.args.right + c.args.width)) c.args.right_times
finished c =
    let fa : FitsSigned w128 c.args.left_times = c.ranges.left_times in
    let fb : FitsSigned w128 c.args.right_times = c.ranges.right_times in
    let inv = simp to_z-of_z at c.loop-i.invariant in
    let ll = length-part c.args.cells.now c.args.left c.args.width (omega arith) in
    let lr = length-part c.args.cells.now c.args.right c.args.width (omega arith) in
    let lt = length-weighted (slice_range c.args.cells.now c.args.left (c.args.left + c.args.width)) (slice_range c.args.cells.now c.args.right (c.args.right + c.args.width)) c.args.left_times c.args.right_times (ll ∙ sym lr) in
    ap (λ (n : ℕ). take n c.loop-i.cells) (let e : c.args.target + c.args.width ≡ c.args.target + c.loop-i.i = omega arith in e)
    ∙ inv
    ∙ ap (λ (zs : List ℤ). take c.args.target c.args.cells.now ++ zs) (take_all c.loop-i.i _ (omega (arith, lt, ll)))

pub returns-clause-value : goal.returns-clause-value
returns-clause-value c = end_value c.args.cells.now c.loop-i.cells _ c.args.target c.args.width (omega arith) (finished c)

pub returns-clause-before : goal.returns-clause-before
returns-clause-before c = end_before c.args.cells.now c.loop-i.cells _ c.args.target c.args.width (omega arith) (finished c)
