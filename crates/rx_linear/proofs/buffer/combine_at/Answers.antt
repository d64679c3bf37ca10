use Rattle.std.proofs.Common.{FitsSigned, ◌+◌, ◌^◌, sym, subst, arith, ℤ, List, drop, length-drop}
use Rattle.std.specs.Int.{w128}
use Rattle.std.proofs.lemmas.Int.{to_z-of_z}
use Rattle.rx_linear.specs.Rows.{AllBelow}
use Rattle.rx_linear.proofs.Stacked.{part_is, narrow_numbers, combined_from_numbers}
use Rattle.rx_linear.proofs.buffer.combine_at.Goals as goal

pub weighted_at-requires-clause-left_small : goal.weighted_at-requires-clause-left_small
weighted_at-requires-clause-left_small c =
    subst (λ (zs : List ℤ). AllBelow (2 ^ 100) zs) (sym (part_is c.args.cells.now c.args.left (c.args.variables + 1)))
    (narrow_numbers c.args.variables (drop c.args.left c.args.cells.now) (omega (arith, length-drop c.args.left c.args.cells.now)) c.requires.left_narrow)

pub weighted_at-requires-clause-right_small : goal.weighted_at-requires-clause-right_small
weighted_at-requires-clause-right_small c =
    subst (λ (zs : List ℤ). AllBelow (2 ^ 100) zs) (sym (part_is c.args.cells.now c.args.right (c.args.variables + 1)))
    (narrow_numbers c.args.variables (drop c.args.right c.args.cells.now) (omega (arith, length-drop c.args.right c.args.cells.now)) c.requires.right_narrow)

pub returns-clause-value : goal.returns-clause-value
returns-clause-value c =
    let fa : FitsSigned w128 c.args.left_times = c.ranges.left_times in
    let fb : FitsSigned w128 c.args.right_times = c.ranges.right_times in
    combined_from_numbers c.args.variables c.args.left c.args.right c.args.target c.args.cells.now c.weighted_at.new.cells c.args.left_times c.args.right_times (omega arith) (omega arith) (simp to_z-of_z at c.weighted_at.ensures.value)
