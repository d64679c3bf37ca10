use Rattle.std.proofs.Common.{◌≡◌, ◌∙◌, ap, arith, ℕ, FitsSigned, rules, length}
use Rattle.std.specs.Int.{w128}
use Rattle.std.proofs.lemmas.Int.{to_z-of_z}
use Rattle.rx_linear.specs.Units.{unit}
use Rattle.rx_linear.proofs.Cells.{length-part}
use Rattle.rx_linear.proofs.Stacked.{written_row, same_parts, length-unit}
use Rattle.rx_linear.proofs.buffer.write_unit_at.Goals as goal

pub returns-clause-value : goal.returns-clause-value
returns-clause-value c =
    let f : FitsSigned w128 c.args.least.now = search rules in
    let part = length-part c.args.cells.now c.args.at c.args.variables (omega arith) in
    let run : c.make_unit.new.numbers ≡ unit c.args.variables c.args.variable c.args.coefficient.now =
    c.make_unit.ensures ∙ ap (λ (n : ℕ). unit n c.args.variable c.args.coefficient.now) part in
    written_row c.args.at c.args.variables c.args.cells.now c.make_unit.new.numbers _ c.requires.room (ap length run ∙ length-unit c.args.variables c.args.variable c.args.coefficient.now)
    ∙ same_parts run (to_z-of_z w128 c.args.least.now f)
