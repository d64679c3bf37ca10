use Rattle.std.proofs.Common.{◌∙◌, ap, FitsSigned, rules, length}
use Rattle.std.specs.Int.{w128}
use Rattle.std.proofs.lemmas.Int.{to_z-of_z}
use Rattle.rx_linear.proofs.Stacked.{written_row, same_parts}
use Rattle.rx_linear.proofs.buffer.write_row_at.Goals as goal

pub returns-clause-value : goal.returns-clause-value
returns-clause-value c =
    let f : FitsSigned w128 c.args.row.now.least = search rules in
    let run = c.copy_from_slice.ensures.after ∙ c.as_slice.ensures in
    written_row c.args.at c.args.variables c.args.cells.now c.copy_from_slice.new.self _ c.requires.room (ap length run ∙ c.requires.same_length)
    ∙ same_parts run (to_z-of_z w128 c.args.row.now.least f)
