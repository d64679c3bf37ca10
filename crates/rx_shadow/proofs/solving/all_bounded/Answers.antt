use Rattle.std.proofs.Common.{sym, ◌∙◌}
use Rattle.rx_shadow.specs.Known.{rows_of}
use Rattle.rx_shadow.proofs.Bounded.{has_more}
use Rattle.rx_shadow.proofs.solving.all_bounded.Goals as goal

pub loop-variable-preserved : goal.loop-variable-preserved
loop-variable-preserved c = has_more c.loop-variable.variable (rows_of c.args.known.now) c.loop-variable.invariant (sym c.has_unit_rows.ensures ∙ c.if-not-has_unit_rows.false)
