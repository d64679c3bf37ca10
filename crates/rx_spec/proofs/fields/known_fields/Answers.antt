use Rattle.std.proofs.Common.{◌∙◌, sym, arith}
use Rattle.rx_spec.proofs.Known.{all_known}
use Rattle.rx_spec.proofs.fields.known_fields.Goals as goal

pub returns : goal.returns
returns c = sym (c.loop-index.invariant ∙ all_known c.loop-index.index c.loop-index.table c.loop-index.rest.now c.args.fields.now (omega arith))
