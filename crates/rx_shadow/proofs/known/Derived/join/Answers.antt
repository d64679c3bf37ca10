use Rattle.std.proofs.Common.{sym}
use Rattle.rx_shadow.proofs.known.Derived.join.Goals as goal

pub returns-clause-derived : goal.returns-clause-derived
returns-clause-derived c = λ given others h d. c.in_ok-keep.ensures.derived given others c.args.row h (sym c.tightened-last.ensures) d
