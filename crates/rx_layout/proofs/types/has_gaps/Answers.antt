use Rattle.std.proofs.Common.{sym, ◌∙◌, ◌-◌, arith}
use Rattle.rx_layout.proofs.Checking.{gaps_done}
use Rattle.rx_layout.proofs.types.has_gaps.Goals as goal

pub returns : goal.returns
returns c = sym (gaps_done c.args.numbers.now (c.loop-place.place - 1) (omega (arith, c.loop-place-test.false))) ∙ c.loop-place.invariant
