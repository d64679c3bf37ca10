use Rattle.std.proofs.Common.{◌≡◌, drop}
use Rattle.rx_layout.specs.Types.{last_of}
use Rattle.rx_layout.proofs.types.last_of.Given as goal

abbrev pub invariant-loop-number : goal.invariant-loop-number
invariant-loop-number l = last_of l.last (drop l.number-index l.numbers) ≡ last_of l.before l.numbers
