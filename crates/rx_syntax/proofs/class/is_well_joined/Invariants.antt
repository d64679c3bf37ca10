use Rattle.std.proofs.Common.{◌≡◌, length}
use Rattle.rx_syntax.specs.Bytes.{is_well_joined}
use Rattle.rx_syntax.proofs.class.is_well_joined.Given as goal

-- the word is as its rest is
abbrev pub invariant-loop-rest : goal.invariant-loop-rest
invariant-loop-rest l = is_well_joined l.word ≡ is_well_joined l.rest

abbrev pub decreases-loop-rest : goal.decreases-loop-rest
decreases-loop-rest l = length l.rest
