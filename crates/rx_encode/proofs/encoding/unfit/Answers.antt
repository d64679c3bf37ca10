use Rattle.std.proofs.Common.{subst}
use Rattle.rx_serial.specs.Unfit.{IsUnfit}
use Rattle.rx_encode.specs.Walks.{IsOfWalk}
use Rattle.rx_encode.proofs.encoding.unfit.Goals as goal

pub unreachable-requires : goal.unreachable-requires
unreachable-requires c = subst IsOfWalk c.in-NoRoom.is c.requires

pub unreachable-unreachable : goal.unreachable-unreachable
unreachable-unreachable c = subst IsOfWalk c.in-NoRoom.is c.requires

pub returns-in-Unsatisfied : goal.returns-in-Unsatisfied
returns-in-Unsatisfied c = λ domains m text values value u. (values, value, subst (λ why. IsUnfit domains m values why) c.in-Unsatisfied.is u)

pub returns-in-Unused : goal.returns-in-Unused
returns-in-Unused c = λ domains m text values value u. (values, value, subst (λ why. IsUnfit domains m values why) c.in-Unused.is u)
