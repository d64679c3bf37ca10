use Rattle.rx_types.proofs.Entries.{none_twice}
use Rattle.rx_types.proofs.env.Env.new.Goals as goal

pub invariant_of-result : goal.invariant_of-result
invariant_of-result c = rw c.new.ensures none_twice
