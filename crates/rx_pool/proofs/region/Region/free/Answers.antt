use Rattle.std.proofs.Common.{subst}
use Rattle.rx_pool.specs.Pool.{IsPool}
use Rattle.rx_pool.proofs.region.Region.free.Goals as goal

pub returns-clause-pool : goal.returns-clause-pool
returns-clause-pool c = subst IsPool c.self.view_is c.self.invariant.0.pool
