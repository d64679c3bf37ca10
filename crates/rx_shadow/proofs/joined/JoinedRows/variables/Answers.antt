use Rattle.rx_shadow.proofs.Numbered.{limits_of}
use Rattle.rx_shadow.proofs.joined.JoinedRows.variables.Goals as goal

pub returns-clause-limits : goal.returns-clause-limits
returns-clause-limits c = limits_of c.self.inside.variables c.self.inside.known.items c.args.self.now c.self.invariant c.self.view_is
