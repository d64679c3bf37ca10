use Rattle.rx_shadow.proofs.Numbered.{clash_found}
use Rattle.rx_shadow.proofs.joined.JoinedRows.clash.Goals as goal

pub returns : goal.returns
returns c = clash_found c.self.inside.variables c.deref.result.now c.self.inside.known.items c.args.self.now c.clash.result c.deref.ensures.value c.self.view_is c.self.invariant.numbered c.clash.ensures
