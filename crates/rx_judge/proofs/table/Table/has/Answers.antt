use Rattle.std.proofs.Common.{◌∙◌, ap}
use Rattle.rx_judge.specs.Table.{has}
use Rattle.rx_judge.proofs.Tables.{lookup_has}
use Rattle.rx_judge.proofs.table.Table.has.Goals as goal

pub returns : goal.returns
returns c d =
    let p = d.args.prefix.now in
    let w = d.args.name.now in
    d.contains_key.ensures ∙ lookup_has d.self.inside.map.entries d.in_ok-key.key p w d.in_ok-key.ensures ∙ ap (λ t. has t p w) d.self.view_is
