use Rattle.std.proofs.Common.{◌∙◌, ap}
use Rattle.rx_judge.specs.Table.{found}
use Rattle.rx_judge.proofs.Tables.{lookup_found}
use Rattle.rx_judge.proofs.table.Table.find.Goals as goal

pub returns : goal.returns
returns c d =
    let p = d.args.prefix.now in
    let w = d.args.name.now in
    d.copied.ensures ∙ d.get.ensures.value ∙ lookup_found d.self.inside.map.entries d.in_ok-key.key p w d.in_ok-key.ensures ∙ ap (λ t. found t p w) d.self.view_is
