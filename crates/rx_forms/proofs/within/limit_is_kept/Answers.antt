use Rattle.rx_forms.proofs.Asked.{limit_kept}
use Rattle.rx_forms.proofs.Told.{limit_told}
use Rattle.rx_forms.proofs.within.limit_is_kept.Goals as goal

pub returns : goal.returns
returns c =
    let domains = c.args.message.now.domains in
    let m = c.args.message.now.graph in (
      limit_kept domains m c.is_known.ensures.elaborated,
      limit_told domains m c.is_known.ensures.elaborated,
    )
