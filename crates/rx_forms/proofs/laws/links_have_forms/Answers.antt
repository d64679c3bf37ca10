use Rattle.rx_forms.proofs.Typed.{links_formable, links_narrow}
use Rattle.rx_forms.proofs.laws.links_have_forms.Goals as goal

pub returns : goal.returns
returns c =
    let domains = c.args.message.now.domains in
    let m = c.args.message.now.graph in
    record { formable = links_formable domains m c.is_known.ensures.boolean c.is_known.ensures.elaborated; narrow = links_narrow domains m c.is_known.ensures.boolean c.is_known.ensures.elaborated }
