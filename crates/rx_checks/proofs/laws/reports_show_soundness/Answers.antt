use Rattle.rx_forms.proofs.Typed.{links_formable, links_narrow}
use Rattle.rx_checks.proofs.Soundness.{show_soundness}
use Rattle.rx_checks.proofs.laws.reports_show_soundness.Goals as goal

pub returns : goal.returns
returns c =
    let domains = c.args.message.now.domains in
    let m = c.args.message.now.graph in
    show_soundness domains m c.is_known.ensures.elaborated (links_formable domains m c.is_known.ensures.boolean c.is_known.ensures.elaborated) (links_narrow domains m c.is_known.ensures.boolean c.is_known.ensures.elaborated)
