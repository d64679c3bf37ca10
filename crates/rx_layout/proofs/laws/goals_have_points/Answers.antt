use Rattle.rx_forms.proofs.Typed.{links_formable, links_narrow}
use Rattle.rx_layout.proofs.Whole.{goals_point}
use Rattle.rx_layout.proofs.laws.goals_have_points.Goals as goal

pub returns : goal.returns
returns c =
    let domains = c.args.message.now.domains in
    let m = c.args.message.now.graph in
    goals_point domains m c.is_known.ensures.elaborated (links_formable domains m c.is_known.ensures.boolean c.is_known.ensures.elaborated) (links_narrow domains m c.is_known.ensures.boolean c.is_known.ensures.elaborated)
