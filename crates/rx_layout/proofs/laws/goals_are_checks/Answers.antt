use Rattle.rx_layout.proofs.Holding.{all_hold, goals_hold}
use Rattle.rx_layout.proofs.laws.goals_are_checks.Goals as goal

pub returns : goal.returns
returns c =
    let domains = c.args.message.now.domains in
    let m = c.args.message.now.graph in
    (λ hold. all_hold domains m hold, λ hold. goals_hold domains m hold)
