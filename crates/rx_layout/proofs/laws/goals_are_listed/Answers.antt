use Rattle.rx_layout.proofs.Listing.{goals_are_listed, listed_are_goals}
use Rattle.rx_layout.proofs.laws.goals_are_listed.Goals as goal

pub returns : goal.returns
returns c =
    let domains = c.args.message.now.domains in
    let m = c.args.message.now.graph in
    λ g. (λ h. goals_are_listed domains m c.is_known.ensures.elaborated g h, λ h. listed_are_goals domains m g h)
