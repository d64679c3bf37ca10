use Rattle.std.proofs.Common.{◌≡◌, arith, length, subst, ℕ, List, Ok}
use Rattle.rx_judge.specs.Table.{Entry}
use Rattle.rx_links.specs.Links.{links_by}
use Rattle.rx_links.proofs.Gathering.{gathering_ends}
use Rattle.rx_links.proofs.Within.{links_within}
use Rattle.rx_links.proofs.links.links_of.Goals as goal

pub returns-clause-within : goal.returns-clause-within
returns-clause-within c =
    let all = gathering_ends c.loop-index.invariant (omega arith) in
    let start = c.args.start.now in
    let fields = c.args.fields.now in
    links_within start fields c.loop-index.ways.items (subst (λ (t : List (Entry ℕ)). links_by t (length fields) start fields ≡ Ok c.loop-index.ways.items) c.requires all)
