use Rattle.rx_links.specs.Links.{field_ways, links_by}
use Rattle.rx_links.proofs.Gathering.{Gathering}
use Rattle.rx_links.proofs.links.links_of.Given as goal

abbrev pub invariant-loop-index : goal.invariant-loop-index
invariant-loop-index l = Gathering (links_by l.table l.count l.start l.fields) (field_ways l.table l.count) l.fields l.index l.ways.items
