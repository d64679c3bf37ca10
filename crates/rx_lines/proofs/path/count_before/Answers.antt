use Rattle.std.proofs.Common.{◌∙◌}
use Rattle.rx_graph.specs.Checks.{is_node}
use Rattle.rx_graph.proofs.Memory.{count_front}
use Rattle.rx_lines.proofs.path.count_before.Goals as goal

pub returns-clause-count : goal.returns-clause-count
returns-clause-count c = c.count_from.ensures.count ∙ count_front (λ l. is_node c.args.node l.source) c.args.links.now c.args.place
