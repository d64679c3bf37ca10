use Rattle.std.proofs.Common.{◌≡◌, length, arith}
use Rattle.rx_graph.specs.Graph.{graph_of}
use Rattle.rx_spec.specs.Shape.{bare_arrow}
use Rattle.rx_spec.proofs.Made.{as_many}
use Rattle.rx_spec.proofs.Paths.{bare_ends}
use Rattle.rx_spec.proofs.counting.ways_have_few_paths.Goals as goal

pub has_few_paths-requires-clause-acyclic : goal.has_few_paths-requires-clause-acyclic
has_few_paths-requires-clause-acyclic c =
    let m = graph_of c.in_ok-message.message in
    c.requires.acyclic m (bare_ends c.args.place c.args.ways.now m c.in_ok-message.ensures)

pub has_few_paths-requires-clause-few : goal.has_few_paths-requires-clause-few
has_few_paths-requires-clause-few c =
    let e : length c.in_ok-message.message.links.items ≡ length c.args.ways.now = as_many (bare_arrow c.args.place) c.in_ok-message.message.links.items c.args.ways.now c.in_ok-message.ensures in
    omega (arith, c.requires.few, e)
