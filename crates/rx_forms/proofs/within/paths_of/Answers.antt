use Rattle.std.proofs.Common.{◌≡◌, ◌≤◌, ◌^◌, ℕ, sym, subst, length, arith}
use Rattle.rx_graph.specs.declared.message.Node.TheVariants.{Start}
use Rattle.rx_graph.specs.Graph.{Graph, graph_of}
use Rattle.rx_graph.specs.Cycles.{ArePathsTo}
use Rattle.rx_graph.specs.Elaborated.{IsElaborated}
use Rattle.rx_graph.specs.Onward.{onward}
use Rattle.rx_graph.proofs.Listed.{listed}
use Rattle.rx_graph.proofs.Ways.{length-arrows}
use Rattle.rx_graph.proofs.OneList.{one_list}
use Rattle.rx_forms.specs.PathLimit.{HasFewPaths}
use Rattle.rx_forms.proofs.Few.{never_more}
use Rattle.rx_forms.proofs.within.paths_of.Goals as goal

few_of : (n k : ℕ) → n ≡ k → n ≤ 512 → k ≤ 2 ^ 16
few_of n k e h = omega (arith, e, h)

pub paths_to-requires : goal.paths_to-requires
paths_to-requires c =
    let known = subst (λ (g : Graph). IsElaborated c.args.message.now.domains g) (sym c.message.ensures.graph) c.message.ensures.known.elaborated in
    record { acyclic = known.acyclic; few = few_of _ _ (length-arrows c.message.result.now.links.items) known.few_links }

pub unreachable-requires : goal.unreachable-requires
unreachable-requires c =
    let m = graph_of c.message.result.now in
    let few = subst HasFewPaths (sym c.message.ensures.graph) c.paths_to_nodes_are_few.ensures in
    never_more m c.args.node 4096 (few c.args.node) (c.in-Err-TooManyPaths.ensures.many c.in-Err-TooManyPaths.field-0-is)

pub returns-in-Ok : goal.returns-in-Ok
returns-in-Ok c =
    let m = c.args.message.now.graph in
    let listing = subst (λ (g : Graph). ArePathsTo g c.args.node c.in-Ok.paths.items) c.message.ensures.graph c.in-Ok.ensures.paths in
    one_list m c.args.node c.in-Ok.paths.items (onward m.links (length m.links) c.args.node Start) listing (listed m c.args.node c.message.ensures.known.elaborated.acyclic)
