use Rattle.std.proofs.Common.{◌<◌, sym, subst, ◌∙◌, length, List, ℕ}
use Rattle.rx_graph.specs.declared.message.Node.TheVariants.{Start}
use Rattle.rx_graph.specs.Graph.{arrows, graph_of}
use Rattle.rx_graph.specs.Cycles.{ArePathsTo}
use Rattle.rx_graph.specs.Onward.{onward}
use Rattle.rx_graph.proofs.Listed.{listed, from_nothing}
use Rattle.std.proofs.lemmas.Result.{err_from_is_err_and}
use Rattle.rx_graph.proofs.enumerate.paths_to.Goals as goal

pub returns-in_err-extend-clause-many : goal.returns-in_err-extend-clause-many
returns-in_err-extend-clause-many c =
    let p = err_from_is_err_and c.from_residual.result c.from_residual.ensures.1 in
    let all = from_nothing c.as_slice-links.result.now c.args.message.now.links.items c.new-paths.result.items c.new-path.result.items c.args.end c.as_slice-links.ensures.value c.new-paths.ensures.items c.new-path.ensures.items in
    rw (p.1, p.2) (λ too_many. (onward (arrows c.args.message.now.links.items) (length (arrows c.args.message.now.links.items)) c.args.end Start, listed (graph_of c.args.message.now) c.args.end c.requires.acyclic, subst (λ (ps : List (List ℕ)). 4096 < length ps) all (c.in_err-extend.ensures.many too_many)))

pub returns-clause-paths : goal.returns-clause-paths
returns-clause-paths c =
    let all = from_nothing c.as_slice-links.result.now c.args.message.now.links.items c.new-paths.result.items c.new-path.result.items c.args.end c.as_slice-links.ensures.value c.new-paths.ensures.items c.new-path.ensures.items in
    subst (λ (ps : List (List ℕ)). ArePathsTo (graph_of c.args.message.now) c.args.end ps) (sym (c.in_ok-extend.ensures.added ∙ all)) (listed (graph_of c.args.message.now) c.args.end c.requires.acyclic)
