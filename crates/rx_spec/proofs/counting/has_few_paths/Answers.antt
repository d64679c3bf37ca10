use Rattle.std.proofs.Common.{refl}
use Rattle.rx_graph.specs.Graph.{graph_of}
use Rattle.rx_spec.proofs.Paths.{few_listed, many_listed}
use Rattle.rx_spec.proofs.counting.has_few_paths.Goals as goal
use Rattle.rx_spec.proofs.counting.has_few_paths.Goals.{in-Ok, in-Err-TooManyPaths, in-Err-NoMemory}

pub returns : goal.returns
returns c = elim c.match-paths.branch [
  | in-Ok w ↦ rw w.result-is (few_listed (graph_of c.args.message.now) w.in-Ok.field-0.items c.requires.acyclic w.in-Ok.ensures.paths w.in-Ok.ensures.within)
  | in-Err-TooManyPaths w ↦ (let h = rw w.in-Err-TooManyPaths.field-0-is at w.in-Err-TooManyPaths.ensures in
      rw w.result-is (many_listed (graph_of c.args.message.now) c.requires.acyclic (h.many refl)))
  | in-Err-NoMemory w ↦ rw w.result-is tt
]
