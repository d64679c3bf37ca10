use Rattle.rx_graph.specs.Graph.{arrows}
use Rattle.rx_judge.proofs.Each.{Standing}
use Rattle.rx_spec.specs.Sizes.{field_sized}
use Rattle.rx_spec.proofs.sizes.fields_sized.Given as goal

abbrev pub invariant-loop-index : goal.invariant-loop-index
invariant-loop-index l = Standing (field_sized l.low l.held (arrows l.links)) l.fields l.index
