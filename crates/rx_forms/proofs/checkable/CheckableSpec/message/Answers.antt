use Rattle.std.proofs.Common.{◌∙◌, sym, ap, List, map, slice_get, option_map, Bor}
use Rattle.rx_graph.specs.declared.message.Message.{Message}
use Rattle.rx_graph.specs.Graph.{graph_of}
use Rattle.rx_forms.proofs.Memory.{graph_found}
use Rattle.rx_forms.proofs.checkable.CheckableSpec.message.Goals as goal

pub over-requires : goal.over-requires
over-requires c =
    let found = graph_found c.deref.result.now c.args.place c.get.result c.get.ensures.lookup in
    let at = found ∙ ap (λ (ms : List Message). slice_get (map graph_of ms) c.args.place) c.deref.ensures.value in
    let there = ap (option_map (λ (m : Bor Message). graph_of m.now)) (sym c.in-Some.is) ∙ at in
    c.self.invariant c.args.place (graph_of c.in-Some.message.now) (sym there)
