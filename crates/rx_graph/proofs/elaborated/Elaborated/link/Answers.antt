use Rattle.std.proofs.Common.{◌∙◌, ap, List, slice_get}
use Rattle.rx_graph.specs.declared.message.Link.{Link}
use Rattle.rx_graph.specs.Graph.{arrows}
use Rattle.rx_graph.specs.Typed.{Typed}
use Rattle.rx_graph.proofs.Memory.{arrow_found}
use Rattle.rx_graph.proofs.elaborated.Elaborated.link.Goals as goal

pub returns : goal.returns
returns c =
    arrow_found c.deref.result.now c.args.place c.get.result c.get.ensures.lookup
    ∙ ap (λ (ls : List Link). slice_get (arrows ls) c.args.place) c.deref.ensures.value
    ∙ ap (λ (t : Typed). slice_get t.graph.links c.args.place) c.self.view_is
