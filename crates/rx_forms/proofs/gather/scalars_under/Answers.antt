use Rattle.std.proofs.Common.{sym, ap, ◌∙◌, arith, List}
use Rattle.rx_graph.specs.Graph.{Arrow, arrow_of}
use Rattle.rx_forms.specs.Steps.{scalars_on, into_fields}
use Rattle.rx_forms.proofs.Looping
use Rattle.rx_forms.proofs.gather.scalars_under.Goals as goal

pub returns-in-Some : goal.returns-in-Some
returns-in-Some c =
    let domains = c.args.message.now.domains in
    let m = c.args.message.now.graph in
    let link = arrow_of c.in-Some.link.now in
    record {
      value = c.scalars_at.ensures.value ∙ sym (ap (λ (ls : List Arrow). scalars_on domains m (into_fields ls)) (Looping.found_link domains m c.args.index link (sym c.in-Some.ensures)));
      one = c.scalars_at.ensures.one;
    }

pub returns-in-None : goal.returns-in-None
returns-in-None c =
    let domains = c.args.message.now.domains in
    let m = c.args.message.now.graph in
    record {
      value = sym (ap (λ (ls : List Arrow). scalars_on domains m (into_fields ls)) (Looping.lost_link domains m c.args.index (sym c.in-None.ensures)));
      one = omega arith;
    }
