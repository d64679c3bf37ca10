use Rattle.std.proofs.Common.{◌≡◌, sym, ap, subst, List, true, false, IfErr, OnOk}
use Rattle.rx_graph.specs.Graph.{Arrow, arrow_of}
use Rattle.rx_forms.specs.declared.fault.FormFault.TheVariants.{PathLimit}
use Rattle.rx_forms.specs.Steps.{into_fields}
use Rattle.rx_forms.specs.Fronts.{front_of, after_links, links_within}
use Rattle.rx_forms.proofs.Looping
use Rattle.rx_forms.proofs.gather.gather_index.Goals as goal

pub gather_link-requires : goal.gather_link-requires
gather_link-requires c = record {
  link = (c.args.index, sym c.in-Some.ensures);
  few = c.requires.few;
  room = c.requires.room;
}

pub returns-in-Some : goal.returns-in-Some
returns-in-Some c =
    let domains = c.args.message.now.domains in
    let m = c.args.message.now.graph in
    let front = front_of c.args.builder.now in
    let r = c.gather_link.result in
    let new = front_of c.gather_link.new.builder in
    let e = sym (Looping.found_link domains m c.args.index (arrow_of c.in-Some.link.now) (sym c.in-Some.ensures)) in
    record {
      gone = subst (λ (ls : List Arrow). OnOk r (new ≡ after_links domains m front (into_fields ls))) e c.gather_link.ensures.gone;
      within = subst (λ (ls : List Arrow). OnOk r (links_within domains m front (into_fields ls) ≡ true)) e c.gather_link.ensures.within;
      limit = subst (λ (ls : List Arrow). IfErr r (λ x. x ≡ PathLimit → links_within domains m front (into_fields ls) ≡ false)) e c.gather_link.ensures.limit;
    }

pub returns-in-None : goal.returns-in-None
returns-in-None c =
    let domains = c.args.message.now.domains in
    let m = c.args.message.now.graph in
    let front = front_of c.args.builder.now in
    let e = Looping.lost_link domains m c.args.index (sym c.in-None.ensures) in
    record {
      gone = sym (ap (λ (ls : List Arrow). after_links domains m front (into_fields ls)) e);
      within = ap (λ (ls : List Arrow). links_within domains m front (into_fields ls)) e;
      limit = tt;
    }
