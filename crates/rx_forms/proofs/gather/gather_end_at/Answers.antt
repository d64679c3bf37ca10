use Rattle.std.proofs.Common.{◌≡◌, sym, ap, ◌∙◌, subst, List, true, false, IfErr, OnOk}
use Rattle.rx_graph.specs.Graph.{Arrow, arrow_of}
use Rattle.rx_forms.specs.declared.fault.FormFault.TheVariants.{PathLimit}
use Rattle.rx_forms.specs.Fronts.{front_of, after_ends, ends_within, ends_of}
use Rattle.rx_forms.proofs.Looping
use Rattle.rx_forms.proofs.gather.gather_end_at.Goals as goal

pub gather_end-requires : goal.gather_end-requires
gather_end-requires c = record {
  link = (c.args.index, sym c.in-Some.ensures);
  room = c.requires.room;
}

pub returns-in-Some : goal.returns-in-Some
returns-in-Some c =
    let domains = c.args.message.now.domains in
    let m = c.args.message.now.graph in
    let front = front_of c.args.builder.now in
    let r = c.gather_end.result in
    let new = front_of c.gather_end.new.builder in
    let e = sym (Looping.found_link domains m c.args.index (arrow_of c.in-Some.link.now) (sym c.in-Some.ensures)) in
    record {
      gone = subst (λ (ls : List Arrow). OnOk r (new ≡ after_ends domains m front ((ends_of c.args.all) ls))) e c.gather_end.ensures.gone;
      within = subst (λ (ls : List Arrow). OnOk r (ends_within domains m front ((ends_of c.args.all) ls) ≡ true)) e c.gather_end.ensures.within;
      limit = subst (λ (ls : List Arrow). IfErr r (λ x. x ≡ PathLimit → ends_within domains m front ((ends_of c.args.all) ls) ≡ false)) e c.gather_end.ensures.limit;
    }

pub returns-in-None : goal.returns-in-None
returns-in-None c =
    let domains = c.args.message.now.domains in
    let m = c.args.message.now.graph in
    let front = front_of c.args.builder.now in
    let e = Looping.lost_link domains m c.args.index (sym c.in-None.ensures) in
    record {
      gone = sym (ap (λ (ls : List Arrow). after_ends domains m front ((ends_of c.args.all) ls)) e ∙ ap (λ (ls : List Arrow). after_ends domains m front ls) (Looping.ends_nothing c.args.all));
      within = ap (λ (ls : List Arrow). ends_within domains m front ((ends_of c.args.all) ls)) e ∙ ap (λ (ls : List Arrow). ends_within domains m front ls) (Looping.ends_nothing c.args.all);
      limit = tt;
    }
