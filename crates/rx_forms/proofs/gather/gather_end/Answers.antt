use Rattle.std.proofs.Common.{◌≡◌, refl, sym, ap, ◌∙◌, subst, List, true, false, IfErr, OnOk}
use Rattle.std.proofs.lemmas.Result.{on_ok_weaker}
use Rattle.rx_graph.specs.Graph.{Arrow, arrow_of}
use Rattle.rx_forms.specs.declared.fault.FormFault.TheVariants.{PathLimit}
use Rattle.rx_forms.specs.Fronts.{front_of, after_ends, ends_within}
use Rattle.rx_forms.proofs.Kept.{off_left, on_both}
use Rattle.rx_forms.proofs.Looping
use Rattle.rx_forms.proofs.Reaching.{fails_too}
use Rattle.rx_forms.proofs.gather.gather_end.Goals as goal

pub add_condition-requires : goal.add_condition-requires
add_condition-requires c =
    let link = arrow_of c.args.link.now in
    let i = c.requires.link in
    record {
      condition = (c.links_have_forms.ensures.formable i.0 link i.1).condition;
      narrow = (c.links_have_forms.ensures.narrow i.0 link i.1).condition;
      room = c.requires.room;
    }

pub returns-then-is_asked : goal.returns-then-is_asked
returns-then-is_asked c =
    let domains = c.args.message.now.domains in
    let m = c.args.message.now.graph in
    let front = front_of c.args.builder.now in
    let link = arrow_of c.args.link.now in
    let r = c.add_condition.result in
    let new = front_of c.add_condition.new.builder in
    let e = sym (Looping.ends_one c.args.all link (sym c.is_asked.ensures ∙ c.if-is_asked.true)) in
    record {
      gone = subst (λ (ls : List Arrow). OnOk r (new ≡ after_ends domains m front ls)) e c.add_condition.ensures.gone;
      within = subst (λ (ls : List Arrow). OnOk r (ends_within domains m front ls ≡ true)) e (on_ok_weaker r (λ h. on_both _ _ h refl) c.add_condition.ensures.within);
      limit = subst (λ (ls : List Arrow). IfErr r (λ x. x ≡ PathLimit → ends_within domains m front ls ≡ false)) e (fails_too r _ _ (λ h. off_left _ _ h) c.add_condition.ensures.limit);
    }

pub returns-else-is_asked : goal.returns-else-is_asked
returns-else-is_asked c =
    let domains = c.args.message.now.domains in
    let m = c.args.message.now.graph in
    let front = front_of c.args.builder.now in
    let link = arrow_of c.args.link.now in
    let e = Looping.ends_none c.args.all link (sym c.is_asked.ensures ∙ c.if-is_asked.false) in
    record {
      gone = sym (ap (λ (ls : List Arrow). after_ends domains m front ls) e);
      within = ap (λ (ls : List Arrow). ends_within domains m front ls) e;
      limit = tt;
    }
