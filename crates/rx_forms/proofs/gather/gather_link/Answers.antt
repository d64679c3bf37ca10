use Rattle.std.proofs.Common.{◌≡◌, refl, sym, ap, subst, ℕ, ◌≤◌, ◌<◌, ◌^◌, arith, List, true, false, IfErr, OnOk}
use Rattle.std.proofs.lemmas.Result.{on_ok_weaker}
use Rattle.rx_graph.specs.Graph.{Arrow, arrow_of}
use Rattle.rx_forms.specs.declared.fault.FormFault.TheVariants.{PathLimit}
use Rattle.rx_forms.specs.Fronts.{front_of, after_links, links_within}
use Rattle.rx_forms.proofs.Kept.{off_left, on_both}
use Rattle.rx_forms.proofs.Looping
use Rattle.rx_forms.proofs.Reaching.{fails_too}
use Rattle.rx_forms.proofs.gather.gather_link.Goals as goal

small : (n : ℕ) → n ≤ 190 → n < 2 ^ 32
small n h = omega (arith, h)

pub add_link-requires : goal.add_link-requires
add_link-requires c =
    let link = arrow_of c.args.link.now in
    let i = c.requires.link in
    record {
      formable = c.links_have_forms.ensures.formable i.0 link i.1;
      narrow = c.links_have_forms.ensures.narrow i.0 link i.1;
      target = c.in-At.is;
      small = small c.args.builder.now.scalar c.requires.few;
      room = c.requires.room;
    }

pub returns-in-At : goal.returns-in-At
returns-in-At c =
    let domains = c.args.message.now.domains in
    let m = c.args.message.now.graph in
    let front = front_of c.args.builder.now in
    let link = arrow_of c.args.link.now in
    let r = c.add_link.result in
    let new = front_of c.add_link.new.builder in
    let e = sym (Looping.fields_one link (Looping.is_field link c.in-At.field c.in-At.is)) in
    record {
      gone = subst (λ (ls : List Arrow). OnOk r (new ≡ after_links domains m front ls)) e c.add_link.ensures.gone;
      within = subst (λ (ls : List Arrow). OnOk r (links_within domains m front ls ≡ true)) e (on_ok_weaker r (λ h. on_both _ _ h refl) c.add_link.ensures.within);
      limit = subst (λ (ls : List Arrow). IfErr r (λ x. x ≡ PathLimit → links_within domains m front ls ≡ false)) e (fails_too r _ _ (λ h. off_left _ _ h) c.add_link.ensures.limit);
    }

pub returns-in_default : goal.returns-in_default
returns-in_default c =
    let domains = c.args.message.now.domains in
    let m = c.args.message.now.graph in
    let front = front_of c.args.builder.now in
    let link = arrow_of c.args.link.now in
    let e = sym (Looping.fields_none link (Looping.is_no_field link c.in_default.not-At)) in
    record {
      gone = ap (λ (ls : List Arrow). after_links domains m front ls) e;
      within = sym (ap (λ (ls : List Arrow). links_within domains m front ls) e);
      limit = tt;
    }
