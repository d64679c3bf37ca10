use Rattle.std.proofs.Common.{refl, sym, ap, ◌∙◌, subst, ℕ, ◌≤◌, List, [], ◌∷◌, get_or}
use Rattle.std.proofs.lemmas.Result.{err_from_is_err_and, IfOk-from_err}
use Rattle.std.proofs.lemmas.List.{drop_all}
use Rattle.rx_graph.specs.Graph.{Arrow}
use Rattle.rx_forms.specs.Steps.{links_on}
use Rattle.rx_forms.specs.Fronts.{Front, front_of, after_ends, ends_within, ends_of}
use Rattle.rx_forms.proofs.Looping
use Rattle.rx_forms.proofs.gather.gather_ends.Goals as goal

pub loop-index-init : goal.loop-index-init
loop-index-init c = record { gone = refl; within = refl; room = c.requires.room }

pub gather_end_at-requires : goal.gather_end_at-requires
gather_end_at-requires c =
    let inv = c.loop-index.invariant in
    record {
      room = inv.room;
    }

pub returns-in_err-gather_end_at : goal.returns-in_err-gather_end_at
returns-in_err-gather_end_at c =
    let domains = c.args.message.now.domains in
    let m = c.args.message.now.graph in
    let path = c.args.path.now in
    let k = c.loop-index.index-index in
    let cur = front_of c.loop-index.builder in
    let inv = c.loop-index.invariant in
    let p = err_from_is_err_and c.from_residual.result c.from_residual.ensures.1 in
    record {
      gone = IfOk-from_err c.from_residual.result _ c.from_residual.ensures.0;
      within = IfOk-from_err c.from_residual.result _ c.from_residual.ensures.0;
      limit = rw (p.1, p.2) (λ e. Looping.loop_fails domains m (after_ends domains m) (ends_within domains m) (ends_of c.args.all) (Looping.ends_append c.args.all) (Looping.ends_after domains m) (Looping.ends_test domains m) cur _ path k c.loop-index-test.true inv.within (c.in_err-gather_end_at.ensures.limit e));
    }

pub loop-index-preserved : goal.loop-index-preserved
loop-index-preserved c =
    let domains = c.args.message.now.domains in
    let m = c.args.message.now.graph in
    let path = c.args.path.now in
    let k = c.loop-index.index-index in
    let cur = front_of c.loop-index.builder in
    let inv = c.loop-index.invariant in
    let new = front_of c.gather_end_at.new.builder in
    let g = c.in_ok-gather_end_at.ensures.gone in
    let w = c.in_ok-gather_end_at.ensures.within in
    record {
      gone = Looping.loop_goes domains m (after_ends domains m) (ends_within domains m) (ends_of c.args.all) (Looping.ends_append c.args.all) (Looping.ends_after domains m) (Looping.ends_test domains m) cur new _ path k c.loop-index-test.true inv.gone g;
      within = Looping.loop_tests domains m (after_ends domains m) (ends_within domains m) (ends_of c.args.all) (Looping.ends_append c.args.all) (Looping.ends_after domains m) (Looping.ends_test domains m) cur new _ path k c.loop-index-test.true inv.within g w;
      room = subst (λ (x : Front). x.division ≤ 190) (sym g) (Looping.ends_room domains m cur ((ends_of c.args.all) (links_on domains m (get_or path k 0 ∷ []))) inv.room w);
    }

pub returns : goal.returns
returns c =
    let domains = c.args.message.now.domains in
    let m = c.args.message.now.graph in
    let path = c.args.path.now in
    let k = c.loop-index.index-index in
    let cur = front_of c.loop-index.builder in
    let inv = c.loop-index.invariant in
    let d = drop_all k path c.loop-index-test.false in
    record {
      gone = sym (ap (λ (p : List ℕ). after_ends domains m cur ((ends_of c.args.all) (links_on domains m p))) d ∙ ap (λ (ls : List Arrow). after_ends domains m cur ls) (Looping.ends_nothing c.args.all)) ∙ inv.gone;
      within = inv.within ∙ ap (λ (p : List ℕ). ends_within domains m cur ((ends_of c.args.all) (links_on domains m p))) d ∙ ap (λ (ls : List Arrow). ends_within domains m cur ls) (Looping.ends_nothing c.args.all);
      limit = tt;
    }
