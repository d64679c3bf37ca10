use Rattle.std.proofs.Common.{◌≡◌, sym, ap, ◌∙◌, subst, ◌≤◌, true, false}
use Rattle.std.proofs.lemmas.Result.{err_from_is_err_and, IfOk-from_err, on_ok_weaker}
use Rattle.rx_forms.specs.Steps.{links_on, into_fields}
use Rattle.rx_forms.specs.Fronts.{Front, front_of, after_ends, ends_within, ends_of}
use Rattle.rx_forms.proofs.Kept.{off_left, off_right, on_both}
use Rattle.rx_forms.proofs.Looping
use Rattle.rx_forms.proofs.Reaching.{both_ok, fails_too}
use Rattle.rx_forms.proofs.forms.gather_path.Goals as goal

pub gather_fields-requires : goal.gather_fields-requires
gather_fields-requires c = record { few = c.requires.few; room = c.requires.room }

pub returns-in_err-gather_fields : goal.returns-in_err-gather_fields
returns-in_err-gather_fields c =
    let p = err_from_is_err_and c.from_residual.result c.from_residual.ensures.1 in
    record {
      gathered = record {
        gone = IfOk-from_err c.from_residual.result _ c.from_residual.ensures.0;
        within = IfOk-from_err c.from_residual.result _ c.from_residual.ensures.0;
        limit = rw (p.1, p.2) (λ e. off_left _ _ (c.in_err-gather_fields.ensures.limit e));
      };
      room = IfOk-from_err c.from_residual.result _ c.from_residual.ensures.0;
    }

pub gather_ends-requires : goal.gather_ends-requires
gather_ends-requires c =
    let domains = c.args.message.now.domains in
    let m = c.args.message.now.graph in
    let path = c.args.path.now in
    let front = front_of c.args.builder.now in
    let g = c.in_ok-gather_fields.ensures in
    record {
      room = subst (λ (x : Front). x.division ≤ 190) (sym g.gone) (Looping.links_room domains m front (into_fields (links_on domains m path)) c.requires.room g.within);
    }

pub returns : goal.returns
returns c =
    let domains = c.args.message.now.domains in
    let m = c.args.message.now.graph in
    let path = c.args.path.now in
    let front = front_of c.args.builder.now in
    let mid = front_of c.gather_fields.new.builder in
    let ends = ends_of false (links_on domains m path) in
    let g = c.in_ok-gather_fields.ensures in
    let r = c.gather_ends.result in
    let new = front_of c.gather_ends.new.builder in
    let room = subst (λ (x : Front). x.division ≤ 190) (sym g.gone) (Looping.links_room domains m front (into_fields (links_on domains m path)) c.requires.room g.within) in
    let t = ap (λ (x : Front). ends_within domains m x ends) g.gone in
    record {
      gathered = record {
        gone = on_ok_weaker r (λ h. h ∙ ap (λ (x : Front). after_ends domains m x ends) g.gone) c.gather_ends.ensures.gone;
        within = on_ok_weaker r (λ h. on_both _ _ g.within (sym t ∙ h)) c.gather_ends.ensures.within;
        limit = fails_too r _ _ (λ h. off_right _ _ (sym t ∙ h)) c.gather_ends.ensures.limit;
      };
      room = both_ok r (λ v. new ≡ after_ends domains m mid ends) (λ v. new.division ≤ 190) (ends_within domains m mid ends ≡ true) (λ v h w. subst (λ (x : Front). x.division ≤ 190) (sym h) (Looping.ends_room domains m mid ends room w)) c.gather_ends.ensures.gone c.gather_ends.ensures.within;
    }
