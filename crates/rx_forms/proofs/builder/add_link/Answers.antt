use Rattle.std.proofs.Common.{sym, ap, ◌∙◌, subst, ℕ, ◌<◌, ◌^◌, Option}
use Rattle.std.proofs.lemmas.Result.{err_from_is_err_and, IfOk-from_err, on_ok_weaker}
use Rattle.rx_types.specs.Domain.{Domain}
use Rattle.rx_graph.specs.Graph.{arrow_of, type_of}
use Rattle.rx_forms.specs.Steps.{target_field}
use Rattle.rx_forms.specs.Fronts.{front_of, Front, after_place, after_end, place_within}
use Rattle.rx_forms.proofs.Kept.{off_left, off_right, on_both}
use Rattle.rx_forms.proofs.Building
use Rattle.rx_forms.proofs.Reaching.{fails_too}
use Rattle.rx_forms.proofs.builder.add_link.Goals as goal

pub add_condition-requires-clause-condition : goal.add_condition-requires-clause-condition
add_condition-requires-clause-condition c = c.requires.formable.condition

pub add_condition-requires-clause-narrow : goal.add_condition-requires-clause-narrow
add_condition-requires-clause-narrow c = c.requires.narrow.condition

pub add_condition-requires-clause-room : goal.add_condition-requires-clause-room
add_condition-requires-clause-room c = c.requires.room

pub returns-in_err-add_condition : goal.returns-in_err-add_condition
returns-in_err-add_condition c =
    record {
      gone = IfOk-from_err c.from_residual.result _ c.from_residual.ensures.0;
      within = IfOk-from_err c.from_residual.result _ c.from_residual.ensures.0;
      limit =
          let p = err_from_is_err_and c.from_residual.result c.from_residual.ensures.1 in
          let t = Building.link_test c.args.message.now.domains c.args.message.now.graph (front_of c.args.builder.now) (arrow_of c.args.link.now) in
          rw (p.1, p.2) (λ e. t ∙ off_left _ _ (c.in_err-add_condition.ensures.limit e));
    }

pub place-requires-clause-formable : goal.place-requires-clause-formable
place-requires-clause-formable c = c.requires.formable

pub place-requires-clause-narrow : goal.place-requires-clause-narrow
place-requires-clause-narrow c = c.requires.narrow

pub place-requires-clause-target : goal.place-requires-clause-target
place-requires-clause-target c = c.requires.target

pub place-requires-clause-small : goal.place-requires-clause-small
place-requires-clause-small c = subst (λ (k : ℕ). k < 2 ^ 32) (sym (ap (λ (x : Front). x.scalar) c.in_ok-add_condition.ensures.gone)) c.requires.small

pub place-requires-clause-room : goal.place-requires-clause-room
place-requires-clause-room c = Building.room_behind _ _ _ _ c.in_ok-add_condition.ensures.within (ap (λ (x : Front). x.division) c.in_ok-add_condition.ensures.gone)

pub returns : goal.returns
returns c =
    let domains = c.args.message.now.domains in
    let m = c.args.message.now.graph in
    let front = front_of c.args.builder.now in
    let link = arrow_of c.args.link.now in
    let g = c.in_ok-add_condition.ensures.gone in
    let t = Building.link_test domains m front link in
    let y = sym (ap (λ (k : ℕ). type_of domains m k) (ap target_field c.requires.target)) in
    let type = type_of domains m c.args.field in
    let r = c.place.result in
    let w = ap (λ (x : Front). place_within type x link) g ∙ ap (λ (s : Option Domain). place_within s (after_end domains m front link) link) y in
    record {
      gone = on_ok_weaker r (λ h. h ∙ ap (λ (x : Front). after_place domains m type x link) g ∙ ap (λ (s : Option Domain). after_place domains m s (after_end domains m front link) link) y ∙ Building.link_goes domains m front link) c.place.ensures.gone;
      within = on_ok_weaker r (λ h. t ∙ on_both _ _ c.in_ok-add_condition.ensures.within (sym w ∙ h)) c.place.ensures.within;
      limit = fails_too r _ _ (λ h. t ∙ off_right _ _ (sym w ∙ h)) c.place.ensures.limit;
    }
