use Rattle.std.proofs.Common.{◌≡◌, refl, sym, ap, ◌∙◌, subst, ℕ, ◌+◌, ◌≤◌, arith, List, [], ◌∷◌, get_or, drop}
use Rattle.std.proofs.lemmas.Result.{err_from_is_err_and, IfOk-from_err}
use Rattle.std.proofs.lemmas.List.{drop_all}
use Rattle.rx_forms.specs.Steps.{links_on, into_fields}
use Rattle.rx_forms.specs.Fronts.{Front, front_of, after_links, links_within}
use Rattle.rx_forms.proofs.Looping
use Rattle.rx_forms.proofs.gather.gather_fields.Goals as goal

few_left : (a b x s t : ℕ) → a + b ≡ x → x ≡ s + t → s + t ≤ 190 → a ≤ 190
few_left a b x s t e h k = omega (arith, e, h, k)

pub loop-index-init : goal.loop-index-init
loop-index-init c = record { gone = refl; within = refl; room = c.requires.room }

pub gather_index-requires : goal.gather_index-requires
gather_index-requires c =
    let domains = c.args.message.now.domains in
    let m = c.args.message.now.graph in
    let path = c.args.path.now in
    let k = c.loop-index.index-index in
    let cur = front_of c.loop-index.builder in
    let inv = c.loop-index.invariant in
    record {
      few = few_left c.loop-index.builder.scalar _ _ _ _ (sym (Looping.scalars_after domains m cur (into_fields (links_on domains m (drop k path))))) (ap (λ (x : Front). x.scalar) inv.gone ∙ Looping.scalars_after domains m (front_of c.args.builder.now) (into_fields (links_on domains m path))) c.requires.few;
      room = inv.room;
    }

pub returns-in_err-gather_index : goal.returns-in_err-gather_index
returns-in_err-gather_index c =
    let domains = c.args.message.now.domains in
    let m = c.args.message.now.graph in
    let path = c.args.path.now in
    let k = c.loop-index.index-index in
    let cur = front_of c.loop-index.builder in
    let inv = c.loop-index.invariant in
    let p = err_from_is_err_and c.from_residual.result c.from_residual.ensures.1 in
    record {
      gone = IfOk-from_err c.from_residual.result _ c.from_residual.ensures.0;
      within = IfOk-from_err c.from_residual.result _ c.from_residual.ensures.0;
      limit = rw (p.1, p.2) (λ e. Looping.loop_fails domains m (after_links domains m) (links_within domains m) into_fields Looping.fields_append (Looping.links_append domains m) (Looping.links_test domains m) cur _ path k c.loop-index-test.true inv.within (c.in_err-gather_index.ensures.limit e));
    }

pub loop-index-preserved : goal.loop-index-preserved
loop-index-preserved c =
    let domains = c.args.message.now.domains in
    let m = c.args.message.now.graph in
    let path = c.args.path.now in
    let k = c.loop-index.index-index in
    let cur = front_of c.loop-index.builder in
    let inv = c.loop-index.invariant in
    let new = front_of c.gather_index.new.builder in
    let g = c.in_ok-gather_index.ensures.gone in
    let w = c.in_ok-gather_index.ensures.within in
    record {
      gone = Looping.loop_goes domains m (after_links domains m) (links_within domains m) into_fields Looping.fields_append (Looping.links_append domains m) (Looping.links_test domains m) cur new _ path k c.loop-index-test.true inv.gone g;
      within = Looping.loop_tests domains m (after_links domains m) (links_within domains m) into_fields Looping.fields_append (Looping.links_append domains m) (Looping.links_test domains m) cur new _ path k c.loop-index-test.true inv.within g w;
      room = subst (λ (x : Front). x.division ≤ 190) (sym g) (Looping.links_room domains m cur (into_fields (links_on domains m (get_or path k 0 ∷ []))) inv.room w);
    }

pub returns : goal.returns
returns c =
    let domains = c.args.message.now.domains in
    let m = c.args.message.now.graph in
    let path = c.args.path.now in
    let k = c.loop-index.index-index in
    let cur = front_of c.loop-index.builder in
    let inv = c.loop-index.invariant in
    let d = drop_all k path c.loop-index-test.false in
    record {
      gone = sym (ap (λ (p : List ℕ). after_links domains m cur (into_fields (links_on domains m p))) d ∙ refl) ∙ inv.gone;
      within = inv.within ∙ ap (λ (p : List ℕ). links_within domains m cur (into_fields (links_on domains m p))) d ∙ refl;
      limit = tt;
    }
