use Rattle.std.proofs.Common.{sym, ap, ◌∙◌, false}
use Rattle.std.proofs.lemmas.Result.{err_from_is_err_and, IfOk-from_err, on_ok_weaker}
use Rattle.rx_forms.specs.Steps.{links_on, into_fields}
use Rattle.rx_forms.specs.Fronts.{Front, front_of, after_links, links_within, after_ends, ends_within, ends_of}
use Rattle.rx_forms.proofs.Kept.{off_right, on_both, both_on}
use Rattle.rx_forms.proofs.Telling
use Rattle.rx_forms.proofs.Reaching.{fails_too}
use Rattle.rx_forms.proofs.forms.gather_all.Goals as goal

pub gather_path-requires : goal.gather_path-requires
gather_path-requires c = record { few = c.requires.few; room = c.requires.room }

pub returns-in_err-gather_path : goal.returns-in_err-gather_path
returns-in_err-gather_path c =
    let domains = c.args.message.now.domains in
    let m = c.args.message.now.graph in
    let path = c.args.path.now in
    let front = front_of c.args.builder.now in
    let mid = after_links domains m front (into_fields (links_on domains m path)) in
    let end = after_ends domains m mid (ends_of false (links_on domains m path)) in
    let a = links_within domains m front (into_fields (links_on domains m path)) in
    let b = ends_within domains m mid (ends_of false (links_on domains m path)) in
    let d = ends_within domains m end (links_on domains m c.args.out.now) in
    let p = err_from_is_err_and c.from_residual.result c.from_residual.ensures.1 in
    record {
      gone = IfOk-from_err c.from_residual.result _ c.from_residual.ensures.0;
      within = IfOk-from_err c.from_residual.result _ c.from_residual.ensures.0;
      limit = rw (p.1, p.2) (λ e. Telling.fails_before a b d (c.in_err-gather_path.ensures.gathered.limit e));
    }

pub gather_ends-requires : goal.gather_ends-requires
gather_ends-requires c = record { room = c.in_ok-gather_path.ensures.room }

pub returns : goal.returns
returns c =
    let domains = c.args.message.now.domains in
    let m = c.args.message.now.graph in
    let out = links_on domains m c.args.out.now in
    let g = c.in_ok-gather_path.ensures.gathered in
    let parts = both_on _ _ g.within in
    let r = c.gather_ends.result in
    let t = ap (λ (x : Front). ends_within domains m x out) g.gone in
    record {
      gone = on_ok_weaker r (λ h. h ∙ ap (λ (x : Front). after_ends domains m x out) g.gone) c.gather_ends.ensures.gone;
      within = on_ok_weaker r (λ h. on_both _ _ parts.0 (on_both _ _ parts.1 (sym t ∙ h))) c.gather_ends.ensures.within;
      limit = fails_too r _ _ (λ h. off_right _ _ (off_right _ _ (sym t ∙ h))) c.gather_ends.ensures.limit;
    }
