use Rattle.std.proofs.Common.{◌≡◌, sym, ap, ◌∙◌, ℕ, ◌+◌, ◌≤◌, ◌<◌, arith, true, false}
use Rattle.std.proofs.lemmas.Result.{err_from_is_err_and, IfOk-from_err}
use Rattle.rx_forms.specs.Fronts.{Front, forms_in, first_front, after_path, path_within}
use Rattle.rx_forms.proofs.Telling
use Rattle.rx_forms.proofs.forms.gathered.Goals as goal

few_ends : (s n t : ℕ) → s ≡ 1 → n ≡ t → n < 190 → s + t ≤ 190
few_ends s n t e h k = omega (arith, e, h, k)

room_first : (d n : ℕ) → d ≡ 1 + n → n < 190 → d ≤ 190
room_first d n e k = omega (arith, e, k)

pub start-builder-requires : goal.start-builder-requires
start-builder-requires c = record { few = c.requires.few }

pub gather_all-requires : goal.gather_all-requires
gather_all-requires c =
    let e = c.start-builder.ensures in
    record {
      few = few_ends c.start-builder.result.scalar c.args.count _ (ap (λ (x : Front). x.scalar) e) c.requires.count c.requires.few;
      room = room_first c.start-builder.result.work.next c.args.count (ap (λ (x : Front). x.division) e) c.requires.few;
    }

pub returns-in_err-gather_all : goal.returns-in_err-gather_all
returns-in_err-gather_all c =
    let domains = c.args.message.now.domains in
    let m = c.args.message.now.graph in
    let path = c.args.path.now in
    let out = c.args.out.now in
    let e = c.start-builder.ensures ∙ ap first_front c.requires.count in
    let p = err_from_is_err_and c.from_residual.result c.from_residual.ensures.1 in
    record {
      value = IfOk-from_err c.from_residual.result _ c.from_residual.ensures.0;
      within = IfOk-from_err c.from_residual.result _ c.from_residual.ensures.0;
      limit = rw (p.1, p.2) (λ x. Telling.told_limit domains m path out c.args.count c.requires.count c.requires.few false (sym (ap (λ (y : Front). path_within domains m y path out) e) ∙ c.in_err-gather_all.ensures.limit x));
    }

pub returns : goal.returns
returns c =
    let domains = c.args.message.now.domains in
    let m = c.args.message.now.graph in
    let path = c.args.path.now in
    let out = c.args.out.now in
    let e = c.start-builder.ensures ∙ ap first_front c.requires.count in
    let g = c.in_ok-gather_all.ensures in
    record {
      value = c.finish.ensures ∙ ap forms_in (g.gone ∙ ap (λ (y : Front). after_path domains m y path out) e) ∙ Telling.tells_forms domains m path out;
      within = Telling.told_limit domains m path out c.args.count c.requires.count c.requires.few true (sym (ap (λ (y : Front). path_within domains m y path out) e) ∙ g.within);
      limit = tt;
    }
