use Rattle.std.proofs.Common.{◌≡◌, sym, ap, ◌∙◌, ℕ, ◌+◌, ◌≤◌, ◌<◌, arith}
use Rattle.std.proofs.lemmas.Result.{err_from_is_err_and, IfOk-from_err}
use Rattle.rx_forms.specs.Fronts.{Front, first_front, after_route, route_within}
use Rattle.rx_forms.proofs.choices.reach.Goals as goal

few_ends : (s n t : ℕ) → s ≡ 1 → n ≡ t → n < 190 → s + t ≤ 190
few_ends s n t e h k = omega (arith, e, h, k)

room_first : (d n : ℕ) → d ≡ 1 + n → n < 190 → d ≤ 190
room_first d n e k = omega (arith, e, k)

pub start-builder-requires : goal.start-builder-requires
start-builder-requires c = record { few = c.requires.few }

pub gather_path-requires : goal.gather_path-requires
gather_path-requires c =
    let e = c.start-builder.ensures in
    record {
      few = few_ends c.start-builder.result.scalar c.args.count _ (ap (λ (x : Front). x.scalar) e) c.requires.count c.requires.few;
      room = room_first c.start-builder.result.work.next c.args.count (ap (λ (x : Front). x.division) e) c.requires.few;
    }

pub returns-in_err-gather_path : goal.returns-in_err-gather_path
returns-in_err-gather_path c =
    let domains = c.args.message.now.domains in
    let m = c.args.message.now.graph in
    let path = c.args.path.now in
    let e = c.start-builder.ensures ∙ ap first_front c.requires.count in
    let p = err_from_is_err_and c.from_residual.result c.from_residual.ensures.1 in
    record {
      front = IfOk-from_err c.from_residual.result _ c.from_residual.ensures.0;
      within = IfOk-from_err c.from_residual.result _ c.from_residual.ensures.0;
      room = IfOk-from_err c.from_residual.result _ c.from_residual.ensures.0;
      limit = rw (p.1, p.2) (λ x. sym (ap (λ (y : Front). route_within domains m y path) e) ∙ c.in_err-gather_path.ensures.gathered.limit x);
    }

pub returns : goal.returns
returns c =
    let domains = c.args.message.now.domains in
    let m = c.args.message.now.graph in
    let path = c.args.path.now in
    let e = c.start-builder.ensures ∙ ap first_front c.requires.count in
    let g = c.in_ok-gather_path.ensures in
    record {
      front = g.gathered.gone ∙ ap (λ (y : Front). after_route domains m y path) e;
      within = sym (ap (λ (y : Front). route_within domains m y path) e) ∙ g.gathered.within;
      room = g.room;
      limit = tt;
    }
