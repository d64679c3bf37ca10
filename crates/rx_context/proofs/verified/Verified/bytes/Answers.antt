use Rattle.std.proofs.Common.{◌+◌, ◌*◌, ◌/◌, ◌<◌, ◌≤◌, ◌^◌, length, ap, sym, ◌∙◌, subst, arith, rules}
use Rattle.std.specs.Prelude.{pos, slice_range}
use Rattle.rx_context.proofs.Within.{ends_within, part_short, part_size}
use Rattle.rx_context.proofs.verified.Verified.bytes.Goals as goal

pub slice_bounds-result-end : goal.slice_bounds-result-end
slice_bounds-result-end c =
    let place = c.entry-entry.ensures.place in
    let h = ends_within c.args.self.now c.entry-entry.ensures.reading c.args.field c.entry-entry.result.first c.entry-entry.result.size (ap (λ p. p.first) place) (ap (λ p. p.size) place) in
    let q : (c.entry-entry.result.first + c.entry-entry.result.size) / 8 ≤ length c.self.inside.bytes.now = omega (arith, h, ap (λ r. length r.bytes) c.self.view_is) in
    search (rules, q)

pub returns-clause-short : goal.returns-clause-short
returns-clause-short c =
    let place = c.entry-entry.ensures.place in
    let h = ends_within c.args.self.now c.entry-entry.ensures.reading c.args.field c.entry-entry.result.first c.entry-entry.result.size (ap (λ p. p.first) place) (ap (λ p. p.size) place) in
    subst (λ b. length (slice_range b (c.entry-entry.result.first / 8) ((c.entry-entry.result.first + c.entry-entry.result.size) / 8)) < 2 ^ 24) (sym (ap (λ r. r.bytes) c.self.view_is)) (part_short c.args.self.now c.entry-entry.ensures.reading (c.entry-entry.result.first / 8) ((c.entry-entry.result.first + c.entry-entry.result.size) / 8) (omega (arith, h)))

pub returns-clause-size : goal.returns-clause-size
returns-clause-size c =
    λ domains m s none.
    let place = c.entry-entry.ensures.place in
    let size = part_size domains m c.args.self.now c.entry-entry.ensures.reading s c.args.field c.entry-entry.result.first c.entry-entry.result.size none (ap (λ p. p.first) place) (ap (λ p. p.size) place) in
    ap (λ b. pos (8 * length (slice_range b (c.entry-entry.result.first / 8) ((c.entry-entry.result.first + c.entry-entry.result.size) / 8)))) (ap (λ r. r.bytes) c.self.view_is) ∙ ap pos size ∙ ap (λ p. p.size) place
