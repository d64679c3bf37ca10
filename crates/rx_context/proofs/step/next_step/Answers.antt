use Rattle.std.proofs.Common.{sym, subst, arith}
use Rattle.rx_graph.specs.Fits.{by_buffer}
use Rattle.rx_graph.specs.Paths.{first_of, LiesWithin}
use Rattle.rx_context.specs.Plan.{planned}
use Rattle.rx_context.specs.Steps.{IsStep}
use Rattle.rx_context.proofs.Standing.{readable, read_as, refused_as}
use Rattle.rx_context.proofs.Placing.{places, is_read, refused, too_short}
use Rattle.rx_context.proofs.step.next_step.Goals as goal

pub number-requires-clause-within : goal.number-requires-clause-within
number-requires-clause-within c =
    let r = c.requires.known in
    let t = c.in-To.ensures r.0 r.1 r.2 in
    omega (arith, t.4, c.requires.total)

pub number-requires-clause-readable : goal.number-requires-clause-readable
number-requires-clause-readable c =
    let r = c.requires.known in
    let t = c.in-To.ensures r.0 r.1 r.2 in
    readable r.0 r.1 (planned c.args.kept.now) r.2 t.0 c.args.env.now c.in-To.field c.in-To.size t.3

pub returns-in-Some : goal.returns-in-Some
returns-in-Some c =
    λ domains m s.
    let t = c.in-To.ensures domains m s in
    let read = read_as domains m (planned c.args.kept.now) s c.args.bytes.now c.in-To.field c.in-To.first c.in-To.size c.in-Some.number c.in-Some.ensures.some in
    (t.1.index, t.0, t.1.is, t.1.source, places domains m c.args.bytes.now c.args.env.now c.args.at c.in-To.field t.0 t.1 c.in-To.first c.in-To.size t.2 t.3 t.4 s.elaborated (c.requires.reads domains m s) c.in-Some.number read, is_read domains m c.args.bytes.now c.args.env.now c.args.at c.in-To.field t.0 t.1 c.in-To.first c.in-To.size t.2 t.3 t.4 c.in-Some.number read)

pub returns-in-None : goal.returns-in-None
returns-in-None c =
    λ domains m s.
    let t = c.in-To.ensures domains m s in
    let wrong = refused_as domains m (planned c.args.kept.now) s c.args.bytes.now c.in-To.field c.in-To.first c.in-To.size c.in-None.ensures.none in
    subst (λ r. IsStep domains m (by_buffer m.low_order c.args.bytes.now) c.args.env.now c.args.at r) (sym c.stop.ensures) (refused domains m c.args.bytes.now c.args.env.now c.args.at c.in-To.field t.0 t.1 c.in-To.first c.in-To.size t.2 t.3 t.4 wrong)

pub returns-in-Short : goal.returns-in-Short
returns-in-Short c =
    λ domains m s.
    let t = c.in-Short.ensures domains m s in
    subst (λ r. IsStep domains m (by_buffer m.low_order c.args.bytes.now) c.args.env.now c.args.at r) (sym c.stop-in-Short.ensures) (too_short domains m c.args.bytes.now c.args.env.now c.args.at c.in-Short.field t.0 t.1 (subst (λ z. LiesWithin c.args.env.now (first_of t.0 c.args.env.now) z → ⊥) (sym t.3) (subst (λ z. LiesWithin c.args.env.now z c.in-Short.size → ⊥) (sym t.2) t.4)))

pub returns-in-Nothing : goal.returns-in-Nothing
returns-in-Nothing c =
    λ domains m s.
    subst (λ r. IsStep domains m (by_buffer m.low_order c.args.bytes.now) c.args.env.now c.args.at r) (sym c.stop-in-Nothing.ensures) (c.field_of-in-Nothing.ensures, c.in-Nothing.ensures domains m s)
