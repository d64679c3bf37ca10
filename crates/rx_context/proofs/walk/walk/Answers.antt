use Rattle.std.proofs.Common.{[], ◌∷◌, sym, ap, ◌∙◌, subst, length, length-append, arith}
use Rattle.rx_types.specs.Environment.{placed}
use Rattle.rx_graph.specs.declared.message.Node.TheVariants.{At}
use Rattle.rx_context.specs.Plan.{planned}
use Rattle.rx_context.proofs.OnPath.{AreOnPath, are_read, known, few, distinct_fields, goes_on, reads_by, stops_by}
use Rattle.rx_context.proofs.walk.walk.Goals as goal

pub next_step-requires-clause-known : goal.next_step-requires-clause-known
next_step-requires-clause-known c =
    known (planned c.args.kept.now) c.args.bytes.now c.loop-entry.env.fields c.loop-entry.at c.loop-entry.invariant.on c.loop-entry.env.total c.loop-entry.invariant.total c.requires.plan

pub next_step-requires-clause-reads : goal.next_step-requires-clause-reads
next_step-requires-clause-reads c =
    are_read (planned c.args.kept.now) c.args.bytes.now c.loop-entry.env.fields c.loop-entry.at c.loop-entry.invariant.on

pub push-requires-clause-room : goal.push-requires-clause-room
push-requires-clause-room c =
    let most = few (planned c.args.kept.now) c.args.bytes.now c.loop-entry.env.fields c.loop-entry.at c.loop-entry.invariant.on c.requires.plan in
    omega (arith, most)

pub push-requires-clause-new : goal.push-requires-clause-new
push-requires-clause-new c =
    let p = planned c.args.kept.now in
    let on = goes_on p c.args.bytes.now c.loop-entry.env.fields c.loop-entry.at c.loop-entry.invariant.on c.loop-entry.env.total c.loop-entry.invariant.total (placed c.in-To.entry) c.in-To.ensures in
    distinct_fields p c.args.bytes.now _ (At c.in-To.entry.field) on c.requires.plan

pub loop-entry-smaller : goal.loop-entry-smaller
loop-entry-smaller c =
    let most = few (planned c.args.kept.now) c.args.bytes.now c.loop-entry.env.fields c.loop-entry.at c.loop-entry.invariant.on c.requires.plan in
    omega (arith, most, ap (λ e. length e.fields) c.push.ensures, length-append c.loop-entry.env.fields (placed c.in-To.entry ∷ []))

pub loop-entry-preserved : goal.loop-entry-preserved
loop-entry-preserved c =
    let p = planned c.args.kept.now in
    record {
      total = ap (λ e. e.total) c.push.ensures ∙ c.loop-entry.invariant.total;
      on = subst (λ e. AreOnPath p c.args.bytes.now e.fields (At c.in-To.entry.field)) (sym c.push.ensures) (goes_on p c.args.bytes.now c.loop-entry.env.fields c.loop-entry.at c.loop-entry.invariant.on c.loop-entry.env.total c.loop-entry.invariant.total (placed c.in-To.entry) c.in-To.ensures);
    }

pub returns-in-Done-clause-reads : goal.returns-in-Done-clause-reads
returns-in-Done-clause-reads c =
    reads_by (planned c.args.kept.now) c.args.bytes.now c.loop-entry.env.fields c.loop-entry.at c.loop-entry.invariant.on c.loop-entry.env.total c.loop-entry.invariant.total c.in-Done.ensures

pub returns-in-Stop-clause-stops : goal.returns-in-Stop-clause-stops
returns-in-Stop-clause-stops c =
    stops_by (planned c.args.kept.now) c.args.bytes.now c.loop-entry.env.fields c.loop-entry.at c.loop-entry.invariant.on c.loop-entry.env.total c.loop-entry.invariant.total c.in-Stop.stuck c.in-Stop.ensures
