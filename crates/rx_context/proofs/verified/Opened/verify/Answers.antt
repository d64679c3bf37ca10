use Rattle.std.proofs.Common.{subst}
use Rattle.rx_context.specs.Contexts.{ReadsBy, ReadsNothingBy, StopsBy}
use Rattle.rx_context.proofs.Lookup.{reads_few, reads_low, finds}
use Rattle.rx_context.proofs.OnPath.{reads_nothing, only_reading}
use Rattle.rx_context.proofs.verified.Opened.verify.Goals as goal

pub returns-in-Ok-clause-only : goal.returns-in-Ok-clause-only
returns-in-Ok-clause-only c =
    only_reading c.self.inside.plan.now c.self.inside.bytes.now c.walk.new.env.fields (subst (λ p. ReadsBy p c.self.inside.bytes.now c.walk.new.env.fields) c.kept.ensures.value c.in-Ok.ensures.reads)

pub returns-in-Err-clause-none : goal.returns-in-Err-clause-none
returns-in-Err-clause-none c =
    subst (λ o. ReadsNothingBy o.plan o.bytes) c.self.view_is (reads_nothing c.self.inside.plan.now c.self.inside.bytes.now c.in-Err.stuck (subst (λ p. StopsBy p c.self.inside.bytes.now c.in-Err.stuck) c.kept.ensures.value c.in-Err.ensures.stops))

pub slots_of-slots-requires-clause-few : goal.slots_of-slots-requires-clause-few
slots_of-slots-requires-clause-few c =
    reads_few c.self.inside.plan.now c.self.inside.bytes.now c.walk.new.env.fields c.kept.ensures.plan (subst (λ p. ReadsBy p c.self.inside.bytes.now c.walk.new.env.fields) c.kept.ensures.value c.in-Ok.ensures.reads) c.entries.result.now c.entries.ensures.entries

pub slots_of-slots-requires-clause-low : goal.slots_of-slots-requires-clause-low
slots_of-slots-requires-clause-low c =
    reads_low c.self.inside.plan.now c.self.inside.bytes.now c.walk.new.env.fields c.kept.ensures.plan (subst (λ p. ReadsBy p c.self.inside.bytes.now c.walk.new.env.fields) c.kept.ensures.value c.in-Ok.ensures.reads) c.entries.result.now c.entries.ensures.entries

pub invariant_of-result : goal.invariant_of-result
invariant_of-result c =
    (record { plan = c.kept.ensures.plan; reads = subst (λ p. ReadsBy p c.self.inside.bytes.now c.walk.new.env.fields) c.kept.ensures.value c.in-Ok.ensures.reads }, finds c.entries.result.now c.walk.new.env.fields c.slots_of-slots.result c.entries.ensures.entries c.slots_of-slots.ensures)
