use Rattle.std.proofs.Common.{subst}
use Rattle.rx_graph.specs.Typed.{Typed}
use Rattle.rx_context.specs.Plan.{StandsFor}
use Rattle.rx_checks.specs.Laws.{ReportsShowSoundness}
use Rattle.message_trials.proofs.worked.plan_of.Goals as goal

pub over-sound-requires-clause-sound : goal.over-sound-requires-clause-sound
over-sound-requires-clause-sound c =
    let law = subst (λ (t : Typed). ReportsShowSoundness t.domains t.graph) c.known-elaborated.ensures c.reports_show_soundness.ensures in
    law 1024 c.in_ok-report.report c.in_ok-report.ensures (c.accepted.ensures.0 c.if-accepted.true)

pub returns-then-accepted : goal.returns-then-accepted
returns-then-accepted c =
    let law = subst (λ (t : Typed). ReportsShowSoundness t.domains t.graph) c.known-elaborated.ensures c.reports_show_soundness.ensures in
    let sound = law 1024 c.in_ok-report.report c.in_ok-report.ensures (c.accepted.ensures.0 c.if-accepted.true) in
    record { stands = subst (λ (t : Typed). StandsFor t.domains t.graph c.in_ok-plan.plan) c.over-sound.ensures c.in_ok-plan.ensures; holds = sound.holds }
