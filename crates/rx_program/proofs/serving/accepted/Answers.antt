use Rattle.std.proofs.Common.{◌∙◌, ap, subst, sym, Some}
use Rattle.rx_graph.specs.Typed.{Typed}
use Rattle.rx_report.specs.Reported.{Passes}
use Rattle.rx_program.specs.Request.{Serves}
use Rattle.rx_program.proofs.AnswerLemmas.{served_by}
use Rattle.rx_program.proofs.serving.accepted.Goals as goal

pub of-requires : goal.of-requires
of-requires c =
    let passes : Passes c.in-Some.message.domains c.args.ask.now.splits c.in-Some.message.graph = rw c.in-Accepted.is at c.in_ok-examined.ensures in
    let here = subst (λ (m : Typed). Passes m.domains c.args.ask.now.splits m.graph) (sym c.elaborated-elaborated.ensures) passes in
    c.reports_show_soundness.ensures c.args.ask.now.splits here.report here.is here.passed

pub returns-in-Accepted-clause-serves : goal.returns-in-Accepted-clause-serves
returns-in-Accepted-clause-serves c =
    let passes : Passes c.in-Some.message.domains c.args.ask.now.splits c.in-Some.message.graph = rw c.in-Accepted.is at c.in_ok-examined.ensures in
    let here = subst (λ (m : Typed). Passes m.domains c.args.ask.now.splits m.graph) (sym c.elaborated-elaborated.ensures) passes in
    let sound = c.reports_show_soundness.ensures c.args.ask.now.splits here.report here.is here.passed in
    let there = ap (λ (m : Typed). Some m) c.elaborated-elaborated.ensures ∙ sym c.in-Some.is ∙ c.find_message.ensures in
    let serves = served_by c.args.spec.now c.args.ask.now.name c.args.ask.now.splits c.args.name.now c.elaborated-elaborated.result.now there here sound c.all_are_named.ensures in
    subst (λ (m : Typed). Serves c.args.spec.now c.args.ask.now.name c.args.ask.now.splits c.args.name.now m.graph) (sym c.of.ensures) serves
