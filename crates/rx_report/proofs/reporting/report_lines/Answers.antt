use Rattle.std.proofs.Common.{◌∙◌, sym, ap, subst, [], ◌++◌, List}
use Rattle.rx_checks.specs.declared.report.Line.{Line}
use Rattle.rx_graph.specs.Typed.{Typed}
use Rattle.rx_lines.specs.Reports.{lines_text}
use Rattle.rx_report.specs.Counts.{counted}
use Rattle.rx_report.specs.Reported.{counts_in}
use Rattle.rx_report.proofs.Counting.{IsOpen, open_unless_passed}
use Rattle.rx_report.proofs.Messages.{told_none, told_more, told_whole}
use Rattle.rx_report.proofs.reporting.report_lines.Goals as goal

pub returns-clause-is : goal.returns-clause-is
returns-clause-is c =
    let domains = c.args.message.now.domains in
    let m = c.args.message.now.graph in
    let none = c.new-reported.result in
    let counts = c.in_ok-add_lines.ensures.counts ∙ ap (λ (ls : List Line). counted ls (counts_in none)) c.as_slice-lines.ensures.value in
    let typed = ap (λ (t : Typed). none.text.items ++ lines_text t.domains t.graph c.args.splits c.as_slice-lines.result.now) c.elaborated.ensures in
    let text = c.in_ok-add_lines.ensures.text ∙ typed ∙ ap (λ (ls : List Line). none.text.items ++ lines_text domains m c.args.splits ls) c.as_slice-lines.ensures.value in
    let told = told_more domains c.args.splits [] m none c.add_lines.new.reported (told_none domains c.args.splits none c.new-reported.ensures.counts c.new-reported.ensures.text) (record { report = c.args.report.now; is = c.requires.is; counts = counts; text = text }) in
    told_whole domains c.args.splits _ c.add_lines.new.reported c.close.new.self told c.close.ensures.counts c.in_ok-close.ensures.text

pub returns-clause-unpassed : goal.returns-clause-unpassed
returns-clause-unpassed c =
    let none = counts_in c.new-reported.result in
    let lines = c.args.report.now.lines.items in
    let counts = c.close.ensures.counts ∙ (c.in_ok-add_lines.ensures.counts ∙ ap (λ (ls : List Line). counted ls none) c.as_slice-lines.ensures.value) in
    subst IsOpen (sym counts) (open_unless_passed lines none c.requires.unpassed)
