use Rattle.std.proofs.Common.{◌∙◌, ap, ◌++◌, List}
use Rattle.rx_checks.specs.declared.report.Line.{Line}
use Rattle.rx_graph.specs.Typed.{Typed}
use Rattle.rx_lines.specs.Reports.{lines_text}
use Rattle.rx_report.specs.Counts.{counted}
use Rattle.rx_report.specs.Reported.{counts_in}
use Rattle.rx_report.proofs.reporting.add_message.Goals as goal

pub returns-clause-adds : goal.returns-clause-adds
returns-clause-adds c =
    let old = c.args.reported.now in
    let told = ap (λ (t : Typed). old.text.items ++ lines_text t.domains t.graph c.args.splits c.as_slice-lines.result.now) c.elaborated.ensures in
    let tell = lines_text c.args.message.now.domains c.args.message.now.graph c.args.splits in
    record {
      report = c.in_ok-report.report;
      is = c.in_ok-report.ensures;
      counts = c.in_ok-add_lines.ensures.counts ∙ ap (λ (ls : List Line). counted ls (counts_in old)) c.as_slice-lines.ensures.value;
      text = c.in_ok-add_lines.ensures.text ∙ told ∙ ap (λ (ls : List Line). old.text.items ++ tell ls) c.as_slice-lines.ensures.value;
    }
