use Rattle.std.proofs.Common.{◌≡◌, ◌≤◌, ◌++◌, length, drop}
use Rattle.rx_lines.specs.Reports.{lines_text}
use Rattle.rx_report.specs.Counts.{counted}
use Rattle.rx_report.specs.Reported.{counts_in, total_in}
use Rattle.rx_report.proofs.lines.add_lines.Given as goal

-- with the lines that are left it is the whole text, and they are all counts
abbrev pub invariant-loop-line : goal.invariant-loop-line
invariant-loop-line l = record {
  text : l.reported.text.items ++ lines_text l.message.domains l.message.graph l.splits (drop l.line-index l.lines) ≡ l.fn.reported.text.items ++ lines_text l.message.domains l.message.graph l.splits l.lines;
  counts : counted (drop l.line-index l.lines) (counts_in l.reported) ≡ counted l.lines (counts_in l.fn.reported);
  bounded : total_in l.reported ≤ length l.reported.text.items;
}
