use Rattle.std.proofs.Common.{◌∙◌}
use Rattle.rx_lines.specs.Reports.{line_text}
use Rattle.rx_report.specs.Reported.{counts_in}
use Rattle.rx_report.proofs.Counting.{counted_more}
use Rattle.rx_report.proofs.Texts.{text_more}
use Rattle.rx_report.proofs.lines.add_lines.Goals as goal

pub loop-line-preserved : goal.loop-line-preserved
loop-line-preserved c =
    let tell = line_text c.args.message.now.domains c.args.message.now.graph c.args.splits in
    let i = c.loop-line.line-index in
    let line = c.line-item.result in
    record {
      text =
          text_more tell c.args.lines.now i line line c.loop-line.reported.text.items c.add_line.new.reported.text.items c.loop-line-test.true c.line-item.is c.in_ok-add_line.ensures.text
          ∙ c.loop-line.invariant.text;
      counts =
          counted_more c.args.lines.now i line (counts_in c.loop-line.reported) (counts_in c.add_line.new.reported) c.loop-line-test.true c.line-item.is c.in_ok-add_line.ensures.counts
          ∙ c.loop-line.invariant.counts;
      bounded = c.in_ok-add_line.ensures.bounded;
    }
