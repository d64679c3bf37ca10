use Rattle.std.proofs.Common.{◌≤◌, length, take}
use Rattle.rx_report.specs.Reported.{messages_of, total_in}
use Rattle.rx_report.proofs.Messages.{IsToldOf}
use Rattle.rx_report.proofs.reporting.report_package.Given as goal

-- the messages so far are told
abbrev pub invariant-loop-place : goal.invariant-loop-place
invariant-loop-place l = record {
  told : IsToldOf l.spec.domains l.splits (messages_of l.name (take l.place l.spec.graphs)) l.reported;
  bounded : total_in l.reported ≤ length l.reported.text.items;
}
