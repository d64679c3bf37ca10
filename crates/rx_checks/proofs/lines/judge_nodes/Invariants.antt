use Rattle.std.proofs.Common.{◌≡◌, map}
use Rattle.rx_checks.proofs.NextLines.{AreBehind}
use Rattle.rx_checks.proofs.lines.judge_nodes.Given as goal

abbrev pub invariant-loop-place : goal.invariant-loop-place
invariant-loop-place l = record {
  goals : map (λ line. line.goal) l.lines ≡ map (λ line. line.goal) l.fn.lines;
  behind : AreBehind l.message.domains l.message.graph l.splits l.place l.lines;
}
