use Rattle.std.proofs.Common.{[], ◌∷◌}
use Rattle.rx_checks.proofs.NextLines.{UpTo}
use Rattle.rx_checks.proofs.lines.judge_lines.Given as goal

abbrev pub invariant-loop-line : goal.invariant-loop-line
invariant-loop-line l = UpTo l.path.domains l.path.graph l.splits l.path.node (l.path.path ∷ []) l.line-index l.fn.lines l.lines
