use Rattle.std.proofs.Common.{take}
use Rattle.rx_checks.specs.Lines.{AreNextLines}
use Rattle.rx_checks.proofs.lines.judge_node.Given as goal

abbrev pub invariant-loop-path : goal.invariant-loop-path
invariant-loop-path l = AreNextLines l.message.domains l.message.graph l.splits l.node (take l.path-index l.path-items) l.fn.lines l.lines
