use Rattle.std.proofs.Common.{◌≡◌, ℕ, List, map, take}
use Rattle.rx_types.specs.Domain.{Domain}
use Rattle.rx_graph.specs.Graph.{Graph}
use Rattle.rx_checks.specs.Lines.{AreFirst}
use Rattle.rx_checks.proofs.lines.first_lines.Given as goal

abbrev pub invariant-loop-goal : goal.invariant-loop-goal
invariant-loop-goal l = record {
  goals : map (λ line. line.goal) l.lines.items ≡ take l.goal-index l.goals;
  first : (domains : List Domain) (m : Graph) (splits : ℕ) → AreFirst domains m splits l.lines.items;
}
