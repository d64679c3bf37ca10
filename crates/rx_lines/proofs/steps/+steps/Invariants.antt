use Rattle.std.proofs.Common.{◌≡◌, ◌+◌, drop}
use Rattle.rx_checks.specs.Steps.{total_steps}
use Rattle.rx_lines.proofs.steps.+steps.Given as goal

abbrev pub invariant-total_steps-loop-proof : goal.invariant-total_steps-loop-proof
invariant-total_steps-loop-proof l = l.sum + total_steps (drop l.proof-index l.proofs) ≡ total_steps l.proofs
