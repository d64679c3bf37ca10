use Rattle.std.proofs.Common.{◌≡◌, ◌++◌, drop}
use Rattle.std.specs.List.{flat_map}
use Rattle.rx_lines.specs.Subjects.{step_text}
use Rattle.rx_lines.proofs.path.put_steps.Given as goal

-- the text with the links that are left is the whole text
abbrev pub invariant-loop-place : goal.invariant-loop-place
invariant-loop-place l =
    l.text.items ++ flat_map (step_text l.message.graph) (drop l.place-index l.path) ≡ l.fn.text.items ++ flat_map (step_text l.message.graph) l.path
