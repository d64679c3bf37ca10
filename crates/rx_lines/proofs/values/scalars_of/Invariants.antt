use Rattle.std.proofs.Common.{◌≡◌, ◌++◌, drop}
use Rattle.rx_lines.specs.Subjects.{scalars_of}
use Rattle.rx_lines.proofs.values.scalars_of.Given as goal

-- the scalars so far, with those of the links that are left
abbrev pub invariant-loop-place : goal.invariant-loop-place
invariant-loop-place l =
    l.fields.items ++ scalars_of l.message.domains l.message.graph (drop l.place-index l.path) ≡ scalars_of l.message.domains l.message.graph l.path
