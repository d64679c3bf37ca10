use Rattle.std.proofs.Common.{◌≡◌, ◌++◌, drop}
use Rattle.rx_lines.specs.Subjects.{number_among, values_from}
use Rattle.rx_lines.proofs.Numbers.{AllBelow}
use Rattle.rx_lines.proofs.values.assign.Given as goal

-- the fields so far, with those that are left
abbrev pub invariant-loop-place : goal.invariant-loop-place
invariant-loop-place l = record {
  left : l.values ++ values_from (λ f. number_among f l.fields l.numbers) l.place (drop l.place l.message.graph.fields) ≡ values_from (λ f. number_among f l.fields l.numbers) 0 l.message.graph.fields;
  below : AllBelow l.place l.values;
}
