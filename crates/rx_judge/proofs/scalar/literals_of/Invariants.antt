use Rattle.std.proofs.Common.{◌≡◌, length}
use Rattle.rx_judge.specs.Scalar.{literal_at}
use Rattle.rx_judge.proofs.Each.{Sofar}
use Rattle.rx_judge.proofs.scalar.literals_of.Given as goal

abbrev pub invariant-loop-literal : goal.invariant-loop-literal
invariant-loop-literal l = record {
  sofar : Sofar (literal_at l.numbers) l.literals l.literal-index l.named.items;
  count : length l.named.items ≡ l.literal-index;
}
