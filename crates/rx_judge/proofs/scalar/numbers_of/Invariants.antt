use Rattle.std.proofs.Common.{◌≡◌, length}
use Rattle.rx_judge.specs.Scalar.{number_of_literal}
use Rattle.rx_judge.proofs.Each.{Sofar}
use Rattle.rx_judge.proofs.scalar.numbers_of.Given as goal

abbrev pub invariant-loop-literal : goal.invariant-loop-literal
invariant-loop-literal l = record {
  sofar : Sofar (number_of_literal l.owner) l.literals l.literal-index l.numbers.items;
  count : length l.numbers.items ≡ l.literal-index;
}
