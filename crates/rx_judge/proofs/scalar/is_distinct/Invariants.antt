use Rattle.std.proofs.Common.{◌≡◌, take, drop}
use Rattle.rx_judge.specs.Scalar.{is_distinct}
use Rattle.rx_judge.proofs.Distinct.{rest}
use Rattle.rx_judge.proofs.scalar.is_distinct.Given as goal

abbrev pub invariant-loop-number : goal.invariant-loop-number
invariant-loop-number l = record {
  rest : is_distinct l.numbers ≡ rest (take l.number-index l.numbers) (drop l.number-index l.numbers);
  keys : l.seen.keys ≡ take l.number-index l.numbers;
}
