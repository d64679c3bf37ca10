use Rattle.std.proofs.Common.{◌≡◌, ◌≤◌, take}
use Rattle.rx_words.specs.Numbers.{decimal}
use Rattle.rx_words.proofs.numbers.decimal_up_to.Given as goal

-- the number of the digits so far
abbrev pub invariant-loop-digit : goal.invariant-loop-digit
invariant-loop-digit l = record {
  number : l.number ≡ decimal (take l.digit-index l.digits);
  small : l.number ≤ l.most;
}
