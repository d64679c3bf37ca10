use Rattle.std.proofs.Common.{◌≡◌, ◌<◌, ◌^◌, take}
use Rattle.rx_syntax.specs.Numbers.{value_of}
use Rattle.rx_syntax.proofs.number.value_of.Given as goal

-- the number of the bytes so far
abbrev pub invariant-loop-byte : goal.invariant-loop-byte
invariant-loop-byte l = record {
  number : l.number ≡ value_of l.base (take l.byte-index l.run);
  fits : l.number < 2 ^ 128;
}
