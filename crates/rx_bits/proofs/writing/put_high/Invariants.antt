use Rattle.std.proofs.Common.{◌≡◌, ◌+◌, ◌-◌, ◌*◌, ◌/◌, ◌^◌, take}
use Rattle.rx_model.specs.Bits.{number_at}
use Rattle.rx_bits.specs.Outside.{SameOutside}
use Rattle.rx_bits.proofs.writing.put_high.Given as goal

-- the bits of the number so far
abbrev pub invariant-loop-index : goal.invariant-loop-index
invariant-loop-index l = record {
  number : number_at l.bytes (8 * l.at + l.offset) l.index ≡ l.value / 2 ^ (l.size - l.index);
  others : SameOutside (8 * l.at + l.offset) l.index l.initial.bytes l.bytes;
  before : take l.at l.bytes ≡ take l.at l.initial.bytes;
}
