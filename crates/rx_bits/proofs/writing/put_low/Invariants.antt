use Rattle.std.proofs.Common.{◌≡◌, ◌+◌, ◌-◌, ◌*◌, ◌/◌, ◌^◌, take}
use Rattle.rx_model.specs.Bits.{number, place_bits, reversed_groups}
use Rattle.rx_bits.specs.Outside.{SameOutside}
use Rattle.rx_bits.proofs.writing.put_low.Given as goal

-- the groups from `index` on
abbrev pub invariant-loop-index : goal.invariant-loop-index
invariant-loop-index l = record {
  number : number (reversed_groups (place_bits (8 * l.at + l.offset + 8 * l.index) (8 * (l.count - l.index)) l.bytes)) ≡ l.value / 2 ^ (8 * l.index);
  others : SameOutside (8 * l.at + l.offset) (8 * l.count) l.initial.bytes l.bytes;
  before : take l.at l.bytes ≡ take l.at l.initial.bytes;
}
