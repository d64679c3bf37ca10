use Rattle.std.proofs.Common.{◌≡◌, ◌+◌, ◌-◌, ◌*◌, ◌^◌, ◌<◌}
use Rattle.rx_model.specs.Bits.{number, place_bits, reversed_groups}
use Rattle.rx_bits.proofs.reading.low_number.Given as goal

-- the number of the groups from `index` on
abbrev pub invariant-loop-index : goal.invariant-loop-index
invariant-loop-index l = record {
  number : l.number ≡ number (reversed_groups (place_bits (l.first + 8 * l.index) (8 * (l.count - l.index)) l.bytes));
  below : l.number < 2 ^ (8 * (l.count - l.index));
}
