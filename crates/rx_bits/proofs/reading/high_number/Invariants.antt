use Rattle.std.proofs.Common.{◌≡◌, ◌^◌, ◌<◌}
use Rattle.rx_model.specs.Bits.{number, place_bits}
use Rattle.rx_bits.proofs.reading.high_number.Given as goal

-- the number of the bits so far
abbrev pub invariant-loop-index : goal.invariant-loop-index
invariant-loop-index l = record {
  number : l.number ≡ number (place_bits l.first l.index l.bytes);
  below : l.number < 2 ^ l.index;
}
