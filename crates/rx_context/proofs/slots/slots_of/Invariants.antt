use Rattle.std.proofs.Common.{◌≡◌, length}
use Rattle.rx_context.specs.Slots.{AreSlots}
use Rattle.rx_context.proofs.slots.slots_of.Given as goal

-- the places of the fields so far
abbrev pub invariant-loop-index : goal.invariant-loop-index
invariant-loop-index l = record {
  slots : AreSlots l.entries l.slots l.index;
  size : length l.slots ≡ 128;
}
