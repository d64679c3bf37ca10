use Rattle.std.proofs.Common.{◌≡◌, ◌-◌, ◌≤◌, length, vec_capacity}
use Rattle.rx_pool.specs.Rooms.{padded}
use Rattle.rx_pool.proofs.rooms.fill.Given as goal

-- zeros that are written are those that stood for them
abbrev pub invariant-loop-room : goal.invariant-loop-room
invariant-loop-room l = record {
  short : length l.room.items ≤ l.size;
  same : padded l.size l.room.items ≡ padded l.size l.fn.room.items;
  reserved : l.size ≤ vec_capacity l.room;
  capacity : vec_capacity l.fn.room ≤ vec_capacity l.room;
}

abbrev pub decreases-loop-room : goal.decreases-loop-room
decreases-loop-room l = l.size - length l.room.items
