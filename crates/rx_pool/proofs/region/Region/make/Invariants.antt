use Rattle.std.proofs.Common.{◌≡◌, ℕ, ◌<◌, ◌≤◌, [], length, replicate, vec_capacity}
use Rattle.std.specs.Prelude.{All}
use Rattle.rx_pool.specs.Pool.{times}
use Rattle.rx_pool.specs.Rooms.{written, capacities}
use Rattle.rx_pool.proofs.region.Region.make.Given as goal

-- the rooms so far are reserved, and their numbers are free
abbrev pub invariant-loop-number : goal.invariant-loop-number
invariant-loop-number l = record {
  rooms : written l.rooms.items ≡ replicate l.number [];
  reserved : All (λ capacity. l.slot_bytes ≤ capacity) (capacities l.rooms.items);
  numbers : l.slots ≤ vec_capacity l.free;
  free : length l.free.items ≡ l.number;
  all_free : (n : ℕ) → n < l.number → times n l.free.items ≡ 1;
  no_more : (n : ℕ) → l.number ≤ n → times n l.free.items ≡ 0;
}
