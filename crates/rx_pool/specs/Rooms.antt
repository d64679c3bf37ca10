-- How a region keeps its slots: the room of each is reserved whole, and filled when the slot is first taken.
--   written, capacities     the rooms
--   padded, pool_of         the region that they stand for
--   IsKept, IsReserved      what is true of them
use Rattle.std.specs.Prelude.{◌≡◌, ℕ, ◌-◌, ◌≤◌, List, [], ◌++◌, length, map, replicate, All, Vec, slice_index_or, vec_capacity}
use Rattle.std.specs.Global.{Global}
use Rattle.rx_pool.specs.Pool.{Pool, IsOut, IsPool}

-- the bytes that were written to each room so far
abbrev pub written : List (Vec ℕ Global) → List (List ℕ)
written rooms = map (λ room. room.items) rooms

-- how many bytes each room can take
abbrev pub capacities : List (Vec ℕ Global) → List ℕ
capacities rooms = map vec_capacity rooms

-- the bytes of a slot: zeros stand for those that were not written yet
abbrev pub padded : ℕ → List ℕ → List ℕ
padded size bytes = bytes ++ replicate (size - length bytes) 0

-- the region of rooms to which these bytes were written
abbrev pub pool_of : ℕ → List (List ℕ) → List ℕ → Pool
pool_of size rooms free = record { size = size; count = length rooms; free = free; slots = map (padded size) rooms }

-- the rooms stand for a region, and that of a slot that is out is filled
pub record IsKept (size : ℕ) (rooms : List (List ℕ)) (free : List ℕ) : Type 0 where
  pub pool : IsPool (pool_of size rooms free)
  pub filled : (n : ℕ) → IsOut (pool_of size rooms free) n → length (slice_index_or rooms n []) ≡ size

-- each room can take the bytes of its slot, and the list of free numbers can take them all
pub record IsReserved (size : ℕ) (rooms : List ℕ) (numbers : ℕ) : Type 0 where
  pub bytes : All (λ capacity. size ≤ capacity) rooms
  pub free : length rooms ≤ numbers
