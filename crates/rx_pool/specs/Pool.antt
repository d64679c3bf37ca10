-- A region of slots as its callers see it.
--   Pool                    the region
--   times, IsOut, AreApart  where the number of a slot is
--   IsPool, IsFresh         what is true of every region, and of one just made
--   slot_of, with_slot      the bytes of one slot
--   overwritten             what a write leaves of them
--   SameBytes               what stays where a number moves
use Rattle.std.specs.Prelude.{◌≡◌, ℕ, ◌+◌, ◌<◌, ◌≤◌, ◌==◌, if◌then◌else◌, List, [], ◌∷◌, ◌++◌, length, take, drop, replicate, slice_index_or, slice_set, All}

-- how many bytes each slot has, how many slots there are, which numbers are free, and the bytes of every slot;
-- the slots have the numbers below their count
pub record Pool : Type 0 where
  pub size : ℕ
  pub count : ℕ
  pub free : List ℕ
  pub slots : List (List ℕ)

-- how often a number stands in a list
abbrev pub times : ℕ → List ℕ → ℕ
times n [] = 0
times n (m ∷ ms) = (if n == m then 1 else 0) + times n ms

-- the number of a slot that is not free
abbrev pub IsOut : Pool → ℕ → Type 0
IsOut p n = (n < p.count) × (times n p.free ≡ 0)

-- where slots of these numbers are held: none of them is free, and no number is held twice
abbrev pub AreApart : Pool → List ℕ → Type 0
AreApart p held = (n : ℕ) → times n p.free + times n held ≤ 1

-- only slots are free, none of them twice, and each slot has just the bytes that the region states, at least one
pub record IsPool (p : Pool) : Type 0 where
  pub some : 0 < p.size
  pub slots_only : (n : ℕ) → p.count ≤ n → times n p.free ≡ 0
  pub once : (n : ℕ) → times n p.free ≤ 1
  pub every : length p.slots ≡ p.count
  pub whole : All (λ bytes. length bytes ≡ p.size) p.slots

-- all slots are free, and their bytes are zeros
pub record IsFresh (slots slot_bytes : ℕ) (p : Pool) : Type 0 where
  pub size : p.size ≡ slot_bytes
  pub count : p.count ≡ slots
  pub bytes : p.slots ≡ replicate slots (replicate slot_bytes 0)
  pub all_free : (n : ℕ) → n < slots → times n p.free ≡ 1
  pub free : length p.free ≡ slots

-- the bytes of a slot
abbrev pub slot_of : Pool → ℕ → List ℕ
slot_of p n = slice_index_or p.slots n []

-- the region with these bytes in one slot
abbrev pub with_slot : Pool → ℕ → List ℕ → Pool
with_slot p n bytes = record { size = p.size; count = p.count; free = p.free; slots = slice_set p.slots n bytes }

-- the bytes with others written over their front; they stay as many
abbrev pub overwritten : List ℕ → List ℕ → List ℕ
overwritten bytes others = take (length bytes) (others ++ drop (length others) bytes)

-- as many slots, each with the bytes that it had
pub record SameBytes (old new : Pool) : Type 0 where
  pub size : new.size ≡ old.size
  pub count : new.count ≡ old.count
  pub slots : new.slots ≡ old.slots
