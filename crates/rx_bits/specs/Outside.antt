-- Buffers that differ in one place at most.
--   SameOutside first size old new    the bits outside the `size` bits from bit `first` on are the same
use Rattle.std.specs.Prelude.{◌≡◌, ℕ, ◌+◌, ◌<◌, ◌≤◌, ◌⊎◌, List}
use Rattle.rx_model.specs.Bits.{bit_at}

abbrev pub SameOutside : ℕ → ℕ → List ℕ → List ℕ → Type 0
SameOutside first size old new = (i : ℕ) → (i < first) ⊎ (first + size ≤ i) → bit_at new i ≡ bit_at old i
