-- The bits of bytes and the numbers of their ranges. Bits are counted from 0, the most significant
-- of each byte first, and numbers are read most significant first.
--   byte_bits b, bits bytes       the bits of a byte and of bytes, as lists
--   bit_at bytes i                one bit by its index
--   number list                   the number of a list of bits
--   place_bits first size bytes   the bits of a place: `size` bits from bit `first` on
--   number_at bytes first size    the number of a place, by the indices of its bits
--   reversed_groups list          the groups of eight bits in reversed order
--   ordered low_order list        bits in the order in which their number is read
-- The list and the indices say the same: `get_or-bits` and `number-place_bits` of proofs/BitLemmas.
use Rattle.std.specs.Prelude.{ℕ, zero, suc, Bool, true, false, ◌+◌, ◌-◌, ◌*◌, ◌/◌, ◌%◌, ◌^◌, List, [], ◌∷◌, ◌++◌, take, drop, flat_map, fold, slice_index}

-- the bits of a byte, the most significant first
abbrev pub byte_bits : ℕ → List ℕ
byte_bits b = b / 128 % 2 ∷ b / 64 % 2 ∷ b / 32 % 2 ∷ b / 16 % 2 ∷ b / 8 % 2 ∷ b / 4 % 2 ∷ b / 2 % 2 ∷ b % 2 ∷ []

-- the bits of bytes
abbrev pub bits : List ℕ → List ℕ
bits bytes = flat_map byte_bits bytes

-- bit i of bytes
abbrev pub bit_at : List ℕ → ℕ → ℕ
bit_at bytes i = slice_index bytes (i / 8) / 2 ^ (7 - i % 8) % 2

-- the number of a list of bits
abbrev pub number : List ℕ → ℕ
number list = fold (λ n b. 2 * n + b) 0 list

-- the bits of a place
abbrev pub place_bits : ℕ → ℕ → List ℕ → List ℕ
place_bits first size bytes = take size (drop first (bits bytes))

-- the number of a place, bit by bit
abbrev pub number_at : List ℕ → ℕ → ℕ → ℕ
number_at bytes first zero = 0
number_at bytes first (suc n) = 2 * number_at bytes first n + bit_at bytes (first + n)

-- the groups of eight bits in reversed order; fewer than eight bits are one group
abbrev pub reversed_groups : List ℕ → List ℕ
reversed_groups (a ∷ b ∷ c ∷ d ∷ e ∷ f ∷ g ∷ h ∷ rest) = reversed_groups rest ++ a ∷ b ∷ c ∷ d ∷ e ∷ f ∷ g ∷ h ∷ []
reversed_groups list = list

-- the bits of a place in the order in which their number is read: in a message of low order the last
-- group of eight comes first
abbrev pub ordered : Bool → List ℕ → List ℕ
ordered true list = reversed_groups list
ordered false list = list
