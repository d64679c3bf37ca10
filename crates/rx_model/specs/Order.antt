-- Numbers of places in a byte order, and the bits of a number.
--   number_in low bytes f s      the number of a place, in the order
--   number_bits size n           the bits of a number, the most significant first
use Rattle.std.specs.Prelude.{ℕ, zero, suc, ◌/◌, ◌%◌, Bool, List, [], ◌∷◌, ◌++◌}
use Rattle.rx_model.specs.Bits.{number, place_bits, ordered}

abbrev pub number_in : Bool → List ℕ → ℕ → ℕ → ℕ
number_in low bytes first size = number (ordered low (place_bits first size bytes))

abbrev pub number_bits : ℕ → ℕ → List ℕ
number_bits zero n = []
number_bits (suc size) n = number_bits size (n / 2) ++ (n % 2) ∷ []
