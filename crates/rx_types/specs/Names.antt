-- Names and their comparison.
--   IsName bytes        ASCII letters, digits and `_`
--   IsSameName a b      one name, whatever the case of the letters
use Rattle.std.specs.Prelude.{◌≡◌, ℕ, Bool, ◌&&◌, ◌||◌, ◌==◌, nat_le, IsTrue, List, map}
use Rattle.std.specs.List.{list_all}
use Rattle.std.specs.Char.{to_ascii_lowercase}

-- the byte is between these two
abbrev pub is_between : ℕ → ℕ → ℕ → Bool
is_between low high byte = nat_le low byte && nat_le byte high

-- a letter, a digit or `_`
abbrev pub is_name_byte : ℕ → Bool
is_name_byte byte = is_between 97 122 byte || is_between 65 90 byte || is_between 48 57 byte || byte == 95

abbrev pub IsName : List ℕ → Type 0
IsName bytes = IsTrue (list_all is_name_byte bytes)

-- the same letters, digits and `_`, but for the case of the letters
abbrev pub IsSameName : List ℕ → List ℕ → Type 0
IsSameName a b = map to_ascii_lowercase a ≡ map to_ascii_lowercase b
