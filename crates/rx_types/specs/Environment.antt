-- What the fields of a path have: their places in bits, and the numbers of the scalars.
--   Placed               a field with its place and its number
--   Environment          the length of the message in bytes, and its fields so far
--   place_of f fields    the field's place and number, zeros where it is absent
--   end_of fields        the end of the last field, 0 where there is none
--   placed, places       what the code keeps, as fields
use Rattle.std.specs.Prelude.{◌≡◌, ℕ, ◌*◌, ℤ, pos, ◌+ℤ◌, ◌-ℤ◌, List, [], ◌∷◌, ◌⊎◌, ◌==◌, eqb, if◌then◌else◌}
use Rattle.std.specs.List.{IsDistinct}
use Rattle.rx_types.specs.declared.env.Entry.{Entry}

-- one field with its place and its number, which is 0 where the field is no scalar
pub record Placed : Type 0 where
  pub field : ℕ
  pub first : ℤ
  pub size : ℤ
  pub number : ℕ

pub record Environment : Type 0 where
  pub total : ℕ
  pub fields : List Placed

abbrev pub in_message : ℕ → List Placed → Environment
in_message total fields = record { total = total; fields = fields }

-- the length of the message in bits
abbrev pub bits_of : Environment → ℤ
bits_of e = pos (e.total * 8)

-- zeros where the field is not among the fields
abbrev pub place_of : ℕ → List Placed → Placed
place_of f [] = record { field = f; first = pos 0; size = pos 0; number = 0 }
place_of f (p ∷ ps) = if p.field == f then p else place_of f ps

-- the last bit of a field; -1 of a field that is absent
abbrev pub last_of : Placed → ℤ
last_of p = (p.first +ℤ p.size) -ℤ pos 1

abbrev pub end_of : List Placed → ℤ
end_of [] = pos 0
end_of (p ∷ []) = p.first +ℤ p.size
end_of (p ∷ q ∷ ps) = end_of (q ∷ ps)

-- the field stands among these
abbrev pub IsAmong : ℕ → List Placed → Type 0
IsAmong f [] = ⊥
IsAmong f (p ∷ ps) = (p.field ≡ f) ⊎ IsAmong f ps

abbrev pub fields_of : List Placed → List ℕ
fields_of [] = []
fields_of (p ∷ ps) = p.field ∷ fields_of ps

-- no field stands twice among these
abbrev pub AreDistinct : List Placed → Type 0
AreDistinct ps = IsDistinct eqb (fields_of ps)

-- ---- what the code keeps

abbrev pub placed : Entry → Placed
placed e = record { field = e.field; first = pos e.first; size = pos e.size; number = e.number }

abbrev pub places : List Entry → List Placed
places [] = []
places (e ∷ es) = placed e ∷ places es
