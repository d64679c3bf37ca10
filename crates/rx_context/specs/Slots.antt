-- Where the fields of a path stand among its entries.
--   HaveLowFields entries       the ids of the fields are below 128
--   AreSlots entries slots n    for each field its place among the first n entries, counted from 1, or 0
use Rattle.std.specs.Prelude.{◌≡◌, ℕ, ◌-◌, ◌<◌, ◌≤◌, List, length, Some, slice_get, slice_index}
use Rattle.rx_types.specs.declared.env.Entry.{Entry}
use Rattle.rx_types.specs.Environment.{Placed, places}

abbrev pub HaveLowFields : List Entry → Type 0
HaveLowFields entries = (k : ℕ) (e : Entry) → slice_get entries k ≡ Some e → e.field < 128

-- the place of a field
pub record IsSlot (entries : List Entry) (f slot n : ℕ) : Type 0 where
  pub entry : Entry
  pub within : slot ≤ n
  pub is : slice_get entries (slot - 1) ≡ Some entry
  pub field : entry.field ≡ f

pub record AreSlots (entries : List Entry) (slots : List ℕ) (n : ℕ) : Type 0 where
  pub there : (f : ℕ) → 0 < slice_index slots f → IsSlot entries f (slice_index slots f) n
  pub absent : (f : ℕ) → slice_index slots f ≡ 0 → (k : ℕ) (e : Entry) → k < n → slice_get entries k ≡ Some e → e.field ≡ f → ⊥

-- entries of these fields stand where the slots say
abbrev pub FindsFields : List Placed → List ℕ → Type 0
FindsFields fields slots = (entries : List Entry) → places entries ≡ fields → AreSlots entries slots (length entries)
