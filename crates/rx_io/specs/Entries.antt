-- The entries of a shelf in memory as names and texts.
use Rattle.std.specs.Prelude.{ℕ, Bool, List, bytes_eq, string_bytes}
use Rattle.rx_io.specs.declared.memory_shelf.Entry.{Entry}

-- an entry as a name and its text
abbrev pub entry_of : Entry → List ℕ × List ℕ
entry_of entry = (string_bytes entry.name, entry.text.items)

-- the test whether an entry has a name
abbrev pub is_named : List ℕ → Entry → Bool
is_named name entry = bytes_eq (string_bytes entry.name) name
