-- The places of a message's fields, by their names.
--   positions fs      the fields' names, each with the field's place in its message
use Rattle.std.specs.Prelude.{ℕ, ◌+◌, List, [], ◌∷◌}
use Rattle.rx_syntax.specs.declared.tree.FieldTree.{FieldTree}
use Rattle.rx_judge.specs.Table.{Entry, added}

abbrev pub positions_from : ℕ → List (Entry ℕ) → List FieldTree → List (Entry ℕ)
positions_from i table [] = table
positions_from i table (f ∷ fs) = positions_from (i + 1) (added table [] f.name.word i) fs

abbrev pub positions : List FieldTree → List (Entry ℕ)
positions fs = positions_from 0 [] fs
