-- The table of the fields.
use Rattle.std.proofs.Common.{◌≡◌, ◌∙◌, refl, ℕ, ◌≤◌, List, [], ◌∷◌, length, drop}
use Rattle.std.proofs.lemmas.List.{at_drop_all}
use Rattle.rx_syntax.specs.declared.tree.FieldTree.{FieldTree}
use Rattle.rx_judge.specs.Table.{Entry}
use Rattle.rx_judge.specs.declared.names.KnownField.{KnownField}
use Rattle.rx_elab.specs.declared.fields.Held.{Held}
use Rattle.rx_spec.specs.Messages.{known_from}

none_known : (i : ℕ) (table : List (Entry KnownField)) (hs : List Held) → known_from i table hs [] ≡ table
none_known i table [] = refl
none_known i table (h ∷ hs) = refl

-- behind the last field
pub all_known : (i : ℕ) (table : List (Entry KnownField)) (hs : List Held) (fs : List FieldTree) → length fs ≤ i → known_from i table hs (drop i fs) ≡ table
all_known i table hs fs h = at_drop_all (λ (xs : List FieldTree). known_from i table hs xs) fs i h ∙ none_known i table hs
