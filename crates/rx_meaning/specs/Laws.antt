-- Trees that are the same but for places in memory have one meaning.
use Rattle.std.specs.Prelude.{◌≡◌, ℕ, List}
use Rattle.rx_syntax.specs.declared.tree.PackageTree.{PackageTree}
use Rattle.rx_spec.specs.Elaboration.{elaborated}
use Rattle.rx_trees.specs.Alike.{AreSame, IsSamePackage}

-- packages that are the same have one specification, or one refusal
abbrev pub OneMeaning : Type 0
OneMeaning = (asked : List (List ℕ)) (ps qs : List PackageTree) → AreSame IsSamePackage ps qs → elaborated asked ps ≡ elaborated asked qs
