-- What comes out of elaboration.
--   ElaborationIsSound       the messages of a specification are elaborated
use Rattle.std.specs.Prelude.{◌≡◌, ℕ, List, Some, Ok, map, slice_get}
use Rattle.std.specs.List.{AllByRecursion}
use Rattle.rx_syntax.specs.declared.tree.PackageTree.{PackageTree}
use Rattle.rx_types.specs.Domain.{Domain, boolean}
use Rattle.rx_forms.specs.PathLimit.{MayBeChecked}
use Rattle.rx_graph.specs.Graph.{Specified}
use Rattle.rx_spec.specs.Elaboration.{elaborated}

-- the scalar types, each at the place that its id says
abbrev pub domains_in : Specified → List Domain
domains_in s = map (λ x. x.domain) s.scalars

-- Boolean is the first scalar type, and each message is elaborated and keeps the path limit
pub record IsSoundSpec (s : Specified) : Type 0 where
  pub boolean : slice_get (domains_in s) 0 ≡ Some boolean
  pub messages : AllByRecursion (MayBeChecked (domains_in s)) s.messages

abbrev pub ElaborationIsSound : Type 0
ElaborationIsSound = (asked : List (List ℕ)) (ps : List PackageTree) (s : Specified) → elaborated asked ps ≡ Ok s → IsSoundSpec s
