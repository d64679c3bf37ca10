-- Why the packages of a closure are refused, and what they mean where they are not.
--   IsFirst        the first form that is not served yet; where there is none, the rule that is broken first
--   TellsRefusal   it is told with the file in whose text it stands
--   IsRefusedFor   this is the answer
--   Means          what the packages mean
use Rattle.std.specs.Prelude.{◌≡◌, ◌⊎◌, ℕ, List, Some, Ok, Err, slice_get}
use Rattle.rx_syntax.specs.declared.rule.Refusal.{Refusal}
use Rattle.rx_syntax.specs.declared.tree.PackageTree.{PackageTree}
use Rattle.rx_graph.specs.Graph.{Specified}
use Rattle.rx_forms.specs.Checkable.{TypedMessages}
use Rattle.rx_spec.specs.Elaboration.{elaborated, Told}
use Rattle.rx_spec.specs.Laws.{domains_in}
use Rattle.rx_program.specs.Stage.{of_packages, AreServed}
use Rattle.rx_program.specs.declared.answer.Answer.{Answer}
use Rattle.rx_program.specs.declared.answer.Answer.TheVariants.{Refused}

module _ (asked : List (List ℕ)) (trees : List PackageTree) where
  -- the first form that is not served yet; where there is none, the rule that is broken first
  abbrev pub IsFirst : Told → Type 0
  IsFirst told = (of_packages 0 trees ≡ Some told) ⊎ (AreServed trees × (elaborated asked trees ≡ Err told))

  -- the refusal is that one, and the file is the one in whose text it stands
  pub record TellsRefusal (file : List ℕ) (refusal : Refusal) : Type 0 where
    pub told : Told
    pub first : IsFirst told
    pub refusal_is : refusal ≡ told.refusal
    pub file_is : slice_get asked told.«package» ≡ Some file

  -- the packages are refused with this answer
  abbrev pub IsRefusedFor : Answer → Type 0
  IsRefusedFor (Refused file refusal) = TellsRefusal file refusal
  IsRefusedFor other = ⊥

  -- what the packages mean, as far as it is needed: their messages, with the scalar types
  pub record Means (t : TypedMessages) : Type 0 where
    pub served : AreServed trees
    pub spec : Specified
    pub meaning : elaborated asked trees ≡ Ok spec
    pub types : t.domains ≡ domains_in spec
    pub messages : t.graphs ≡ spec.messages
