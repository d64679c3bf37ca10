-- What shows a verdict, and the numbers of a point.
--   told passes evidence         passed or failed by the evidence
--   MeetsBy                      the goal is met with a length and numbers
--   IsEvidence path evidence     the evidence is a point of the query of the path, in numbers
--   IsNatural limit z            a number that is not below 0 and below the limit
--   TellsNumbers path total numbers e    the evidence is this path with this length and these numbers
--   NoneAtPoint paths            no walk of these paths comes to a point
--   IsNextVerdict paths old new  from the verdict on the paths so far, the one on those and these
use Rattle.std.specs.Prelude.{◌≡◌, ◌≢◌, ◌<◌, ℕ, ℤ, pos, Bool, true, false, List, ◌++◌, map}
use Rattle.std.specs.List.{AllByRecursion}
use Rattle.rx_types.specs.Domain.{Domain}
use Rattle.rx_types.specs.Environment.{Placed}
use Rattle.rx_graph.specs.Graph.{Graph}
use Rattle.rx_forms.specs.Points.{numbers_of}
use Rattle.rx_layout.specs.declared.goal.Goal.{Goal}
use Rattle.rx_layout.specs.Goals.{MetBy}
use Rattle.rx_prover.specs.Walk.{AtPoint}
use Rattle.rx_checks.specs.declared.verdict.Evidence.{Evidence}
use Rattle.rx_checks.specs.declared.verdict.Evidence.TheVariants.{Proofs, Found}
use Rattle.rx_checks.specs.declared.verdict.Verdict.{Verdict}
use Rattle.rx_checks.specs.declared.verdict.Verdict.TheVariants.{Passed, Failed}
use Rattle.rx_checks.specs.Verdicts.{walk_of, IsVerdict}

-- a check that passes by the evidence, or one that fails by it
abbrev pub told : Bool → Evidence → Verdict
told true evidence = Passed evidence
told false evidence = Failed evidence

-- the goal is met at the end of the path, with this length and these numbers
pub record MeetsBy (domains : List Domain) (m : Graph) (goal : Goal) (path : List ℕ) (total : ℕ) (numbers : List ℕ) : Type 0 where
  pub fields : List Placed
  pub met : MetBy domains m goal total path fields
  pub numbers_are : numbers_of domains m fields ≡ map (λ n. pos n) numbers

-- the evidence is a point of the path, at which the goal is met
abbrev pub IsEvidence : List Domain → Graph → Goal → List ℕ → Evidence → Type 0
IsEvidence domains m goal path (Proofs proofs) = ⊥
IsEvidence domains m goal path (Found p total numbers) = (p ≡ path) × MeetsBy domains m goal path total numbers.items

-- a number from 0 on that is below the limit
abbrev pub IsNatural : ℕ → ℤ → Type 0
IsNatural limit z = (n : ℕ) × (z ≡ pos n) × (n < limit)

-- the evidence is this path with this length and these numbers
abbrev pub TellsNumbers : List ℕ → ℤ → List ℤ → Evidence → Type 0
TellsNumbers path total numbers (Proofs proofs) = ⊥
TellsNumbers path total numbers (Found p n ns) = (p ≡ path) × (pos n ≡ total) × (map (λ k. pos k) ns.items ≡ numbers)

module _ (domains : List Domain) (m : Graph) (splits : ℕ) (goal : Goal) where
  -- no walk of these paths comes to a point
  abbrev pub NoneAtPoint : List (List ℕ) → Type 0
  NoneAtPoint paths = AllByRecursion (λ p. walk_of domains m splits goal p ≢ AtPoint) paths

  -- where the one is the verdict on whatever paths came before, the other is the verdict on those and then these
  abbrev pub IsNextVerdict : List (List ℕ) → Verdict → Verdict → Type 0
  IsNextVerdict paths old new = (before : List (List ℕ)) → IsVerdict domains m splits goal before old → IsVerdict domains m splits goal (before ++ paths) new
