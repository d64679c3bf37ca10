-- Verdicts of checks, by the walks of their queries.
--   IsFirst P paths path         the path is the first of the list that is so
--   walk_of goal splits path     how the walk of the query of the path and the goal ends, with so many splits
--   AreClosed                    a proof for each path, whose walk comes past all leaves
--   IsFound path total numbers   with this length and these numbers the path is partial, and the goal is met at its end
--   IsVerdict, StandsFor         the verdict on the paths to the goal's source
use Rattle.std.specs.Prelude.{◌≡◌, ◌≢◌, ℕ, pos, Bool, true, false, not, List, [], ◌∷◌, ◌++◌, map}
use Rattle.std.specs.List.{AllByRecursion}
use Rattle.rx_types.specs.Domain.{Domain}
use Rattle.rx_types.specs.Environment.{Placed}
use Rattle.rx_graph.specs.Graph.{Graph}
use Rattle.rx_graph.specs.Cycles.{ArePathsTo}
use Rattle.rx_proof.specs.Acceptance.{root}
use Rattle.rx_proof.specs.declared.proof.Proof.{Proof}
use Rattle.rx_prover.specs.Answers.{IsClosed, IsProper}
use Rattle.rx_prover.specs.Walk.{Reached, Past, AtPoint, Over, walk}
use Rattle.rx_forms.specs.Points.{numbers_of}
use Rattle.rx_layout.specs.declared.goal.Goal.{Goal}
use Rattle.rx_layout.specs.Goals.{source, is_universal, MetBy}
use Rattle.rx_layout.specs.QueryOf.{query_for}
use Rattle.rx_checks.specs.declared.verdict.Evidence.{Evidence}
use Rattle.rx_checks.specs.declared.verdict.Evidence.TheVariants.{Proofs, Found}
use Rattle.rx_checks.specs.declared.verdict.Verdict.{Verdict}
use Rattle.rx_checks.specs.declared.verdict.Verdict.TheVariants.{Passed, Failed, Undecided}

-- the first of the list that is so
pub record IsFirst (P : List ℕ → Type 0) (paths : List (List ℕ)) (path : List ℕ) : Type 0 where
  pub before : List (List ℕ)
  pub after : List (List ℕ)
  pub is : paths ≡ before ++ path ∷ after
  pub has : P path
  pub none : AllByRecursion (λ p. P p → ⊥) before

module _ (domains : List Domain) (m : Graph) (splits : ℕ) (goal : Goal) where
  abbrev pub walk_of : List ℕ → Reached
  walk_of path = walk (query_for domains m goal path) splits

  -- the walk comes past all leaves, and the proof is the walk's: accepted, with at most as many inner nodes as there are splits
  pub record IsClosedBy (path : List ℕ) (proof : Proof) : Type 0 where
    pub left : ℕ
    pub past : walk_of path ≡ Past left
    pub closed : IsClosed (root (query_for domains m goal path)) splits proof left

  abbrev pub AreClosed : List (List ℕ) → List Proof → Type 0
  AreClosed [] [] = Unit {0}
  AreClosed [] (proof ∷ proofs) = ⊥
  AreClosed (path ∷ paths) [] = ⊥
  AreClosed (path ∷ paths) (proof ∷ proofs) = IsClosedBy path proof × AreClosed paths proofs

  -- the goal is met at the end of the path, which is partial with this length and these numbers of its scalars
  pub record IsFound (path : List ℕ) (total : ℕ) (numbers : List ℕ) : Type 0 where
    pub fields : List Placed
    pub met : MetBy domains m goal total path fields
    pub numbers_are : numbers_of domains m fields ≡ map (λ n. pos n) numbers

  -- a proof for each path, or the first path whose walk comes to a point, with numbers
  abbrev pub IsShownBy : Bool → List (List ℕ) → Evidence → Type 0
  IsShownBy true paths (Proofs proofs) = AreClosed paths proofs.items
  IsShownBy true paths (Found path total numbers) = ⊥
  IsShownBy false paths (Proofs proofs) = ⊥
  IsShownBy false paths (Found path total numbers) = IsFirst (λ p. walk_of p ≡ AtPoint) paths path × IsFound path total numbers.items

  -- A universal check passes by proofs and fails by a point, another the other way round. It is undecided where no walk comes to
  -- a point, at the first path whose walk needs one inner node more than there are splits.
  abbrev pub IsVerdict : List (List ℕ) → Verdict → Type 0
  IsVerdict paths (Passed evidence) = IsShownBy (is_universal goal) paths evidence
  IsVerdict paths (Failed evidence) = IsShownBy (not (is_universal goal)) paths evidence
  IsVerdict paths (Undecided path tree) =
      AllByRecursion (λ p. walk_of p ≢ AtPoint) paths × IsFirst (λ p. walk_of p ≡ Over) paths path × IsProper (root (query_for domains m goal path)) splits tree

  -- the verdict on all paths to the goal's source, in order of link numbers
  abbrev pub StandsFor : Verdict → Type 0
  StandsFor verdict = (paths : List (List ℕ)) × ArePathsTo m (source goal) paths × IsVerdict paths verdict
