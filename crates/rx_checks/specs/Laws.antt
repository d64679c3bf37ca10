-- What reports show.
--   VerdictsAreTrue        a check that passed holds, and one that failed does not
--   ReportsShowSoundness   where every line of a report has passed, the message is sound
--   HasOneReading          at most one whole path fits a buffer, and at most one a valuation
--   ReportsShowOneReading  where every line of a report has passed, the message has one reading
--   HasBrokenCheck, HasLongWalk   some check does not hold; the walk of some check needs more inner nodes than there are splits
--   WalksEnd               no walk of a check needs more inner nodes than there are splits
--   SoundMessagesPass      a sound message fails no check, and passes all where walks end
--   IsSameVerdict          two verdicts are one, but for what shows them
--   ReportsAreOne          two reports of a message with as many splits tell the same
use Rattle.std.specs.Prelude.{◌≡◌, ◌≢◌, ℕ, List, [], ◌∷◌, length}
use Rattle.std.specs.List.{AllByRecursion}
use Rattle.rx_types.specs.Domain.{Domain}
use Rattle.rx_graph.specs.declared.message.Node.TheVariants.{Start}
use Rattle.rx_graph.specs.Checks.{AllHold}
use Rattle.rx_graph.specs.Cycles.{IsPath}
use Rattle.rx_graph.specs.Elaborated.{IsSound}
use Rattle.rx_graph.specs.Fits.{Assigned, IsAscending, Fits}
use Rattle.rx_graph.specs.Graph.{Graph}
use Rattle.rx_graph.specs.Laws.{FitsHaveLength}
use Rattle.rx_graph.specs.Paths.{HasOnePath}
use Rattle.rx_layout.specs.declared.goal.Goal.{Goal}
use Rattle.rx_layout.specs.Goals.{source, IsGoal, GoalHolds}
use Rattle.rx_prover.specs.Walk.{Over}
use Rattle.rx_types.specs.Environment.{Placed}
use Rattle.rx_checks.specs.declared.verdict.Evidence.{Evidence}
use Rattle.rx_checks.specs.declared.verdict.Evidence.TheVariants.{Proofs, Found}
use Rattle.rx_checks.specs.declared.verdict.Verdict.{Verdict}
use Rattle.rx_checks.specs.declared.verdict.Verdict.TheVariants.{Passed, Failed, Undecided}
use Rattle.rx_checks.specs.declared.report.Line.{Line}
use Rattle.rx_checks.specs.declared.report.Report.{Report}
use Rattle.rx_checks.specs.Reports.{IsReport, HasPassed, AllPassed}
use Rattle.rx_checks.specs.Verdicts.{walk_of, StandsFor}

abbrev pub HasFailed : Verdict → Type 0
HasFailed (Failed evidence) = Unit {0}
HasFailed other = ⊥

abbrev pub IsUndecided : Verdict → Type 0
IsUndecided (Undecided path tree) = Unit {0}
IsUndecided other = ⊥

module _ (domains : List Domain) (m : Graph) where
  -- a check that passed holds, and one that failed does not
  abbrev pub VerdictsAreTrue : Type 0
  VerdictsAreTrue =
      (splits : ℕ) (goal : Goal) (verdict : Verdict) → IsGoal domains m goal → StandsFor domains m splits goal verdict → (HasPassed verdict → GoalHolds domains m goal) × (HasFailed verdict → GoalHolds domains m goal → ⊥)

  -- At most one whole path fits a buffer. At most one fits a valuation, in messages of whatever length, and its length is then the
  -- valuation's.
  pub record HasOneReading : Type 0 where
    pub buffer : HasOnePath domains m
    pub valuation : (values : List Assigned) (total other_total : ℕ) (path other : List ℕ) (fields more : List Placed) → IsAscending values → Fits domains m values total path fields → Fits domains m values other_total other more → (total ≡ other_total) × (path ≡ other) × (fields ≡ more)
    pub sized : FitsHaveLength domains m

  abbrev pub ReportsShowOneReading : Type 0
  ReportsShowOneReading = (splits : ℕ) (r : Report) → IsReport domains m splits r → AllPassed r.lines.items → HasOneReading

  abbrev pub ReportsShowSoundness : Type 0
  ReportsShowSoundness = (splits : ℕ) (r : Report) → IsReport domains m splits r → AllPassed r.lines.items → IsSound domains m

  -- some check of the message does not hold
  abbrev pub HasBrokenCheck : Type 0
  HasBrokenCheck = (goal : Goal) × IsGoal domains m goal × (GoalHolds domains m goal → ⊥)

  -- the walk of some check, on a path to its source, needs more inner nodes than there are splits
  abbrev pub HasLongWalk : ℕ → Type 0
  HasLongWalk splits = (goal : Goal) × (path : List ℕ) × IsGoal domains m goal × IsPath m Start path (source goal) × (walk_of domains m splits goal path ≡ Over)

  -- no walk of a check, on a path to its source, needs more inner nodes than there are splits
  abbrev pub WalksEnd : ℕ → Type 0
  WalksEnd splits = (goal : Goal) (path : List ℕ) → IsGoal domains m goal → IsPath m Start path (source goal) → walk_of domains m splits goal path ≢ Over

  -- where all checks of a message hold, no line of its report has failed, and each has passed where the walks end
  pub record SoundMessagesPass : Type 0 where
    pub none_fails : (splits : ℕ) (r : Report) → IsReport domains m splits r → AllHold domains m → AllByRecursion (λ line. HasFailed line.verdict → ⊥) r.lines.items
    pub all_pass : (splits : ℕ) (r : Report) → IsReport domains m splits r → AllHold domains m → WalksEnd splits → AllPassed r.lines.items

-- as many proofs, or the same path
abbrev pub IsSameKind : Evidence → Evidence → Type 0
IsSameKind (Proofs p) (Proofs q) = length p.items ≡ length q.items
IsSameKind (Found p n ns) (Found q o os) = p ≡ q
IsSameKind p q = ⊥

abbrev pub IsSameVerdict : Verdict → Verdict → Type 0
IsSameVerdict (Passed e) (Passed f) = IsSameKind e f
IsSameVerdict (Failed e) (Failed f) = IsSameKind e f
IsSameVerdict (Undecided p t) (Undecided q u) = p ≡ q
IsSameVerdict v w = ⊥

-- the same goals in the same order, each with the same verdict
abbrev pub AreSameLines : List Line → List Line → Type 0
AreSameLines [] [] = Unit {0}
AreSameLines (k ∷ ks) (l ∷ ls) = (k.goal ≡ l.goal) × IsSameVerdict k.verdict l.verdict × AreSameLines ks ls
AreSameLines ks ls = ⊥

module _ (domains : List Domain) (m : Graph) where
  abbrev pub ReportsAreOne : Type 0
  ReportsAreOne = (splits : ℕ) (r s : Report) → IsReport domains m splits r → IsReport domains m splits s → AreSameLines r.lines.items s.lines.items
