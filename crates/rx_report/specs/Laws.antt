-- What the counts of a report tell.
--   AreElaborated, AreSound, AnyOf   what is so of each of some messages, or of one
--   CountsTellSoundness    whether messages are sound, told by how many checks failed and are undecided
use Rattle.std.specs.Prelude.{◌≡◌, ◌<◌, ◌⊎◌, ℕ, List, [], ◌∷◌}
use Rattle.std.specs.List.{AllByRecursion}
use Rattle.rx_types.specs.Domain.{Domain}
use Rattle.rx_graph.specs.Elaborated.{IsElaborated, IsSound}
use Rattle.rx_graph.specs.Graph.{Graph}
use Rattle.rx_checks.specs.Laws.{HasBrokenCheck, HasLongWalk}
use Rattle.rx_report.specs.declared.reported.Reported.{Reported}
use Rattle.rx_report.specs.Reported.{IsReported}

-- one of these messages is so
abbrev pub AnyOf : (Graph → Type 0) → List Graph → Type 0
AnyOf P [] = ⊥
AnyOf P (m ∷ ms) = P m ⊎ AnyOf P ms

module _ (domains : List Domain) where
  abbrev pub AreElaborated : List Graph → Type 0
  AreElaborated ms = AllByRecursion (λ m. IsElaborated domains m) ms

  abbrev pub AreSound : List Graph → Type 0
  AreSound ms = AllByRecursion (λ m. IsSound domains m) ms

  -- Where no check failed or is undecided, the messages are sound. Where one failed, some check of one of them does not hold. Where
  -- one is undecided, the walk of some check needs more inner nodes than there are splits.
  pub record CountsTellSoundness : Type 0 where
    pub sound : (splits : ℕ) (ms : List Graph) (r : Reported) → AreElaborated ms → IsReported domains splits ms r → r.failed ≡ 0 → r.undecided ≡ 0 → AreSound ms
    pub broken : (splits : ℕ) (ms : List Graph) (r : Reported) → AreElaborated ms → IsReported domains splits ms r → 0 < r.failed → AnyOf (λ m. HasBrokenCheck domains m) ms
    pub long : (splits : ℕ) (ms : List Graph) (r : Reported) → AreElaborated ms → IsReported domains splits ms r → 0 < r.undecided → AnyOf (λ m. HasLongWalk domains m splits) ms
