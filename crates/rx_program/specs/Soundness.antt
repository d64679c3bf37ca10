-- What the status of a command tells of the messages that it checks.
--   AreChecked               the messages that are checked: all of the package, or the one that is asked for
--   ChecksThat words texts P    the words ask for a package whose checked messages are so
--   DoneShowsSoundness       with status 0 they are sound
--   NotAcceptedShowsFault    with status 1 some check of one does not hold
--   UndecidedShowsWalk       with status 4 the walk of some check needs more inner nodes than there are splits
use Rattle.std.specs.Prelude.{◌≡◌, ℕ, List, [], ◌∷◌, Some}
use Rattle.rx_io.specs.Shelf.{Texts}
use Rattle.rx_types.specs.Domain.{Domain}
use Rattle.rx_graph.specs.Graph.{Graph}
use Rattle.rx_forms.specs.Checkable.{TypedMessages}
use Rattle.rx_report.specs.Reported.{messages_of}
use Rattle.rx_checks.specs.Laws.{HasBrokenCheck, HasLongWalk}
use Rattle.rx_report.specs.Laws.{AnyOf, AreSound}
use Rattle.rx_program.specs.Words.{Does, Checks, Decodes, Encodes}
use Rattle.rx_program.specs.Operand.{message_in}
use Rattle.rx_program.specs.Refusals.{Means}
use Rattle.rx_program.specs.Answers.{Request, Asks}
use Rattle.rx_program.specs.Outcome.{FaultCounts, Outcome}
use Rattle.rx_program.specs.declared.status.Status.TheVariants.{Done, NotAccepted, Undecided}

-- the message of this name alone
abbrev pub IsAlone : TypedMessages → List ℕ → List ℕ → List Graph → Type 0
IsAlone t owner name ms = (m : Graph) × (message_in owner name t.graphs ≡ Some m) × (ms ≡ m ∷ [])

-- `check` checks all messages of the package, another command the one that is asked for
abbrev pub AreChecked : TypedMessages → List ℕ → Does → List Graph → Type 0
AreChecked t owner Checks ms = ms ≡ messages_of owner t.graphs
AreChecked t owner (Decodes name) ms = IsAlone t owner name ms
AreChecked t owner (Encodes name) ms = IsAlone t owner name ms

-- what the words ask for, its meaning, and the messages that are checked, which are so
pub record ChecksThat (words : List (List ℕ)) (texts : Texts) (P : List Domain → ℕ → List Graph → Type 0) : Type 0 where
  pub request : Request
  pub asks : Asks words texts request
  pub all : TypedMessages
  pub means : Means request.asked request.trees all
  pub messages : List Graph
  pub checked : AreChecked all request.ask.name request.ask.does messages
  pub so : P all.domains request.ask.splits messages

abbrev pub DoneShowsSoundness : Type 0
DoneShowsSoundness = (words : List (List ℕ)) (texts : Texts) (input written : List ℕ) (faults : FaultCounts) → Outcome words texts input faults Done written → ChecksThat words texts (λ domains splits ms. AreSound domains ms)

abbrev pub NotAcceptedShowsFault : Type 0
NotAcceptedShowsFault = (words : List (List ℕ)) (texts : Texts) (input written : List ℕ) (faults : FaultCounts) → Outcome words texts input faults NotAccepted written → ChecksThat words texts (λ domains splits ms. AnyOf (λ m. HasBrokenCheck domains m) ms)

abbrev pub UndecidedShowsWalk : Type 0
UndecidedShowsWalk = (words : List (List ℕ)) (texts : Texts) (input written : List ℕ) (faults : FaultCounts) → Outcome words texts input faults Undecided written → ChecksThat words texts (λ domains splits ms. AnyOf (λ m. HasLongWalk domains m splits) ms)
