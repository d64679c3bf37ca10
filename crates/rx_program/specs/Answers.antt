-- Which answer belongs to the words of a command, the texts on the shelf and the input.
--   EndsAt        the walk through the packages ends before it has come through all, with this answer
--   Asks          what the words ask for, and the packages of its closure
--   Answers       the answers: of the words, of the walk, of packages that are refused, and of messages and the input
use Rattle.std.specs.Prelude.{◌≡◌, ℕ, List, Some}
use Rattle.rx_io.specs.Shelf.{Texts}
use Rattle.rx_syntax.specs.declared.tree.PackageTree.{PackageTree}
use Rattle.rx_forms.specs.Checkable.{TypedMessages}
use Rattle.rx_closure.specs.Closure.{HasNone, HasLong, HasRefused, IsClosure, Reaches, IsCrowded}
use Rattle.rx_program.specs.Words.{Ask, asked_for, HaveNoForm}
use Rattle.rx_program.specs.Refusals.{IsRefusedFor, Means}
use Rattle.rx_program.specs.Request.{AnswersTo}
use Rattle.rx_program.specs.declared.answer.Answer.{Answer}
use Rattle.rx_program.specs.declared.answer.Answer.TheVariants.{Usage, ShelfFault, NoPackage, TextLimit, Refused, PackageLimit}

-- the walk from this package ends with this answer before it has come through all packages
abbrev pub EndsAt : Texts → List ℕ → Answer → Type 0
EndsAt texts first ShelfFault = Unit {0}
EndsAt texts first (NoPackage name) = (name ≡ first) × HasNone texts name
EndsAt texts first (TextLimit file) = Reaches texts first file × HasLong texts file
EndsAt texts first (Refused file refusal) = Reaches texts first file × HasRefused texts file refusal
EndsAt texts first PackageLimit = IsCrowded texts first
EndsAt texts first other = ⊥

-- what is asked for, the names under which the packages of the closure were fetched, and their trees
pub record Request : Type 0 where
  pub ask : Ask
  pub asked : List (List ℕ)
  pub trees : List PackageTree

-- the words ask for this, and the packages are those of the closure of its package
pub record Asks (words : List (List ℕ)) (texts : Texts) (r : Request) : Type 0 where
  pub words_are : asked_for words ≡ Some r.ask
  pub closure : IsClosure texts r.ask.name r.asked r.trees

-- the answer to these words, with these texts and this input
pub data Answers (words : List (List ℕ)) (texts : Texts) (input : List ℕ) (a : Answer) : Type 0 where
  by_words : HaveNoForm words → a ≡ Usage → Answers words texts input a
  by_walk : (ask : Ask) → asked_for words ≡ Some ask → EndsAt texts ask.name a → Answers words texts input a
  by_refusal : (r : Request) → Asks words texts r → IsRefusedFor r.asked r.trees a → Answers words texts input a
  by_messages : (r : Request) (t : TypedMessages) → Asks words texts r → Means r.asked r.trees t → AnswersTo r.ask t input a → Answers words texts input a
