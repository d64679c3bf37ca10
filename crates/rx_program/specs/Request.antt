-- What the messages of a package and an input answer to what is asked for.
--   IsAll                    the report of all messages of the package
--   Serves                   the message of a name is served: its checks pass, so it is sound
--   IsDenied                 it is not: there is none, or some check of it does not pass
--   AnswersTo ask t input a  the answers, a case for each command
use Rattle.std.specs.Prelude.{◌≡◌, ◌⊎◌, ℕ, List, [], ◌∷◌, Some, None}
use Rattle.rx_graph.specs.Elaborated.{IsSound}
use Rattle.rx_graph.specs.Graph.{Graph}
use Rattle.rx_forms.specs.Checkable.{TypedMessages}
use Rattle.rx_values.specs.Laws.{AreNamed}
use Rattle.rx_report.specs.declared.reported.Reported.{Reported}
use Rattle.rx_report.specs.Reported.{messages_of, Passes, IsReported, HasOpen}
use Rattle.rx_program.specs.Words.{Does, Ask, Checks, Decodes, Encodes}
use Rattle.rx_program.specs.Operand.{message_in}
use Rattle.rx_program.specs.Input.{IsReadAs, IsWrittenAs}
use Rattle.rx_program.specs.declared.answer.Answer.{Answer}
use Rattle.rx_program.specs.declared.answer.Answer.TheVariants.{NoMessage, Checked, Rejected}

module _ (t : TypedMessages) (owner : List ℕ) (splits : ℕ) where
  -- the report of all messages of the package
  abbrev pub IsAll : Answer → Type 0
  IsAll (Checked reported) = IsReported t.domains splits (messages_of owner t.graphs) reported
  IsAll other = ⊥

  module _ (name : List ℕ) where
    -- the message of this name, all of whose checks pass: it is sound, and its fields and literals have names
    pub record Serves (m : Graph) : Type 0 where
      pub found : message_in owner name t.graphs ≡ Some m
      pub passes : Passes t.domains splits m
      pub sound : IsSound t.domains m
      pub named : AreNamed t.domains m

    -- some check of the message of this name did not pass, and this is its report
    pub record ReportsOne (reported : Reported) : Type 0 where
      pub graph : Graph
      pub found : message_in owner name t.graphs ≡ Some graph
      pub reported_is : IsReported t.domains splits (graph ∷ []) reported
      pub not_passed : HasOpen reported

    -- there is no message of this name, or some check of it did not pass
    abbrev pub IsDenied : Answer → Type 0
    IsDenied (NoMessage home message) = (home ≡ owner) × (message ≡ name) × (message_in owner name t.graphs ≡ None)
    IsDenied (Rejected reported) = ReportsOne reported
    IsDenied other = ⊥

    -- the message is denied, or it is served, and this is answered of it
    abbrev pub IsAnswered : (Graph → Answer → Type 0) → Answer → Type 0
    IsAnswered Is a = IsDenied a ⊎ ((m : Graph) × Serves m × Is m a)

  -- the answer to each command
  abbrev pub IsDone : Does → List ℕ → Answer → Type 0
  IsDone Checks input a = IsAll a
  IsDone (Decodes name) input a = IsAnswered name (λ m. IsReadAs t.domains m input) a
  IsDone (Encodes name) input a = IsAnswered name (λ m. IsWrittenAs t.domains m input) a

-- what these messages and this input answer to what is asked for
abbrev pub AnswersTo : Ask → TypedMessages → List ℕ → Answer → Type 0
AnswersTo ask t input a = IsDone t ask.name ask.splits ask.does input a
