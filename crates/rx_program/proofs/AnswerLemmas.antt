-- From what was found to the answer, over plain texts and input.
use Rattle.std.proofs.Common.{◌≡◌, ℕ, [], ◌∷◌, List, Option, Some, None, IfSome, inl, inr, Ok, subst, sym, refl, option_map}
use Rattle.rx_io.specs.Faults.{HasRisen}
use Rattle.rx_io.specs.Shelf.{Texts}
use Rattle.rx_types.specs.Domain.{Domain}
use Rattle.rx_syntax.specs.declared.tree.PackageTree.{PackageTree}
use Rattle.rx_graph.specs.declared.spec.Spec.{Spec}
use Rattle.rx_graph.specs.Elaborated.{IsSound}
use Rattle.rx_graph.specs.Graph.{spec_of}
use Rattle.rx_graph.specs.Typed.{Typed, typed}
use Rattle.rx_forms.specs.Checkable.{TypedMessages}
use Rattle.rx_forms.specs.Checkable.{messages_of as all_of}
use Rattle.rx_spec.specs.Elaboration.{elaborated, TellsOf}
use Rattle.rx_spec.specs.declared.fault.ElabFault.{ElabFault}
use Rattle.rx_spec.specs.declared.fault.ElabFault.TheVariants as fault
use Rattle.rx_values.specs.Laws.{AreNamed}
use Rattle.rx_report.specs.Reported.{Passes, IsReported, HasOpen}
use Rattle.rx_report.specs.declared.reported.Reported.{Reported}
use Rattle.rx_closure.specs.Closure.{IsClosure}
use Rattle.rx_closure.specs.Stop.{Stops}
use Rattle.rx_closure.specs.declared.closure.Stop.{Stop}
use Rattle.rx_program.specs.declared.status.Status.{Status}
use Rattle.rx_program.specs.declared.status.Status.TheVariants as status
use Rattle.rx_program.specs.declared.answer.Answer.{Answer}
use Rattle.rx_program.specs.declared.answer.Answer.TheVariants as answer
use Rattle.rx_program.specs.declared.words.Ask as code
use Rattle.rx_program.specs.Words.{Does, Checks, Decodes, Encodes, Ask, asked_for, HaveNoForm}
use Rattle.rx_program.specs.Asked.{ask_of, does_of}
use Rattle.rx_program.specs.Input.{IsReadAs, IsWrittenAs}
use Rattle.rx_program.specs.Stage.{AreServed, IsUnserved, IsToldIn}
use Rattle.rx_program.specs.Refusals.{IsRefusedFor, Means}
use Rattle.rx_program.specs.Request.{IsAll, Serves, IsDenied, IsDone, AnswersTo}
use Rattle.rx_program.specs.Answers.{EndsAt, Request, Answers, by_words, by_walk, by_refusal, by_messages}
use Rattle.rx_program.specs.Outcome.{FaultCounts, IsCaused, Prints, Outcome}
use Rattle.rx_program.specs.Operand.{message_in}
use Rattle.rx_program.proofs.OperandLemmas.{domains_same, there, typed_by, nothing_there}

-- ---- packages that are refused, and what the others mean

module _ (asked : List (List ℕ)) (trees : List PackageTree) where
  pub form_refused : (e : ElabFault) (a : Answer) → IsUnserved trees e → IsToldIn asked e a → IsRefusedFor asked trees a
  form_refused (fault.Refused i r) (answer.Refused file refusal) first told = record { told = record { «package» = i; refusal = r }; first = inl first; refusal_is = told.0; file_is = told.1 }
  form_refused e other first told = absurd told

  pub rule_refused : (e : ElabFault) (a : Answer) → AreServed trees → TellsOf e (elaborated asked trees) → IsToldIn asked e a → IsRefusedFor asked trees a
  rule_refused (fault.Refused i r) (answer.Refused file refusal) served first told =
      record { told = record { «package» = i; refusal = r }; first = inr (served, first); refusal_is = told.0; file_is = told.1 }
  rule_refused e other served first told = absurd told

  -- what elaboration gives is what the packages mean
  pub meant_by : (s : Spec) → AreServed trees → elaborated asked trees ≡ Ok (spec_of s) → Means asked trees (all_of s)
  meant_by s served meaning = record { served = served; spec = spec_of s; meaning = meaning; types = sym (domains_same s); messages = refl }

-- ---- the message that is asked for

module _ (t : TypedMessages) (owner : List ℕ) (splits : ℕ) (name : List ℕ) (m : Typed) (is : Some m ≡ option_map (typed t.domains) (message_in owner name t.graphs)) where
  pub found_types : m.domains ≡ t.domains
  found_types = typed_by t.domains (message_in owner name t.graphs) m is

  found_there : message_in owner name t.graphs ≡ Some m.graph
  found_there = there t.domains (message_in owner name t.graphs) m is

  -- it is served where its checks pass
  pub served_by : Passes m.domains splits m.graph → IsSound m.domains m.graph → AreNamed m.domains m.graph → Serves t owner splits name m.graph
  served_by passes sound named = record {
    found = found_there;
    passes = subst (λ (ds : List Domain). Passes ds splits m.graph) found_types passes;
    sound = subst (λ (ds : List Domain). IsSound ds m.graph) found_types sound;
    named = subst (λ (ds : List Domain). AreNamed ds m.graph) found_types named;
  }

  -- and denied where some does not
  pub rejected_by : (reported : Reported) → IsReported m.domains splits (m.graph ∷ []) reported → HasOpen reported → IsDenied t owner splits name (answer.Rejected reported)
  rejected_by reported is_reported not_passed = record {
    graph = m.graph;
    found = found_there;
    reported_is = subst (λ (ds : List Domain). IsReported ds splits (m.graph ∷ []) reported) found_types is_reported;
    not_passed = not_passed;
  }

pub lacking : (t : TypedMessages) (owner : List ℕ) (splits : ℕ) (name : List ℕ) (a : Answer) → None ≡ option_map (typed t.domains) (message_in owner name t.graphs) → a ≡ answer.NoMessage owner name → IsDenied t owner splits name a
lacking t owner splits name a none is =
    let lacks = nothing_there t.domains (message_in owner name t.graphs) none in
    subst (IsDenied t owner splits name) (sym is) (refl, refl, lacks)

-- ---- the answer to a command

module _ (ask : code.Ask) (t : TypedMessages) where
  abbrev Is : List ℕ → Does → Answer → Type 0
  Is left d a = IsDone t ask.name ask.splits d left a

  abbrev Answered : Option (List ℕ) → Answer → Type 0
  Answered input a = IfSome input (λ left. AnswersTo (ask_of ask) t left a)

  pub answers_checked : (input : Option (List ℕ)) (reported : Reported) → does_of ask.does ≡ Checks → IsAll t ask.name ask.splits (answer.Checked reported) → Answered input (answer.Checked reported)
  answers_checked None reported asks is = tt
  answers_checked (Some left) reported asks is = subst (λ (d : Does). Is left d (answer.Checked reported)) (sym asks) is

  pub answers_denied_decoding : (input : Option (List ℕ)) (name : List ℕ) (a : Answer) → does_of ask.does ≡ Decodes name → IsDenied t ask.name ask.splits name a → Answered input a
  answers_denied_decoding None name a asks is = tt
  answers_denied_decoding (Some left) name a asks is = subst (λ (d : Does). Is left d a) (sym asks) (inl is)

  pub answers_denied_encoding : (input : Option (List ℕ)) (name : List ℕ) (a : Answer) → does_of ask.does ≡ Encodes name → IsDenied t ask.name ask.splits name a → Answered input a
  answers_denied_encoding None name a asks is = tt
  answers_denied_encoding (Some left) name a asks is = subst (λ (d : Does). Is left d a) (sym asks) (inl is)

  pub answers_read : (input : Option (List ℕ)) (name : List ℕ) (m : Typed) (a : Answer) → does_of ask.does ≡ Decodes name → m.domains ≡ t.domains → Serves t ask.name ask.splits name m.graph
      → IfSome input (λ left. IsReadAs m.domains m.graph left a) → Answered input a
  answers_read None name m a asks types serves read = tt
  answers_read (Some left) name m a asks types serves read =
      let here = subst (λ (ds : List Domain). IsReadAs ds m.graph left a) types read in
      subst (λ (d : Does). Is left d a) (sym asks) (inr (m.graph, serves, here))

  pub answers_written : (input : Option (List ℕ)) (name : List ℕ) (m : Typed) (a : Answer) → does_of ask.does ≡ Encodes name → m.domains ≡ t.domains → Serves t ask.name ask.splits name m.graph
      → IfSome input (λ left. IsWrittenAs m.domains m.graph left a) → Answered input a
  answers_written None name m a asks types serves written = tt
  answers_written (Some left) name m a asks types serves written =
      let here = subst (λ (ds : List Domain). IsWrittenAs ds m.graph left a) types written in
      subst (λ (d : Does). Is left d a) (sym asks) (inr (m.graph, serves, here))

-- ---- answers to words, over what shelf and input tell

abbrev pub AnsweredOf : List (List ℕ) → Option Texts → Option (List ℕ) → Answer → Type 0
AnsweredOf words shelf left a = IfSome shelf (λ texts. IfSome left (λ l. Answers words texts l a))

module _ (words : List (List ℕ)) where
  pub usage_answers : (shelf : Option Texts) (left : Option (List ℕ)) (a : Answer) → HaveNoForm words → a ≡ answer.Usage → AnsweredOf words shelf left a
  usage_answers None left a none is = tt
  usage_answers (Some texts) None a none is = tt
  usage_answers (Some texts) (Some l) a none is = by_words none is

  pub walk_answers : (shelf : Option Texts) (left : Option (List ℕ)) (ask : Ask) (a : Answer) → asked_for words ≡ Some ask → IfSome shelf (λ texts. EndsAt texts ask.name a) → AnsweredOf words shelf left a
  walk_answers None left ask a formed ends = tt
  walk_answers (Some texts) None ask a formed ends = tt
  walk_answers (Some texts) (Some l) ask a formed ends = by_walk ask formed ends

  module _ (r : Request) (formed : asked_for words ≡ Some r.ask) where
    abbrev Closed : Option Texts → Type 0
    Closed shelf = IfSome shelf (λ texts. IsClosure texts r.ask.name r.asked r.trees)

    pub refusal_answers : (shelf : Option Texts) (left : Option (List ℕ)) (a : Answer) → Closed shelf → IsRefusedFor r.asked r.trees a → AnsweredOf words shelf left a
    refusal_answers None left a closure refused = tt
    refusal_answers (Some texts) None a closure refused = tt
    refusal_answers (Some texts) (Some l) a closure refused = by_refusal r (record { words_are = formed; closure = closure }) refused

    pub messages_answer : (shelf : Option Texts) (left : Option (List ℕ)) (t : TypedMessages) (a : Answer) → Closed shelf → Means r.asked r.trees t → IfSome left (λ l. AnswersTo r.ask t l a) → AnsweredOf words shelf left a
    messages_answer None left t a closure means is = tt
    messages_answer (Some texts) None t a closure means is = tt
    messages_answer (Some texts) (Some l) t a closure means is = by_messages r t (record { words_are = formed; closure = closure }) means is

-- where a walk stops, it ends with this answer, over what the shelf tells
pub stop_ends : (shelf : Option Texts) (name : List ℕ) (stop : Stop) (a : Answer) → IfSome shelf (λ texts. Stops texts name stop) → ((texts : Texts) → Stops texts name stop → EndsAt texts name a) → IfSome shelf (λ texts. EndsAt texts name a)
stop_ends None name stop a stops ends = tt
stop_ends (Some texts) name stop a stops ends = ends texts stops

-- ---- the outcome

-- a fault is the answer only for its cause
caused : (f : FaultCounts) (a : Answer) → (a ≡ answer.ShelfFault → HasRisen f.shelf_before f.shelf_after) → (a ≡ answer.SourceFault → HasRisen f.source_before f.source_after) → IsCaused f a
caused f answer.ShelfFault by_shelf by_source = by_shelf refl
caused f answer.SourceFault by_shelf by_source = by_source refl
caused f other by_shelf by_source = tt

outcome_in : (words : List (List ℕ)) (texts : Texts) (left : List ℕ) (f : FaultCounts) (a : Answer) (s : Status) (written : List ℕ) → Answers words texts left a → IsCaused f a → Prints a s written → Outcome words texts left f s written
outcome_in words texts left f a status.NoMemory written answers cause prints = prints
outcome_in words texts left f a other written answers cause prints = (a, answers, cause, prints)

-- what was written of the answer is the outcome
pub outcome_of : (told : Option Texts) (input : Option (List ℕ)) (words : List (List ℕ)) (f : FaultCounts) (a : Answer) (s : Status) (W : List ℕ → Type 0)
    → (a ≡ answer.ShelfFault → HasRisen f.shelf_before f.shelf_after) → (a ≡ answer.SourceFault → HasRisen f.source_before f.source_after)
    → IfSome told (λ texts. IfSome input (λ left. Answers words texts left a)) → ((written : List ℕ) × W written × Prints a s written)
    → IfSome told (λ texts. IfSome input (λ left. (written : List ℕ) × W written × Outcome words texts left f s written))
outcome_of None input words f a s W by_shelf by_source answers prints = tt
outcome_of (Some texts) None words f a s W by_shelf by_source answers prints = tt
outcome_of (Some texts) (Some left) words f a s W by_shelf by_source answers prints =
    (prints.0, prints.1, outcome_in words texts left f a s prints.0 answers (caused f a by_shelf by_source) prints.2)
