-- What the status of a command tells of the messages that it checks.
use Rattle.std.proofs.Common.{◌≡◌, refl, sym, ap, ◌∙◌, subst, ℕ, zero, suc, ◌<◌, Bool, true, false, List, [], ◌∷◌, Some, if◌then◌else◌, inl, inr, arith}
use Rattle.std.specs.Prelude.{◌==◌, filter}
use Rattle.std.specs.List.{AllByRecursion}
use Rattle.std.specs.Str.{str_eq_ignore_ascii_case}
use Rattle.std.proofs.lemmas.Bool.Decides.{Decides-eqb}
use Rattle.rx_io.specs.Shelf.{Texts}
use Rattle.rx_types.specs.Domain.{Domain}
use Rattle.rx_forms.specs.PathLimit.{MayBeChecked}
use Rattle.rx_graph.specs.Graph.{Graph}
use Rattle.rx_spec.specs.Laws.{IsSoundSpec, domains_in}
use Rattle.rx_spec.proofs.Elaborating.{elaboration_is_sound}
use Rattle.rx_report.specs.declared.reported.Reported.{Reported}
use Rattle.rx_report.specs.Reported.{messages_of, HasOpen}
use Rattle.rx_checks.specs.Laws.{HasBrokenCheck, HasLongWalk}
use Rattle.rx_report.specs.Laws.{AnyOf, AreElaborated, AreSound, CountsTellSoundness}
use Rattle.rx_report.proofs.Soundness.{tell_soundness}
use Rattle.rx_syntax.specs.declared.tree.PackageTree.{PackageTree}
use Rattle.rx_forms.specs.Checkable.{TypedMessages}
use Rattle.rx_decode.specs.declared.decoding.Decoded.{Decoded}
use Rattle.rx_decode.specs.declared.decoding.Decoded.TheVariants as decoded
use Rattle.rx_encode.specs.declared.encoding.Encoded.{Encoded}
use Rattle.rx_encode.specs.declared.encoding.Encoded.TheVariants as encoded
use Rattle.rx_program.specs.Words.{Does, Checks, Decodes, Encodes}
use Rattle.rx_program.specs.Operand.{message_in}
use Rattle.rx_program.specs.Input.{IsReadAs, IsWrittenAs}
use Rattle.rx_program.specs.Refusals.{IsRefusedFor, Means}
use Rattle.rx_program.specs.Request.{IsAll, IsDenied, IsAnswered, IsDone, AnswersTo}
use Rattle.rx_program.specs.Answers.{EndsAt, Request, Asks, Answers, by_words, by_walk, by_refusal, by_messages}
use Rattle.rx_program.specs.Outcome.{status_of, status_of_decoded, status_of_encoded}
use Rattle.rx_program.specs.Soundness.{IsAlone, AreChecked, ChecksThat, DoneShowsSoundness, NotAcceptedShowsFault, UndecidedShowsWalk}
use Rattle.rx_program.specs.declared.status.Status.{Status}
use Rattle.rx_program.specs.declared.status.Status.TheVariants.{Done, NotAccepted, Undecided, Specification}
use Rattle.rx_program.specs.declared.answer.Answer.{Answer}
use Rattle.rx_program.specs.declared.answer.Answer.TheVariants.{Usage, ShelfFault, NoPackage, TextLimit, Refused, PackageLimit, NoMessage, Checked, Rejected, SourceFault, InputLimit}
use Rattle.rx_program.specs.declared.answer.Answer.TheVariants as answer
use Rattle.rx_program.proofs.OperandLemmas.{found_has, first_same}

-- ---- counts by statuses

is_none : (n : ℕ) → (n == 0) ≡ true → n ≡ 0
is_none n h = (Decides-eqb n 0).0 h

is_some : (n : ℕ) → (n == 0) ≡ false → 0 < n
is_some zero h = cc
is_some (suc n) h = omega arith

done_by : (a b : Bool) → Done ≡ (if a then (if b then Done else Undecided) else NotAccepted) → (a ≡ true) × (b ≡ true)
done_by true true h = (refl, refl)
done_by true false h = cc
done_by false b h = cc

failed_by : (a b : Bool) → NotAccepted ≡ (if a then (if b then Done else Undecided) else NotAccepted) → a ≡ false
failed_by true true h = cc
failed_by true false h = cc
failed_by false b h = refl

undecided_by : (a b : Bool) → Undecided ≡ (if a then (if b then Done else Undecided) else NotAccepted) → b ≡ false
undecided_by true true h = cc
undecided_by true false h = refl
undecided_by false b h = cc

rejected_by : (a : Bool) → NotAccepted ≡ (if a then Undecided else NotAccepted) → a ≡ false
rejected_by true h = cc
rejected_by false h = refl

left_open : (a : Bool) → Undecided ≡ (if a then Undecided else NotAccepted) → a ≡ true
left_open true h = refl
left_open false h = cc

not_done : (a : Bool) → Done ≡ (if a then Undecided else NotAccepted) → ⊥
not_done true h = cc
not_done false h = cc

open_undecided : (r : Reported) → r.failed ≡ 0 → HasOpen r → 0 < r.undecided
open_undecided r failed (inl more) = absurd (omega (arith, failed, more))
open_undecided r failed (inr more) = more

-- ---- the messages of a package are elaborated

filtered : (P : Graph → Type 0) (p : Graph → Bool) (ms : List Graph) → AllByRecursion P ms → AllByRecursion P (filter p ms)
filtered P p [] all = tt
filtered P p (m ∷ ms) all = by_test (p m) (filtered P p ms all.1)
  where
    by_test : (b : Bool) → AllByRecursion P (filter p ms) → AllByRecursion P (if b then m ∷ filter p ms else filter p ms)
    by_test true rest = (all.0, rest)
    by_test false rest = rest

elaborated_all : (domains : List Domain) (ms : List Graph) → AllByRecursion (MayBeChecked domains) ms → AreElaborated domains ms
elaborated_all domains [] all = tt
elaborated_all domains (m ∷ ms) all = (all.0.elaborated, elaborated_all domains ms all.1)

module _ (asked : List (List ℕ)) (trees : List PackageTree) (t : TypedMessages) (means : Means asked trees t) where
  sound_spec : IsSoundSpec means.spec
  sound_spec = elaboration_is_sound asked trees means.spec means.meaning

  told : CountsTellSoundness t.domains
  told = subst CountsTellSoundness (sym means.types) (tell_soundness (domains_in means.spec) (first_same (domains_in means.spec) sound_spec.boolean))

  may_be_checked : AllByRecursion (MayBeChecked t.domains) t.graphs
  may_be_checked =
      let there = subst (λ (ms : List Graph). AllByRecursion (MayBeChecked (domains_in means.spec)) ms) (sym means.messages) sound_spec.messages in
      subst (λ (ds : List Domain). AllByRecursion (MayBeChecked ds) t.graphs) (sym means.types) there

  all_elaborated : (owner : List ℕ) → AreElaborated t.domains (messages_of owner t.graphs)
  all_elaborated owner = elaborated_all t.domains (messages_of owner t.graphs) (filtered (MayBeChecked t.domains) (λ m. str_eq_ignore_ascii_case m.«package» owner) t.graphs may_be_checked)

  one_elaborated : (owner name : List ℕ) (m : Graph) → message_in owner name t.graphs ≡ Some m → AreElaborated t.domains (m ∷ [])
  one_elaborated owner name m found = ((found_has (MayBeChecked t.domains) owner name t.graphs m may_be_checked found).elaborated, tt)

-- ---- answers

-- the statuses of reports
abbrev is_verdict : Status → Bool
is_verdict Done = true
is_verdict NotAccepted = true
is_verdict Undecided = true
is_verdict s = false

-- the statuses of reports with an open check
abbrev is_open : Status → Bool
is_open NotAccepted = true
is_open Undecided = true
is_open s = false

walk_verdict : (texts : Texts) (first : List ℕ) (a : Answer) → EndsAt texts first a → is_verdict (status_of a) ≡ false
walk_verdict texts first ShelfFault end = refl
walk_verdict texts first (NoPackage name) end = refl
walk_verdict texts first (TextLimit file) end = refl
walk_verdict texts first (Refused file refusal) end = refl
walk_verdict texts first PackageLimit end = refl
walk_verdict texts first other end = absurd end

refused_verdict : (asked : List (List ℕ)) (trees : List PackageTree) (a : Answer) → IsRefusedFor asked trees a → is_verdict (status_of a) ≡ false
refused_verdict asked trees (Refused file refusal) is = refl
refused_verdict asked trees other is = absurd is

decoded_open : (d : Decoded) → is_open (status_of_decoded d) ≡ false
decoded_open (decoded.Json text) = refl
decoded_open (decoded.Refused stuck) = refl

encoded_open : (e : Encoded) → is_open (status_of_encoded e) ≡ false
encoded_open (encoded.Bytes bytes) = refl
encoded_open other = refl

read_open : (domains : List Domain) (m : Graph) (input : List ℕ) (a : Answer) → IsReadAs domains m input a → is_open (status_of a) ≡ false
read_open domains m input SourceFault is = refl
read_open domains m input InputLimit is = refl
read_open domains m input (answer.Decoded d name) is = decoded_open d
read_open domains m input other is = absurd is

written_open : (domains : List Domain) (m : Graph) (input : List ℕ) (a : Answer) → IsWrittenAs domains m input a → is_open (status_of a) ≡ false
written_open domains m input SourceFault is = refl
written_open domains m input InputLimit is = refl
written_open domains m input (answer.Encoded e name) is = encoded_open e
written_open domains m input other is = absurd is

not_as : (f : Status → Bool) (s : Status) (a : Answer) → s ≡ status_of a → f s ≡ true → f (status_of a) ≡ false → ⊥
not_as f s a same one two = (let no : true ≡ false = sym one ∙ ap f same ∙ two in cc)

module _ (words : List (List ℕ)) (texts : Texts) (P : List Domain → ℕ → List Graph → Type 0) where
  -- what is so of the messages that a request checks
  shown : (r : Request) (t : TypedMessages) (ms : List Graph) → Asks words texts r → Means r.asked r.trees t → AreChecked t r.ask.name r.ask.does ms → P t.domains r.ask.splits ms → ChecksThat words texts P
  shown r t ms asks means checked so = record { request = r; asks = asks; all = t; means = means; messages = ms; checked = checked; so = so }

  module _ (s : Status) (verdict : is_verdict s ≡ true) (input : List ℕ) where
    -- a status of reports comes from messages
    of_messages : (a : Answer) → s ≡ status_of a → Answers words texts input a → ((r : Request) (t : TypedMessages) → Asks words texts r → Means r.asked r.trees t → AnswersTo r.ask t input a → ChecksThat words texts P) → ChecksThat words texts P
    of_messages a same (by_words none is) by_them = absurd (not_as is_verdict s Usage (same ∙ ap status_of is) verdict refl)
    of_messages a same (by_walk ask formed end) by_them = absurd (not_as is_verdict s a same verdict (walk_verdict texts ask.name a end))
    of_messages a same (by_refusal r asks refused) by_them = absurd (not_as is_verdict s a same verdict (refused_verdict r.asked r.trees a refused))
    of_messages a same (by_messages r t asks means answers) by_them = by_them r t asks means answers

-- ---- each status, of one command

abbrev Sound : List Domain → ℕ → List Graph → Type 0
Sound domains splits ms = AreSound domains ms

abbrev Broken : List Domain → ℕ → List Graph → Type 0
Broken domains splits ms = AnyOf (λ m. HasBrokenCheck domains m) ms

abbrev Long : List Domain → ℕ → List Graph → Type 0
Long domains splits ms = AnyOf (λ m. HasLongWalk domains m splits) ms

module _ (t : TypedMessages) (owner : List ℕ) (splits : ℕ) (told_of : CountsTellSoundness t.domains) where
  -- messages that are checked by a command, which are so
  abbrev CheckedThat : (List Domain → ℕ → List Graph → Type 0) → Does → Type 0
  CheckedThat P d = (ms : List Graph) × AreChecked t owner d ms × P t.domains splits ms

  module _ (elaborated : AreElaborated t.domains (messages_of owner t.graphs)) where
    all_done : (a : Answer) → Done ≡ status_of a → IsAll t owner splits a → CheckedThat Sound Checks
    all_done (Checked x) status is =
        let none = done_by (x.failed == 0) (x.undecided == 0) status in
        (messages_of owner t.graphs, refl, told_of.sound splits (messages_of owner t.graphs) x elaborated is (is_none x.failed none.0) (is_none x.undecided none.1))
    all_done other status is = absurd is

    all_failed : (a : Answer) → NotAccepted ≡ status_of a → IsAll t owner splits a → CheckedThat Broken Checks
    all_failed (Checked x) status is =
        (messages_of owner t.graphs, refl, told_of.broken splits (messages_of owner t.graphs) x elaborated is (is_some x.failed (failed_by (x.failed == 0) (x.undecided == 0) status)))
    all_failed other status is = absurd is

    all_undecided : (a : Answer) → Undecided ≡ status_of a → IsAll t owner splits a → CheckedThat Long Checks
    all_undecided (Checked x) status is =
        (messages_of owner t.graphs, refl, told_of.long splits (messages_of owner t.graphs) x elaborated is (is_some x.undecided (undecided_by (x.failed == 0) (x.undecided == 0) status)))
    all_undecided other status is = absurd is

  module _ (name : List ℕ) (one_elaborated_of : (m : Graph) → message_in owner name t.graphs ≡ Some m → AreElaborated t.domains (m ∷ [])) where
    abbrev Alone : (List Domain → ℕ → List Graph → Type 0) → Type 0
    Alone P = (ms : List Graph) × IsAlone t owner name ms × P t.domains splits ms

    denied_done : (a : Answer) → Done ≡ status_of a → IsDenied t owner splits name a → ⊥
    denied_done (NoMessage home message) status is = (let no : Done ≡ Specification = status in cc)
    denied_done (Rejected x) status is = not_done (x.failed == 0) status
    denied_done other status is = absurd is

    denied_failed : (a : Answer) → NotAccepted ≡ status_of a → IsDenied t owner splits name a → Alone Broken
    denied_failed (Rejected x) status is =
        (is.graph ∷ [], (is.graph, is.found, refl), told_of.broken splits (is.graph ∷ []) x (one_elaborated_of is.graph is.found) is.reported_is (is_some x.failed (rejected_by (x.failed == 0) status)))
    denied_failed (NoMessage home message) status is = absurd (let no : NotAccepted ≡ Specification = status in cc)
    denied_failed other status is = absurd is

    denied_undecided : (a : Answer) → Undecided ≡ status_of a → IsDenied t owner splits name a → Alone Long
    denied_undecided (Rejected x) status is =
        (is.graph ∷ [], (is.graph, is.found, refl), told_of.long splits (is.graph ∷ []) x (one_elaborated_of is.graph is.found) is.reported_is (open_undecided x (is_none x.failed (left_open (x.failed == 0) status)) is.not_passed))
    denied_undecided (NoMessage home message) status is = absurd (let no : Undecided ≡ Specification = status in cc)
    denied_undecided other status is = absurd is

    -- a message that is served is sound, and its answer has no status of an open check
    answered_done : (Is : Graph → Answer → Type 0) (a : Answer) → Done ≡ status_of a → IsAnswered t owner splits name Is a → Alone Sound
    answered_done Is a status (inl denied) = absurd (denied_done a status denied)
    answered_done Is a status (inr served) = (served.0 ∷ [], (served.0, served.1.found, refl), (served.1.sound, tt))

    answered_failed : (Is : Graph → Answer → Type 0) → ((m : Graph) (a : Answer) → Is m a → is_open (status_of a) ≡ false) → (a : Answer) → NotAccepted ≡ status_of a → IsAnswered t owner splits name Is a → Alone Broken
    answered_failed Is late a status (inl denied) = denied_failed a status denied
    answered_failed Is late a status (inr served) = absurd (not_as is_open NotAccepted a status refl (late served.0 a served.2))

    answered_undecided : (Is : Graph → Answer → Type 0) → ((m : Graph) (a : Answer) → Is m a → is_open (status_of a) ≡ false) → (a : Answer) → Undecided ≡ status_of a → IsAnswered t owner splits name Is a → Alone Long
    answered_undecided Is late a status (inl denied) = denied_undecided a status denied
    answered_undecided Is late a status (inr served) = absurd (not_as is_open Undecided a status refl (late served.0 a served.2))

module _ (t : TypedMessages) (owner : List ℕ) (splits : ℕ) (told_of : CountsTellSoundness t.domains) (elaborated : AreElaborated t.domains (messages_of owner t.graphs)) (each : (name : List ℕ) (m : Graph) → message_in owner name t.graphs ≡ Some m → AreElaborated t.domains (m ∷ [])) (input : List ℕ) (a : Answer) where
  abbrev That : (List Domain → ℕ → List Graph → Type 0) → Does → Type 0
  That P d = CheckedThat t owner splits told_of P d

  done_by_does : (d : Does) → Done ≡ status_of a → IsDone t owner splits d input a → That Sound d
  done_by_does Checks status is = all_done t owner splits told_of elaborated a status is
  done_by_does (Decodes name) status is = answered_done t owner splits told_of name (each name) (λ m. IsReadAs t.domains m input) a status is
  done_by_does (Encodes name) status is = answered_done t owner splits told_of name (each name) (λ m. IsWrittenAs t.domains m input) a status is

  failed_by_does : (d : Does) → NotAccepted ≡ status_of a → IsDone t owner splits d input a → That Broken d
  failed_by_does Checks status is = all_failed t owner splits told_of elaborated a status is
  failed_by_does (Decodes name) status is = answered_failed t owner splits told_of name (each name) (λ m. IsReadAs t.domains m input) (λ m x read. read_open t.domains m input x read) a status is
  failed_by_does (Encodes name) status is = answered_failed t owner splits told_of name (each name) (λ m. IsWrittenAs t.domains m input) (λ m x read. written_open t.domains m input x read) a status is

  undecided_by_does : (d : Does) → Undecided ≡ status_of a → IsDone t owner splits d input a → That Long d
  undecided_by_does Checks status is = all_undecided t owner splits told_of elaborated a status is
  undecided_by_does (Decodes name) status is = answered_undecided t owner splits told_of name (each name) (λ m. IsReadAs t.domains m input) (λ m x read. read_open t.domains m input x read) a status is
  undecided_by_does (Encodes name) status is = answered_undecided t owner splits told_of name (each name) (λ m. IsWrittenAs t.domains m input) (λ m x read. written_open t.domains m input x read) a status is

module _ (words : List (List ℕ)) (texts : Texts) (input : List ℕ) (a : Answer) (r : Request) (t : TypedMessages) (asks : Asks words texts r) (means : Means r.asked r.trees t) where
  so_told : CountsTellSoundness t.domains
  so_told = told r.asked r.trees t means

  so_all : AreElaborated t.domains (messages_of r.ask.name t.graphs)
  so_all = all_elaborated r.asked r.trees t means r.ask.name

  so_each : (name : List ℕ) (m : Graph) → message_in r.ask.name name t.graphs ≡ Some m → AreElaborated t.domains (m ∷ [])
  so_each = one_elaborated r.asked r.trees t means r.ask.name

  done : Done ≡ status_of a → AnswersTo r.ask t input a → ChecksThat words texts Sound
  done status is = (let found = done_by_does t r.ask.name r.ask.splits so_told so_all so_each input a r.ask.does status is in shown words texts Sound r t found.0 asks means found.1 found.2)

  not_accepted : NotAccepted ≡ status_of a → AnswersTo r.ask t input a → ChecksThat words texts Broken
  not_accepted status is = (let found = failed_by_does t r.ask.name r.ask.splits so_told so_all so_each input a r.ask.does status is in shown words texts Broken r t found.0 asks means found.1 found.2)

  undecided : Undecided ≡ status_of a → AnswersTo r.ask t input a → ChecksThat words texts Long
  undecided status is = (let found = undecided_by_does t r.ask.name r.ask.splits so_told so_all so_each input a r.ask.does status is in shown words texts Long r t found.0 asks means found.1 found.2)

pub done_shows_soundness : DoneShowsSoundness
done_shows_soundness words texts input written faults o = of_messages words texts Sound Done refl input o.0 o.3.0 o.1 (λ r t asks means is. done words texts input o.0 r t asks means o.3.0 is)

pub not_accepted_shows_fault : NotAcceptedShowsFault
not_accepted_shows_fault words texts input written faults o = of_messages words texts Broken NotAccepted refl input o.0 o.3.0 o.1 (λ r t asks means is. not_accepted words texts input o.0 r t asks means o.3.0 is)

pub undecided_shows_walk : UndecidedShowsWalk
undecided_shows_walk words texts input written faults o = of_messages words texts Long Undecided refl input o.0 o.3.0 o.1 (λ r t asks means is. undecided words texts input o.0 r t asks means o.3.0 is)
