-- What an answer tells of the input, and what its status tells of it.
use Rattle.std.proofs.Common.{◌≡◌, ◌⊎◌, inl, inr, Bool, true, false, List, ℕ, Some, None, Result, Ok, Err, refl, sym, ap, ◌∙◌, subst}
use Rattle.std.specs.Prelude.{if◌then◌else◌, ◌==◌}
use Rattle.rx_forms.specs.Checkable.{TypedMessages}
use Rattle.rx_syntax.specs.declared.tree.PackageTree.{PackageTree}
use Rattle.rx_decode.specs.declared.decoding.Decoded.{Decoded}
use Rattle.rx_decode.specs.declared.decoding.Decoded.TheVariants as decoded
use Rattle.rx_encode.specs.declared.encoding.Encoded.{Encoded}
use Rattle.rx_encode.specs.declared.encoding.Encoded.TheVariants as encoded
use Rattle.rx_program.specs.declared.status.Status.{Status}
use Rattle.rx_program.specs.declared.status.Status.TheVariants as status
use Rattle.rx_program.specs.declared.answer.Answer.{Answer}
use Rattle.rx_program.specs.declared.answer.Answer.TheVariants as answer
use Rattle.rx_program.specs.declared.answer.Early.{Early}
use Rattle.rx_program.specs.declared.answer.Early.TheVariants as early
use Rattle.rx_program.specs.declared.fault.NoMemory.{NoMemory}
use Rattle.rx_program.specs.Words.{Ask, asked_for, message_asked, HaveNoForm, HaveInput, HaveNoInput}
use Rattle.rx_program.specs.Heard.{IsOfWalk, IsOfMessages, IsOfInput, IsOfWhole, IsOfAll, IsEarly, IfAnswered, settled, IsTold, IsHeard}
use Rattle.rx_program.specs.Refusals.{IsRefusedFor}
use Rattle.rx_program.specs.Request.{IsDenied}
use Rattle.rx_program.specs.Outcome.{status_of, status_of_decoded, status_of_encoded, IsShown, MayRefuseWords, ReadsAll, LeavesInput}

-- ---- answers, early or not

-- what is so of the answer is so of it when it is settled
pub in_answer : (P : Answer → Type 0) (r : Result Answer Early) (s : Result Answer NoMemory) (a : Answer) → s ≡ settled r → s ≡ Ok a → IfAnswered r P → P a
in_answer P (Ok x) s a same is has = (let e : x ≡ a = cc in subst P e has)
in_answer P (Err (early.Answer x)) s a same is has = (let e : x ≡ a = cc in subst P e has)
in_answer P (Err early.NoMemory) s a same is has = absurd (let no : s ≡ Err (record {}) = same in cc)

pub answered_weaker : (P Q : Answer → Type 0) (r : Result Answer Early) → ((a : Answer) → P a → Q a) → IfAnswered r P → IfAnswered r Q
answered_weaker P Q (Ok a) weaker is = weaker a is
answered_weaker P Q (Err (early.Answer a)) weaker is = weaker a is
answered_weaker P Q (Err early.NoMemory) weaker is = tt

pub early_weaker : (P Q : Answer → Type 0) (e : Early) → ((a : Answer) → P a → Q a) → IsEarly P e → IsEarly Q e
early_weaker P Q (early.Answer a) weaker is = weaker a is
early_weaker P Q early.NoMemory weaker is = tt

pub early_both : (P Q R : Answer → Type 0) (e : Early) → ((a : Answer) → P a → Q a → R a) → IsEarly P e → IsEarly Q e → IsEarly R e
early_both P Q R (early.Answer a) both one two = both a one two
early_both P Q R early.NoMemory both one two = tt

-- ---- kinds of answers

whole_of_input : (a : Answer) → IsOfWhole a → IsOfInput a
whole_of_input (answer.Decoded d name) is = tt
whole_of_input (answer.Encoded e name) is = tt
whole_of_input other is = absurd is

input_not_all : (a : Answer) → IsOfInput a → IsOfAll a → ⊥
input_not_all (answer.Checked reported) is all = absurd is
input_not_all other is all = absurd all

pub input_of_messages : (a : Answer) → IsOfInput a → IsOfMessages a
input_of_messages answer.SourceFault is = tt
input_of_messages answer.InputLimit is = tt
input_of_messages (answer.Decoded d name) is = tt
input_of_messages (answer.Encoded e name) is = tt
input_of_messages other is = absurd is

-- an answer that came before the input was needed, and is no report of all messages
pub record IsQuiet (a : Answer) : Type 0 where
  pub input : IsOfInput a → ⊥
  pub all : IsOfAll a → ⊥

pub walk_quiet : (a : Answer) → IsOfWalk a → IsQuiet a
walk_quiet answer.ShelfFault is = record { input = λ h. h; all = λ h. h }
walk_quiet (answer.NoPackage name) is = record { input = λ h. h; all = λ h. h }
walk_quiet (answer.TextLimit file) is = record { input = λ h. h; all = λ h. h }
walk_quiet (answer.Refused file refusal) is = record { input = λ h. h; all = λ h. h }
walk_quiet answer.PackageLimit is = record { input = λ h. h; all = λ h. h }
walk_quiet other is = absurd is

pub refused_walks : (asked : List (List ℕ)) (trees : List PackageTree) (a : Answer) → IsRefusedFor asked trees a → IsOfWalk a
refused_walks asked trees (answer.Refused file refusal) is = tt
refused_walks asked trees other is = absurd is

refused_no_fault : (asked : List (List ℕ)) (trees : List PackageTree) (a : Answer) → IsRefusedFor asked trees a → a ≡ answer.ShelfFault → ⊥
refused_no_fault asked trees a is e = subst (IsRefusedFor asked trees) e is

module _ (t : TypedMessages) (owner : List ℕ) (splits : ℕ) (name : List ℕ) where
  pub denied_quiet : (a : Answer) → IsDenied t owner splits name a → IsQuiet a
  denied_quiet (answer.NoMessage home message) is = record { input = λ h. h; all = λ h. h }
  denied_quiet (answer.Rejected reported) is = record { input = λ h. h; all = λ h. h }
  denied_quiet other is = absurd is

  pub denied_of_messages : (a : Answer) → IsDenied t owner splits name a → IsOfMessages a
  denied_of_messages (answer.NoMessage home message) is = tt
  denied_of_messages (answer.Rejected reported) is = tt
  denied_of_messages other is = absurd is

-- ---- what is told

module _ (words : List (List ℕ)) (ask : Ask) (formed : asked_for words ≡ Some ask) where
  has_form : HaveNoForm words → ⊥
  has_form none = (let no : Some ask ≡ None = sym formed ∙ none in cc)

  told_with : (F : Type 0) (a : Answer) → (a ≡ answer.Usage → ⊥) → (a ≡ answer.ShelfFault → F) → IsTold words F a
  told_with F a not_usage fault = record { usage = λ e. absurd (not_usage e); no_form = λ none. absurd (has_form none); shelf = fault }

  pub told_walk : (F : Type 0) (a : Answer) → IsOfWalk a → (a ≡ answer.ShelfFault → F) → IsTold words F a
  told_walk F a kind fault = told_with F a (λ e. subst IsOfWalk e kind) fault

  pub told_refused : (F : Type 0) (asked : List (List ℕ)) (trees : List PackageTree) (a : Answer) → IsRefusedFor asked trees a → IsTold words F a
  told_refused F asked trees a is = told_with F a (λ e. subst (IsRefusedFor asked trees) e is) (λ e. absurd (refused_no_fault asked trees a is e))

  pub told_messages : (F : Type 0) (a : Answer) → IsOfMessages a → IsTold words F a
  told_messages F a kind = told_with F a (λ e. subst IsOfMessages e kind) (λ e. absurd (subst IsOfMessages e kind))

  -- what the words ask for has no input
  pub no_input_of : HaveNoInput words → message_asked ask.does ≡ None
  no_input_of none =
      let same : none.0 ≡ ask = let e : Some none.0 ≡ Some ask = sym none.1 ∙ formed in cc in
      ap (λ (a : Ask). message_asked a.does) (sym same) ∙ none.2

  pub have_no_input : message_asked ask.does ≡ None → HaveNoInput words
  have_no_input none = (ask, formed, none)

pub told_usage : (words : List (List ℕ)) (F : Type 0) (a : Answer) → HaveNoForm words → a ≡ answer.Usage → IsTold words F a
told_usage words F a none is = record { usage = λ e. none; no_form = λ h. is; shelf = λ e. absurd (let no : answer.ShelfFault ≡ answer.Usage = sym e ∙ is in cc) }

-- ---- what is heard

module _ (N S E F : Type 0) (a : Answer) where
  pub heard_of_input : IsOfInput a → (IsOfWhole a → E) → (a ≡ answer.SourceFault → F) → IsHeard N S E F a
  heard_of_input kind whole source = record { all = λ is. absurd (input_not_all a kind is); whole = whole; source = source; unread = λ none. absurd (none kind) }

  pub heard_before : (IsOfInput a → ⊥) → (IsOfAll a → N) → S → IsHeard N S E F a
  heard_before before all same = record { all = all; whole = λ is. absurd (before (whole_of_input a is)); source = λ e. absurd (before (subst IsOfInput (sym e) tt)); unread = λ none. same }

  pub heard_quiet : IsQuiet a → S → IsHeard N S E F a
  heard_quiet quiet same = heard_before quiet.input (λ is. absurd (quiet.all is)) same

  pub heard_usage : a ≡ answer.Usage → S → IsHeard N S E F a
  heard_usage is same = heard_before (λ h. subst IsOfInput is h) (λ h. absurd (subst IsOfAll is h)) same

  pub heard_weaker : (M : Type 0) → (N → M) → IsHeard N S E F a → IsHeard M S E F a
  heard_weaker M weaker h = record { all = λ is. weaker (h.all is); whole = h.whole; source = h.source; unread = h.unread }

-- ---- what the status tells

rejected_done : (b : Bool) → status.Done ≡ (if b then status.Undecided else status.NotAccepted) → ⊥
rejected_done true h = cc
rejected_done false h = cc

rejected_refused : (b : Bool) → status.InputRefused ≡ (if b then status.Undecided else status.NotAccepted) → ⊥
rejected_refused true h = cc
rejected_refused false h = cc

checked_refused : (b d : Bool) → status.InputRefused ≡ (if b then (if d then status.Done else status.Undecided) else status.NotAccepted) → ⊥
checked_refused true true h = cc
checked_refused true false h = cc
checked_refused false d h = cc

done_of : (a : Answer) → status.Done ≡ status_of a → IsOfWhole a ⊎ IsOfAll a
done_of (answer.Checked reported) h = inr tt
done_of (answer.Rejected reported) h = absurd (rejected_done (reported.failed == 0) h)
done_of (answer.Decoded d name) h = inl tt
done_of (answer.Encoded e name) h = inl tt
done_of other h = absurd (let no : status.Done ≡ status_of other = h in cc)

refused_of : (a : Answer) → status.InputRefused ≡ status_of a → IsOfWhole a
refused_of (answer.Checked reported) h = absurd (checked_refused (reported.failed == 0) (reported.undecided == 0) h)
refused_of (answer.Rejected reported) h = absurd (rejected_refused (reported.failed == 0) h)
refused_of (answer.Decoded d name) h = tt
refused_of (answer.Encoded e name) h = tt
refused_of other h = absurd (let no : status.InputRefused ≡ status_of other = h in cc)

ask_same : (a b : Ask) → Some a ≡ Some b → a ≡ b
ask_same a b h = cc

not_both : (words : List (List ℕ)) → HaveInput words → HaveNoInput words → ⊥
not_both words has none =
    let same : has.0 ≡ none.0 = ask_same has.0 none.0 (sym has.2 ∙ none.1) in
    let no : Some has.1 ≡ None = sym has.3 ∙ ap (λ (a : Ask). message_asked a.does) same ∙ none.2 in
    cc

-- what was answered of an input was read to its end
pub reads_all : (a : Answer) (s : Status) (S E F : Type 0) (words : List (List ℕ)) → IsShown a s → IsHeard (HaveNoInput words) S E F a → HaveInput words → ReadsAll s E
reads_all a status.Done S E F words shown heard has = elim (done_of a shown) [ inl is ↦ heard.whole is | inr is ↦ absurd (not_both words has (heard.all is)) ]
reads_all a status.InputRefused S E F words shown heard has = heard.whole (refused_of a shown)
reads_all a other S E F words shown heard has = tt

-- the statuses that an answer about the input may have
abbrev is_late : Status → Bool
is_late status.Done = true
is_late status.InputRefused = true
is_late status.SourceFault = true
is_late status.Limit = true
is_late s = false

late_decoded : (d : Decoded) → is_late (status_of_decoded d) ≡ true
late_decoded (decoded.Json text) = refl
late_decoded (decoded.Refused stuck) = refl

late_encoded : (e : Encoded) → is_late (status_of_encoded e) ≡ true
late_encoded (encoded.Bytes bytes) = refl
late_encoded other = refl

late_of : (a : Answer) → IsOfInput a → is_late (status_of a) ≡ true
late_of answer.SourceFault is = refl
late_of answer.InputLimit is = refl
late_of (answer.Decoded d name) is = late_decoded d
late_of (answer.Encoded e name) is = late_encoded e
late_of other is = absurd is

not_late : false ≡ true → ⊥
not_late h = cc

before : (a : Answer) (s : Status) → is_late s ≡ false → s ≡ status_of a → IsOfInput a → ⊥
before a s soon same is = not_late (sym soon ∙ ap (λ (x : Status). is_late x) same ∙ late_of a is)

-- what was answered before the input was needed left it alone
pub leaves_input : (a : Answer) (s : Status) (N S E F : Type 0) → IsShown a s → IsHeard N S E F a → LeavesInput s S
leaves_input a status.NotAccepted N S E F shown heard = heard.unread (before a status.NotAccepted refl shown)
leaves_input a status.Words N S E F shown heard = heard.unread (before a status.Words refl shown)
leaves_input a status.Specification N S E F shown heard = heard.unread (before a status.Specification refl shown)
leaves_input a status.Undecided N S E F shown heard = heard.unread (before a status.Undecided refl shown)
leaves_input a status.ShelfFault N S E F shown heard = heard.unread (before a status.ShelfFault refl shown)
leaves_input a other N S E F shown heard = tt

-- a status that no answer about messages has
module _ (s : Status) (done : s ≡ status.Done → ⊥) (failed : s ≡ status.NotAccepted → ⊥) (undecided : s ≡ status.Undecided → ⊥) (refused : s ≡ status.InputRefused → ⊥) (limit : s ≡ status.Limit → ⊥) where
  not_checked : (b d : Bool) → s ≡ (if b then (if d then status.Done else status.Undecided) else status.NotAccepted) → ⊥
  not_checked true true h = done h
  not_checked true false h = undecided h
  not_checked false d h = failed h

  not_rejected : (b : Bool) → s ≡ (if b then status.Undecided else status.NotAccepted) → ⊥
  not_rejected true h = undecided h
  not_rejected false h = failed h

  not_decoded : (d : Decoded) → s ≡ status_of_decoded d → ⊥
  not_decoded (decoded.Json text) h = done h
  not_decoded (decoded.Refused stuck) h = refused h

  not_encoded : (e : Encoded) → s ≡ status_of_encoded e → ⊥
  not_encoded (encoded.Bytes bytes) h = done h
  not_encoded encoded.TooLong h = limit h
  not_encoded other h = refused h

-- Words is the status of Usage alone
words_of : (a : Answer) → status.Words ≡ status_of a → a ≡ answer.Usage
words_of answer.Usage h = refl
words_of (answer.Checked x) h = absurd (not_checked status.Words (λ e. cc) (λ e. cc) (λ e. cc) (λ e. cc) (λ e. cc) (x.failed == 0) (x.undecided == 0) h)
words_of (answer.Rejected x) h = absurd (not_rejected status.Words (λ e. cc) (λ e. cc) (λ e. cc) (λ e. cc) (λ e. cc) (x.failed == 0) h)
words_of (answer.Decoded d name) h = absurd (not_decoded status.Words (λ e. cc) (λ e. cc) (λ e. cc) (λ e. cc) (λ e. cc) d h)
words_of (answer.Encoded e name) h = absurd (not_encoded status.Words (λ k. cc) (λ k. cc) (λ k. cc) (λ k. cc) (λ k. cc) e h)
words_of other h = absurd (let no : status.Words ≡ status_of other = h in cc)

pub usage_of : (a : Answer) (s : Status) → IsShown a s → s ≡ status.Words → a ≡ answer.Usage
usage_of a s shown is = words_of a (subst (IsShown a) is shown)

-- ShelfFault that of a fault of the shelf, and SourceFault that of a fault of the source
shelf_of : (a : Answer) → status.ShelfFault ≡ status_of a → a ≡ answer.ShelfFault
shelf_of answer.ShelfFault h = refl
shelf_of (answer.Checked x) h = absurd (not_checked status.ShelfFault (λ e. cc) (λ e. cc) (λ e. cc) (λ e. cc) (λ e. cc) (x.failed == 0) (x.undecided == 0) h)
shelf_of (answer.Rejected x) h = absurd (not_rejected status.ShelfFault (λ e. cc) (λ e. cc) (λ e. cc) (λ e. cc) (λ e. cc) (x.failed == 0) h)
shelf_of (answer.Decoded d name) h = absurd (not_decoded status.ShelfFault (λ e. cc) (λ e. cc) (λ e. cc) (λ e. cc) (λ e. cc) d h)
shelf_of (answer.Encoded e name) h = absurd (not_encoded status.ShelfFault (λ k. cc) (λ k. cc) (λ k. cc) (λ k. cc) (λ k. cc) e h)
shelf_of other h = absurd (let no : status.ShelfFault ≡ status_of other = h in cc)

pub shelf_fault_of : (a : Answer) (s : Status) → IsShown a s → s ≡ status.ShelfFault → a ≡ answer.ShelfFault
shelf_fault_of a s shown is = shelf_of a (subst (IsShown a) is shown)

source_of : (a : Answer) → status.SourceFault ≡ status_of a → a ≡ answer.SourceFault
source_of answer.SourceFault h = refl
source_of (answer.Checked x) h = absurd (not_checked status.SourceFault (λ e. cc) (λ e. cc) (λ e. cc) (λ e. cc) (λ e. cc) (x.failed == 0) (x.undecided == 0) h)
source_of (answer.Rejected x) h = absurd (not_rejected status.SourceFault (λ e. cc) (λ e. cc) (λ e. cc) (λ e. cc) (λ e. cc) (x.failed == 0) h)
source_of (answer.Decoded d name) h = absurd (not_decoded status.SourceFault (λ e. cc) (λ e. cc) (λ e. cc) (λ e. cc) (λ e. cc) d h)
source_of (answer.Encoded e name) h = absurd (not_encoded status.SourceFault (λ k. cc) (λ k. cc) (λ k. cc) (λ k. cc) (λ k. cc) e h)
source_of other h = absurd (let no : status.SourceFault ≡ status_of other = h in cc)

pub source_fault_of : (a : Answer) (s : Status) → IsShown a s → s ≡ status.SourceFault → a ≡ answer.SourceFault
source_fault_of a s shown is = source_of a (subst (IsShown a) is shown)

-- words without form end a command so
pub may_refuse : (a : Answer) (s : Status) → IsShown a s → a ≡ answer.Usage → MayRefuseWords s
may_refuse a s shown is = by_status s (subst (λ (x : Answer). IsShown x s) is shown)
  where
    by_status : (s : Status) → IsShown answer.Usage s → MayRefuseWords s
    by_status status.Words h = tt
    by_status status.SinkFault h = tt
    by_status status.NoMemory h = tt
    by_status other h = absurd (let no : other ≡ status.Words = h in cc)
