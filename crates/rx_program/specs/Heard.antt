-- What an answer tells of shelf and input, whatever they hold.
--   IsOfWalk, IsOfMessages, IsOfInput, IsOfWhole, IsOfAll    kinds of answers
--   IsEarly P e, IfAnswered r P                              an answer is so, whether it came early or not
--   settled r                                                an early answer is an answer
--   IsTold                                                   the causes of two answers
--   IsHeard                                                  what was taken of the input
use Rattle.std.specs.Prelude.{◌≡◌, ℕ, List, Result, Ok, Err}
use Rattle.rx_program.specs.declared.answer.Answer.{Answer}
use Rattle.rx_program.specs.declared.answer.Answer.TheVariants.{Usage, ShelfFault, NoPackage, TextLimit, Refused, PackageLimit, NoMessage, Checked, Rejected, SourceFault, InputLimit, Decoded, Encoded}
use Rattle.rx_program.specs.declared.answer.Early.{Early}
use Rattle.rx_program.specs.declared.answer.Early.TheVariants as early
use Rattle.rx_program.specs.declared.fault.NoMemory.{NoMemory}
use Rattle.rx_program.specs.Words.{HaveNoForm}

-- an answer of a walk that does not come through all packages
abbrev pub IsOfWalk : Answer → Type 0
IsOfWalk ShelfFault = Unit {0}
IsOfWalk (NoPackage name) = Unit {0}
IsOfWalk (TextLimit file) = Unit {0}
IsOfWalk (Refused file refusal) = Unit {0}
IsOfWalk PackageLimit = Unit {0}
IsOfWalk other = ⊥

-- an answer that needs the messages of the packages
abbrev pub IsOfMessages : Answer → Type 0
IsOfMessages (NoMessage name message) = Unit {0}
IsOfMessages (Checked reported) = Unit {0}
IsOfMessages (Rejected reported) = Unit {0}
IsOfMessages SourceFault = Unit {0}
IsOfMessages InputLimit = Unit {0}
IsOfMessages (Decoded d name) = Unit {0}
IsOfMessages (Encoded e name) = Unit {0}
IsOfMessages other = ⊥

-- an answer that is about the input
abbrev pub IsOfInput : Answer → Type 0
IsOfInput SourceFault = Unit {0}
IsOfInput InputLimit = Unit {0}
IsOfInput (Decoded d name) = Unit {0}
IsOfInput (Encoded e name) = Unit {0}
IsOfInput other = ⊥

-- an answer that says what the whole input is
abbrev pub IsOfWhole : Answer → Type 0
IsOfWhole (Decoded d name) = Unit {0}
IsOfWhole (Encoded e name) = Unit {0}
IsOfWhole other = ⊥

-- the report of all messages of a package
abbrev pub IsOfAll : Answer → Type 0
IsOfAll (Checked reported) = Unit {0}
IsOfAll other = ⊥

-- the early answer is so, unless memory ran out
abbrev pub IsEarly : (Answer → Type 0) → Early → Type 0
IsEarly P (early.Answer a) = P a
IsEarly P early.NoMemory = Unit {0}

-- the answer is so, whether it came early or not, unless memory ran out
abbrev pub IfAnswered : Result Answer Early → (Answer → Type 0) → Type 0
IfAnswered (Ok a) P = P a
IfAnswered (Err e) P = IsEarly P e

-- an early answer is an answer
abbrev pub settled : Result Answer Early → Result Answer NoMemory
settled (Ok a) = Ok a
settled (Err (early.Answer a)) = Ok a
settled (Err early.NoMemory) = Err (record {})

-- words without form, and they alone, are answered by Usage; a fault of the shelf is the answer only where it counted one
pub record IsTold (words : List (List ℕ)) (shelf_fault : Type 0) (a : Answer) : Type 0 where
  pub usage : a ≡ Usage → HaveNoForm words
  pub no_form : HaveNoForm words → a ≡ Usage
  pub shelf : a ≡ ShelfFault → shelf_fault

-- all messages are reported only by a command without an input; what says what the input is has read it to its end; a fault of the
-- input is the answer only where it counted one; an answer that is not about the input left it as it was
pub record IsHeard (no_input same at_end source_fault : Type 0) (a : Answer) : Type 0 where
  pub all : IsOfAll a → no_input
  pub whole : IsOfWhole a → at_end
  pub source : a ≡ SourceFault → source_fault
  pub unread : (IsOfInput a → ⊥) → same
