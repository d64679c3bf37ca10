-- What the words of a command ask for.
--   Does, Ask         what is done, with which package, and how many splits a query may take
--   asked_for words   what the words ask for, if they have the form of a command that is served
use Rattle.std.specs.Prelude.{◌≡◌, ℕ, List, Option, Some, None, option_and_then}
use Rattle.rx_words.specs.Words.{Asked, Check, Decode, Encode, Run, Load, form_of}

-- all messages of the package are checked, or an input is decoded or encoded as this message of it
pub data Does : Type 0 where
  Checks : Does
  Decodes : List ℕ → Does
  Encodes : List ℕ → Does

pub record Ask : Type 0 where
  pub name : List ℕ
  pub does : Does
  pub splits : ℕ

-- machines, workloads and further packages are not served yet
abbrev pub ask_with : ℕ → Asked → Option Ask
ask_with splits (Check name) = Some (record { name = name; does = Checks; splits = splits })
ask_with splits (Decode name message None) = Some (record { name = name; does = Decodes message; splits = splits })
ask_with splits (Decode name message (Some further)) = None
ask_with splits (Encode name message) = Some (record { name = name; does = Encodes message; splits = splits })
ask_with splits (Run name machine) = None
ask_with splits (Load count) = None

abbrev pub asked_for : List (List ℕ) → Option Ask
asked_for words = option_and_then (λ wanted. ask_with wanted.splits wanted.command) (form_of words)

-- the words are those of no command
abbrev pub HaveNoForm : List (List ℕ) → Type 0
HaveNoForm words = asked_for words ≡ None

-- the message that is asked for
abbrev pub message_asked : Does → Option (List ℕ)
message_asked Checks = None
message_asked (Decodes message) = Some message
message_asked (Encodes message) = Some message

-- the words ask for a command with an input
abbrev pub HaveInput : List (List ℕ) → Type 0
HaveInput words = (ask : Ask) × (message : List ℕ) × (asked_for words ≡ Some ask) × (message_asked ask.does ≡ Some message)

-- the words ask for a command without an input
abbrev pub HaveNoInput : List (List ℕ) → Type 0
HaveNoInput words = (ask : Ask) × (asked_for words ≡ Some ask) × (message_asked ask.does ≡ None)
