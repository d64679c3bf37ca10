-- The form of a command's words, and what they ask for.
--   Asked, Wanted               a command with its names and numbers; the same with its splits
--   words_from stage g words    what the words give to the operand and the options
--   judged command g            what is asked for by what was given
--   HasNames                    the names of a command are names
--   form_of words               what the words ask for, if they have a command's form
use Rattle.std.specs.Prelude.{◌≡◌, ℕ, Bool, true, ◌==◌, List, [], ◌∷◌, Option, Some, None, if◌then◌else◌, codes, option_map, option_and_then}
use Rattle.std.specs.List.{list_any, before_first, after_first}
use Rattle.std.specs.Str.{bytes_eq}
use Rattle.rx_words.specs.declared.line.CommandName.{CommandName}
use Rattle.rx_words.specs.declared.line.CommandName.TheVariants as code
use Rattle.rx_words.specs.Form.{Text, Slot, operand, Given, nothing_given, Stage, any_word, value_of, operands, give, stay, after_option, option_named, at_end, command_named}
use Rattle.rx_words.specs.Names.{is_name, named, pair_in}
use Rattle.rx_words.specs.Numbers.{number_in}

-- a command with its names and numbers
pub data Asked : Type 0 where
  -- a package
  Check : Text → Asked
  -- a package, a message of it, and the package of `--deep`, if any
  Decode : Text → Text → Option Text → Asked
  -- a package and a message of it
  Encode : Text → Text → Asked
  -- a package and a machine of it
  Run : Text → Text → Asked
  -- how many messages
  Load : ℕ → Asked

-- a command, and how many splits a query may take
pub record Wanted : Type 0 where
  pub command : Asked
  pub splits : ℕ

infixl 10 ◌>>=◌
abbrev pub ◌>>=◌ : {A B : Type 0} → Option A → (A → Option B) → Option B
o >>= f = option_and_then f o

-- ---- what the words give

-- what stands behind the byte c
abbrev pub behind : ℕ → Text → Option Text
behind c [] = None
behind c (b ∷ bs) = if b == c then Some bs else None

-- the value behind the first `=`, if there is one
abbrev pub attached : Text → Option Text
attached text = if list_any (λ b. b == 61) text then Some (after_first (λ b. b == 61) text) else None

-- the option whose name stands before the first `=`
abbrev pub option_of : Text → Option (Slot × Option Text)
option_of text = option_map (λ slot. (slot, attached text)) (option_named (before_first (λ b. b == 61) text))

-- the option that a word names behind two hyphens, and the value that it attaches
abbrev pub option_in : Text → Option (Slot × Option Text)
option_in word = behind 45 word >>= behind 45 >>= option_of

-- an option, or else the operand
abbrev pub option_or_operand : Given → Text → Option (Slot × Option Text) → Option (Stage × Given)
option_or_operand g word (Some p) = after_option p.1 p.0 g
option_or_operand g word None = stay any_word (give operand word g)

-- One word more: `--` ends the options, an option without a value takes the next word for it, and
-- behind `--` each word is an operand.
abbrev pub with_word : Stage → Given → Text → Option (Stage × Given)
with_word any_word g word = if bytes_eq word (codes "--") then Some (operands, g)
    else option_or_operand g word (option_in word)
with_word (value_of slot) g word = stay any_word (give slot word g)
with_word operands g word = stay operands (give operand word g)

unfoldable pub words_from : Stage → Given → List Text → Option Given
words_from stage g [] = at_end stage g
words_from stage g (word ∷ rest) =
    option_and_then (λ next. words_from next.0 next.1 rest) (with_word stage g word)

-- ---- what it asks for

-- from 1 to 4,096 splits, and 1,024 where they are not given
abbrev pub splits_of : Option Text → Option ℕ
splits_of None = Some 1024
splits_of (Some text) = number_in 1 4096 text

-- the package of `--deep`, if it is given, which it may be with `decode` alone
abbrev pub deep_for : CommandName → Option Text → Option (Option Text)
deep_for name None = Some None
deep_for code.Decode (Some text) = option_map (λ q. Some q) (named text)
deep_for name (Some text) = None

abbrev pub asked : CommandName → Text → Option Text → Option Asked
asked code.Check text deep = option_map (λ p. Check p) (named text)
asked code.Decode text deep = option_map (λ p. Decode p.0 p.1 deep) (pair_in text)
asked code.Encode text deep = option_map (λ p. Encode p.0 p.1) (pair_in text)
asked code.Run text deep = option_map (λ p. Run p.0 p.1) (pair_in text)
asked code.Load text deep = option_map (λ count. Load count) (number_in 1 1000 text)

abbrev pub judged : CommandName → Given → Option Wanted
judged name g = do
  text ← g.operand_value
  deep ← deep_for name g.deep_value
  splits ← splits_of g.splits_value
  command ← asked name text deep
  Some (record { command = command; splits = splits })

-- the first word names the command
abbrev pub form_of : List Text → Option Wanted
form_of [] = None
form_of (word ∷ rest) = command_named word >>= (λ name. words_from any_word nothing_given rest >>= judged name)

-- ---- what holds of it

abbrev pub HasNames : Asked → Type 0
HasNames (Check name) = is_name name ≡ true
HasNames (Decode name message further) = (is_name name ≡ true) × (is_name message ≡ true)
HasNames (Encode name message) = (is_name name ≡ true) × (is_name message ≡ true)
HasNames (Run name machine) = (is_name name ≡ true) × (is_name machine ≡ true)
HasNames (Load count) = Unit {0}
