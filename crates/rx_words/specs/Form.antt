-- What the words after the command say.
use Rattle.std.specs.Prelude.{◌||◌, ℕ, Bool, true, false, List, [], ◌∷◌, Option, Some, None, is_some}
use Rattle.std.specs.Prelude.{if◌then◌else◌, codes, option_map, option_and_then}
use Rattle.std.specs.Str.{bytes_eq}
use Rattle.rx_words.specs.declared.line.CommandName.{CommandName}
use Rattle.rx_words.specs.declared.line.CommandName.TheVariants.{Check, Decode, Encode, Run, Load}
use Rattle.clap.specs.Lexer.{long_of, short_of}

abbrev pub Text : Type 0
Text = List ℕ

-- what the words can give a value to
pub data Slot : Type 0 where
  operand : Slot
  splits : Slot
  deep : Slot

pub record Given : Type 0 where
  pub operand_value : Option Text
  pub splits_value : Option Text
  pub deep_value : Option Text

abbrev pub nothing_given : Given
nothing_given = record { operand_value = None; splits_value = None; deep_value = None }

abbrev pub value_at : Slot → Given → Option Text
value_at operand g = g.operand_value
value_at splits g = g.splits_value
value_at deep g = g.deep_value

abbrev pub set_at : Slot → Text → Given → Given
set_at operand v g = record g { operand_value = Some v }
set_at splits v g = record g { splits_value = Some v }
set_at deep v g = record g { deep_value = Some v }

-- each slot gets its value once
abbrev pub give : Slot → Text → Given → Option Given
give slot v g = if is_some (value_at slot g) then None else Some (set_at slot v g)

abbrev pub option_named : Text → Option Slot
option_named name = if bytes_eq (codes "splits") name then Some splits
    else (if bytes_eq (codes "deep") name then Some deep else None)

-- what may come next: any word, the value of an option, or operands alone, after `--`
pub data Stage : Type 0 where
  any_word : Stage
  value_of : Slot → Stage
  operands : Stage

abbrev pub stay : Stage → Option Given → Option (Stage × Given)
stay stage = option_map (λ g. (stage, g))

abbrev pub after_option : Option Text → Slot → Given → Option (Stage × Given)
after_option None slot g = Some (value_of slot, g)
after_option (Some v) slot g = stay any_word (give slot v g)

-- `--name` and `--name=value`
abbrev pub after_long : Given → Text × Option Text → Option (Stage × Given)
after_long g p = option_and_then (λ slot. after_option p.1 slot g) (option_named p.0)

-- a word that is no long option: one that begins with a hyphen is refused, but for the hyphen alone
abbrev pub after_other : Slot → Given → Text → Option (Stage × Given)
after_other slot g word =
    if is_some (short_of word) then None else stay any_word (give slot word g)

abbrev pub after_shape : Given → Text → Option (Text × Option Text) → Option (Stage × Given)
after_shape g word (Some p) = after_long g p
after_shape g word None = after_other operand g word

abbrev pub after_any : Given → Text → Option (Stage × Given)
after_any g word = if bytes_eq word (codes "--") then Some (operands, g)
    else after_shape g word (long_of word)

abbrev pub after_value : Slot → Given → Text → Option (Stage × Given)
after_value slot g word = if bytes_eq word (codes "--") || is_some (long_of word) then None
    else after_other slot g word

abbrev pub after_word : Stage → Given → Text → Option (Stage × Given)
after_word any_word g word = after_any g word
after_word (value_of slot) g word = after_value slot g word
after_word operands g word = stay operands (give operand word g)

abbrev pub at_end : Stage → Given → Option Given
at_end (value_of slot) g = None
at_end _ g = Some g

unfoldable pub given_from : Stage → Given → List Text → Option Given
given_from stage g [] = at_end stage g
given_from stage g (word ∷ rest) =
    option_and_then (λ next. given_from next.0 next.1 rest) (after_word stage g word)

-- what the words after the command give
abbrev pub given_by : List Text → Option Given
given_by words = given_from any_word nothing_given words

abbrev pub name_of : CommandName → Text
name_of Check = codes "check"
name_of Decode = codes "decode"
name_of Encode = codes "encode"
name_of Run = codes "run"
name_of Load = codes "load"

abbrev pub command_named : Text → Option CommandName
command_named word = if bytes_eq (codes "check") word then Some Check
    else (if bytes_eq (codes "decode") word then Some Decode
    else (if bytes_eq (codes "encode") word then Some Encode
    else (if bytes_eq (codes "run") word then Some Run
    else (if bytes_eq (codes "load") word then Some Load else None))))

-- the command and what it is given
abbrev pub parts_of : List Text → Option (CommandName × Given)
parts_of [] = None
parts_of (word ∷ rest) = option_and_then (λ command. option_map (λ g. (command, g)) (given_by rest))
    (command_named word)
