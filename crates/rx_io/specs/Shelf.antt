-- What a shelf of package texts holds, and what a fetch answers.
--   text_limit, Texts, text_of           texts by their names
--   Finds, IsWithin, SameTexts           a fetch
--   Puts                                 a text put under a name
use Rattle.std.specs.Prelude.{◌≡◌, ◌≢◌, ℕ, ◌<◌, ◌≤◌, List, [], length, Option, None, Some, IfSome, IsSomeAnd, find, bytes_eq}
use Rattle.std.specs.Option.{option_map}
use Rattle.rx_io.specs.declared.shelf.Fetched.{Fetched}
use Rattle.rx_io.specs.declared.shelf.Fetched.TheVariants.{Text, Absent, TooLong}

-- the greatest length of a text
abbrev pub text_limit : ℕ
text_limit = 1048576

-- the texts by their names
abbrev pub Texts : Type 0
Texts = List (List ℕ × List ℕ)

-- the text under a name, if there is one
abbrev pub text_of : List ℕ → Texts → Option (List ℕ)
text_of name texts = option_map (λ entry. entry.1) (find (λ entry. bytes_eq entry.0 name) texts)

-- a fetch finds this text, if there is one, and leaves these bytes
abbrev pub Finds : Option (List ℕ) → Fetched → List ℕ → Type 0
Finds found Text bytes = found ≡ Some bytes
Finds found Absent bytes = found ≡ None
Finds found TooLong bytes = IsSomeAnd found (λ text. text_limit < length text)

-- what a fetch leaves, whether the texts are told or not
abbrev pub IsWithin : Fetched → List ℕ → Type 0
IsWithin Text bytes = length bytes ≤ text_limit
IsWithin Absent bytes = bytes ≡ []
IsWithin TooLong bytes = bytes ≡ []

-- told texts stay as they were
abbrev pub SameTexts : Option Texts → Option Texts → Type 0
SameTexts old new = IfSome old (λ texts. new ≡ Some texts)

-- the text stands under the name, in place of an earlier one, and every other name has what it had
pub record Puts (name text : List ℕ) (old new : Texts) : Type 0 where
  pub under : text_of name new ≡ Some text
  pub others : (other : List ℕ) → other ≢ name → text_of other new ≡ text_of other old
