-- How names, files, places and refusals show.
--   line, file_of, name_text          a line, the file of a package, a name that may be there
--   place_text                        LINE:COLUMN
--   refusal_text, refused_text        LINE:COLUMN: NUMBER NAME, and the word; the same with its file, as a line
use Rattle.std.specs.Prelude.{ℕ, List, [], ◌∷◌, ◌++◌, codes, decimal, Option, Some, None}
use Rattle.std.specs.Str.{str_to_ascii_lowercase}
use Rattle.rx_syntax.specs.declared.token.Place.{Place}
use Rattle.rx_syntax.specs.declared.rule.Refusal.{Refusal}
use Rattle.rx_syntax.specs.Rules.{number_of, name_of}

-- a line
abbrev pub line : List ℕ → List ℕ
line text = text ++ 10 ∷ []

-- the file of a package
abbrev pub file_of : List ℕ → List ℕ
file_of name = str_to_ascii_lowercase name ++ codes ".rflx"

-- a space and the name, if there is one
abbrev pub name_text : Option (List ℕ) → List ℕ
name_text None = []
name_text (Some name) = codes " " ++ name

-- `LINE:COLUMN`
abbrev pub place_text : Place → List ℕ
place_text place = decimal place.line ++ codes ":" ++ decimal place.column

-- `LINE:COLUMN: NUMBER NAME`, and the word, if there is one
abbrev pub refusal_text : Refusal → List ℕ
refusal_text refusal = place_text refusal.place ++ codes ": " ++ decimal (number_of refusal.rule) ++ codes " " ++ name_of refusal.rule ++ name_text refusal.word

-- the same with the file of the package in front, as a line
abbrev pub refused_text : List ℕ → Refusal → List ℕ
refused_text name refusal = line (file_of name ++ codes ":" ++ refusal_text refusal)
