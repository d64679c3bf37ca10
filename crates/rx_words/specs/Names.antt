-- Names in words.
--   is_word, is_reserved, is_name    words, those that the language keeps for itself, and names
--   named text                       the text, if it is a name
--   pair_in text                     the two names of a text such as `P::M`
use Rattle.std.specs.Prelude.{ℕ, Bool, false, ◌&&◌, ◌==◌, not, List, [], ◌∷◌, Option, Some, None, if◌then◌else◌}
use Rattle.std.specs.List.{list_all, list_any, before_first, after_first}
use Rattle.std.specs.Str.{bytes_eq}
use Rattle.rx_syntax.specs.Bytes.{is_letter, is_word_byte, is_name as is_joined}
use Rattle.rx_words.specs.declared.names.TheConstants.{RESERVED}

-- a word: a letter, and then letters, digits and `_` by ones, at most 128 bytes together
abbrev pub is_word : List ℕ → Bool
is_word [] = false
is_word (b ∷ bs) = is_letter b && list_all is_word_byte bs && is_joined (b ∷ bs)

-- a word that the language keeps for itself, as it is written there
abbrev pub is_reserved : List ℕ → Bool
is_reserved word = list_any (λ reserved. bytes_eq reserved.now word) RESERVED

-- a name: a word that is not reserved
abbrev pub is_name : List ℕ → Bool
is_name word = is_word word && not (is_reserved word)

abbrev pub named : List ℕ → Option (List ℕ)
named text = if is_name text then Some text else None

-- what stands before the first colon, and what stands behind it: a second colon and a name
abbrev pub pair_of : List ℕ → List ℕ → Option (List ℕ × List ℕ)
pair_of front [] = None
pair_of front (b ∷ back) = if is_name front && (b == 58 && is_name back) then Some (front, back) else None

-- a name, two colons and a name
abbrev pub pair_in : List ℕ → Option (List ℕ × List ℕ)
pair_in text = pair_of (before_first (λ b. b == 58) text) (after_first (λ b. b == 58) text)
