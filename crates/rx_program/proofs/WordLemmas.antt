-- Names of words are names of packages and messages.
use Rattle.std.proofs.Common.{◌≡◌, ℕ, Bool, true, false, not, ◌&&◌, List, [], ◌∷◌, refl}
use Rattle.std.specs.List.{list_all}
use Rattle.rx_syntax.specs.Bytes.{is_letter, is_word_byte, is_name as is_joined}
use Rattle.rx_words.specs.Names.{is_word, is_reserved, is_name}
use Rattle.rx_types.specs.Names.{IsName}
use Rattle.rx_closure.proofs.NameLemmas.{name_of_word}

letter_in_word : (b : ℕ) → is_letter b ≡ true → is_word_byte b ≡ true
letter_in_word b letter = rw letter refl

both : (a b : Bool) → (a && b) ≡ true → (a ≡ true) × (b ≡ true)
both true b h = (refl, h)
both false b h = absurd (let no : false ≡ true = h in cc)

word_bytes : (name : List ℕ) → is_word name ≡ true → list_all is_word_byte name ≡ true
word_bytes [] word = absurd (let no : false ≡ true = word in cc)
word_bytes (b ∷ bs) word =
    let front = both (is_letter b && list_all is_word_byte bs) (is_joined (b ∷ bs)) word in
    let parts = both (is_letter b) (list_all is_word_byte bs) front.0 in
    rw (letter_in_word b parts.0) parts.1

-- a name of words is one of types
pub name_is : (name : List ℕ) → is_name name ≡ true → IsName name
name_is name is = name_of_word name (word_bytes name (both (is_word name) (not (is_reserved name)) is).0)
