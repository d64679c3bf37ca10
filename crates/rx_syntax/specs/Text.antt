-- Texts as lists of bytes, cut into longest pieces: `IsRun`, `place_behind`, `IsToken`, `IsBlank`, `IsPiece`, `HasTokens`, `AreTokens`, `IsBad`, `IsFault`, `IsTooMany`.
use Rattle.std.specs.Prelude.{◌≡◌, ℕ, ◌+◌, ◌≤◌, Bool, true, false, ◌&&◌, ◌==◌, List, [], ◌∷◌, ◌++◌, length, if◌then◌else◌, Option, Some, None, pos}
use Rattle.std.specs.List.{list_all}
use Rattle.rx_syntax.specs.declared.token.Place.{Place}
use Rattle.rx_syntax.specs.declared.token.Token.{Token}
use Rattle.rx_syntax.specs.declared.token.TokenKind.{TokenKind}
use Rattle.rx_syntax.specs.declared.token.TokenKind.TheVariants as kind
use Rattle.rx_syntax.specs.declared.mark.Mark.{Mark}
use Rattle.rx_syntax.specs.declared.fault.LexFault.{LexFault}
use Rattle.rx_syntax.specs.declared.fault.LexFault.TheVariants.{BadByte, BadNumber, BadName, TextLimit}
use Rattle.rx_syntax.specs.Bytes.{is_white, is_letter, is_digit, is_word_byte, is_number_byte, is_line_byte, is_name}
use Rattle.rx_syntax.specs.Marks.{text_of}
use Rattle.rx_syntax.specs.Numbers.{begins_with, IsNumber}

-- the longest run of bytes that pass a test, and what stands behind it
pub record IsRun (p : ℕ → Bool) (run rest : List ℕ) : Type 0 where
  pub all : list_all p run ≡ true
  pub ends : begins_with p rest ≡ false

-- the place behind some bytes: byte 10 ends a line, any other takes a column
abbrev pub place_after : Place → List ℕ → Place
place_after p [] = p
place_after p (b ∷ bytes) = place_after (if b == 10 then record { line = p.line + 1; column = 1 } else record { line = p.line; column = p.column + 1 }) bytes

-- the place behind the first bytes of a text
abbrev pub place_behind : List ℕ → Place
place_behind before = place_after (record { line = 1; column = 1 }) before

-- the text begins with `--`
abbrev pub begins_comment : List ℕ → Bool
begins_comment [] = false
begins_comment (a ∷ []) = false
begins_comment (a ∷ b ∷ bytes) = a == 45 && b == 45

-- no longer mark begins the text
abbrev pub IsLongest : Mark → List ℕ → Type 0
IsLongest m rest = (other : Mark) (more : List ℕ) → text_of m ++ rest ≡ text_of other ++ more → length (text_of other) ≤ length (text_of m)

-- a run that is a token, before the rest
pub data IsToken : List ℕ → List ℕ → TokenKind → Type 0 where
  word : {run rest : List ℕ} → begins_with is_letter run ≡ true → IsRun is_word_byte run rest → is_name run ≡ true → IsToken run rest (kind.Word run)
  number : {run rest : List ℕ} {n : ℕ} → begins_with is_digit run ≡ true → IsRun is_number_byte run rest → IsNumber run n → IsToken run rest (kind.Number (pos n))
  mark : {m : Mark} {rest : List ℕ} → IsLongest m rest → begins_comment (text_of m ++ rest) ≡ false → IsToken (text_of m) rest (kind.Mark m)

-- white space or a comment, before the rest
pub data IsBlank : List ℕ → List ℕ → Type 0 where
  white : {b : ℕ} {rest : List ℕ} → is_white b ≡ true → IsBlank (b ∷ []) rest
  comment : {run rest : List ℕ} → begins_comment run ≡ true → IsRun is_line_byte run rest → IsBlank run rest

-- a token, or white space or a comment, before the rest
pub data IsPiece : List ℕ → List ℕ → Option TokenKind → Type 0 where
  a_token : {run rest : List ℕ} {k : TokenKind} → IsToken run rest k → IsPiece run rest (Some k)
  a_blank : {run rest : List ℕ} → IsBlank run rest → IsPiece run rest None

-- the token of a piece, if it is one
abbrev pub tokens_of : Place → Option TokenKind → List Token
tokens_of place None = []
tokens_of place (Some k) = record { kind = k; place = place } ∷ []

-- the text is cut into these bytes, which have these tokens, and the rest
pub data HasTokens (text : List ℕ) : List ℕ → List Token → List ℕ → Type 0 where
  start : HasTokens text [] [] text
  piece : {before run rest : List ℕ} {tokens : List Token} {k : Option TokenKind} → HasTokens text before tokens (run ++ rest) → IsPiece run rest k → HasTokens text (before ++ run) (tokens ++ tokens_of (place_behind before) k) rest

-- how many tokens a text may have
abbrev pub token_limit : ℕ
token_limit = 262144

-- the tokens of the text, and the place of its end
pub record AreTokens (text : List ℕ) (tokens : List Token) (last : Place) : Type 0 where
  pub cut : HasTokens text text tokens []
  pub few : length tokens ≤ token_limit
  pub finish : last ≡ place_behind text

-- no token, white space or comment begins with the byte
pub record BeginsNothing (b : ℕ) : Type 0 where
  pub white : is_white b ≡ false
  pub letter : is_letter b ≡ false
  pub digit : is_digit b ≡ false
  pub mark : (m : Mark) (more : List ℕ) → text_of m ≡ b ∷ more → ⊥

-- what is wrong with the text that begins at the place
pub data IsBad (place : Place) : List ℕ → LexFault → Type 0 where
  bad_byte : {b : ℕ} {rest : List ℕ} → BeginsNothing b → IsBad place (b ∷ rest) (BadByte place)
  bad_number : {run rest : List ℕ} → begins_with is_digit run ≡ true → IsRun is_number_byte run rest → ((n : ℕ) → IsNumber run n → ⊥) → IsBad place (run ++ rest) (BadNumber place)
  bad_name : {run rest : List ℕ} → begins_with is_letter run ≡ true → IsRun is_word_byte run rest → is_name run ≡ false → IsBad place (run ++ rest) (BadName place)

-- the first fault of the text
pub data IsFault (text : List ℕ) : LexFault → Type 0 where
  bad : {before rest : List ℕ} {tokens : List Token} {e : LexFault} → HasTokens text before tokens rest → length tokens ≤ token_limit → IsBad (place_behind before) rest e → IsFault text e
  text_limit : {before run rest : List ℕ} {tokens : List Token} {k : TokenKind} → HasTokens text before tokens (run ++ rest) → length tokens ≡ token_limit → IsToken run rest k → IsFault text (TextLimit (place_behind before))

-- the piece is a token, and one more than a text may have
pub record IsTooMany (tokens : List Token) (k : Option TokenKind) (place : Place) (e : LexFault) : Type 0 where
  pub one_token : TokenKind
  pub is : k ≡ Some one_token
  pub full : length tokens ≡ token_limit
  pub fault : e ≡ TextLimit place
