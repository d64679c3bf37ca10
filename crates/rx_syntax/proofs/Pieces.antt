-- The pieces with which a text begins.
use Rattle.std.proofs.Common.{◌≡◌, ℕ, zero, suc, ◌+◌, ◌<◌, ◌≤◌, Bool, true, false, ◌||◌, List, [], ◌∷◌, ◌++◌, length, take, drop, get_or, refl, sym, ap, ◌∙◌, subst, arith, Some, None, take-append-drop, ◌==◌}
use Rattle.std.proofs.lemmas.Int.{to_z_pos}
use Rattle.std.specs.Int.{cast_signed}
use Rattle.std.specs.List.{list_all, prefix_len, list_any}
use Rattle.std.specs.Str.{IsAscii, bytes_eq}
use Rattle.std.proofs.Math.Seq.{take-append_seam, drop-append_seam}
use Rattle.std.proofs.lemmas.Bool.{false≢true, and_parts}
use Rattle.std.proofs.lemmas.Bool.Decides.{nat_tests}
use Rattle.std.proofs.lemmas.List.Sums.{AllPass-from_list_all}
use Rattle.std.proofs.lemmas.Str.Ascii.{IsAscii-from_all}
use Rattle.rx_syntax.specs.declared.token.Place.{Place}
use Rattle.rx_syntax.specs.declared.token.TokenKind.TheVariants as kind
use Rattle.rx_syntax.specs.declared.mark.Mark.{Mark}
use Rattle.rx_syntax.specs.declared.fault.LexFault.TheVariants.{BadByte, BadNumber, BadName}
use Rattle.rx_syntax.specs.Bytes.{is_white, is_letter, is_digit, is_word_byte, is_number_byte, is_line_byte, is_name}
use Rattle.rx_syntax.specs.Marks.{marks, text_of}
use Rattle.rx_syntax.specs.Numbers.{begins_with, IsNumber}
use Rattle.rx_syntax.specs.Text.{IsRun, begins_comment, IsLongest, word, number, mark, white, comment, IsPiece, a_token, a_blank, IsBad, bad_byte, bad_number, bad_name}
use Rattle.rx_syntax.proofs.Runs.{run_of, run_some, begins_take, begins_also}
use Rattle.rx_syntax.proofs.Markings.{Written, single, double, written, opening, opens, none_written}

letter_is_word : (b : ℕ) → is_letter b ≡ true → is_word_byte b ≡ true
letter_is_word b h = rw h refl

digit_is_word : (b : ℕ) → is_digit b ≡ true → is_word_byte b ≡ true
digit_is_word b h = by_letter (is_letter b)
  where
    by_letter : (t : Bool) → (t || is_digit b || b == 95) ≡ true
    by_letter true = refl
    by_letter false = rw h refl

pub word_is_number : (b : ℕ) → is_word_byte b ≡ true → is_number_byte b ≡ true
word_is_number b h = rw h refl

pub letter_word : (text : List ℕ) → begins_with is_letter text ≡ true → begins_with is_word_byte text ≡ true
letter_word text h = begins_also is_letter is_word_byte letter_is_word text h

pub digit_number : (text : List ℕ) → begins_with is_digit text ≡ true → begins_with is_number_byte text ≡ true
digit_number text h = begins_also is_digit is_number_byte (λ b e. word_is_number b (digit_is_word b e)) text h

small : (b : ℕ) → is_word_byte b ≡ true → b < 128
small b h = grind (arith, nat_tests)

-- words are ASCII
pub word_is_ascii : (run : List ℕ) → list_all is_word_byte run ≡ true → IsAscii run
word_is_ascii run h = IsAscii-from_all run (λ k d e. small _ (AllPass-from_list_all is_word_byte run h k d e))

module _ (text : List ℕ) (n : ℕ) (letter : begins_with is_letter text ≡ true) (len : n ≡ prefix_len is_word_byte text) where
  pub word_run : IsRun is_word_byte (take n text) (drop n text)
  word_run = subst (λ k. IsRun is_word_byte (take k text) (drop k text)) (sym len) (run_of is_word_byte text)

  pub word_some : 0 < n
  word_some = subst (λ k. 0 < k) (sym len) (run_some is_word_byte text (letter_word text letter))

  pub word_begins : begins_with is_letter (take n text) ≡ true
  word_begins = begins_take is_letter n text word_some letter

  pub word_read : is_name (take n text) ≡ true → IsPiece (take n text) (drop n text) (Some (kind.Word (take n text)))
  word_read h = a_token (word word_begins word_run h)

  pub no_name : (place : Place) → is_name (take n text) ≡ false → IsBad place text (BadName place)
  no_name place h = subst (λ t. IsBad place t (BadName place)) (take-append-drop n text) (bad_name word_begins word_run h)

module _ (text : List ℕ) (n : ℕ) (digit : begins_with is_digit text ≡ true) (len : n ≡ prefix_len is_number_byte text) where
  pub number_run : IsRun is_number_byte (take n text) (drop n text)
  number_run = subst (λ k. IsRun is_number_byte (take k text) (drop k text)) (sym len) (run_of is_number_byte text)

  pub number_some : 0 < n
  number_some = subst (λ k. 0 < k) (sym len) (run_some is_number_byte text (digit_number text digit))

  pub number_begins : begins_with is_digit (take n text) ≡ true
  number_begins = begins_take is_digit n text number_some digit

  pub number_read : (m : ℕ) → IsNumber (take n text) m → IsPiece (take n text) (drop n text) (Some (kind.Number (cast_signed mir.Syntax.w128 m)))
  number_read m h = rw (to_z_pos mir.Syntax.w128 m h.fits) (a_token (number number_begins number_run h))

  pub no_number : (place : Place) → ((m : ℕ) → IsNumber (take n text) m → ⊥) → IsBad place text (BadNumber place)
  no_number place h = subst (λ t. IsBad place t (BadNumber place)) (take-append-drop n text) (bad_number number_begins number_run h)

-- white space
pub white_read : (text : List ℕ) → 0 < length text → is_white (get_or text 0 0) ≡ true → IsPiece (take 1 text) (drop 1 text) None
white_read [] some h = absurd (omega arith)
white_read (b ∷ bytes) some h = a_blank (white h)

-- a comment has its two dashes
pub comment_len : (text : List ℕ) → begins_comment text ≡ true → 2 ≤ prefix_len is_line_byte text
comment_len [] h = absurd (false≢true h)
comment_len (a ∷ []) h = absurd (false≢true h)
comment_len (a ∷ b ∷ more) h =
    let p = and_parts (a == 45) (b == 45) h in
    let first : a ≡ 45 = grind (arith, nat_tests) in
    let second : b ≡ 45 = grind (arith, nat_tests) in
    let e : prefix_len is_line_byte (a ∷ b ∷ more) ≡ 1 + (1 + prefix_len is_line_byte more) = rw (first, second) refl in
    omega arith

begins_comment_take : (n : ℕ) (text : List ℕ) → 2 ≤ n → begins_comment text ≡ true → begins_comment (take n text) ≡ true
begins_comment_take zero text e h = absurd (omega arith)
begins_comment_take (suc zero) text e h = absurd (omega arith)
begins_comment_take (suc (suc n)) [] e h = h
begins_comment_take (suc (suc n)) (a ∷ []) e h = h
begins_comment_take (suc (suc n)) (a ∷ b ∷ more) e h = h

pub comment_read : (text : List ℕ) → begins_comment text ≡ true → IsPiece (take (prefix_len is_line_byte text) text) (drop (prefix_len is_line_byte text) text) None
comment_read text h = a_blank (comment (begins_comment_take _ text (comment_len text h) h) (run_of is_line_byte text))

-- marks
pub mark_read : (text : List ℕ) (m : Mark) (rest : List ℕ) → text ≡ text_of m ++ rest → IsLongest m rest → begins_comment text ≡ false → IsPiece (take (length (text_of m)) text) (drop (length (text_of m)) text) (Some (kind.Mark m))
mark_read text m rest e l h = rw (e, take-append_seam, drop-append_seam) (a_token (mark l (subst (λ t. begins_comment t ≡ false) e h)))

pub double_longest : (m : Mark) (a b : ℕ) (rest : List ℕ) → text_of m ≡ a ∷ b ∷ [] → IsLongest m rest
double_longest m a b rest e other more h = by_form (written other)
  where
    by_form : Written (text_of other) → length (text_of other) ≤ length (text_of m)
    by_form (single x f) = let k = ap length f in let k' = ap length e in omega arith
    by_form (double x y f) = let k = ap length f in let k' = ap length e in omega arith

pub single_longest : (m : Mark) (a : ℕ) (rest : List ℕ) → text_of m ≡ a ∷ [] → ((b : ℕ) (more : List ℕ) → rest ≡ b ∷ more → list_any (λ x. bytes_eq (text_of x) (a ∷ b ∷ [])) marks ≡ false) → IsLongest m rest
single_longest m a rest e n other more h = by_form (written other)
  where
    by_form : Written (text_of other) → length (text_of other) ≤ length (text_of m)
    by_form (single x f) = let k = ap length f in let k' = ap length e in omega arith
    by_form (double x y f) =
        let whole : a ∷ rest ≡ x ∷ y ∷ more = sym (ap (λ t. t ++ rest) e) ∙ h ∙ ap (λ t. t ++ more) f in
        let behind : rest ≡ y ∷ more = cc in
        let same : text_of other ≡ a ∷ y ∷ [] = cc in
        absurd (none_written (a ∷ y ∷ []) (n y more behind) other same)

-- a byte that begins nothing
pub no_piece : (place : Place) (text : List ℕ) → 0 < length text → is_white (get_or text 0 0) ≡ false → is_letter (get_or text 0 0) ≡ false → is_digit (get_or text 0 0) ≡ false → ((m : Mark) (rest : List ℕ) → text ≡ text_of m ++ rest → ⊥) → IsBad place text (BadByte place)
no_piece place [] some w l d n = absurd (omega arith)
no_piece place (b ∷ bytes) some w l d n = bad_byte (record {
  white = w;
  letter = l;
  digit = d;
  mark = λ m more e. n (opening m) bytes (ap (λ t. t ++ bytes) (sym (opens m b more e)));
})

-- a mark begins with a mark of one byte
pub no_mark_at : (a : ℕ) (tail text : List ℕ) → text ≡ a ∷ tail → list_any (λ m. bytes_eq (text_of m) (a ∷ [])) marks ≡ false → (m : Mark) (rest : List ℕ) → text ≡ text_of m ++ rest → ⊥
no_mark_at a tail text e h m rest f = by_form (written m)
  where
    by_form : Written (text_of m) → ⊥
    by_form (single x g) =
        let first : x ≡ a = let whole : x ∷ rest ≡ a ∷ tail = sym (ap (λ t. t ++ rest) g) ∙ sym f ∙ e in cc in
        none_written (a ∷ []) h (opening m) (opens m x [] g ∙ ap (λ b. b ∷ []) first)
    by_form (double x y g) =
        let first : x ≡ a = let whole : x ∷ y ∷ rest ≡ a ∷ tail = sym (ap (λ t. t ++ rest) g) ∙ sym f ∙ e in cc in
        none_written (a ∷ []) h (opening m) (opens m x (y ∷ []) g ∙ ap (λ b. b ∷ []) first)
