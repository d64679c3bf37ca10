-- One piece, one fault or none begins a text.
use Rattle.std.proofs.Common.{◌≡◌, ℕ, Bool, true, false, ◌&&◌, List, [], ◌∷◌, ◌++◌, length, refl, sym, ap, ◌∙◌, subst, arith, Option, Some, None, pos, ◌==◌}
use Rattle.std.specs.Prelude.{if◌then◌else◌}
use Rattle.std.proofs.lemmas.Bool.{false≢true, and_parts}
use Rattle.std.proofs.lemmas.Bool.Decides.{nat_tests}
use Rattle.rx_syntax.specs.declared.token.Place.{Place}
use Rattle.rx_syntax.specs.declared.token.TokenKind.{TokenKind}
use Rattle.rx_syntax.specs.declared.token.TokenKind.TheVariants as kind
use Rattle.rx_syntax.specs.declared.mark.Mark.{Mark}
use Rattle.rx_syntax.specs.declared.mark.Mark.TheVariants.{ParenLeft, ParenRight, BracketLeft, BracketRight, Comma, Semicolon, Colon, DoubleColon, Assign, Arrow, Equal, NotEqual, Slash, Less, LessEqual, Greater, GreaterEqual, Plus, Minus, Star, DoubleStar, Dot, DoubleDot, Tick}
use Rattle.rx_syntax.specs.declared.fault.LexFault.{LexFault}
use Rattle.rx_syntax.specs.Bytes.{is_white, is_letter, is_digit, is_word_byte, is_number_byte, is_line_byte, is_name}
use Rattle.rx_syntax.specs.Marks.{text_of}
use Rattle.rx_syntax.specs.Numbers.{begins_with, IsNumber}
use Rattle.rx_syntax.specs.Text.{begins_comment, IsLongest, word, number, mark, white, comment, IsPiece, a_token, a_blank, BeginsNothing, IsBad, bad_byte, bad_number, bad_name}
use Rattle.rx_syntax.proofs.Runs.{AreSame, run_unique}
use Rattle.rx_syntax.proofs.Markings.{Written, single, double, written, same_mark}
use Rattle.rx_syntax.proofs.Numerals.{number_unique}

-- what kind of piece begins a text
pub data Sort : Type 0 where
  letter : Sort
  digit : Sort
  blank : Sort
  dashes : Sort
  other : Sort
  none : Sort

abbrev sort_of_byte : ℕ → Bool → Sort
sort_of_byte b dash = if is_letter b then letter else (if is_digit b then digit else (if is_white b then blank else (if dash then dashes else other)))

abbrev pub sort_of : List ℕ → Sort
sort_of [] = none
sort_of (b ∷ bytes) = sort_of_byte b (begins_comment (b ∷ bytes))

sort_letter : (b : ℕ) (dash : Bool) → is_letter b ≡ true → sort_of_byte b dash ≡ letter
sort_letter b dash h = rw h refl

sort_digit : (b : ℕ) (dash : Bool) → is_letter b ≡ false → is_digit b ≡ true → sort_of_byte b dash ≡ digit
sort_digit b dash l h = rw (l, h) refl

sort_white : (b : ℕ) (dash : Bool) → is_letter b ≡ false → is_digit b ≡ false → is_white b ≡ true → sort_of_byte b dash ≡ blank
sort_white b dash l d h = rw (l, d, h) refl

sort_other : (b : ℕ) (dash : Bool) → is_letter b ≡ false → is_digit b ≡ false → is_white b ≡ false → dash ≡ false → sort_of_byte b dash ≡ other
sort_other b dash l d w h = rw (l, d, w, h) refl

digit_no_letter : (b : ℕ) → is_digit b ≡ true → is_letter b ≡ false
digit_no_letter b h = grind (arith, nat_tests)

white_no_letter : (b : ℕ) → is_white b ≡ true → is_letter b ≡ false
white_no_letter b h = grind (arith, nat_tests)

white_no_digit : (b : ℕ) → is_white b ≡ true → is_digit b ≡ false
white_no_digit b h = grind (arith, nat_tests)

pub letter_sort : (run rest : List ℕ) → begins_with is_letter run ≡ true → sort_of (run ++ rest) ≡ letter
letter_sort [] rest h = absurd (false≢true h)
letter_sort (b ∷ run) rest h = sort_letter b _ h

pub digit_sort : (run rest : List ℕ) → begins_with is_digit run ≡ true → sort_of (run ++ rest) ≡ digit
digit_sort [] rest h = absurd (false≢true h)
digit_sort (b ∷ run) rest h = sort_digit b _ (digit_no_letter b h) h

pub white_sort : (b : ℕ) (rest : List ℕ) → is_white b ≡ true → sort_of (b ∷ rest) ≡ blank
white_sort b rest h = sort_white b _ (white_no_letter b h) (white_no_digit b h) h

pub dashes_sort : (run rest : List ℕ) → begins_comment run ≡ true → sort_of (run ++ rest) ≡ dashes
dashes_sort [] rest h = absurd (false≢true h)
dashes_sort (a ∷ []) rest h = absurd (false≢true h)
dashes_sort (a ∷ b ∷ run) rest h =
    let p = and_parts (a == 45) (b == 45) h in
    let first : a ≡ 45 = grind (arith, nat_tests) in
    let second : b ≡ 45 = grind (arith, nat_tests) in
    rw (first, second) refl

pub mark_sort : (m : Mark) (rest : List ℕ) → begins_comment (text_of m ++ rest) ≡ false → sort_of (text_of m ++ rest) ≡ other
mark_sort ParenLeft rest h = sort_other 40 (begins_comment (text_of ParenLeft ++ rest)) refl refl refl h
mark_sort ParenRight rest h = sort_other 41 (begins_comment (text_of ParenRight ++ rest)) refl refl refl h
mark_sort BracketLeft rest h = sort_other 91 (begins_comment (text_of BracketLeft ++ rest)) refl refl refl h
mark_sort BracketRight rest h = sort_other 93 (begins_comment (text_of BracketRight ++ rest)) refl refl refl h
mark_sort Comma rest h = sort_other 44 (begins_comment (text_of Comma ++ rest)) refl refl refl h
mark_sort Semicolon rest h = sort_other 59 (begins_comment (text_of Semicolon ++ rest)) refl refl refl h
mark_sort Colon rest h = sort_other 58 (begins_comment (text_of Colon ++ rest)) refl refl refl h
mark_sort DoubleColon rest h = sort_other 58 (begins_comment (text_of DoubleColon ++ rest)) refl refl refl h
mark_sort Assign rest h = sort_other 58 (begins_comment (text_of Assign ++ rest)) refl refl refl h
mark_sort Arrow rest h = sort_other 61 (begins_comment (text_of Arrow ++ rest)) refl refl refl h
mark_sort Equal rest h = sort_other 61 (begins_comment (text_of Equal ++ rest)) refl refl refl h
mark_sort NotEqual rest h = sort_other 47 (begins_comment (text_of NotEqual ++ rest)) refl refl refl h
mark_sort Slash rest h = sort_other 47 (begins_comment (text_of Slash ++ rest)) refl refl refl h
mark_sort Less rest h = sort_other 60 (begins_comment (text_of Less ++ rest)) refl refl refl h
mark_sort LessEqual rest h = sort_other 60 (begins_comment (text_of LessEqual ++ rest)) refl refl refl h
mark_sort Greater rest h = sort_other 62 (begins_comment (text_of Greater ++ rest)) refl refl refl h
mark_sort GreaterEqual rest h = sort_other 62 (begins_comment (text_of GreaterEqual ++ rest)) refl refl refl h
mark_sort Plus rest h = sort_other 43 (begins_comment (text_of Plus ++ rest)) refl refl refl h
mark_sort Minus rest h = sort_other 45 (begins_comment (text_of Minus ++ rest)) refl refl refl h
mark_sort Star rest h = sort_other 42 (begins_comment (text_of Star ++ rest)) refl refl refl h
mark_sort DoubleStar rest h = sort_other 42 (begins_comment (text_of DoubleStar ++ rest)) refl refl refl h
mark_sort Dot rest h = sort_other 46 (begins_comment (text_of Dot ++ rest)) refl refl refl h
mark_sort DoubleDot rest h = sort_other 46 (begins_comment (text_of DoubleDot ++ rest)) refl refl refl h
mark_sort Tick rest h = sort_other 39 (begins_comment (text_of Tick ++ rest)) refl refl refl h

-- two texts of different sorts are not the same
pub clash : {t t' : List ℕ} {a b : Sort} → sort_of t ≡ a → sort_of t' ≡ b → t ≡ t' → a ≡ b
clash p q e = sym p ∙ ap sort_of e ∙ q

same_front : (xs xs' ys ys' : List ℕ) → length xs ≡ length xs' → xs ++ ys ≡ xs' ++ ys' → AreSame xs xs' ys ys'
same_front [] [] ys ys' l e = record { fronts = refl; rests = e }
same_front [] (x ∷ xs') ys ys' l e = absurd (omega arith)
same_front (x ∷ xs) [] ys ys' l e = absurd (omega arith)
same_front (x ∷ xs) (x' ∷ xs') ys ys' l e =
    let tails : xs ++ ys ≡ xs' ++ ys' = cc in
    let heads : x ≡ x' = cc in
    let a = same_front xs xs' ys ys' (omega arith) tails in
    let f = a.fronts in
    record { fronts = cc; rests = a.rests }

-- two pieces that begin one text
pub record SamePiece (run run' rest rest' : List ℕ) (k k' : Option TokenKind) : Type 0 where
  pub runs : run ≡ run'
  pub rests : rest ≡ rest'
  pub kinds : k ≡ k'

same_words : (run run' rest rest' : List ℕ) → AreSame run run' rest rest' → SamePiece run run' rest rest' (Some (kind.Word run)) (Some (kind.Word run'))
same_words run run' rest rest' a = record { runs = a.fronts; rests = a.rests; kinds = ap (λ w. Some (kind.Word w)) a.fronts }

same_numbers : (run run' rest rest' : List ℕ) (n n' : ℕ) → AreSame run run' rest rest' → IsNumber run n → IsNumber run' n' → SamePiece run run' rest rest' (Some (kind.Number (pos n))) (Some (kind.Number (pos n')))
same_numbers run run' rest rest' n n' a x y = record { runs = a.fronts; rests = a.rests; kinds = ap (λ m. Some (kind.Number (pos m))) (number_unique run' n n' (subst (λ r. IsNumber r n) a.fronts x) y) }

same_blanks : (run run' rest rest' : List ℕ) → AreSame run run' rest rest' → SamePiece run run' rest rest' None None
same_blanks run run' rest rest' a = record { runs = a.fronts; rests = a.rests; kinds = refl }

same_white : (b b' : ℕ) (rest rest' : List ℕ) → b ∷ rest ≡ b' ∷ rest' → SamePiece (b ∷ []) (b' ∷ []) rest rest' None None
same_white b b' rest rest' e = let h : b ≡ b' = cc in record { runs = cc; rests = cc; kinds = refl }

same_marks : (m m' : Mark) (rest rest' : List ℕ) → IsLongest m rest → IsLongest m' rest' → text_of m ++ rest ≡ text_of m' ++ rest' → SamePiece (text_of m) (text_of m') rest rest' (Some (kind.Mark m)) (Some (kind.Mark m'))
same_marks m m' rest rest' l l' e =
    let a = l m' rest' e in
    let b = l' m rest (sym e) in
    let s = same_front (text_of m) (text_of m') rest rest' (omega arith) e in
    record { runs = s.fronts; rests = s.rests; kinds = ap (λ x. Some (kind.Mark x)) (same_mark m m' s.fronts) }

pub piece_unique : {run run' rest rest' : List ℕ} {k k' : Option TokenKind} → IsPiece run rest k → IsPiece run' rest' k' → run ++ rest ≡ run' ++ rest' → SamePiece run run' rest rest' k k'
piece_unique (a_token (word {run = r1} {rest = s1} w1 u1 v1)) (a_token (word {run = r2} {rest = s2} w2 u2 v2)) e = same_words r1 r2 s1 s2 (run_unique is_word_byte r1 r2 s1 s2 u1 u2 e)
piece_unique (a_token (word {run = r1} {rest = s1} w1 u1 v1)) (a_token (number {run = r2} {rest = s2} {n = n2} w2 u2 v2)) e = let h : letter ≡ digit = clash (letter_sort r1 s1 w1) (digit_sort r2 s2 w2) e in absurd cc
piece_unique (a_token (word {run = r1} {rest = s1} w1 u1 v1)) (a_token (mark {m = m2} {rest = s2} w2 u2)) e = let h : letter ≡ other = clash (letter_sort r1 s1 w1) (mark_sort m2 s2 u2) e in absurd cc
piece_unique (a_token (word {run = r1} {rest = s1} w1 u1 v1)) (a_blank (white {b = b2} {rest = s2} w2)) e = let h : letter ≡ blank = clash (letter_sort r1 s1 w1) (white_sort b2 s2 w2) e in absurd cc
piece_unique (a_token (word {run = r1} {rest = s1} w1 u1 v1)) (a_blank (comment {run = r2} {rest = s2} w2 u2)) e = let h : letter ≡ dashes = clash (letter_sort r1 s1 w1) (dashes_sort r2 s2 w2) e in absurd cc
piece_unique (a_token (number {run = r1} {rest = s1} {n = n1} w1 u1 v1)) (a_token (word {run = r2} {rest = s2} w2 u2 v2)) e = let h : digit ≡ letter = clash (digit_sort r1 s1 w1) (letter_sort r2 s2 w2) e in absurd cc
piece_unique (a_token (number {run = r1} {rest = s1} {n = n1} w1 u1 v1)) (a_token (number {run = r2} {rest = s2} {n = n2} w2 u2 v2)) e = same_numbers r1 r2 s1 s2 n1 n2 (run_unique is_number_byte r1 r2 s1 s2 u1 u2 e) v1 v2
piece_unique (a_token (number {run = r1} {rest = s1} {n = n1} w1 u1 v1)) (a_token (mark {m = m2} {rest = s2} w2 u2)) e = let h : digit ≡ other = clash (digit_sort r1 s1 w1) (mark_sort m2 s2 u2) e in absurd cc
piece_unique (a_token (number {run = r1} {rest = s1} {n = n1} w1 u1 v1)) (a_blank (white {b = b2} {rest = s2} w2)) e = let h : digit ≡ blank = clash (digit_sort r1 s1 w1) (white_sort b2 s2 w2) e in absurd cc
piece_unique (a_token (number {run = r1} {rest = s1} {n = n1} w1 u1 v1)) (a_blank (comment {run = r2} {rest = s2} w2 u2)) e = let h : digit ≡ dashes = clash (digit_sort r1 s1 w1) (dashes_sort r2 s2 w2) e in absurd cc
piece_unique (a_token (mark {m = m1} {rest = s1} w1 u1)) (a_token (word {run = r2} {rest = s2} w2 u2 v2)) e = let h : other ≡ letter = clash (mark_sort m1 s1 u1) (letter_sort r2 s2 w2) e in absurd cc
piece_unique (a_token (mark {m = m1} {rest = s1} w1 u1)) (a_token (number {run = r2} {rest = s2} {n = n2} w2 u2 v2)) e = let h : other ≡ digit = clash (mark_sort m1 s1 u1) (digit_sort r2 s2 w2) e in absurd cc
piece_unique (a_token (mark {m = m1} {rest = s1} w1 u1)) (a_token (mark {m = m2} {rest = s2} w2 u2)) e = same_marks m1 m2 s1 s2 w1 w2 e
piece_unique (a_token (mark {m = m1} {rest = s1} w1 u1)) (a_blank (white {b = b2} {rest = s2} w2)) e = let h : other ≡ blank = clash (mark_sort m1 s1 u1) (white_sort b2 s2 w2) e in absurd cc
piece_unique (a_token (mark {m = m1} {rest = s1} w1 u1)) (a_blank (comment {run = r2} {rest = s2} w2 u2)) e = let h : other ≡ dashes = clash (mark_sort m1 s1 u1) (dashes_sort r2 s2 w2) e in absurd cc
piece_unique (a_blank (white {b = b1} {rest = s1} w1)) (a_token (word {run = r2} {rest = s2} w2 u2 v2)) e = let h : blank ≡ letter = clash (white_sort b1 s1 w1) (letter_sort r2 s2 w2) e in absurd cc
piece_unique (a_blank (white {b = b1} {rest = s1} w1)) (a_token (number {run = r2} {rest = s2} {n = n2} w2 u2 v2)) e = let h : blank ≡ digit = clash (white_sort b1 s1 w1) (digit_sort r2 s2 w2) e in absurd cc
piece_unique (a_blank (white {b = b1} {rest = s1} w1)) (a_token (mark {m = m2} {rest = s2} w2 u2)) e = let h : blank ≡ other = clash (white_sort b1 s1 w1) (mark_sort m2 s2 u2) e in absurd cc
piece_unique (a_blank (white {b = b1} {rest = s1} w1)) (a_blank (white {b = b2} {rest = s2} w2)) e = same_white b1 b2 s1 s2 e
piece_unique (a_blank (white {b = b1} {rest = s1} w1)) (a_blank (comment {run = r2} {rest = s2} w2 u2)) e = let h : blank ≡ dashes = clash (white_sort b1 s1 w1) (dashes_sort r2 s2 w2) e in absurd cc
piece_unique (a_blank (comment {run = r1} {rest = s1} w1 u1)) (a_token (word {run = r2} {rest = s2} w2 u2 v2)) e = let h : dashes ≡ letter = clash (dashes_sort r1 s1 w1) (letter_sort r2 s2 w2) e in absurd cc
piece_unique (a_blank (comment {run = r1} {rest = s1} w1 u1)) (a_token (number {run = r2} {rest = s2} {n = n2} w2 u2 v2)) e = let h : dashes ≡ digit = clash (dashes_sort r1 s1 w1) (digit_sort r2 s2 w2) e in absurd cc
piece_unique (a_blank (comment {run = r1} {rest = s1} w1 u1)) (a_token (mark {m = m2} {rest = s2} w2 u2)) e = let h : dashes ≡ other = clash (dashes_sort r1 s1 w1) (mark_sort m2 s2 u2) e in absurd cc
piece_unique (a_blank (comment {run = r1} {rest = s1} w1 u1)) (a_blank (white {b = b2} {rest = s2} w2)) e = let h : dashes ≡ blank = clash (dashes_sort r1 s1 w1) (white_sort b2 s2 w2) e in absurd cc
piece_unique (a_blank (comment {run = r1} {rest = s1} w1 u1)) (a_blank (comment {run = r2} {rest = s2} w2 u2)) e = same_blanks r1 r2 s1 s2 (run_unique is_line_byte r1 r2 s1 s2 u1 u2 e)

-- a byte that begins nothing
byte_sort : (b : ℕ) (rest : List ℕ) → BeginsNothing b → sort_of (b ∷ rest) ≡ other
byte_sort b rest h = sort_other b _ h.letter h.digit h.white (no_dashes rest)
  where
    no_dashes : (bytes : List ℕ) → begins_comment (b ∷ bytes) ≡ false
    no_dashes [] = refl
    no_dashes (c ∷ bytes) = by_test (b == 45) refl
      where
        by_test : (t : Bool) → (b == 45) ≡ t → (t && c == 45) ≡ false
        by_test false e = refl
        by_test true e = let same : b ≡ 45 = grind (arith, nat_tests) in absurd (h.mark Minus [] (ap (λ x. x ∷ []) (sym same)))

no_mark_there : (b : ℕ) (rest : List ℕ) (m : Mark) (behind : List ℕ) → BeginsNothing b → b ∷ rest ≡ text_of m ++ behind → ⊥
no_mark_there b rest m behind h e = by_form (written m)
  where
    by_form : Written (text_of m) → ⊥
    by_form (single x f) = let whole : b ∷ rest ≡ x ∷ behind = e ∙ ap (λ t. t ++ behind) f in let same : x ≡ b = cc in h.mark m [] (f ∙ ap (λ y. y ∷ []) same)
    by_form (double x y f) = let whole : b ∷ rest ≡ x ∷ y ∷ behind = e ∙ ap (λ t. t ++ behind) f in let same : x ≡ b = cc in h.mark m (y ∷ []) (f ∙ ap (λ z. z ∷ y ∷ []) same)

no_number_there : (run run' rest rest' : List ℕ) (n : ℕ) → AreSame run run' rest rest' → ((m : ℕ) → IsNumber run m → ⊥) → IsNumber run' n → ⊥
no_number_there run run' rest rest' n a h x = h n (subst (λ r. IsNumber r n) (sym a.fronts) x)

no_name_there : (run run' rest rest' : List ℕ) → AreSame run run' rest rest' → is_name run ≡ false → is_name run' ≡ true → ⊥
no_name_there run run' rest rest' a h x = false≢true (sym h ∙ ap is_name a.fronts ∙ x)

-- what is bad is no piece
pub bad_no_piece : {place : Place} {text run rest : List ℕ} {e : LexFault} {k : Option TokenKind} → IsBad place text e → IsPiece run rest k → text ≡ run ++ rest → ⊥
bad_no_piece (bad_byte {b = b1} {rest = s1} w1) (a_token (word {run = r2} {rest = s2} w2 u2 v2)) e = let h : other ≡ letter = clash (byte_sort b1 s1 w1) (letter_sort r2 s2 w2) e in absurd cc
bad_no_piece (bad_byte {b = b1} {rest = s1} w1) (a_token (number {run = r2} {rest = s2} {n = n2} w2 u2 v2)) e = let h : other ≡ digit = clash (byte_sort b1 s1 w1) (digit_sort r2 s2 w2) e in absurd cc
bad_no_piece (bad_byte {b = b1} {rest = s1} w1) (a_token (mark {m = m2} {rest = s2} w2 u2)) e = no_mark_there b1 s1 m2 s2 w1 e
bad_no_piece (bad_byte {b = b1} {rest = s1} w1) (a_blank (white {b = b2} {rest = s2} w2)) e = let h : other ≡ blank = clash (byte_sort b1 s1 w1) (white_sort b2 s2 w2) e in absurd cc
bad_no_piece (bad_byte {b = b1} {rest = s1} w1) (a_blank (comment {run = r2} {rest = s2} w2 u2)) e = let h : other ≡ dashes = clash (byte_sort b1 s1 w1) (dashes_sort r2 s2 w2) e in absurd cc
bad_no_piece (bad_number {run = r1} {rest = s1} w1 u1 v1) (a_token (word {run = r2} {rest = s2} w2 u2 v2)) e = let h : digit ≡ letter = clash (digit_sort r1 s1 w1) (letter_sort r2 s2 w2) e in absurd cc
bad_no_piece (bad_number {run = r1} {rest = s1} w1 u1 v1) (a_token (number {run = r2} {rest = s2} {n = n2} w2 u2 v2)) e = no_number_there r1 r2 s1 s2 n2 (run_unique is_number_byte r1 r2 s1 s2 u1 u2 e) v1 v2
bad_no_piece (bad_number {run = r1} {rest = s1} w1 u1 v1) (a_token (mark {m = m2} {rest = s2} w2 u2)) e = let h : digit ≡ other = clash (digit_sort r1 s1 w1) (mark_sort m2 s2 u2) e in absurd cc
bad_no_piece (bad_number {run = r1} {rest = s1} w1 u1 v1) (a_blank (white {b = b2} {rest = s2} w2)) e = let h : digit ≡ blank = clash (digit_sort r1 s1 w1) (white_sort b2 s2 w2) e in absurd cc
bad_no_piece (bad_number {run = r1} {rest = s1} w1 u1 v1) (a_blank (comment {run = r2} {rest = s2} w2 u2)) e = let h : digit ≡ dashes = clash (digit_sort r1 s1 w1) (dashes_sort r2 s2 w2) e in absurd cc
bad_no_piece (bad_name {run = r1} {rest = s1} w1 u1 v1) (a_token (word {run = r2} {rest = s2} w2 u2 v2)) e = no_name_there r1 r2 s1 s2 (run_unique is_word_byte r1 r2 s1 s2 u1 u2 e) v1 v2
bad_no_piece (bad_name {run = r1} {rest = s1} w1 u1 v1) (a_token (number {run = r2} {rest = s2} {n = n2} w2 u2 v2)) e = let h : letter ≡ digit = clash (letter_sort r1 s1 w1) (digit_sort r2 s2 w2) e in absurd cc
bad_no_piece (bad_name {run = r1} {rest = s1} w1 u1 v1) (a_token (mark {m = m2} {rest = s2} w2 u2)) e = let h : letter ≡ other = clash (letter_sort r1 s1 w1) (mark_sort m2 s2 u2) e in absurd cc
bad_no_piece (bad_name {run = r1} {rest = s1} w1 u1 v1) (a_blank (white {b = b2} {rest = s2} w2)) e = let h : letter ≡ blank = clash (letter_sort r1 s1 w1) (white_sort b2 s2 w2) e in absurd cc
bad_no_piece (bad_name {run = r1} {rest = s1} w1 u1 v1) (a_blank (comment {run = r2} {rest = s2} w2 u2)) e = let h : letter ≡ dashes = clash (letter_sort r1 s1 w1) (dashes_sort r2 s2 w2) e in absurd cc

pub bad_unique : {place : Place} {text text' : List ℕ} {e e' : LexFault} → IsBad place text e → IsBad place text' e' → text ≡ text' → e ≡ e'
bad_unique (bad_byte {b = b1} {rest = s1} w1) (bad_byte {b = b2} {rest = s2} w2) e = refl
bad_unique (bad_byte {b = b1} {rest = s1} w1) (bad_number {run = r2} {rest = s2} w2 u2 v2) e = let h : other ≡ digit = clash (byte_sort b1 s1 w1) (digit_sort r2 s2 w2) e in absurd cc
bad_unique (bad_byte {b = b1} {rest = s1} w1) (bad_name {run = r2} {rest = s2} w2 u2 v2) e = let h : other ≡ letter = clash (byte_sort b1 s1 w1) (letter_sort r2 s2 w2) e in absurd cc
bad_unique (bad_number {run = r1} {rest = s1} w1 u1 v1) (bad_byte {b = b2} {rest = s2} w2) e = let h : digit ≡ other = clash (digit_sort r1 s1 w1) (byte_sort b2 s2 w2) e in absurd cc
bad_unique (bad_number {run = r1} {rest = s1} w1 u1 v1) (bad_number {run = r2} {rest = s2} w2 u2 v2) e = refl
bad_unique (bad_number {run = r1} {rest = s1} w1 u1 v1) (bad_name {run = r2} {rest = s2} w2 u2 v2) e = let h : digit ≡ letter = clash (digit_sort r1 s1 w1) (letter_sort r2 s2 w2) e in absurd cc
bad_unique (bad_name {run = r1} {rest = s1} w1 u1 v1) (bad_byte {b = b2} {rest = s2} w2) e = let h : letter ≡ other = clash (letter_sort r1 s1 w1) (byte_sort b2 s2 w2) e in absurd cc
bad_unique (bad_name {run = r1} {rest = s1} w1 u1 v1) (bad_number {run = r2} {rest = s2} w2 u2 v2) e = let h : letter ≡ digit = clash (letter_sort r1 s1 w1) (digit_sort r2 s2 w2) e in absurd cc
bad_unique (bad_name {run = r1} {rest = s1} w1 u1 v1) (bad_name {run = r2} {rest = s2} w2 u2 v2) e = refl

-- the end of a text begins nothing
pub piece_some : {run rest : List ℕ} {k : Option TokenKind} → IsPiece run rest k → run ++ rest ≡ [] → ⊥
piece_some (a_token (word {run = r1} {rest = s1} w1 u1 v1)) e = let h : letter ≡ none = clash (letter_sort r1 s1 w1) refl e in absurd cc
piece_some (a_token (number {run = r1} {rest = s1} {n = n1} w1 u1 v1)) e = let h : digit ≡ none = clash (digit_sort r1 s1 w1) refl e in absurd cc
piece_some (a_token (mark {m = m1} {rest = s1} w1 u1)) e = let h : other ≡ none = clash (mark_sort m1 s1 u1) refl e in absurd cc
piece_some (a_blank (white {b = b1} {rest = s1} w1)) e = let h : blank ≡ none = clash (white_sort b1 s1 w1) refl e in absurd cc
piece_some (a_blank (comment {run = r1} {rest = s1} w1 u1)) e = let h : dashes ≡ none = clash (dashes_sort r1 s1 w1) refl e in absurd cc

pub bad_some : {place : Place} {text : List ℕ} {e : LexFault} → IsBad place text e → text ≡ [] → ⊥
bad_some (bad_byte {b = b1} {rest = s1} w1) e = let h : other ≡ none = clash (byte_sort b1 s1 w1) refl e in absurd cc
bad_some (bad_number {run = r1} {rest = s1} w1 u1 v1) e = let h : digit ≡ none = clash (digit_sort r1 s1 w1) refl e in absurd cc
bad_some (bad_name {run = r1} {rest = s1} w1 u1 v1) e = let h : letter ≡ none = clash (letter_sort r1 s1 w1) refl e in absurd cc
