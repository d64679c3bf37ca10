-- A line feed behind the text of an object changes nothing of what is read.
use Rattle.std.proofs.Common.{◌≡◌, ℕ, ◌+◌, ◌-◌, ◌*◌, ◌≤◌, Bool, true, false, cond, ◌&&◌, ◌||◌, ◌==◌, nat_eq, nat_lt, List, [], ◌∷◌, ◌++◌, length, take, drop, get_or, Option, Some, None, option_map, option_and_then, if◌then◌else◌, IsUtf8, inl, inr, refl, sym, ap, ap₂, ◌∙◌, subst, arith, append_assoc, length-append, take_at}
use Rattle.std.proofs.lemmas.Bool.{true≢false, eqb-true, leb-true, ne_eqb, and_parts, and_left, and_right, or_cases, cases_Bool}
use Rattle.std.proofs.lemmas.List.{take-append-le, drop-append-le}
use Rattle.std.proofs.lemmas.List.Sums.{prefix_len-le-length}
use Rattle.std.proofs.lemmas.Str.{IsUtf8-append, IsUtf8-take, IsUtf8-from_is_utf8, is_utf8-from_IsUtf8, IsCharBoundary-before_ascii}
use Rattle.std.specs.List.{prefix_len, starts_with}
use Rattle.std.specs.Char.{is_ascii_digit, is_digit, digit_value, encode_utf8}
use Rattle.std.specs.Str.{is_utf8}
use Rattle.json.specs.Token.{Token, number, boolean, null, bad}
use Rattle.json.specs.Text.{Within, plain, after_backslash, after_u, after_high, prepend, code_unit, short_escape, is_high_surrogate, is_low_surrogate, surrogate_pair, content}
use Rattle.json.specs.Word.{is_operator, is_space, head, ends_word, after_digits, after_minus, after_sign, after_whole, after_fraction, after_exponent, after_number, number_before, word}
use Rattle.json.specs.Lex.{Lexeme, token, Class, quote, backslash, operator, space, other, class, operator_lexeme, string_token, Mode, between, in_word, in_string, in_escape, lex_byte, lex, punctuate, fresh}
use Rattle.json.specs.Json as json
use Rattle.json.proofs.Printed.Utf8.{IsUtf8-are_ascii}
use Rattle.serde_json.specs.Data.{Data, object, Members, no_members, member}
use Rattle.serde_json.specs.Read.{read, of_json}
use Rattle.serde_json.specs.Written.{compact_text, members_text, comma_if}
use Rattle.json.specs.Print.{quoted}
use Rattle.rx_types.specs.Domain.{Domain}
use Rattle.rx_graph.specs.Graph.{Graph}
use Rattle.rx_graph.specs.Fits.{Assigned}
use Rattle.rx_values.specs.Printing.{members_of, json_text}
use Rattle.rx_values.specs.Reading.{json_of, values_of, value_of}

-- ---- a word is read the same before a rest that ends it

-- the byte ends a word
abbrev ends : ℕ → Bool
ends x = is_operator x || is_space x

module _ (rest : List ℕ) (ended : ends_word rest ≡ true) where
  -- what a part of a number leaves, with the rest behind it
  abbrev with_rest : Option (List ℕ) → Option (List ℕ)
  with_rest o = option_map (λ (r : List ℕ). r ++ rest) o

  ends_same : (t : List ℕ) → ends_word (t ++ rest) ≡ ends_word t
  ends_same [] = ended
  ends_same (x ∷ xs) = refl

  not_head : (c x : ℕ) → ends x ≡ true → ends c ≡ false → (x == c) ≡ false
  not_head c x is no_end = ne_eqb x c (λ e. true≢false (sym is ∙ ap ends e ∙ no_end))

  head_same : (c : ℕ) (t : List ℕ) → ends c ≡ false → (head (t ++ rest) == c) ≡ (head t == c)
  head_same c [] no_end = not_head c (head rest) ended no_end ∙ sym (not_head c 32 refl no_end)
  head_same c (x ∷ xs) no_end = refl

  -- the byte c is passed
  one : (c : ℕ) (t : List ℕ) → ends c ≡ false → (head t == c) ≡ true → drop 1 (t ++ rest) ≡ drop 1 t ++ rest
  one c [] no_end is = absurd (true≢false (sym is ∙ not_head c 32 refl no_end))
  one c (x ∷ xs) no_end is = refl

  either : (a b : ℕ) (t : List ℕ) → ends a ≡ false → ends b ≡ false → ((head t == a) || (head t == b)) ≡ true → drop 1 (t ++ rest) ≡ drop 1 t ++ rest
  either a b t a_inner b_inner is = elim (or_cases _ _ is) [ inl e ↦ one a t a_inner e | inr e ↦ one b t b_inner e ]

  -- both take the same side of a test
  by_test : (X : Type 0) (b c : Bool) (x y p q : X) → c ≡ b → (b ≡ true → p ≡ x) → q ≡ y → cond c p q ≡ cond b x y
  by_test X true c x y p q same one_way other_way = ap (λ d. cond d p q) same ∙ one_way refl
  by_test X false c x y p q same one_way other_way = ap (λ d. cond d p q) same ∙ other_way

  digit_no_end : (x : ℕ) → is_ascii_digit x ≡ true → ends x ≡ true → ⊥
  digit_no_end x is end = grind (arith, and_parts, leb-true, eqb-true)

  no_digit : (r : List ℕ) → ends_word r ≡ true → prefix_len is_ascii_digit r ≡ 0
  no_digit [] end = refl
  no_digit (x ∷ xs) end = elim (cases_Bool (is_ascii_digit x)) [
    | inl is ↦ absurd (digit_no_end x is end)
    | inr no_end ↦ ap (λ b. cond b (1 + prefix_len is_ascii_digit xs) 0) no_end
  ]

  digits_same : (t : List ℕ) → prefix_len is_ascii_digit (t ++ rest) ≡ prefix_len is_ascii_digit t
  digits_same [] = no_digit rest ended
  digits_same (x ∷ xs) = ap (λ n. cond (is_ascii_digit x) (1 + n) 0) (digits_same xs)

  none_or : (b : Bool) (r : List ℕ) → cond b None (Some (r ++ rest)) ≡ with_rest (cond b None (Some r))
  none_or true r = refl
  none_or false r = refl

  digits : (t : List ℕ) → after_digits (t ++ rest) ≡ with_rest (after_digits t)
  digits t =
      let n = prefix_len is_ascii_digit t in
      ap (λ k. cond (k == 0) None (Some (drop k (t ++ rest)))) (digits_same t)
      ∙ ap (λ l. cond (n == 0) None (Some l)) (drop-append-le n t rest (prefix_len-le-length is_ascii_digit t))
      ∙ none_or (n == 0) (drop n t)

  side : (b : Bool) (x y : Option (List ℕ)) → cond b (with_rest x) (with_rest y) ≡ with_rest (cond b x y)
  side true x y = refl
  side false x y = refl

  joint : (b : Bool) (x y : List ℕ) → cond b (x ++ rest) (y ++ rest) ≡ cond b x y ++ rest
  joint true x y = refl
  joint false x y = refl

  minus : (t : List ℕ) → after_minus (t ++ rest) ≡ after_minus t ++ rest
  minus t = by_test (List ℕ) (head t == 45) _ (drop 1 t ++ rest) (t ++ rest) _ _ (head_same 45 t refl) (one 45 t refl) refl ∙ joint (head t == 45) (drop 1 t) t

  signed : (t : List ℕ) → after_sign (t ++ rest) ≡ after_sign t ++ rest
  signed t =
      by_test (List ℕ) ((head t == 45) || (head t == 43)) _ (drop 1 t ++ rest) (t ++ rest) _ _ (ap₂ (λ a b. a || b) (head_same 45 t refl) (head_same 43 t refl)) (either 45 43 t refl refl) refl
      ∙ joint ((head t == 45) || (head t == 43)) (drop 1 t) t

  whole : (t : List ℕ) → after_whole (t ++ rest) ≡ with_rest (after_whole t)
  whole t =
      by_test (Option (List ℕ)) (head t == 48) _ (Some (drop 1 t ++ rest)) (with_rest (after_digits t)) _ _ (head_same 48 t refl) (λ e. ap Some (one 48 t refl e)) (digits t)
      ∙ side (head t == 48) (Some (drop 1 t)) (after_digits t)

  fraction : (t : List ℕ) → after_fraction (t ++ rest) ≡ with_rest (after_fraction t)
  fraction t =
      by_test (Option (List ℕ)) (head t == 46) _ (with_rest (after_digits (drop 1 t))) (Some (t ++ rest)) _ _ (head_same 46 t refl) (λ e. ap after_digits (one 46 t refl e) ∙ digits (drop 1 t)) refl
      ∙ side (head t == 46) (after_digits (drop 1 t)) (Some t)

  exponent : (t : List ℕ) → after_exponent (t ++ rest) ≡ with_rest (after_exponent t)
  exponent t =
      by_test (Option (List ℕ)) ((head t == 101) || (head t == 69)) _ (with_rest (after_digits (after_sign (drop 1 t)))) (Some (t ++ rest)) _ _
      (ap₂ (λ a b. a || b) (head_same 101 t refl) (head_same 69 t refl))
      (λ e. ap (λ l. after_digits (after_sign l)) (either 101 69 t refl refl e) ∙ ap after_digits (signed (drop 1 t)) ∙ digits (after_sign (drop 1 t))) refl
      ∙ side ((head t == 101) || (head t == 69)) (after_digits (after_sign (drop 1 t))) (Some t)

  onward : (f : List ℕ → Option (List ℕ)) → ((t : List ℕ) → f (t ++ rest) ≡ with_rest (f t)) → (o : Option (List ℕ)) → option_and_then f (with_rest o) ≡ with_rest (option_and_then f o)
  onward f each None = refl
  onward f each (Some r) = each r

  number_same : (t : List ℕ) → after_number (t ++ rest) ≡ with_rest (after_number t)
  unfolding after_number
  number_same t =
      let begun = ap after_whole (minus t) ∙ whole (after_minus t) in
      let middle = ap (option_and_then after_fraction) begun ∙ onward after_fraction fraction (after_whole (after_minus t)) in
      ap (option_and_then after_exponent) middle ∙ onward after_exponent exponent (option_and_then after_fraction (after_whole (after_minus t)))

  number_token : (t : List ℕ) (o : Option (List ℕ)) → number_before (t ++ rest) (with_rest o) ≡ number_before t o
  number_token t None = refl
  number_token t (Some r) =
      let size : length (t ++ rest) - length (r ++ rest) ≡ length t - length r = omega (arith, length-append t rest, length-append r rest) in
      let within : length t - length r ≤ length t = omega arith in
      ap (λ n. cond (ends_word (r ++ rest)) (number (take n (t ++ rest))) bad) size
      ∙ ap₂ (λ b l. cond b (number l) bad) (ends_same r) (take-append-le (length t - length r) t rest within)

  -- no byte of the name ends a word
  abbrev HasNoEnd : List ℕ → Type 0
  HasNoEnd [] = Unit {0}
  HasNoEnd (c ∷ cs) = (ends c ≡ false) × HasNoEnd cs

  -- the text begins with the name, and a word ends there
  abbrev is_named : List ℕ → List ℕ → Bool
  is_named name t = starts_with nat_eq t name && ends_word (drop (length name) t)

  named_rest : (c : ℕ) (cs r : List ℕ) → ends_word r ≡ true → ends c ≡ false → is_named (c ∷ cs) r ≡ false
  named_rest c cs [] end no_end = refl
  named_rest c cs (x ∷ xs) end no_end =
      let differ : (c == x) ≡ false = ne_eqb c x (λ e. true≢false (sym end ∙ ap ends (sym e) ∙ no_end)) in
      ap (λ b. (b && starts_with nat_eq xs cs) && ends_word (drop (length cs) xs)) differ

  both_named : (b p q p' q' : Bool) → (p && q) ≡ (p' && q') → ((b && p) && q) ≡ ((b && p') && q')
  both_named true p q p' q' e = e
  both_named false p q p' q' e = refl

  named_same : (name t : List ℕ) → HasNoEnd name → is_named name (t ++ rest) ≡ is_named name t
  named_same [] t no_end = ends_same t
  named_same (c ∷ cs) [] no_end = named_rest c cs rest ended no_end.0
  named_same (c ∷ cs) (x ∷ xs) no_end = both_named (nat_eq c x) (starts_with nat_eq (xs ++ rest) cs) (ends_word (drop (length cs) (xs ++ rest))) (starts_with nat_eq xs cs) (ends_word (drop (length cs) xs)) (named_same cs xs no_end.1)

  word_same : (t : List ℕ) → word (t ++ rest) ≡ word t
  unfolding word
  word_same t =
      let numbers = ap (number_before (t ++ rest)) (number_same t) ∙ number_token t (after_number t) in
      λ i. cond (head_same 116 t refl i) (cond (named_same (116 ∷ 114 ∷ 117 ∷ 101 ∷ []) t (refl, (refl, (refl, (refl, tt)))) i) (boolean true) bad)
      (cond (head_same 102 t refl i) (cond (named_same (102 ∷ 97 ∷ 108 ∷ 115 ∷ 101 ∷ []) t (refl, (refl, (refl, (refl, (refl, tt))))) i) (boolean false) bad)
      (cond (head_same 110 t refl i) (cond (named_same (110 ∷ 117 ∷ 108 ∷ 108 ∷ []) t (refl, (refl, (refl, (refl, tt)))) i) null bad) (numbers i)))

-- ---- the lexer

-- a text that ends with a closing brace
abbrev closed : List ℕ → List ℕ
closed front = front ++ 125 ∷ []

-- the same with a line feed behind it
abbrev behind : List ℕ → List ℕ
behind front = front ++ 125 ∷ 10 ∷ []

word_behind : (t : List ℕ) → word (behind t) ≡ word (closed t)
word_behind t = word_same (125 ∷ 10 ∷ []) refl t ∙ sym (word_same (125 ∷ []) refl t)

-- a closing brace is no digit of an escape
no_unit : (a b c d : ℕ) → (is_digit a 16 && is_digit b 16 && is_digit c 16 && is_digit d 16) ≡ false → code_unit a b c d ≡ None
unfolding code_unit
no_unit a b c d e = ap (λ t. cond t (Some (digit_value a * 4096 + digit_value b * 256 + digit_value c * 16 + digit_value d)) None) e

brace_last : (a b c : ℕ) → code_unit a b c 125 ≡ None
brace_last a b c = no_unit a b c 125 (and_right (is_digit a 16 && is_digit b 16 && is_digit c 16) false refl)

brace_third : (a b d : ℕ) → code_unit a b 125 d ≡ None
brace_third a b d = no_unit a b 125 d (and_left _ (is_digit d 16) (and_right (is_digit a 16 && is_digit b 16) false refl))

pair_none : (b : Bool) (f : ℕ → Option (List ℕ)) (o : Option ℕ) → o ≡ None → cond b (option_and_then f o) None ≡ None
pair_none true f o e = ap (option_and_then f) e
pair_none false f o e = refl

-- a string is not closed behind the last brace
content_behind : (w : Within) (t : List ℕ) → content w (behind t) ≡ content w (closed t)
unfolding content
content_behind plain [] = refl
content_behind plain (x ∷ xs) = λ i. cond (x == 34) (Some []) (cond (x == 92) (content_behind after_backslash xs i) (cond (nat_lt x 32) None (prepend (x ∷ []) (content_behind plain xs i))))
content_behind after_backslash [] = refl
content_behind after_backslash (x ∷ xs) = λ i. cond (x == 117) (content_behind after_u xs i) (option_and_then (λ c. prepend (c ∷ []) (content_behind plain xs i)) (short_escape x))
content_behind after_u [] = refl
content_behind after_u (a ∷ []) = refl
content_behind after_u (a ∷ b ∷ []) = ap (option_and_then _) (brace_third a b 10)
content_behind after_u (a ∷ b ∷ c ∷ []) = ap (option_and_then _) (brace_last a b c) ∙ sym (ap (option_and_then _) (brace_last a b c))
content_behind after_u (a ∷ b ∷ c ∷ d ∷ xs) =
    λ i. option_and_then (λ u. cond (is_high_surrogate u) (content_behind (after_high u) xs i) (cond (is_low_surrogate u) None (prepend (encode_utf8 u) (content_behind plain xs i)))) (code_unit a b c d)
content_behind (after_high h) [] = refl
content_behind (after_high h) (s ∷ []) = refl
content_behind (after_high h) (s ∷ u ∷ []) = refl
content_behind (after_high h) (s ∷ u ∷ a ∷ []) = refl
content_behind (after_high h) (s ∷ u ∷ a ∷ b ∷ []) = pair_none ((s == 92) && (u == 117)) _ _ (brace_third a b 10)
content_behind (after_high h) (s ∷ u ∷ a ∷ b ∷ c ∷ []) = pair_none ((s == 92) && (u == 117)) _ _ (brace_last a b c) ∙ sym (pair_none ((s == 92) && (u == 117)) _ _ (brace_last a b c))
content_behind (after_high h) (s ∷ u ∷ a ∷ b ∷ c ∷ d ∷ xs) =
    λ i. cond ((s == 92) && (u == 117)) (option_and_then (λ l. cond (is_low_surrogate l) (prepend (encode_utf8 (surrogate_pair h l)) (content_behind plain xs i)) None) (code_unit a b c d)) None

-- one byte gives the same before what gives the same
byte_same : (m : Mode) (c : Class) (x : ℕ) (xs ys : List ℕ) (k l : Mode → List Lexeme) → content plain xs ≡ content plain ys → word (x ∷ xs) ≡ word (x ∷ ys) → ((n : Mode) → k n ≡ l n)
    → lex_byte m c x xs k ≡ lex_byte m c x ys l
byte_same between quote x xs ys k l text words go = λ i. token (string_token (text i)) ∷ go in_string i
byte_same between backslash x xs ys k l text words go = λ i. token bad ∷ go in_word i
byte_same between operator x xs ys k l text words go = λ i. operator_lexeme x ∷ go between i
byte_same between space x xs ys k l text words go = go between
byte_same between other x xs ys k l text words go = λ i. token (words i) ∷ go in_word i
byte_same in_word quote x xs ys k l text words go = go in_word
byte_same in_word backslash x xs ys k l text words go = go in_word
byte_same in_word operator x xs ys k l text words go = λ i. operator_lexeme x ∷ go between i
byte_same in_word space x xs ys k l text words go = go between
byte_same in_word other x xs ys k l text words go = go in_word
byte_same in_string quote x xs ys k l text words go = go between
byte_same in_string backslash x xs ys k l text words go = go in_escape
byte_same in_string operator x xs ys k l text words go = go in_string
byte_same in_string space x xs ys k l text words go = go in_string
byte_same in_string other x xs ys k l text words go = go in_string
byte_same in_escape c x xs ys k l text words go = go in_string

lex_behind : (m : Mode) (t : List ℕ) → lex m (behind t) ≡ lex m (closed t)
unfolding lex
lex_behind between [] = refl
lex_behind in_word [] = refl
lex_behind in_string [] = refl
lex_behind in_escape [] = refl
lex_behind m (x ∷ xs) = byte_same m (class x) x (behind xs) (closed xs) _ _ (content_behind plain xs) (word_behind (x ∷ xs)) (λ n. lex_behind n xs)

abbrev of_tokens : List Token → Option Data
of_tokens ts = option_and_then of_json (option_and_then (λ (p : json.Json × List Token). json.if_last p.0 p.1) (json.value 127 ts))

read_behind : (t : List ℕ) → read (behind t) ≡ read (closed t)
read_behind t = ap (λ ls. of_tokens (punctuate fresh ls)) (lex_behind between t)

-- ---- the encoding

utf8_more : (t : List ℕ) → IsUtf8 t → IsUtf8 (t ++ 10 ∷ [])
utf8_more t is = IsUtf8-append t (10 ∷ []) is (IsUtf8-are_ascii (10 ∷ []) refl)

get_or-append_first : (t : List ℕ) (x : ℕ) → get_or (t ++ x ∷ []) (length t) 0 ≡ x
get_or-append_first [] x = refl
get_or-append_first (y ∷ t) x = get_or-append_first t x

utf8_less : (t : List ℕ) → IsUtf8 (t ++ 10 ∷ []) → IsUtf8 t
utf8_less t is =
    let here : get_or (t ++ 10 ∷ []) (length t) 0 ≡ 10 = get_or-append_first t 10 in
    let n : length (t ++ 10 ∷ []) ≡ length t + 1 = length-append t (10 ∷ []) in
    subst IsUtf8 (take_at t (10 ∷ []) (length t) refl) (IsUtf8-take (t ++ 10 ∷ []) (length t) is (IsCharBoundary-before_ascii (t ++ 10 ∷ []) (length t) (omega arith) (omega arith)))

one_answer : (b c : Bool) → (b ≡ true → c ≡ true) → (c ≡ true → b ≡ true) → b ≡ c
one_answer true true f g = refl
one_answer true false f g = sym (f refl)
one_answer false true f g = g refl
one_answer false false f g = refl

utf8_same : (t : List ℕ) → is_utf8 (t ++ 10 ∷ []) ≡ is_utf8 t
utf8_same t = one_answer (is_utf8 (t ++ 10 ∷ [])) (is_utf8 t)
    (λ e. is_utf8-from_IsUtf8 t (utf8_less t (IsUtf8-from_is_utf8 (t ++ 10 ∷ []) e)))
    (λ e. is_utf8-from_IsUtf8 (t ++ 10 ∷ []) (utf8_more t (IsUtf8-from_is_utf8 t e)))

-- ---- the text of an object

-- it ends with a closing brace
abbrev IsClosed : List ℕ → Type 0
IsClosed text = (front : List ℕ) × (text ≡ closed front)

closed_more : (xs ys : List ℕ) → IsClosed ys → IsClosed (xs ++ ys)
closed_more xs ys end = (xs ++ end.0, ap (λ l. xs ++ l) end.1 ∙ sym (append_assoc xs end.0 (125 ∷ [])))

members_closed : (later : Bool) (ms : Members) → IsClosed (members_text later ms)
members_closed later no_members = ([], refl)
members_closed later (member k d ms) =
    closed_more (comma_if later) (quoted k ++ 58 ∷ (compact_text d ++ members_text true ms))
    (closed_more (quoted k) (58 ∷ (compact_text d ++ members_text true ms)) (closed_more (58 ∷ []) (compact_text d ++ members_text true ms) (closed_more (compact_text d) (members_text true ms) (members_closed true ms))))

object_closed : (ms : Members) → IsClosed (compact_text (object ms))
object_closed ms = closed_more (123 ∷ []) (members_text false ms) (members_closed false ms)

read_same : (text : List ℕ) → IsClosed text → read (text ++ 10 ∷ []) ≡ read text
read_same text end = ap (λ l. read (l ++ 10 ∷ [])) end.1 ∙ ap read (append_assoc end.0 (125 ∷ []) (10 ∷ [])) ∙ read_behind end.0 ∙ ap read (sym end.1)

json_same : (text : List ℕ) → IsClosed text → json_of (text ++ 10 ∷ []) ≡ json_of text
json_same text end = ap₂ (λ b d. if b then d else None) (utf8_same text) (read_same text end)

-- a line feed behind the printed text of a valuation changes nothing of what it is read as
pub value_behind_line : (domains : List Domain) (m : Graph) (values : List Assigned) → value_of domains m (json_text domains m values ++ 10 ∷ []) ≡ value_of domains m (json_text domains m values)
value_behind_line domains m values = ap (values_of domains m) (json_same (json_text domains m values) (object_closed (members_of domains m values)))
