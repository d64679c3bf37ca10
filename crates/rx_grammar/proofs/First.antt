-- First sets: what they say of beginnings.
use Rattle.std.proofs.Common.{◌≡◌, ℕ, ◌+◌, ◌<◌, Bool, true, false, ◌||◌, ◌&&◌, not, cond, List, [], ◌∷◌, ◌++◌, refl, sym, ap, ◌∙◌, subst, arith, append_assoc, zero, suc, ◌⊎◌, inl, inr, ⊎_elim}
use Rattle.std.proofs.lemmas.Bool.{false≢true}
use Rattle.std.proofs.lemmas.Bool.Decides.{nat_tests}
use Rattle.std.specs.List.{list_any}
use Rattle.std.specs.Str.{bytes_eq, str_eq_ignore_ascii_case, str_to_ascii_lowercase}
use Rattle.std.proofs.lemmas.Slice.Eq.{bytes_eq-Decides}
use Rattle.rx_syntax.specs.declared.token.Token.{Token}
use Rattle.rx_syntax.specs.declared.token.TokenKind.{TokenKind}
use Rattle.rx_syntax.specs.declared.token.TokenKind.TheVariants as kind
use Rattle.rx_syntax.specs.Marks.{text_of}
use Rattle.rx_grammar.specs.declared.terminal.Terminal.{Terminal}
use Rattle.rx_grammar.specs.declared.terminal.Terminal.TheVariants as terminal
use Rattle.rx_grammar.specs.declared.terminal.Keyword.{Keyword}
use Rattle.rx_grammar.specs.declared.terminal.Keyword.TheVariants as word
use Rattle.rx_grammar.specs.declared.terminal.Quoted.{Quoted}
use Rattle.rx_grammar.specs.Terminal.{keyword_text, quoted_text, reserved, is_such, is_one_of}
use Rattle.rx_grammar.specs.Grammar.{Rule, Symbol, one, rule, ◌▸◌, ◌∣◌, maybe, many, body, file, plain_file, header, decl, plain_decl, def, literals, easpect, order, field, thens, one_then, aspects, aspect, refine, full_name, expr, conj, rel, sum, product, power, factor, attr, machine, channel, mode, var, state, target, action, rhs, items, item, Extent, Derives, Begins, finished, nothing, token, by_rule, in_turn, first, second, absent, present, no_more, one_more}
use Rattle.rx_grammar.specs.First.{nullable, first_of_rule, first_of, all_nullable, first_of_all, apart, apart_from_all, all_apart, same_terminal, is_among, all_among, Behind, after, exactly, follows_list, can_follow}
use Rattle.rx_grammar.specs.Reads.{Follows, NoneBegins}

pub or_left : (a b : Bool) → a ≡ true → (a || b) ≡ true
or_left true b h = refl
or_left false b h = absurd (false≢true h)

pub or_right : (a b : Bool) → b ≡ true → (a || b) ≡ true
or_right true b h = refl
or_right false b h = h

pub or_cases : (a b : Bool) → (a || b) ≡ true → (a ≡ true) ⊎ (b ≡ true)
or_cases true b h = inl refl
or_cases false b h = inr h

and_parts : (a b : Bool) → (a && b) ≡ true → (a ≡ true) × (b ≡ true)
and_parts true b h = (refl, h)
and_parts false b h = absurd (false≢true h)

pub or_false : (a : Bool) → (a || false) ≡ a
or_false true = refl
or_false false = refl

pub or_none : (a b : Bool) → (a || b) ≡ false → (a ≡ false) × (b ≡ false)
or_none true b h = absurd (false≢true (sym h))
or_none false b h = (refl, h)

both : (a b : Bool) → a ≡ true → b ≡ true → (a && b) ≡ true
both true b e h = h
both false b e h = e

pub one_of_cases : (xs ys : List Terminal) (k : TokenKind) → is_one_of (xs ++ ys) k ≡ true → (is_one_of xs k ≡ true) ⊎ (is_one_of ys k ≡ true)
one_of_cases [] ys k h = inr h
one_of_cases (x ∷ xs) ys k h = ⊎_elim (λ a. inl (or_left _ _ a)) (λ b. ⊎_elim (λ c. inl (or_right (is_such x k) _ c)) (λ d. inr d) (one_of_cases xs ys k b)) (or_cases _ _ h)

pub one_of_left : (xs ys : List Terminal) (k : TokenKind) → is_one_of xs k ≡ true → is_one_of (xs ++ ys) k ≡ true
one_of_left [] ys k h = absurd (false≢true h)
one_of_left (x ∷ xs) ys k h = ⊎_elim (λ a. or_left _ _ a) (λ b. or_right (is_such x k) _ (one_of_left xs ys k b)) (or_cases _ _ h)

pub one_of_right : (xs ys : List Terminal) (k : TokenKind) → is_one_of ys k ≡ true → is_one_of (xs ++ ys) k ≡ true
one_of_right [] ys k h = h
one_of_right (x ∷ xs) ys k h = or_right (is_such x k) _ (one_of_right xs ys k h)

-- first sets of symbols in a row, over any first sets of the parts
abbrev Row : Bool → List Terminal → List Terminal → List Terminal
Row n f rest = cond n (f ++ rest) f

row_in : (n : Bool) (f rest : List Terminal) (k : TokenKind) → is_one_of (Row n f rest) k ≡ true → is_one_of (f ++ rest) k ≡ true
row_in true f rest k h = h
row_in false f rest k h = one_of_left f rest k h

row_turn : (m n : Bool) (f g rest : List Terminal) → Row m f (Row n g rest) ≡ Row (m && n) (Row m f g) rest
row_turn true true f g rest = sym (append_assoc f g rest)
row_turn true false f g rest = refl
row_turn false n f g rest = refl

row_first : (m n : Bool) (f g rest : List Terminal) (k : TokenKind) → is_one_of (Row m f rest) k ≡ true → is_one_of (Row (m || n) (f ++ g) rest) k ≡ true
row_first true n f g rest k h = ⊎_elim (λ a. one_of_left (f ++ g) rest k (one_of_left f g k a)) (λ b. one_of_right (f ++ g) rest k b) (one_of_cases f rest k h)
row_first false true f g rest k h = one_of_left (f ++ g) rest k (one_of_left f g k h)
row_first false false f g rest k h = one_of_left f g k h

row_second : (m n : Bool) (f g rest : List Terminal) (k : TokenKind) → is_one_of (Row n g rest) k ≡ true → is_one_of (Row (m || n) (f ++ g) rest) k ≡ true
row_second true n f g rest k h = ⊎_elim (λ a. one_of_left (f ++ g) rest k (one_of_right f g k a)) (λ b. one_of_right (f ++ g) rest k b) (one_of_cases g rest k (row_in n g rest k h))
row_second false true f g rest k h = ⊎_elim (λ a. one_of_left (f ++ g) rest k (one_of_right f g k a)) (λ b. one_of_right (f ++ g) rest k b) (one_of_cases g rest k h)
row_second false false f g rest k h = one_of_right f g k h

row_again : (n : Bool) (f rest : List Terminal) (k : TokenKind) → is_one_of (Row n f (f ++ rest)) k ≡ true → is_one_of (f ++ rest) k ≡ true
row_again true f rest k h = ⊎_elim (λ a. one_of_left f rest k a) (λ b. b) (one_of_cases f (f ++ rest) k h)
row_again false f rest k h = one_of_left f rest k h

pub rule_not_nullable : (r : Rule) (b : Bool) → (nullable (body r) && b) ≡ false
rule_not_nullable file b = refl
rule_not_nullable plain_file b = refl
rule_not_nullable header b = refl
rule_not_nullable decl b = refl
rule_not_nullable plain_decl b = refl
rule_not_nullable def b = refl
rule_not_nullable literals b = refl
rule_not_nullable easpect b = refl
rule_not_nullable order b = refl
rule_not_nullable field b = refl
rule_not_nullable thens b = refl
rule_not_nullable one_then b = refl
rule_not_nullable aspects b = refl
rule_not_nullable aspect b = refl
rule_not_nullable refine b = refl
rule_not_nullable full_name b = refl
rule_not_nullable expr b = refl
rule_not_nullable conj b = refl
rule_not_nullable rel b = refl
rule_not_nullable sum b = refl
rule_not_nullable product b = refl
rule_not_nullable power b = refl
rule_not_nullable factor b = refl
rule_not_nullable attr b = refl
rule_not_nullable machine b = refl
rule_not_nullable channel b = refl
rule_not_nullable mode b = refl
rule_not_nullable var b = refl
rule_not_nullable state b = refl
rule_not_nullable target b = refl
rule_not_nullable action b = refl
rule_not_nullable rhs b = refl
rule_not_nullable items b = refl
rule_not_nullable item b = refl

pub and_turn : (a b c : Bool) → (a && (b && c)) ≡ true → ((a && b) && c) ≡ true
and_turn true b c h = h
and_turn false b c h = h

pub and_first : (a b c : Bool) → (a && c) ≡ true → ((a || b) && c) ≡ true
and_first true b c h = h
and_first false b c h = absurd (false≢true h)

pub and_second : (a b c : Bool) → (b && c) ≡ true → ((a || b) && c) ≡ true
and_second true true c h = h
and_second true false c h = absurd (false≢true h)
and_second false b c h = h

pub and_back : (a b : Bool) → (a && b) ≡ true → b ≡ true
and_back true b h = h
and_back false b h = absurd (false≢true h)

rule_row : (r : Rule) (rest : List Terminal) → Row (nullable (body r)) (first_of (body r)) rest ≡ first_of_rule r
rule_row file rest = refl
rule_row plain_file rest = refl
rule_row header rest = refl
rule_row decl rest = refl
rule_row plain_decl rest = refl
rule_row def rest = refl
rule_row literals rest = refl
rule_row easpect rest = refl
rule_row order rest = refl
rule_row field rest = refl
rule_row thens rest = refl
rule_row one_then rest = refl
rule_row aspects rest = refl
rule_row aspect rest = refl
rule_row refine rest = refl
rule_row full_name rest = refl
rule_row expr rest = refl
rule_row conj rest = refl
rule_row rel rest = refl
rule_row sum rest = refl
rule_row product rest = refl
rule_row power rest = refl
rule_row factor rest = refl
rule_row attr rest = refl
rule_row machine rest = refl
rule_row channel rest = refl
rule_row mode rest = refl
rule_row var rest = refl
rule_row state rest = refl
rule_row target rest = refl
rule_row action rest = refl
rule_row rhs rest = refl
rule_row items rest = refl
rule_row item rest = refl

-- what the symbols begin with has its first token in their first set
pub begins_first : {w : Extent} {ss : List Symbol} {t : Token} {ts : List Token} → Derives w ss (t ∷ ts) → is_one_of (first_of_all ss) t.kind ≡ true
begins_first (token h b) = or_left _ false h
begins_first {t = t} (by_rule {r = r} {ss = ss} b) = subst (λ xs. is_one_of xs t.kind ≡ true) (rule_row r (first_of_all ss)) (begins_first b)
begins_first {t = t} (in_turn {a = a} {b = b} {ss = ss} x) = subst (λ xs. is_one_of xs t.kind ≡ true) (row_turn (nullable a) (nullable b) (first_of a) (first_of b) (first_of_all ss)) (begins_first x)
begins_first {t = t} (first {a = a} {b = b} {ss = ss} x) = row_first (nullable a) (nullable b) (first_of a) (first_of b) (first_of_all ss) t.kind (begins_first x)
begins_first {t = t} (second {a = a} {b = b} {ss = ss} x) = row_second (nullable a) (nullable b) (first_of a) (first_of b) (first_of_all ss) t.kind (begins_first x)
begins_first {t = t} (absent {a = a} {ss = ss} x) = one_of_right (first_of a) (first_of_all ss) t.kind (begins_first x)
begins_first {t = t} (present {a = a} {ss = ss} x) = row_in (nullable a) (first_of a) (first_of_all ss) t.kind (begins_first x)
begins_first {t = t} (no_more {a = a} {ss = ss} x) = one_of_right (first_of a) (first_of_all ss) t.kind (begins_first x)
begins_first {t = t} (one_more {a = a} {ss = ss} x) = row_again (nullable a) (first_of a) (first_of_all ss) t.kind (begins_first x)

one_of_none : (xs ys : List Terminal) (k : TokenKind) → is_one_of (xs ++ ys) k ≡ false → (is_one_of xs k ≡ false) × (is_one_of ys k ≡ false)
one_of_none [] ys k e = (refl, e)
one_of_none (x ∷ xs) ys k e = let p = or_none (is_such x k) (is_one_of (xs ++ ys) k) e in let q = one_of_none xs ys k p.1 in (rw p.0 q.0, q.1)

one_of_neither : (xs ys : List Terminal) (k : TokenKind) → is_one_of xs k ≡ false → is_one_of ys k ≡ false → is_one_of (xs ++ ys) k ≡ false
one_of_neither [] ys k e h = h
one_of_neither (x ∷ xs) ys k e h = let p = or_none (is_such x k) (is_one_of xs k) e in rw p.0 (one_of_neither xs ys k p.1 h)

row_behind : (n : Bool) (f rest rest' : List Terminal) (k : TokenKind) → is_one_of (Row n f rest) k ≡ false → (n ≡ true → is_one_of rest k ≡ false → is_one_of rest' k ≡ false) → is_one_of (Row n f rest') k ≡ false
row_behind true f rest rest' k e h = let p = one_of_none f rest k e in one_of_neither f rest' k p.0 (h refl p.1)
row_behind false f rest rest' k e h = e

not_true : (b : Bool) → not b ≡ true → b ≡ false
not_true true h = absurd (false≢true h)
not_true false h = refl

-- a text that is one of two different ones is not the other
other_text : (w a b : List ℕ) → not (bytes_eq a b) ≡ true → bytes_eq w a ≡ true → bytes_eq w b ≡ false
other_text w a b e h = subst (λ x. bytes_eq x b ≡ false) (sym ((bytes_eq-Decides w a).0 h)) (not_true (bytes_eq a b) e)

other_mark : (k a b : List ℕ) → not (bytes_eq a b) ≡ true → bytes_eq k a ≡ true → bytes_eq k b ≡ false
other_mark k a b e h = other_text k a b e h

-- each reserved word is among them
is_reserved : (p : List ℕ → Bool) (k : Keyword) → p (keyword_text k) ≡ true → list_any p reserved ≡ true
is_reserved p word.And h = or_left (p (keyword_text word.And)) _ h
is_reserved p word.Begin h = or_right (p (keyword_text word.And)) _ (or_left (p (keyword_text word.Begin)) _ h)
is_reserved p word.End h = or_right (p (keyword_text word.And)) _ (or_right (p (keyword_text word.Begin)) _ (or_left (p (keyword_text word.End)) _ h))
is_reserved p word.Exception h = or_right (p (keyword_text word.And)) _ (or_right (p (keyword_text word.Begin)) _ (or_right (p (keyword_text word.End)) _ (or_left (p (keyword_text word.Exception)) _ h)))
is_reserved p word.For h = or_right (p (keyword_text word.And)) _ (or_right (p (keyword_text word.Begin)) _ (or_right (p (keyword_text word.End)) _ (or_right (p (keyword_text word.Exception)) _ (or_left (p (keyword_text word.For)) _ h))))
is_reserved p word.Generic h = or_right (p (keyword_text word.And)) _ (or_right (p (keyword_text word.Begin)) _ (or_right (p (keyword_text word.End)) _ (or_right (p (keyword_text word.Exception)) _ (or_right (p (keyword_text word.For)) _ (or_left (p (keyword_text word.Generic)) _ h)))))
is_reserved p word.Goto h = or_right (p (keyword_text word.And)) _ (or_right (p (keyword_text word.Begin)) _ (or_right (p (keyword_text word.End)) _ (or_right (p (keyword_text word.Exception)) _ (or_right (p (keyword_text word.For)) _ (or_right (p (keyword_text word.Generic)) _ (or_left (p (keyword_text word.Goto)) _ h))))))
is_reserved p word.If h = or_right (p (keyword_text word.And)) _ (or_right (p (keyword_text word.Begin)) _ (or_right (p (keyword_text word.End)) _ (or_right (p (keyword_text word.Exception)) _ (or_right (p (keyword_text word.For)) _ (or_right (p (keyword_text word.Generic)) _ (or_right (p (keyword_text word.Goto)) _ (or_left (p (keyword_text word.If)) _ h)))))))
is_reserved p word.Is h = or_right (p (keyword_text word.And)) _ (or_right (p (keyword_text word.Begin)) _ (or_right (p (keyword_text word.End)) _ (or_right (p (keyword_text word.Exception)) _ (or_right (p (keyword_text word.For)) _ (or_right (p (keyword_text word.Generic)) _ (or_right (p (keyword_text word.Goto)) _ (or_right (p (keyword_text word.If)) _ (or_left (p (keyword_text word.Is)) _ h))))))))
is_reserved p word.Machine h = or_right (p (keyword_text word.And)) _ (or_right (p (keyword_text word.Begin)) _ (or_right (p (keyword_text word.End)) _ (or_right (p (keyword_text word.Exception)) _ (or_right (p (keyword_text word.For)) _ (or_right (p (keyword_text word.Generic)) _ (or_right (p (keyword_text word.Goto)) _ (or_right (p (keyword_text word.If)) _ (or_right (p (keyword_text word.Is)) _ (or_left (p (keyword_text word.Machine)) _ h)))))))))
is_reserved p word.Message h = or_right (p (keyword_text word.And)) _ (or_right (p (keyword_text word.Begin)) _ (or_right (p (keyword_text word.End)) _ (or_right (p (keyword_text word.Exception)) _ (or_right (p (keyword_text word.For)) _ (or_right (p (keyword_text word.Generic)) _ (or_right (p (keyword_text word.Goto)) _ (or_right (p (keyword_text word.If)) _ (or_right (p (keyword_text word.Is)) _ (or_right (p (keyword_text word.Machine)) _ (or_left (p (keyword_text word.Message)) _ h))))))))))
is_reserved p word.Mod h = or_right (p (keyword_text word.And)) _ (or_right (p (keyword_text word.Begin)) _ (or_right (p (keyword_text word.End)) _ (or_right (p (keyword_text word.Exception)) _ (or_right (p (keyword_text word.For)) _ (or_right (p (keyword_text word.Generic)) _ (or_right (p (keyword_text word.Goto)) _ (or_right (p (keyword_text word.If)) _ (or_right (p (keyword_text word.Is)) _ (or_right (p (keyword_text word.Machine)) _ (or_right (p (keyword_text word.Message)) _ (or_left (p (keyword_text word.Mod)) _ h)))))))))))
is_reserved p word.New h = or_right (p (keyword_text word.And)) _ (or_right (p (keyword_text word.Begin)) _ (or_right (p (keyword_text word.End)) _ (or_right (p (keyword_text word.Exception)) _ (or_right (p (keyword_text word.For)) _ (or_right (p (keyword_text word.Generic)) _ (or_right (p (keyword_text word.Goto)) _ (or_right (p (keyword_text word.If)) _ (or_right (p (keyword_text word.Is)) _ (or_right (p (keyword_text word.Machine)) _ (or_right (p (keyword_text word.Message)) _ (or_right (p (keyword_text word.Mod)) _ (or_left (p (keyword_text word.New)) _ h))))))))))))
is_reserved p word.Not h = or_right (p (keyword_text word.And)) _ (or_right (p (keyword_text word.Begin)) _ (or_right (p (keyword_text word.End)) _ (or_right (p (keyword_text word.Exception)) _ (or_right (p (keyword_text word.For)) _ (or_right (p (keyword_text word.Generic)) _ (or_right (p (keyword_text word.Goto)) _ (or_right (p (keyword_text word.If)) _ (or_right (p (keyword_text word.Is)) _ (or_right (p (keyword_text word.Machine)) _ (or_right (p (keyword_text word.Message)) _ (or_right (p (keyword_text word.Mod)) _ (or_right (p (keyword_text word.New)) _ (or_left (p (keyword_text word.Not)) _ h)))))))))))))
is_reserved p word.Null h = or_right (p (keyword_text word.And)) _ (or_right (p (keyword_text word.Begin)) _ (or_right (p (keyword_text word.End)) _ (or_right (p (keyword_text word.Exception)) _ (or_right (p (keyword_text word.For)) _ (or_right (p (keyword_text word.Generic)) _ (or_right (p (keyword_text word.Goto)) _ (or_right (p (keyword_text word.If)) _ (or_right (p (keyword_text word.Is)) _ (or_right (p (keyword_text word.Machine)) _ (or_right (p (keyword_text word.Message)) _ (or_right (p (keyword_text word.Mod)) _ (or_right (p (keyword_text word.New)) _ (or_right (p (keyword_text word.Not)) _ (or_left (p (keyword_text word.Null)) _ h))))))))))))))
is_reserved p word.Of h = or_right (p (keyword_text word.And)) _ (or_right (p (keyword_text word.Begin)) _ (or_right (p (keyword_text word.End)) _ (or_right (p (keyword_text word.Exception)) _ (or_right (p (keyword_text word.For)) _ (or_right (p (keyword_text word.Generic)) _ (or_right (p (keyword_text word.Goto)) _ (or_right (p (keyword_text word.If)) _ (or_right (p (keyword_text word.Is)) _ (or_right (p (keyword_text word.Machine)) _ (or_right (p (keyword_text word.Message)) _ (or_right (p (keyword_text word.Mod)) _ (or_right (p (keyword_text word.New)) _ (or_right (p (keyword_text word.Not)) _ (or_right (p (keyword_text word.Null)) _ (or_left (p (keyword_text word.Of)) _ h)))))))))))))))
is_reserved p word.Or h = or_right (p (keyword_text word.And)) _ (or_right (p (keyword_text word.Begin)) _ (or_right (p (keyword_text word.End)) _ (or_right (p (keyword_text word.Exception)) _ (or_right (p (keyword_text word.For)) _ (or_right (p (keyword_text word.Generic)) _ (or_right (p (keyword_text word.Goto)) _ (or_right (p (keyword_text word.If)) _ (or_right (p (keyword_text word.Is)) _ (or_right (p (keyword_text word.Machine)) _ (or_right (p (keyword_text word.Message)) _ (or_right (p (keyword_text word.Mod)) _ (or_right (p (keyword_text word.New)) _ (or_right (p (keyword_text word.Not)) _ (or_right (p (keyword_text word.Null)) _ (or_right (p (keyword_text word.Of)) _ (or_left (p (keyword_text word.Or)) _ h))))))))))))))))
is_reserved p word.Package h = or_right (p (keyword_text word.And)) _ (or_right (p (keyword_text word.Begin)) _ (or_right (p (keyword_text word.End)) _ (or_right (p (keyword_text word.Exception)) _ (or_right (p (keyword_text word.For)) _ (or_right (p (keyword_text word.Generic)) _ (or_right (p (keyword_text word.Goto)) _ (or_right (p (keyword_text word.If)) _ (or_right (p (keyword_text word.Is)) _ (or_right (p (keyword_text word.Machine)) _ (or_right (p (keyword_text word.Message)) _ (or_right (p (keyword_text word.Mod)) _ (or_right (p (keyword_text word.New)) _ (or_right (p (keyword_text word.Not)) _ (or_right (p (keyword_text word.Null)) _ (or_right (p (keyword_text word.Of)) _ (or_right (p (keyword_text word.Or)) _ (or_left (p (keyword_text word.Package)) _ h)))))))))))))))))
is_reserved p word.Range h = or_right (p (keyword_text word.And)) _ (or_right (p (keyword_text word.Begin)) _ (or_right (p (keyword_text word.End)) _ (or_right (p (keyword_text word.Exception)) _ (or_right (p (keyword_text word.For)) _ (or_right (p (keyword_text word.Generic)) _ (or_right (p (keyword_text word.Goto)) _ (or_right (p (keyword_text word.If)) _ (or_right (p (keyword_text word.Is)) _ (or_right (p (keyword_text word.Machine)) _ (or_right (p (keyword_text word.Message)) _ (or_right (p (keyword_text word.Mod)) _ (or_right (p (keyword_text word.New)) _ (or_right (p (keyword_text word.Not)) _ (or_right (p (keyword_text word.Null)) _ (or_right (p (keyword_text word.Of)) _ (or_right (p (keyword_text word.Or)) _ (or_right (p (keyword_text word.Package)) _ (or_left (p (keyword_text word.Range)) _ h))))))))))))))))))
is_reserved p word.Sequence h = or_right (p (keyword_text word.And)) _ (or_right (p (keyword_text word.Begin)) _ (or_right (p (keyword_text word.End)) _ (or_right (p (keyword_text word.Exception)) _ (or_right (p (keyword_text word.For)) _ (or_right (p (keyword_text word.Generic)) _ (or_right (p (keyword_text word.Goto)) _ (or_right (p (keyword_text word.If)) _ (or_right (p (keyword_text word.Is)) _ (or_right (p (keyword_text word.Machine)) _ (or_right (p (keyword_text word.Message)) _ (or_right (p (keyword_text word.Mod)) _ (or_right (p (keyword_text word.New)) _ (or_right (p (keyword_text word.Not)) _ (or_right (p (keyword_text word.Null)) _ (or_right (p (keyword_text word.Of)) _ (or_right (p (keyword_text word.Or)) _ (or_right (p (keyword_text word.Package)) _ (or_right (p (keyword_text word.Range)) _ (or_left (p (keyword_text word.Sequence)) _ h)))))))))))))))))))
is_reserved p word.Session h = or_right (p (keyword_text word.And)) _ (or_right (p (keyword_text word.Begin)) _ (or_right (p (keyword_text word.End)) _ (or_right (p (keyword_text word.Exception)) _ (or_right (p (keyword_text word.For)) _ (or_right (p (keyword_text word.Generic)) _ (or_right (p (keyword_text word.Goto)) _ (or_right (p (keyword_text word.If)) _ (or_right (p (keyword_text word.Is)) _ (or_right (p (keyword_text word.Machine)) _ (or_right (p (keyword_text word.Message)) _ (or_right (p (keyword_text word.Mod)) _ (or_right (p (keyword_text word.New)) _ (or_right (p (keyword_text word.Not)) _ (or_right (p (keyword_text word.Null)) _ (or_right (p (keyword_text word.Of)) _ (or_right (p (keyword_text word.Or)) _ (or_right (p (keyword_text word.Package)) _ (or_right (p (keyword_text word.Range)) _ (or_right (p (keyword_text word.Sequence)) _ (or_left (p (keyword_text word.Session)) _ h))))))))))))))))))))
is_reserved p word.State h = or_right (p (keyword_text word.And)) _ (or_right (p (keyword_text word.Begin)) _ (or_right (p (keyword_text word.End)) _ (or_right (p (keyword_text word.Exception)) _ (or_right (p (keyword_text word.For)) _ (or_right (p (keyword_text word.Generic)) _ (or_right (p (keyword_text word.Goto)) _ (or_right (p (keyword_text word.If)) _ (or_right (p (keyword_text word.Is)) _ (or_right (p (keyword_text word.Machine)) _ (or_right (p (keyword_text word.Message)) _ (or_right (p (keyword_text word.Mod)) _ (or_right (p (keyword_text word.New)) _ (or_right (p (keyword_text word.Not)) _ (or_right (p (keyword_text word.Null)) _ (or_right (p (keyword_text word.Of)) _ (or_right (p (keyword_text word.Or)) _ (or_right (p (keyword_text word.Package)) _ (or_right (p (keyword_text word.Range)) _ (or_right (p (keyword_text word.Sequence)) _ (or_right (p (keyword_text word.Session)) _ (or_left (p (keyword_text word.State)) _ h)))))))))))))))))))))
is_reserved p word.Then h = or_right (p (keyword_text word.And)) _ (or_right (p (keyword_text word.Begin)) _ (or_right (p (keyword_text word.End)) _ (or_right (p (keyword_text word.Exception)) _ (or_right (p (keyword_text word.For)) _ (or_right (p (keyword_text word.Generic)) _ (or_right (p (keyword_text word.Goto)) _ (or_right (p (keyword_text word.If)) _ (or_right (p (keyword_text word.Is)) _ (or_right (p (keyword_text word.Machine)) _ (or_right (p (keyword_text word.Message)) _ (or_right (p (keyword_text word.Mod)) _ (or_right (p (keyword_text word.New)) _ (or_right (p (keyword_text word.Not)) _ (or_right (p (keyword_text word.Null)) _ (or_right (p (keyword_text word.Of)) _ (or_right (p (keyword_text word.Or)) _ (or_right (p (keyword_text word.Package)) _ (or_right (p (keyword_text word.Range)) _ (or_right (p (keyword_text word.Sequence)) _ (or_right (p (keyword_text word.Session)) _ (or_right (p (keyword_text word.State)) _ (or_left (p (keyword_text word.Then)) _ h))))))))))))))))))))))
is_reserved p word.Transition h = or_right (p (keyword_text word.And)) _ (or_right (p (keyword_text word.Begin)) _ (or_right (p (keyword_text word.End)) _ (or_right (p (keyword_text word.Exception)) _ (or_right (p (keyword_text word.For)) _ (or_right (p (keyword_text word.Generic)) _ (or_right (p (keyword_text word.Goto)) _ (or_right (p (keyword_text word.If)) _ (or_right (p (keyword_text word.Is)) _ (or_right (p (keyword_text word.Machine)) _ (or_right (p (keyword_text word.Message)) _ (or_right (p (keyword_text word.Mod)) _ (or_right (p (keyword_text word.New)) _ (or_right (p (keyword_text word.Not)) _ (or_right (p (keyword_text word.Null)) _ (or_right (p (keyword_text word.Of)) _ (or_right (p (keyword_text word.Or)) _ (or_right (p (keyword_text word.Package)) _ (or_right (p (keyword_text word.Range)) _ (or_right (p (keyword_text word.Sequence)) _ (or_right (p (keyword_text word.Session)) _ (or_right (p (keyword_text word.State)) _ (or_right (p (keyword_text word.Then)) _ (or_left (p (keyword_text word.Transition)) _ h)))))))))))))))))))))))
is_reserved p word.Type h = or_right (p (keyword_text word.And)) _ (or_right (p (keyword_text word.Begin)) _ (or_right (p (keyword_text word.End)) _ (or_right (p (keyword_text word.Exception)) _ (or_right (p (keyword_text word.For)) _ (or_right (p (keyword_text word.Generic)) _ (or_right (p (keyword_text word.Goto)) _ (or_right (p (keyword_text word.If)) _ (or_right (p (keyword_text word.Is)) _ (or_right (p (keyword_text word.Machine)) _ (or_right (p (keyword_text word.Message)) _ (or_right (p (keyword_text word.Mod)) _ (or_right (p (keyword_text word.New)) _ (or_right (p (keyword_text word.Not)) _ (or_right (p (keyword_text word.Null)) _ (or_right (p (keyword_text word.Of)) _ (or_right (p (keyword_text word.Or)) _ (or_right (p (keyword_text word.Package)) _ (or_right (p (keyword_text word.Range)) _ (or_right (p (keyword_text word.Sequence)) _ (or_right (p (keyword_text word.Session)) _ (or_right (p (keyword_text word.State)) _ (or_right (p (keyword_text word.Then)) _ (or_right (p (keyword_text word.Transition)) _ (or_left (p (keyword_text word.Type)) _ h))))))))))))))))))))))))
is_reserved p word.Unsigned h = or_right (p (keyword_text word.And)) _ (or_right (p (keyword_text word.Begin)) _ (or_right (p (keyword_text word.End)) _ (or_right (p (keyword_text word.Exception)) _ (or_right (p (keyword_text word.For)) _ (or_right (p (keyword_text word.Generic)) _ (or_right (p (keyword_text word.Goto)) _ (or_right (p (keyword_text word.If)) _ (or_right (p (keyword_text word.Is)) _ (or_right (p (keyword_text word.Machine)) _ (or_right (p (keyword_text word.Message)) _ (or_right (p (keyword_text word.Mod)) _ (or_right (p (keyword_text word.New)) _ (or_right (p (keyword_text word.Not)) _ (or_right (p (keyword_text word.Null)) _ (or_right (p (keyword_text word.Of)) _ (or_right (p (keyword_text word.Or)) _ (or_right (p (keyword_text word.Package)) _ (or_right (p (keyword_text word.Range)) _ (or_right (p (keyword_text word.Sequence)) _ (or_right (p (keyword_text word.Session)) _ (or_right (p (keyword_text word.State)) _ (or_right (p (keyword_text word.Then)) _ (or_right (p (keyword_text word.Transition)) _ (or_right (p (keyword_text word.Type)) _ (or_left (p (keyword_text word.Unsigned)) _ h)))))))))))))))))))))))))
is_reserved p word.Use h = or_right (p (keyword_text word.And)) _ (or_right (p (keyword_text word.Begin)) _ (or_right (p (keyword_text word.End)) _ (or_right (p (keyword_text word.Exception)) _ (or_right (p (keyword_text word.For)) _ (or_right (p (keyword_text word.Generic)) _ (or_right (p (keyword_text word.Goto)) _ (or_right (p (keyword_text word.If)) _ (or_right (p (keyword_text word.Is)) _ (or_right (p (keyword_text word.Machine)) _ (or_right (p (keyword_text word.Message)) _ (or_right (p (keyword_text word.Mod)) _ (or_right (p (keyword_text word.New)) _ (or_right (p (keyword_text word.Not)) _ (or_right (p (keyword_text word.Null)) _ (or_right (p (keyword_text word.Of)) _ (or_right (p (keyword_text word.Or)) _ (or_right (p (keyword_text word.Package)) _ (or_right (p (keyword_text word.Range)) _ (or_right (p (keyword_text word.Sequence)) _ (or_right (p (keyword_text word.Session)) _ (or_right (p (keyword_text word.State)) _ (or_right (p (keyword_text word.Then)) _ (or_right (p (keyword_text word.Transition)) _ (or_right (p (keyword_text word.Type)) _ (or_right (p (keyword_text word.Unsigned)) _ (or_left (p (keyword_text word.Use)) _ h))))))))))))))))))))))))))
is_reserved p word.With h = or_right (p (keyword_text word.And)) _ (or_right (p (keyword_text word.Begin)) _ (or_right (p (keyword_text word.End)) _ (or_right (p (keyword_text word.Exception)) _ (or_right (p (keyword_text word.For)) _ (or_right (p (keyword_text word.Generic)) _ (or_right (p (keyword_text word.Goto)) _ (or_right (p (keyword_text word.If)) _ (or_right (p (keyword_text word.Is)) _ (or_right (p (keyword_text word.Machine)) _ (or_right (p (keyword_text word.Message)) _ (or_right (p (keyword_text word.Mod)) _ (or_right (p (keyword_text word.New)) _ (or_right (p (keyword_text word.Not)) _ (or_right (p (keyword_text word.Null)) _ (or_right (p (keyword_text word.Of)) _ (or_right (p (keyword_text word.Or)) _ (or_right (p (keyword_text word.Package)) _ (or_right (p (keyword_text word.Range)) _ (or_right (p (keyword_text word.Sequence)) _ (or_right (p (keyword_text word.Session)) _ (or_right (p (keyword_text word.State)) _ (or_right (p (keyword_text word.Then)) _ (or_right (p (keyword_text word.Transition)) _ (or_right (p (keyword_text word.Type)) _ (or_right (p (keyword_text word.Unsigned)) _ (or_right (p (keyword_text word.Use)) _ (or_left (p (keyword_text word.With)) false h)))))))))))))))))))))))))))

name_no_keyword : (w : List ℕ) (k : Keyword) → not (list_any (λ r. bytes_eq w r) reserved) ≡ true → bytes_eq w (keyword_text k) ≡ false
name_no_keyword w k h = by_test (bytes_eq w (keyword_text k)) refl
  where
    by_test : (t : Bool) → bytes_eq w (keyword_text k) ≡ t → t ≡ false
    by_test false e = refl
    by_test true e = absurd (false≢true (sym (not_true _ h) ∙ is_reserved (λ r. bytes_eq w r) k e))

keyword_no_name : (w : List ℕ) (k : Keyword) → bytes_eq w (keyword_text k) ≡ true → not (list_any (λ r. bytes_eq w r) reserved) ≡ false
keyword_no_name w k h = ap not (is_reserved (λ r. bytes_eq w r) k h)

quoted_no_keyword : (w q t : List ℕ) → not (str_eq_ignore_ascii_case t q) ≡ true → str_eq_ignore_ascii_case w q ≡ true → bytes_eq w t ≡ false
quoted_no_keyword w q t e h = by_test (bytes_eq w t) refl
  where
    by_test : (x : Bool) → bytes_eq w t ≡ x → x ≡ false
    by_test false f = refl
    by_test true f = absurd (false≢true (sym (not_true _ e) ∙ subst (λ y. str_eq_ignore_ascii_case y q ≡ true) ((bytes_eq-Decides w t).0 f) h))

keyword_no_quoted : (w t q : List ℕ) → not (str_eq_ignore_ascii_case t q) ≡ true → bytes_eq w t ≡ true → str_eq_ignore_ascii_case w q ≡ false
keyword_no_quoted w t q e h = subst (λ y. str_eq_ignore_ascii_case y q ≡ false) (sym ((bytes_eq-Decides w t).0 h)) (not_true _ e)

other_quoted : (w a b : List ℕ) → not (str_eq_ignore_ascii_case a b) ≡ true → str_eq_ignore_ascii_case w a ≡ true → str_eq_ignore_ascii_case w b ≡ false
other_quoted w a b e h = other_text (str_to_ascii_lowercase w) (str_to_ascii_lowercase a) (str_to_ascii_lowercase b) e h

-- no token is both of two terminals that are apart
pub apart_is : (a b : Terminal) (k : TokenKind) → apart a b ≡ true → is_such a k ≡ true → is_such b k ≡ false
apart_is terminal.Name terminal.Number (kind.Word w) e h = refl
apart_is terminal.Name (terminal.Mark b) (kind.Word w) e h = refl
apart_is terminal.Name (terminal.Keyword b) (kind.Word w) e h = name_no_keyword w b h
apart_is terminal.Number terminal.Name (kind.Number n) e h = refl
apart_is terminal.Number (terminal.Mark b) (kind.Number n) e h = refl
apart_is terminal.Number (terminal.Keyword b) (kind.Number n) e h = refl
apart_is terminal.Number (terminal.Quoted b) (kind.Number n) e h = refl
apart_is (terminal.Mark a) terminal.Name (kind.Mark k) e h = refl
apart_is (terminal.Mark a) terminal.Number (kind.Mark k) e h = refl
apart_is (terminal.Mark a) (terminal.Mark b) (kind.Mark k) e h = other_text (text_of k) (text_of a) (text_of b) e h
apart_is (terminal.Mark a) (terminal.Keyword b) (kind.Mark k) e h = refl
apart_is (terminal.Mark a) (terminal.Quoted b) (kind.Mark k) e h = refl
apart_is (terminal.Keyword a) terminal.Name (kind.Word w) e h = keyword_no_name w a h
apart_is (terminal.Keyword a) terminal.Number (kind.Word w) e h = refl
apart_is (terminal.Keyword a) (terminal.Mark b) (kind.Word w) e h = refl
apart_is (terminal.Keyword a) (terminal.Keyword b) (kind.Word w) e h = other_text w (keyword_text a) (keyword_text b) e h
apart_is (terminal.Keyword a) (terminal.Quoted b) (kind.Word w) e h = keyword_no_quoted w (keyword_text a) (quoted_text b) e h
apart_is (terminal.Quoted a) terminal.Number (kind.Word w) e h = refl
apart_is (terminal.Quoted a) (terminal.Mark b) (kind.Word w) e h = refl
apart_is (terminal.Quoted a) (terminal.Keyword b) (kind.Word w) e h = quoted_no_keyword w (quoted_text a) (keyword_text b) e h
apart_is (terminal.Quoted a) (terminal.Quoted b) (kind.Word w) e h = other_quoted w (quoted_text a) (quoted_text b) e h
apart_is terminal.Name terminal.Name k e h = absurd (false≢true e)
apart_is terminal.Name (terminal.Quoted b) k e h = absurd (false≢true e)
apart_is terminal.Number terminal.Number k e h = absurd (false≢true e)
apart_is (terminal.Quoted a) terminal.Name k e h = absurd (false≢true e)
apart_is _ _ _ e h = absurd (false≢true h)

apart_from_is : (a : Terminal) (bs : List Terminal) (k : TokenKind) → apart_from_all a bs ≡ true → is_such a k ≡ true → is_one_of bs k ≡ false
apart_from_is a [] k e h = refl
apart_from_is a (b ∷ bs) k e h = let p = and_parts _ _ e in rw (apart_is a b k p.0 h) (apart_from_is a bs k p.1 h)

pub all_apart_is : (cs bs : List Terminal) (k : TokenKind) → all_apart cs bs ≡ true → is_one_of cs k ≡ true → is_one_of bs k ≡ false
all_apart_is [] bs k e h = absurd (false≢true h)
all_apart_is (a ∷ cs) bs k e h = let p = and_parts _ _ e in ⊎_elim (λ x. apart_from_is a bs k p.0 x) (λ x. all_apart_is cs bs k p.1 x) (or_cases _ _ h)

same_text : (w a b : List ℕ) → bytes_eq a b ≡ true → bytes_eq w a ≡ true → bytes_eq w b ≡ true
same_text w a b e h = subst (λ x. bytes_eq w x ≡ true) ((bytes_eq-Decides a b).0 e) h

same_terminal_is : (a b : Terminal) (k : TokenKind) → same_terminal a b ≡ true → is_such a k ≡ true → is_such b k ≡ true
same_terminal_is terminal.Name terminal.Name k e h = h
same_terminal_is terminal.Number terminal.Number k e h = h
same_terminal_is (terminal.Mark a) (terminal.Mark b) (kind.Mark k) e h = same_text (text_of k) (text_of a) (text_of b) e h
same_terminal_is (terminal.Keyword a) (terminal.Keyword b) (kind.Word w) e h = same_text w (keyword_text a) (keyword_text b) e h
same_terminal_is (terminal.Quoted a) (terminal.Quoted b) (kind.Word w) e h = same_text (str_to_ascii_lowercase w) (str_to_ascii_lowercase (quoted_text a)) (str_to_ascii_lowercase (quoted_text b)) e h
same_terminal_is (terminal.Mark a) (terminal.Mark b) k e h = absurd (false≢true h)
same_terminal_is (terminal.Keyword a) (terminal.Keyword b) k e h = absurd (false≢true h)
same_terminal_is (terminal.Quoted a) (terminal.Quoted b) k e h = absurd (false≢true h)
same_terminal_is _ _ k e h = absurd (false≢true e)

is_among_is : (a : Terminal) (bs : List Terminal) (k : TokenKind) → is_among a bs ≡ true → is_such a k ≡ true → is_one_of bs k ≡ true
is_among_is a [] k e h = absurd (false≢true e)
is_among_is a (b ∷ bs) k e h = ⊎_elim (λ x. or_left _ _ (same_terminal_is a b k x h)) (λ x. or_right (is_such b k) _ (is_among_is a bs k x h)) (or_cases _ _ e)

pub all_among_is : (cs bs : List Terminal) (k : TokenKind) → all_among cs bs ≡ true → is_one_of cs k ≡ true → is_one_of bs k ≡ true
all_among_is [] bs k e h = absurd (false≢true h)
all_among_is (a ∷ cs) bs k e h = let p = and_parts _ _ e in ⊎_elim (λ x. is_among_is a bs k p.0 x) (λ x. all_among_is cs bs k p.1 x) (or_cases _ _ h)

-- first sets of a front and what stands behind it
first_behind : (front ss : List Symbol) (k : TokenKind) → is_one_of (first_of_all front) k ≡ false → (all_nullable front ≡ true → is_one_of (first_of_all ss) k ≡ false) → is_one_of (first_of_all (front ++ ss)) k ≡ false
first_behind [] ss k e h = h refl
first_behind (s ∷ front) ss k e h = row_behind (nullable s) (first_of s) (first_of_all front) (first_of_all (front ++ ss)) k e (λ m e'. first_behind front ss k e' (λ n. h (both _ _ m n)))

none_begins : (m more : List Terminal) (front ss : List Symbol) → follows_list m front more ≡ true → NoneBegins more ss → NoneBegins m (front ++ ss)
none_begins m more front ss e f k h =
    let p = and_parts (all_apart m (first_of_all front)) (not (all_nullable front) || all_among m more) e in
    first_behind front ss k (all_apart_is m (first_of_all front) k p.0 h)
    (λ n. f k (all_among_is m more k (⊎_elim (λ x. absurd (false≢true (sym (not_true _ x) ∙ n))) (λ x. x) (or_cases _ _ p.1)) h))

-- a token that may go on behind a part can't begin what stands behind it
pub follows : (m : List Terminal) (more : Behind) (front ss : List Symbol) → can_follow m front more ≡ true → Follows more ss → NoneBegins m (front ++ ss)
follows m (after more) front ss e f = none_begins m more front ss e f
follows m (exactly part more) front ss e f =
    subst (NoneBegins m) (append_assoc front part f.0 ∙ ap (λ xs. front ++ xs) (sym f.1)) (none_begins m more (front ++ part) f.0 e f.2)
