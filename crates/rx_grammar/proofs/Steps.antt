-- How parsers go from one list of symbols to the next.
use Rattle.std.proofs.Common.{◌≡◌, ℕ, Bool, true, false, ◌&&◌, List, [], ◌∷◌, ◌++◌, length, take, zero, suc, refl, sym, ap, ◌∙◌, subst, append_assoc, arith, ◌⊎◌, inl, inr, ⊎_elim}
use Rattle.std.proofs.lemmas.Bool.{false≢true, and_parts}
use Rattle.rx_syntax.specs.declared.token.Token.{Token}
use Rattle.rx_syntax.specs.declared.token.TokenKind.{TokenKind}
use Rattle.rx_grammar.specs.declared.terminal.Terminal.{Terminal}
use Rattle.rx_grammar.specs.declared.cursor.Limits.{Limits}
use Rattle.rx_grammar.specs.Terminal.{is_such, is_one_of}
use Rattle.rx_grammar.specs.declared.terminal.Choice.{Choice}
use Rattle.rx_grammar.specs.declared.terminal.Choice.TheVariants as choice
use Rattle.rx_grammar.specs.Grammar.{Rule, Symbol, one, rule, ◌▸◌, ◌∣◌, maybe, many, body, choice_of, Extent, Whole, Front, Derives, Begins, finished, nothing, token, by_rule, in_turn, first, second, absent, present, no_more, one_more}
use Rattle.rx_grammar.specs.First.{nullable, all_nullable, first_of, first_of_all, Behind, after, head_one_of}
use Rattle.rx_grammar.proofs.First.{one_of_cases, or_false, begins_first, rule_not_nullable, and_turn, and_first, and_second, and_back}
use Rattle.rx_grammar.specs.Tokens.{IsToken, IsOneOf}
use Rattle.std.proofs.Common.{Bor}
use Rattle.rx_grammar.specs.Limits.{exceeds, limits_after, limits_behind, Fits}
use Rattle.rx_grammar.specs.Reads.{IsBlocked, Stops, Follows, Leads, Read, Fails, Exceeds}

-- the symbols can't begin with the first token, or stand for nothing at the end
abbrev pub Dead : List Symbol → List Token → Type 0
Dead ss [] = Derives Whole ss [] → ⊥
Dead ss (t ∷ ts) = (w : Extent) (more : List Token) → Derives w ss (t ∷ more) → ⊥

-- one list of symbols may go on as the other at these tokens
abbrev pub GoesAs : List Symbol → List Symbol → List Token → Type 0
GoesAs ss ss' [] = Derives Whole ss [] → Derives Whole ss' []
GoesAs ss ss' (t ∷ ts) = (w : Extent) (more : List Token) → Derives w ss (t ∷ more) → Derives w ss' (t ∷ more)

-- each front of a beginning is one
pub begins_front : {w : Extent} {ss : List Symbol} {ts : List Token} → Derives w ss ts → (n : ℕ) → Begins ss (take n ts)
begins_front b zero = nothing
begins_front nothing (suc n) = nothing
begins_front finished (suc n) = nothing
begins_front (token h b) (suc n) = token h (begins_front b n)
begins_front (by_rule b) (suc n) = by_rule (begins_front b (suc n))
begins_front (in_turn b) (suc n) = in_turn (begins_front b (suc n))
begins_front (first b) (suc n) = first (begins_front b (suc n))
begins_front (second b) (suc n) = second (begins_front b (suc n))
begins_front (absent b) (suc n) = absent (begins_front b (suc n))
begins_front (present b) (suc n) = present (begins_front b (suc n))
begins_front (no_more b) (suc n) = no_more (begins_front b (suc n))
begins_front (one_more b) (suc n) = one_more (begins_front b (suc n))

stay_blocked : (ss ss' : List Symbol) (front stop : List Token) → GoesAs ss ss' (front ++ stop) → IsBlocked ss' front stop → IsBlocked ss front stop
stay_blocked ss ss' [] [] g b = λ x. b (g x)
stay_blocked ss ss' (u ∷ front) [] g b = λ x. b (g Whole front x)
stay_blocked ss ss' [] (t ∷ more) g b = λ x. b (g _ [] x)
stay_blocked ss ss' (u ∷ front) (t ∷ more) g b = λ x. b (g _ (front ++ t ∷ []) x)

-- a step that reads no token
pub quietly : (ss ss' : List Symbol) (ts : List Token) → ((next : List Token) → Begins ss' next → Begins ss next) → GoesAs ss ss' ts → Leads ss [] ss' ts
quietly ss ss' ts up down = record {
  begins = up;
  stops = λ front stop e s. record { begins = up front s.begins; blocked = stay_blocked ss ss' front stop (subst (GoesAs ss ss') e down) s.blocked };
}

pub stay : (ss : List Symbol) (ts : List Token) → Leads ss [] ss ts
stay ss ts = record { begins = λ next b. b; stops = λ front stop e s. s }

pub then_on : {ss ss' ss'' : List Symbol} (xs ys zs : List Token) → Leads ss xs ss' (ys ++ zs) → Leads ss' ys ss'' zs → Leads ss (xs ++ ys) ss'' zs
then_on {ss} xs ys zs a b = record {
  begins = λ next h. subst (Begins ss) (sym (append_assoc xs ys next)) (a.begins (ys ++ next) (b.begins next h));
  stops = λ front stop e s. subst (λ ts. Stops ss ts stop) (sym (append_assoc xs ys front)) (a.stops (ys ++ front) stop (ap (λ ts. ys ++ ts) e ∙ sym (append_assoc ys front stop)) (b.stops front stop e s));
}

tail_of : {w : Extent} {c : Terminal} {t : Token} {ss : List Symbol} {ts : List Token} → Derives w (one c ∷ ss) (t ∷ ts) → Derives w ss ts
tail_of (token h b) = b

such_of : {w : Extent} {c : Terminal} {t : Token} {ss : List Symbol} {ts : List Token} → Derives w (one c ∷ ss) (t ∷ ts) → is_such c t.kind ≡ true
such_of (token h b) = h

no_token : {c : Terminal} {ss : List Symbol} → Derives Whole (one c ∷ ss) [] → ⊥
no_token x = elim x [ ]

blocked_behind : (c : Terminal) (t : Token) (ss : List Symbol) (front stop : List Token) → IsBlocked ss front stop → IsBlocked (one c ∷ ss) (t ∷ front) stop
blocked_behind c t ss front [] b = λ x. b (tail_of x)
blocked_behind c t ss front (u ∷ more) b = λ x. b (tail_of x)

pub read_token : (c : Terminal) (t : Token) (ss : List Symbol) (ts : List Token) → is_such c t.kind ≡ true → Leads (one c ∷ ss) (t ∷ []) ss ts
read_token c t ss ts h = record {
  begins = λ next b. token h b;
  stops = λ front stop e s. record { begins = token h s.begins; blocked = blocked_behind c t ss front stop s.blocked };
}

-- what `take` answers
pub taken : (c : Terminal) (t : Bor Token) (ts : List Token) (l : Limits) → is_such c t.now.kind ≡ true → exceeds l t.now.kind ≡ false → Read (one c) (after []) (IsToken c) (t.now ∷ ts) l t ts (limits_after l t.now.kind)
taken c t ts l h e = record {
  used = t.now ∷ [];
  split = refl;
  sentence = record { whole = refl; is = record { such = h } };
  leads = λ ss f. read_token c t.now ss ts h;
  fits = (e, tt);
  limits = refl;
}

pub at_end : (c : Terminal) (l : Limits) → Fails (one c) (after []) [] l 0
at_end c l = record { front = []; stop = []; split = refl; left_is = refl; stops = λ ss f. record { begins = nothing; blocked = λ x. no_token x }; fits = tt }

pub not_such : (c : Terminal) (t : Token) (ts : List Token) (l : Limits) → is_such c t.kind ≡ false → Fails (one c) (after []) (t ∷ ts) l (length (t ∷ ts))
not_such c t ts l h = record {
  front = [];
  stop = t ∷ ts;
  split = refl;
  left_is = refl;
  stops = λ ss f. record { begins = nothing; blocked = λ b. false≢true (sym h ∙ such_of b) };
  fits = tt;
}

pub past_limit : (c : Terminal) (t : Token) (ts : List Token) (l : Limits) → is_such c t.kind ≡ true → exceeds l t.kind ≡ true → Exceeds (one c) (after []) (t ∷ ts) l (length (t ∷ ts))
past_limit c t ts l h e = record {
  front = [];
  at = t;
  rest = ts;
  split = refl;
  left_is = refl;
  begins = λ ss f. token h nothing;
  fits = tt;
  exceeds = e;
}

pub empty_list : (ts : List Token) → length ts ≡ 0 → ts ≡ []
empty_list [] e = refl
empty_list (t ∷ ts) e = absurd (omega arith)

turn_of : {w : Extent} {a b : Symbol} {ss : List Symbol} {t : Token} {ts : List Token} → Derives w ((a ▸ b) ∷ ss) (t ∷ ts) → Derives w (a ∷ b ∷ ss) (t ∷ ts)
turn_of (in_turn b) = b

rule_of : {w : Extent} {r : Rule} {ss : List Symbol} {t : Token} {ts : List Token} → Derives w (rule r ∷ ss) (t ∷ ts) → Derives w (body r ∷ ss) (t ∷ ts)
rule_of (by_rule b) = b

maybe_of : {w : Extent} {a : Symbol} {ss : List Symbol} {t : Token} {ts : List Token} → Derives w (maybe a ∷ ss) (t ∷ ts) → Derives w ss (t ∷ ts) ⊎ Derives w (a ∷ ss) (t ∷ ts)
maybe_of (absent b) = inl b
maybe_of (present b) = inr b

many_of : {w : Extent} {a : Symbol} {ss : List Symbol} {t : Token} {ts : List Token} → Derives w (many a ∷ ss) (t ∷ ts) → Derives w ss (t ∷ ts) ⊎ Derives w (a ∷ many a ∷ ss) (t ∷ ts)
many_of (no_more b) = inl b
many_of (one_more b) = inr b

either_of : {w : Extent} {a b : Symbol} {ss : List Symbol} {t : Token} {ts : List Token} → Derives w ((a ∣ b) ∷ ss) (t ∷ ts) → Derives w (a ∷ ss) (t ∷ ts) ⊎ Derives w (b ∷ ss) (t ∷ ts)
either_of (first b) = inl b
either_of (second b) = inr b

-- the same at the end
turn_at_end : {a b : Symbol} {ss : List Symbol} → Derives Whole ((a ▸ b) ∷ ss) [] → Derives Whole (a ∷ b ∷ ss) []
turn_at_end (in_turn b) = b

rule_at_end : {r : Rule} {ss : List Symbol} → Derives Whole (rule r ∷ ss) [] → Derives Whole (body r ∷ ss) []
rule_at_end (by_rule b) = b

maybe_at_end : {a : Symbol} {ss : List Symbol} → Derives Whole (maybe a ∷ ss) [] → Derives Whole ss [] ⊎ Derives Whole (a ∷ ss) []
maybe_at_end (absent b) = inl b
maybe_at_end (present b) = inr b

many_at_end : {a : Symbol} {ss : List Symbol} → Derives Whole (many a ∷ ss) [] → Derives Whole ss [] ⊎ Derives Whole (a ∷ many a ∷ ss) []
many_at_end (no_more b) = inl b
many_at_end (one_more b) = inr b

either_at_end : {a b : Symbol} {ss : List Symbol} → Derives Whole ((a ∣ b) ∷ ss) [] → Derives Whole (a ∷ ss) [] ⊎ Derives Whole (b ∷ ss) []
either_at_end (first b) = inl b
either_at_end (second b) = inr b

pub dead : (ss : List Symbol) (t : Token) (ts : List Token) → is_one_of (first_of_all ss) t.kind ≡ false → Dead ss (t ∷ ts)
dead ss t ts h = λ w more b. false≢true (sym h ∙ begins_first b)

-- symbols that stand for nothing are nullable
nullable_of : {ss : List Symbol} → Derives Whole ss [] → all_nullable ss ≡ true
nullable_of finished = refl
nullable_of (by_rule {r = r} b) = absurd (false≢true (sym (rule_not_nullable r _) ∙ nullable_of b))
nullable_of (in_turn {a = a} {b = b} {ss = ss} x) = and_turn (nullable a) (nullable b) (all_nullable ss) (nullable_of x)
nullable_of (first {a = a} {b = b} {ss = ss} x) = and_first (nullable a) (nullable b) (all_nullable ss) (nullable_of x)
nullable_of (second {a = a} {b = b} {ss = ss} x) = and_second (nullable a) (nullable b) (all_nullable ss) (nullable_of x)
nullable_of (absent x) = nullable_of x
nullable_of (present {a = a} {ss = ss} x) = and_back (nullable a) (all_nullable ss) (nullable_of x)
nullable_of (no_more x) = nullable_of x
nullable_of (one_more {a = a} {ss = ss} x) = and_back (nullable a) (all_nullable ss) (nullable_of x)

pub dead_end : (s : Symbol) (ss : List Symbol) → nullable s ≡ false → Dead (s ∷ ss) []
dead_end s ss n = λ x. false≢true (sym (ap (λ b. b && all_nullable ss) n) ∙ nullable_of x)

-- the steps
goes_rule : (r : Rule) (ss : List Symbol) (ts : List Token) → GoesAs (rule r ∷ ss) (body r ∷ ss) ts
goes_rule r ss [] = λ b. rule_at_end b
goes_rule r ss (t ∷ ts) = λ w more b. rule_of b

pub step_rule : (r : Rule) (ss : List Symbol) (ts : List Token) → Leads (rule r ∷ ss) [] (body r ∷ ss) ts
step_rule r ss ts = quietly _ _ ts (λ next b. by_rule b) (goes_rule r ss ts)

goes_turn : (a b : Symbol) (ss : List Symbol) (ts : List Token) → GoesAs ((a ▸ b) ∷ ss) (a ∷ b ∷ ss) ts
goes_turn a b ss [] = λ x. turn_at_end x
goes_turn a b ss (t ∷ ts) = λ w more x. turn_of x

pub step_turn : (a b : Symbol) (ss : List Symbol) (ts : List Token) → Leads ((a ▸ b) ∷ ss) [] (a ∷ b ∷ ss) ts
step_turn a b ss ts = quietly _ _ ts (λ next x. in_turn x) (goes_turn a b ss ts)

goes_first : (a b : Symbol) (ss : List Symbol) (ts : List Token) → Dead (b ∷ ss) ts → GoesAs ((a ∣ b) ∷ ss) (a ∷ ss) ts
goes_first a b ss [] d = λ x. ⊎_elim (λ y. y) (λ y. absurd (d y)) (either_at_end x)
goes_first a b ss (t ∷ ts) d = λ w more x. ⊎_elim (λ y. y) (λ y. absurd (d w more y)) (either_of x)

pub step_first : (a b : Symbol) (ss : List Symbol) (ts : List Token) → Dead (b ∷ ss) ts → Leads ((a ∣ b) ∷ ss) [] (a ∷ ss) ts
step_first a b ss ts d = quietly _ _ ts (λ next x. first x) (goes_first a b ss ts d)

goes_second : (a b : Symbol) (ss : List Symbol) (ts : List Token) → Dead (a ∷ ss) ts → GoesAs ((a ∣ b) ∷ ss) (b ∷ ss) ts
goes_second a b ss [] d = λ x. ⊎_elim (λ y. absurd (d y)) (λ y. y) (either_at_end x)
goes_second a b ss (t ∷ ts) d = λ w more x. ⊎_elim (λ y. absurd (d w more y)) (λ y. y) (either_of x)

pub step_second : (a b : Symbol) (ss : List Symbol) (ts : List Token) → Dead (a ∷ ss) ts → Leads ((a ∣ b) ∷ ss) [] (b ∷ ss) ts
step_second a b ss ts d = quietly _ _ ts (λ next x. second x) (goes_second a b ss ts d)

goes_absent : (a : Symbol) (ss : List Symbol) (ts : List Token) → Dead (a ∷ ss) ts → GoesAs (maybe a ∷ ss) ss ts
goes_absent a ss [] d = λ x. ⊎_elim (λ y. y) (λ y. absurd (d y)) (maybe_at_end x)
goes_absent a ss (t ∷ ts) d = λ w more x. ⊎_elim (λ y. y) (λ y. absurd (d w more y)) (maybe_of x)

pub step_absent : (a : Symbol) (ss : List Symbol) (ts : List Token) → Dead (a ∷ ss) ts → Leads (maybe a ∷ ss) [] ss ts
step_absent a ss ts d = quietly _ _ ts (λ next x. absent x) (goes_absent a ss ts d)

goes_present : (a : Symbol) (ss : List Symbol) (ts : List Token) → Dead ss ts → GoesAs (maybe a ∷ ss) (a ∷ ss) ts
goes_present a ss [] d = λ x. ⊎_elim (λ y. absurd (d y)) (λ y. y) (maybe_at_end x)
goes_present a ss (t ∷ ts) d = λ w more x. ⊎_elim (λ y. absurd (d w more y)) (λ y. y) (maybe_of x)

pub step_present : (a : Symbol) (ss : List Symbol) (ts : List Token) → Dead ss ts → Leads (maybe a ∷ ss) [] (a ∷ ss) ts
step_present a ss ts d = quietly _ _ ts (λ next x. present x) (goes_present a ss ts d)

goes_no_more : (a : Symbol) (ss : List Symbol) (ts : List Token) → Dead (a ∷ many a ∷ ss) ts → GoesAs (many a ∷ ss) ss ts
goes_no_more a ss [] d = λ x. ⊎_elim (λ y. y) (λ y. absurd (d y)) (many_at_end x)
goes_no_more a ss (t ∷ ts) d = λ w more x. ⊎_elim (λ y. y) (λ y. absurd (d w more y)) (many_of x)

pub step_no_more : (a : Symbol) (ss : List Symbol) (ts : List Token) → Dead (a ∷ many a ∷ ss) ts → Leads (many a ∷ ss) [] ss ts
step_no_more a ss ts d = quietly _ _ ts (λ next x. no_more x) (goes_no_more a ss ts d)

goes_one_more : (a : Symbol) (ss : List Symbol) (ts : List Token) → Dead ss ts → GoesAs (many a ∷ ss) (a ∷ many a ∷ ss) ts
goes_one_more a ss [] d = λ x. ⊎_elim (λ y. absurd (d y)) (λ y. y) (many_at_end x)
goes_one_more a ss (t ∷ ts) d = λ w more x. ⊎_elim (λ y. absurd (d w more y)) (λ y. y) (many_of x)

pub step_one_more : (a : Symbol) (ss : List Symbol) (ts : List Token) → Dead ss ts → Leads (many a ∷ ss) [] (a ∷ many a ∷ ss) ts
step_one_more a ss ts d = quietly _ _ ts (λ next x. one_more x) (goes_one_more a ss ts d)

-- symbols of single tokens
abbrev pub flat : Symbol → Bool
flat (one c) = true
flat (rule r) = false
flat (a ▸ b) = false
flat (a ∣ b) = flat a && flat b
flat (maybe a) = false
flat (many a) = false

flat_down : {w : Extent} {t : Token} {ss : List Symbol} {ts : List Token} (s : Symbol) → flat s ≡ true → Derives w (s ∷ ss) (t ∷ ts) → Derives w ss ts
flat_down (one c) f (token h d) = d
flat_down (a ∣ b) f (first d) = flat_down a (and_parts (flat a) (flat b) f).0 d
flat_down (a ∣ b) f (second d) = flat_down b (and_parts (flat a) (flat b) f).1 d
flat_down (rule r) f d = absurd (false≢true f)
flat_down (a ▸ b) f d = absurd (false≢true f)
flat_down (maybe a) f d = absurd (false≢true f)
flat_down (many a) f d = absurd (false≢true f)

pub flat_up : {w : Extent} {t : Token} {ss : List Symbol} {ts : List Token} (s : Symbol) → flat s ≡ true → is_one_of (first_of s) t.kind ≡ true → Derives w ss ts → Derives w (s ∷ ss) (t ∷ ts)
flat_up {t = t} (one c) f h d = token (sym (or_false (is_such c t.kind)) ∙ h) d
flat_up {t = t} (a ∣ b) f h d = ⊎_elim (λ x. first (flat_up a (and_parts (flat a) (flat b) f).0 x d)) (λ x. second (flat_up b (and_parts (flat a) (flat b) f).1 x d)) (one_of_cases (first_of a) (first_of b) t.kind h)
flat_up (rule r) f h d = absurd (false≢true f)
flat_up (a ▸ b) f h d = absurd (false≢true f)
flat_up (maybe a) f h d = absurd (false≢true f)
flat_up (many a) f h d = absurd (false≢true f)

flat_some : (s : Symbol) → flat s ≡ true → nullable s ≡ false
flat_some (one c) f = refl
flat_some (a ∣ b) f = let p = and_parts (flat a) (flat b) f in rw (flat_some a p.0) (flat_some b p.1)
flat_some (rule r) f = absurd (false≢true f)
flat_some (a ▸ b) f = absurd (false≢true f)
flat_some (maybe a) f = absurd (false≢true f)
flat_some (many a) f = absurd (false≢true f)

pub choice_flat : (c : Choice) → flat (choice_of c) ≡ true
choice_flat choice.Relation = refl
choice_flat choice.Sign = refl
choice_flat choice.Multiplying = refl
choice_flat choice.Attribute = refl
choice_flat choice.Order = refl
choice_flat choice.Truth = refl
choice_flat choice.Target = refl
choice_flat choice.Aspect = refl
choice_flat choice.Mode = refl

flat_blocked : (s : Symbol) (t : Token) (ss : List Symbol) (front stop : List Token) → flat s ≡ true → IsBlocked ss front stop → IsBlocked (s ∷ ss) (t ∷ front) stop
flat_blocked s t ss front [] f b = λ x. b (flat_down s f x)
flat_blocked s t ss front (u ∷ more) f b = λ x. b (flat_down s f x)

-- what `take_one` answers
pub one_taken : (c : Choice) (t : Bor Token) (ts : List Token) (l : Limits) → is_one_of (first_of (choice_of c)) t.now.kind ≡ true → exceeds l t.now.kind ≡ false → Read (choice_of c) (after []) (IsOneOf c) (t.now ∷ ts) l t ts (limits_after l t.now.kind)
one_taken c t ts l h e = record {
  used = t.now ∷ [];
  split = refl;
  sentence = record { whole = refl; is = record { such = h } };
  leads = λ ss f. record {
    begins = λ next b. flat_up (choice_of c) (choice_flat c) h b;
    stops = λ front stop x s. record { begins = flat_up (choice_of c) (choice_flat c) h s.begins; blocked = flat_blocked (choice_of c) t.now ss front stop (choice_flat c) s.blocked };
  };
  fits = (e, tt);
  limits = refl;
}

pub one_at_end : (c : Choice) (l : Limits) → Fails (choice_of c) (after []) [] l 0
one_at_end c l = record { front = []; stop = []; split = refl; left_is = refl; stops = λ ss f. record { begins = nothing; blocked = dead_end (choice_of c) ss (flat_some (choice_of c) (choice_flat c)) }; fits = tt }

none_of_them : (s : Symbol) (ss : List Symbol) (k : TokenKind) → nullable s ≡ false → is_one_of (first_of s) k ≡ false → is_one_of (first_of_all (s ∷ ss)) k ≡ false
none_of_them s ss k n h = rw n h

pub not_one : (c : Choice) (t : Token) (ts : List Token) (l : Limits) → is_one_of (first_of (choice_of c)) t.kind ≡ false → Fails (choice_of c) (after []) (t ∷ ts) l (length (t ∷ ts))
not_one c t ts l h = record {
  front = [];
  stop = t ∷ ts;
  split = refl;
  left_is = refl;
  stops = λ ss f. record { begins = nothing; blocked = dead (choice_of c ∷ ss) t ts (none_of_them (choice_of c) ss t.kind (flat_some (choice_of c) (choice_flat c)) h) Front [] };
  fits = tt;
}

pub one_past_limit : (c : Choice) (t : Token) (ts : List Token) (l : Limits) → is_one_of (first_of (choice_of c)) t.kind ≡ true → exceeds l t.kind ≡ true → Exceeds (choice_of c) (after []) (t ∷ ts) l (length (t ∷ ts))
one_past_limit c t ts l h e = record {
  front = [];
  at = t;
  rest = ts;
  split = refl;
  left_is = refl;
  begins = λ ss f. flat_up (choice_of c) (choice_flat c) h nothing;
  fits = tt;
  exceeds = e;
}
