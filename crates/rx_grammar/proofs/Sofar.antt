-- How far a parser of a symbol has come.
use Rattle.std.proofs.Common.{◌≡◌, ℕ, Bool, true, false, List, [], ◌∷◌, ◌++◌, length, refl, sym, ap, ◌∙◌, subst, append_assoc, Result, Ok, Err}
use Rattle.std.proofs.lemmas.Bool.{false≢true}
use Rattle.rx_syntax.specs.declared.token.Token.{Token}
use Rattle.rx_syntax.specs.declared.token.TokenKind.{TokenKind}
use Rattle.rx_grammar.specs.declared.terminal.Terminal.{Terminal}
use Rattle.rx_grammar.specs.declared.fault.Fault.{Fault}
use Rattle.rx_grammar.specs.declared.fault.Fault.TheVariants.{Expected, TooDeep, NoMemory}
use Rattle.rx_grammar.specs.declared.cursor.Limits.{Limits}
use Rattle.rx_grammar.specs.declared.cursor.Cursor.{Cursor}
use Rattle.rx_grammar.specs.Grammar.{Rule, Symbol, one, rule, ◌▸◌, ◌∣◌, maybe, many, body, Begins}
use Rattle.rx_grammar.specs.First.{Behind, after, exactly, head_one_of, Ahead, nullable, first_of, first_of_all, all_nullable, all_apart, all_among, can_follow}
use Rattle.rx_grammar.proofs.First.{follows, all_apart_is, or_false}
use Rattle.rx_grammar.specs.Limits.{exceeds, limits_after, limits_behind, Fits}
use Rattle.rx_grammar.specs.Reads.{Stops, Follows, Leads, Read, Fails, Exceeds, IsFault, expected, too_deep, no_memory}
use Rattle.rx_grammar.proofs.Factor.{step_common}
use Rattle.rx_grammar.proofs.Steps.{stay, then_on, Dead, dead, dead_end, step_rule, step_turn, step_first, step_second, step_absent, step_present, step_no_more, step_one_more}
use Rattle.rx_grammar.specs.Terminal.{is_such, is_one_of}

-- behind these tokens, what is left to read is what `next` makes of the symbols that follow
pub record Sofar (symbol : Symbol) (more : Behind) (ts : List Token) (l : Limits) (used : List Token) (front : List Symbol) (ts' : List Token) (l' : Limits) : Type 0 where
  pub split : ts ≡ used ++ ts'
  pub leads : (ss : List Symbol) → Follows more ss → Leads (symbol ∷ ss) used (front ++ ss) ts'
  pub fits : Fits l used
  pub limits : l' ≡ limits_behind l used

pub fits_both : (l : Limits) (xs ys : List Token) → Fits l xs → Fits (limits_behind l xs) ys → Fits l (xs ++ ys)
fits_both l [] ys f g = g
fits_both l (x ∷ xs) ys f g = (f.0, fits_both (limits_after l x.kind) xs ys f.1 g)

behind_both : (l : Limits) (xs ys : List Token) → limits_behind l (xs ++ ys) ≡ limits_behind (limits_behind l xs) ys
behind_both l [] ys = refl
behind_both l (x ∷ xs) ys = behind_both (limits_after l x.kind) xs ys

-- at the start
pub from_start : (symbol : Symbol) (more : Behind) (ts : List Token) (l : Limits) → Sofar symbol more ts l [] (symbol ∷ []) ts l
from_start symbol more ts l = record { split = refl; leads = λ ss f. stay _ _; fits = tt; limits = refl }

-- a step that reads no token
quiet_on : {ss ss' ss'' : List Symbol} (xs zs : List Token) → Leads ss xs ss' zs → Leads ss' [] ss'' zs → Leads ss xs ss'' zs
quiet_on xs zs a b = record { begins = λ next h. a.begins next (b.begins next h); stops = λ front stop e s. a.stops front stop e (b.stops front stop e s) }

pub step : {symbol : Symbol} {more : Behind} {ts : List Token} {l : Limits} {used : List Token} {ts' : List Token} {l' : Limits} {front front' : List Symbol} → Sofar symbol more ts l used front ts' l' → ((ss : List Symbol) → Follows more ss → Leads (front ++ ss) [] (front' ++ ss) ts') → Sofar symbol more ts l used front' ts' l'
step {symbol} {more} {ts} {l} {used} {ts'} {l'} a k = record { split = a.split; leads = λ ss f. quiet_on used ts' (a.leads ss f) (k ss f); fits = a.fits; limits = a.limits }

-- what stands behind a part may do so
abbrev pub Passes : Behind → List Symbol → Behind → Type 0
Passes m front more = (ss : List Symbol) → Follows more ss → Follows m (front ++ ss)

-- a part that was read
pub call_by : {A : Type 0} {P : List Token → A → Type 0} {symbol : Symbol} {more : Behind} {ts : List Token} {l : Limits} {used : List Token} {ts' : List Token} {l' : Limits} {s : Symbol} {m : Behind} {front : List Symbol} {tree : A} {ts'' : List Token} {l'' : Limits} → Sofar symbol more ts l used (s ∷ front) ts' l' → Passes m front more → (r : Read s m P ts' l' tree ts'' l'') → Sofar symbol more ts l (used ++ r.used) front ts'' l''
call_by {symbol = symbol} {more = more} {ts = ts} {l = l} {used = used} {ts' = ts'} {l' = l'} {s = s} {m = m} {front = front} {ts'' = ts''} {l'' = l''} a k r = record {
  split = a.split ∙ ap (λ xs. used ++ xs) r.split ∙ sym (append_assoc used r.used ts'');
  leads = λ ss f. then_on used r.used ts'' (subst (λ xs. Leads (symbol ∷ ss) used (s ∷ front ++ ss) xs) r.split (a.leads ss f)) (r.leads (front ++ ss) (k ss f));
  fits = fits_both l used r.used a.fits (subst (λ k. Fits k r.used) a.limits r.fits);
  limits = r.limits ∙ ap (λ k. limits_behind k r.used) a.limits ∙ sym (behind_both l used r.used);
}

-- the end
pub whole : {A : Type 0} {P : List Token → A → Type 0} {symbol : Symbol} {more : Behind} {ts : List Token} {l : Limits} {used : List Token} {ts' : List Token} {l' : Limits} {tree : A} → Sofar symbol more ts l used [] ts' l' → P used tree → Read symbol more P ts l tree ts' l'
whole {used = used} a p = record { used = used; split = a.split; sentence = p; leads = a.leads; fits = a.fits; limits = a.limits }

-- a part that failed
fails_on : {symbol : Symbol} {more : Behind} {ts : List Token} {l : Limits} {used : List Token} {ts' : List Token} {l' : Limits} {s : Symbol} {m : Behind} {front : List Symbol} {left : ℕ} → Sofar symbol more ts l used (s ∷ front) ts' l' → Passes m front more → Fails s m ts' l' left → Fails symbol more ts l left
fails_on {symbol} {more} {ts} {l} {used} {ts'} {l'} {s} {m} {front} a k r = record {
  front = used ++ r.front;
  stop = r.stop;
  split = a.split ∙ ap (λ xs. used ++ xs) r.split ∙ sym (append_assoc used r.front r.stop);
  left_is = r.left_is;
  stops = λ ss f. (a.leads ss f).stops r.front r.stop r.split (r.stops (front ++ ss) (k ss f));
  fits = fits_both l used r.front a.fits (subst (λ k. Fits k r.front) a.limits r.fits);
}

exceeds_on : {symbol : Symbol} {more : Behind} {ts : List Token} {l : Limits} {used : List Token} {ts' : List Token} {l' : Limits} {s : Symbol} {m : Behind} {front : List Symbol} {left : ℕ} → Sofar symbol more ts l used (s ∷ front) ts' l' → Passes m front more → Exceeds s m ts' l' left → Exceeds symbol more ts l left
exceeds_on {symbol} {more} {ts} {l} {used} {ts'} {l'} {s} {m} {front} a k r = record {
  front = used ++ r.front;
  at = r.at;
  rest = r.rest;
  split = a.split ∙ ap (λ xs. used ++ xs) r.split ∙ sym (append_assoc used r.front (r.at ∷ r.rest));
  left_is = r.left_is;
  begins = λ ss f. subst (Begins (symbol ∷ ss)) (sym (append_assoc used r.front (r.at ∷ []))) ((a.leads ss f).begins (r.front ++ r.at ∷ []) (r.begins (front ++ ss) (k ss f)));
  fits = fits_both l used r.front a.fits (subst (λ k. Fits k r.front) a.limits r.fits);
  exceeds = subst (λ k. exceeds k r.at.kind ≡ true) (ap (λ k. limits_behind k r.front) a.limits ∙ sym (behind_both l used r.front)) r.exceeds;
}

-- a part's fault is the whole's
pub fault_by : {symbol : Symbol} {more : Behind} {ts : List Token} {l : Limits} {used : List Token} {ts' : List Token} {l' : Limits} {s : Symbol} {m : Behind} {front : List Symbol} {e : Fault} → Sofar symbol more ts l used (s ∷ front) ts' l' → Passes m front more → IsFault s m ts' l' e → IsFault symbol more ts l e
fault_by a k (expected r) = expected (fails_on a k r)
fault_by a k (too_deep r) = too_deep (exceeds_on a k r)
fault_by a k no_memory = no_memory

module _ {symbol : Symbol} {more : Behind} {ts : List Token} {l : Limits} {used : List Token} {ts' : List Token} {l' : Limits} {s : Symbol} {m : List Terminal} {front : List Symbol} (a : Sofar symbol more ts l used (s ∷ front) ts' l') (k : can_follow m front more ≡ true) where
  pub call : {A : Type 0} {P : List Token → A → Type 0} {tree : A} {ts'' : List Token} {l'' : Limits} → (r : Read s (after m) P ts' l' tree ts'' l'') → Sofar symbol more ts l (used ++ r.used) front ts'' l''
  call r = call_by a (λ ss f. follows m more front ss k f) r

  pub fault : {e : Fault} → IsFault s (after m) ts' l' e → IsFault symbol more ts l e
  fault x = fault_by a (λ ss f. follows m more front ss k f) x

-- whether the first token is such a one
pub sees_end : (c : Terminal) → Ahead (c ∷ []) [] false
sees_end c = record { is = refl }

pub sees_token : (c : Terminal) (t : Token) (ts : List Token) → Ahead (c ∷ []) (t ∷ ts) (is_such c t.kind)
sees_token c t ts = record { is = or_false (is_such c t.kind) }

dead_behind : (cs : List Terminal) (more : Behind) (front ss : List Symbol) (ts : List Token) → head_one_of cs ts ≡ true → can_follow cs front more ≡ true → Follows more ss → Dead (front ++ ss) ts
dead_behind cs more front ss [] h e f = absurd (false≢true h)
dead_behind cs more front ss (t ∷ ts) h e f = dead (front ++ ss) t ts (follows cs more front ss e f t.kind h)

dead_here : (s : Symbol) (ss : List Symbol) (ts : List Token) → nullable s ≡ false → head_one_of (first_of s) ts ≡ false → Dead (s ∷ ss) ts
dead_here s ss [] n h = dead_end s ss n
dead_here s ss (t ∷ ts) n h = dead (s ∷ ss) t ts (rw n h)

apart_ahead : (cs bs : List Terminal) (ts : List Token) → all_apart cs bs ≡ true → head_one_of cs ts ≡ true → head_one_of bs ts ≡ false
apart_ahead cs bs [] e h = refl
apart_ahead cs bs (t ∷ ts) e h = all_apart_is cs bs t.kind e h

module _ {symbol : Symbol} {more : Behind} {ts : List Token} {l : Limits} {used : List Token} {ts' : List Token} {l' : Limits} {front : List Symbol} where
  -- a rule stands for its right side
  pub by_body : {r : Rule} → Sofar symbol more ts l used (rule r ∷ front) ts' l' → Sofar symbol more ts l used (body r ∷ front) ts' l'
  by_body {r} a = step a (λ ss f. step_rule r (front ++ ss) ts')

  pub in_order : {a b : Symbol} → Sofar symbol more ts l used ((a ▸ b) ∷ front) ts' l' → Sofar symbol more ts l used (a ∷ b ∷ front) ts' l'
  in_order {a} {b} s = step s (λ ss f. step_turn a b (front ++ ss) ts')

  -- an option that isn't there
  pub skips : {a : Symbol} → Sofar symbol more ts l used (maybe a ∷ front) ts' l' → nullable a ≡ false → Ahead (first_of a) ts' false → Sofar symbol more ts l used front ts' l'
  skips {a} s n h = step s (λ ss f. step_absent a (front ++ ss) ts' (dead_here a (front ++ ss) ts' n h.is))

  pub enters : {a : Symbol} → Sofar symbol more ts l used (maybe a ∷ front) ts' l' → can_follow (first_of a) front more ≡ true → Ahead (first_of a) ts' true → Sofar symbol more ts l used (a ∷ front) ts' l'
  enters {a} s e h = step s (λ ss f. step_present a (front ++ ss) ts' (dead_behind (first_of a) more front ss ts' h.is e f))

  pub ends : {a : Symbol} → Sofar symbol more ts l used (many a ∷ front) ts' l' → nullable a ≡ false → Ahead (first_of a) ts' false → Sofar symbol more ts l used front ts' l'
  ends {a} s n h = step s (λ ss f. step_no_more a (front ++ ss) ts' (dead_here a (many a ∷ front ++ ss) ts' n h.is))

  pub repeats : {a : Symbol} → Sofar symbol more ts l used (many a ∷ front) ts' l' → can_follow (first_of a) front more ≡ true → Ahead (first_of a) ts' true → Sofar symbol more ts l used (a ∷ many a ∷ front) ts' l'
  repeats {a} s e h = step s (λ ss f. step_one_more a (front ++ ss) ts' (dead_behind (first_of a) more front ss ts' h.is e f))

  -- the first or the second of two
  pub takes_first : {a b : Symbol} (cs : List Terminal) → Sofar symbol more ts l used ((a ∣ b) ∷ front) ts' l' → nullable b ≡ false → all_apart cs (first_of b) ≡ true → Ahead cs ts' true → Sofar symbol more ts l used (a ∷ front) ts' l'
  takes_first {a} {b} cs s n e h = step s (λ ss f. step_first a b (front ++ ss) ts' (dead_here b (front ++ ss) ts' n (apart_ahead cs (first_of b) ts' e h.is)))

  pub takes_second : {a b : Symbol} → Sofar symbol more ts l used ((a ∣ b) ∷ front) ts' l' → nullable a ≡ false → Ahead (first_of a) ts' false → Sofar symbol more ts l used (b ∷ front) ts' l'
  takes_second {a} {b} s n h = step s (λ ss f. step_second a b (front ++ ss) ts' (dead_here a (front ++ ss) ts' n h.is))

  -- the same by what the other can't be
  pub takes_first_else : {a b : Symbol} → Sofar symbol more ts l used ((a ∣ b) ∷ front) ts' l' → nullable b ≡ false → Ahead (first_of b) ts' false → Sofar symbol more ts l used (a ∷ front) ts' l'
  takes_first_else {a} {b} s n h = step s (λ ss f. step_first a b (front ++ ss) ts' (dead_here b (front ++ ss) ts' n h.is))

  pub takes_second_ahead : {a b : Symbol} (cs : List Terminal) → Sofar symbol more ts l used ((a ∣ b) ∷ front) ts' l' → can_follow cs (a ∷ front) more ≡ true → Ahead cs ts' true → Sofar symbol more ts l used (b ∷ front) ts' l'
  takes_second_ahead {a} {b} cs s e h = step s (λ ss f. step_second a b (front ++ ss) ts' (dead_behind cs more (a ∷ front) ss ts' h.is e f))

  -- two alternatives with a common front
  pub shares : {a b c : Symbol} → Sofar symbol more ts l used ((a ▸ b ∣ a ▸ c) ∷ front) ts' l' → Sofar symbol more ts l used (a ∷ (b ∣ c) ∷ front) ts' l'
  shares {a} {b} {c} s = step s (λ ss f. step_common a b c (front ++ ss) ts')
