-- From a parser's answer at a cursor to the answer for all tokens.
use Rattle.std.proofs.Common.{◌≡◌, ◌≢◌, ℕ, zero, suc, ◌+◌, ◌-◌, ◌<◌, ◌≤◌, Bool, true, false, List, [], ◌∷◌, ◌++◌, length, take, drop, refl, sym, ap, ◌∙◌, subst, append_assoc, append-nil, length-append, arith, ◌⊎◌, inl, inr, ⊎_elim}
use Rattle.std.proofs.lemmas.Bool.{false≢true, cases_lt}
use Rattle.std.proofs.Math.Seq.{take-append_seam, drop-append_seam}
use Rattle.rx_syntax.specs.declared.token.Place.{Place}
use Rattle.rx_syntax.specs.declared.token.Token.{Token}
use Rattle.rx_syntax.specs.declared.token.TokenKind.{TokenKind}
use Rattle.rx_grammar.specs.declared.terminal.Terminal.{Terminal}
use Rattle.rx_grammar.specs.declared.fault.Fault.{Fault}
use Rattle.rx_grammar.specs.declared.fault.Fault.TheVariants as fault
use Rattle.rx_grammar.specs.declared.syntax.SyntaxFault.{SyntaxFault}
use Rattle.rx_grammar.specs.declared.syntax.SyntaxFault.TheVariants as told
use Rattle.rx_grammar.specs.declared.cursor.Limits.{Limits}
use Rattle.rx_grammar.specs.Grammar.{Symbol, Begins, Derives, Whole, nothing}
use Rattle.rx_grammar.specs.First.{after}
use Rattle.rx_grammar.specs.Limits.{Fits, no_limits}
use Rattle.rx_grammar.specs.Reads as reads
use Rattle.rx_grammar.specs.Reads.{IsBlocked, Stops, NoneBegins, Read, Fails, Exceeds, IsFault}
use Rattle.rx_grammar.specs.Syntax as syntax
use Rattle.rx_grammar.specs.Syntax.{place_of, IsToldAt, IsLongest, IsTooDeep, IsStopped, IsSyntaxFault, IsWithin, IsToldFault, IsFaultAlone}
use Rattle.rx_grammar.proofs.Steps.{begins_front}

pub follows_nothing : (more : List Terminal) → NoneBegins more []
follows_nothing more = λ k h. refl

-- past the front, one token more
take_past : (xs : List Token) (t : Token) (ys : List Token) (n : ℕ) → length xs < n → take (suc (length xs)) (take n (xs ++ t ∷ ys)) ≡ xs ++ t ∷ []
take_past xs t ys zero h = absurd (omega arith)
take_past [] t ys (suc n) h = refl
take_past (x ∷ xs) t ys (suc n) h = ap (λ zs. x ∷ zs) (take_past xs t ys n (omega arith))

take_over : (xs : List Token) (t : Token) (ys : List Token) → take (suc (length xs)) (xs ++ t ∷ ys) ≡ xs ++ t ∷ []
take_over [] t ys = refl
take_over (x ∷ xs) t ys = ap (λ zs. x ∷ zs) (take_over xs t ys)

pub not_past : (s : Symbol) (front stop : List Token) → IsBlocked (s ∷ []) front stop → (n : ℕ) → n ≤ length (front ++ stop) → Begins (s ∷ []) (take n (front ++ stop)) → n ≤ length front
not_past s front [] b n h x = omega (arith, length-append front [])
not_past s front (t ∷ more) b n h x = go (cases_lt (length front) n)
  where
    go : (length front < n) ⊎ (n ≤ length front) → n ≤ length front
    go (inr e) = e
    go (inl e) = absurd (b (subst (Begins (s ∷ [])) (take_past front t more n e) (begins_front x (suc (length front)))))

no_sentence : (s : Symbol) (front stop : List Token) → IsBlocked (s ∷ []) front stop → Derives Whole (s ∷ []) (front ++ stop) → ⊥
no_sentence s front [] b x = b (subst (Derives Whole (s ∷ [])) (append-nil front) x)
no_sentence s front (t ∷ more) b x = b (subst (Begins (s ∷ [])) (take_over front t more) (begins_front x (suc (length front))))

-- where so many tokens are left
pub front_is : (ts front stop : List Token) (left : ℕ) → ts ≡ front ++ stop → left ≡ length stop → take (length ts - left) ts ≡ front
front_is ts front stop left e f =
    let n : length ts - left ≡ length front = let a = ap length e in let b = length-append front stop in omega arith in
    ap (λ k. take k ts) n ∙ ap (take (length front)) e ∙ take-append_seam front stop

stop_is : (ts front stop : List Token) (left : ℕ) → ts ≡ front ++ stop → left ≡ length stop → drop (length ts - left) ts ≡ stop
stop_is ts front stop left e f =
    let n : length ts - left ≡ length front = let a = ap length e in let b = length-append front stop in omega arith in
    ap (λ k. drop k ts) n ∙ ap (drop (length front)) e ∙ drop-append_seam front stop

told_there : (plain : Bool) (ts front stop : List Token) (left : ℕ) (last : Place) (e : SyntaxFault) → ts ≡ front ++ stop → left ≡ length stop → IsToldAt plain (take (length ts - left) ts) (drop (length ts - left) ts) last e → IsToldAt plain front stop last e
told_there plain ts front stop left last e s l t =
    subst (λ xs. IsToldAt plain xs stop last e) (front_is ts front stop left s l) (subst (λ xs. IsToldAt plain (take (length ts - left) ts) xs last e) (stop_is ts front stop left s l) t)

pub is_stopped : (s : Symbol) (plain : Bool) (ts front stop : List Token) (left : ℕ) (last : Place) (e : SyntaxFault) → ts ≡ front ++ stop → left ≡ length stop → Stops (s ∷ []) front stop → Fits no_limits front → IsToldAt plain (take (length ts - left) ts) (drop (length ts - left) ts) last e → IsStopped s plain ts last e
is_stopped s plain ts front stop left last e split l r f t = record {
  front = front;
  stop = stop;
  split = split;
  longest = record { begins = r.begins; longest = not_past s front stop r.blocked };
  fits = f;
  none = λ d. no_sentence s front stop r.blocked (subst (Derives Whole (s ∷ [])) split d);
  told = told_there plain ts front stop left last e split l t;
}

-- a parser's fault, where nothing stands behind
pub alone_of : (s : Symbol) (more : List Terminal) (ts : List Token) (f : Fault) → IsFault s (after more) ts no_limits f → IsFaultAlone s ts f
alone_of s more ts (fault.Expected left) (reads.expected r) = syntax.expected r.front r.stop r.split r.left_is (r.stops [] (follows_nothing more)) r.fits
alone_of s more ts (fault.TooDeep left) (reads.too_deep r) = syntax.too_deep r.front r.rest r.at r.split r.left_is (r.begins [] (follows_nothing more)) r.fits r.exceeds
alone_of s more ts fault.NoMemory reads.no_memory = syntax.no_memory

-- such a fault, as it is told
pub fault_told : (s : Symbol) (plain : Bool) (ts : List Token) (last : Place) (f : Fault) (e : SyntaxFault) → IsFaultAlone s ts f → IsToldFault plain ts last f e → (e ≡ told.NoMemory) ⊎ IsSyntaxFault s plain ts last e
fault_told s plain ts last (fault.Expected left) e (syntax.expected front stop k l r h) (inl m) = inl m
fault_told s plain ts last (fault.Expected left) e (syntax.expected front stop k l r h) (inr t) =
    inr (syntax.stopped (is_stopped s plain ts front stop left last e k l r h t))
fault_told s plain ts last (fault.TooDeep left) e (syntax.too_deep front rest at k l b h x) t =
    inr (syntax.too_deep (record {
      front = front;
      at = at;
      rest = rest;
      split = k;
      begins = b;
      fits = h;
      exceeds = x;
      told = t ∙ ap (λ xs. told.TooDeep (place_of xs last)) (stop_is ts front (at ∷ rest) left k l);
    }))
fault_told s plain ts last fault.NoMemory e syntax.no_memory t = inl t

-- it lies within the tokens
pub is_within : (s : Symbol) (ts : List Token) (f : Fault) → IsFaultAlone s ts f → IsWithin f ts
is_within s ts (fault.Expected left) (syntax.expected front stop k l r h) = let a = ap length k in let b = length-append front stop in omega arith
is_within s ts (fault.TooDeep left) (syntax.too_deep front rest at k l b h x) = let a = ap length k in let c = length-append front (at ∷ rest) in omega arith
is_within s ts fault.NoMemory syntax.no_memory = tt

nothing_begins : {t : Token} {ts : List Token} → Begins [] (t ∷ ts) → ⊥
nothing_begins x = elim x [ ]

-- what was read stops at the tokens that are left
pub stops_there : {A : Type 0} {P : List Token → A → Type 0} (s : Symbol) (more : List Terminal) (ts : List Token) (x : A) (t : Token) (rest : List Token) (l : Limits) (r : Read s (after more) P ts no_limits x (t ∷ rest) l) → Stops (s ∷ []) r.used (t ∷ rest)
stops_there s more ts x t rest l r =
    let st : Stops [] [] (t ∷ rest) = record { begins = nothing; blocked = λ b. nothing_begins b } in
    subst (λ xs. Stops (s ∷ []) xs (t ∷ rest)) (append-nil r.used) ((r.leads [] (follows_nothing more)).stops [] (t ∷ rest) refl st)

pub left_over : {A : Type 0} {P : List Token → A → Type 0} (s : Symbol) (more : List Terminal) (ts : List Token) (x : A) (rest : List Token) (l : Limits) → Read s (after more) P ts no_limits x rest l → 0 < length rest → IsFaultAlone s ts (fault.Expected (length rest))
left_over s more ts x [] l r h = absurd (omega arith)
left_over s more ts x (u ∷ rest) l r h = syntax.expected r.used (u ∷ rest) r.split refl (stops_there s more ts x u rest l r) r.fits

pub all_read : {A : Type 0} {P : List Token → A → Type 0} (s : Symbol) (more : List Terminal) (ts : List Token) (x : A) (rest : List Token) (l : Limits) → Read s (after more) P ts no_limits x rest l → length rest ≡ 0 → P ts x
all_read {P = P} s more ts x [] l r z = subst (λ xs. P xs x) (sym (r.split ∙ append-nil r.used)) r.sentence
all_read s more ts x (t ∷ rest) l r z = absurd (omega arith)

pub all_fit : {A : Type 0} {P : List Token → A → Type 0} (s : Symbol) (more : List Terminal) (ts : List Token) (x : A) (rest : List Token) (l : Limits) → Read s (after more) P ts no_limits x rest l → length rest ≡ 0 → Fits no_limits ts
all_fit s more ts x [] l r z = subst (Fits no_limits) (sym (r.split ∙ append-nil r.used)) r.fits
all_fit s more ts x (t ∷ rest) l r z = absurd (omega arith)

pub left_within : {A : Type 0} {P : List Token → A → Type 0} (s : Symbol) (more : List Terminal) (ts : List Token) (x : A) (rest : List Token) (l : Limits) → Read s (after more) P ts no_limits x rest l → length rest ≤ length ts
left_within s more ts x rest l r = let a = ap length r.split in let b = length-append r.used rest in omega arith
