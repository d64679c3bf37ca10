-- With what tokens begin: `Stops`, `Starts`, `Any`, `Quiet`, and how one follows from the other.
use Rattle.std.proofs.Common.{◌≡◌, Bool, true, false, ◌||◌, not, List, [], ◌∷◌, ◌++◌, refl, sym, ap, ◌∙◌}
use Rattle.std.proofs.lemmas.Bool.{false≢true}
use Rattle.rx_syntax.specs.declared.token.Token.{Token}
use Rattle.rx_syntax.specs.declared.token.TokenKind.{TokenKind}
use Rattle.rx_syntax.specs.declared.mark.Mark.TheVariants as sign
use Rattle.rx_grammar.specs.declared.terminal.Terminal.{Terminal}
use Rattle.rx_grammar.specs.declared.terminal.Terminal.TheVariants as terminal
use Rattle.rx_grammar.specs.declared.terminal.Keyword.TheVariants as word
use Rattle.rx_grammar.specs.Terminal.{is_such, is_one_of}
use Rattle.rx_grammar.specs.First.{all_apart, all_among, head_one_of}
use Rattle.rx_grammar.specs.Tokens.{Is}
use Rattle.rx_grammar.specs.Sentence.{is_list_comma}
use Rattle.rx_grammar.proofs.First.{all_apart_is, all_among_is, one_of_left, one_of_right, or_left}

-- there is no token, or the first is none of these
pub record Stops (cs : List Terminal) (ts : List Token) : Type 0 where
  pub is : head_one_of cs ts ≡ false

-- there is a first token, and it is one of these
pub record Starts (cs : List Terminal) (ts : List Token) : Type 0 where
  pub is : head_one_of cs ts ≡ true

-- anything: what may follow a part that shows its own end
pub data Any (ts : List Token) : Type 0 where
  any : Any ts

-- none of these, and no comma before another part of a list
pub record Quiet (cs : List Terminal) (ts : List Token) : Type 0 where
  pub comma : is_list_comma ts ≡ false
  pub stops : Stops cs ts

-- the first of a list, and what stands behind it
pub head_same : {t u : Token} {xs ys : List Token} → t ∷ xs ≡ u ∷ ys → t ≡ u
head_same e = cc

pub tail_same : {t u : Token} {xs ys : List Token} → t ∷ xs ≡ u ∷ ys → xs ≡ ys
tail_same e = cc

-- the same tokens don't both start and stop
pub start_or_stop : {cs : List Terminal} {ts us : List Token} → Starts cs ts → Stops cs us → ts ≡ us → ⊥
start_or_stop {cs} {ts} {us} a b e = false≢true (sym b.is ∙ sym (ap (λ l. head_one_of cs l) e) ∙ a.is)

-- a first token stays the first
pub starts_on : {cs : List Terminal} {ts : List Token} (us : List Token) → Starts cs ts → Starts cs (ts ++ us)
starts_on {cs} {ts} us s = go ts s.is
  where
    go : (l : List Token) → head_one_of cs l ≡ true → Starts cs (l ++ us)
    go [] h = absurd (false≢true h)
    go (t ∷ l) h = record { is = h }

pub one_starts : {cs : List Terminal} {t : Token} {ts : List Token} → is_one_of cs t.kind ≡ true → Starts cs (t ∷ ts)
one_starts h = record { is = h }

pub starts_left : {cs : List Terminal} {ts : List Token} (ds : List Terminal) → Starts cs ts → Starts (cs ++ ds) ts
starts_left {cs} {ts} ds s = record { is = go ts s.is }
  where
    go : (l : List Token) → head_one_of cs l ≡ true → head_one_of (cs ++ ds) l ≡ true
    go [] h = h
    go (t ∷ l) h = one_of_left cs ds t.kind h

pub starts_right : {ds : List Terminal} {ts : List Token} (cs : List Terminal) → Starts ds ts → Starts (cs ++ ds) ts
starts_right {ds} {ts} cs s = record { is = go ts s.is }
  where
    go : (l : List Token) → head_one_of ds l ≡ true → head_one_of (cs ++ ds) l ≡ true
    go [] h = h
    go (t ∷ l) h = one_of_right cs ds t.kind h

pub token_starts : {c : Terminal} {t : Token} {ts : List Token} → Is c t → Starts (c ∷ []) (t ∷ ts)
token_starts {c} {t} h = record { is = or_left (is_such c t.kind) false h.such }

-- tokens that start with one of some stop at all that are apart from these
pub apart_stops : {cs ms : List Terminal} {ts : List Token} → all_apart cs ms ≡ true → Starts cs ts → Stops ms ts
apart_stops {cs} {ms} {ts} e s = record { is = go ts s.is }
  where
    go : (l : List Token) → head_one_of cs l ≡ true → head_one_of ms l ≡ false
    go [] h = refl
    go (t ∷ l) h = all_apart_is cs ms t.kind e h

-- two that start with what is apart are not the same
pub apart_differ : {cs ds : List Terminal} {ts us : List Token} → all_apart cs ds ≡ true → Starts cs ts → Starts ds us → ts ≡ us → ⊥
apart_differ e a b s = start_or_stop b (apart_stops e a) (sym s)

-- what is none of many is none of a few of them
pub narrow : {ms ns : List Terminal} {ts : List Token} → all_among ms ns ≡ true → Stops ns ts → Stops ms ts
narrow {ms} {ns} {ts} e s = record { is = go ts s.is }
  where
    by_test : (k : TokenKind) → is_one_of ns k ≡ false → (b : Bool) → is_one_of ms k ≡ b → b ≡ false
    by_test k h true g = absurd (false≢true (sym h ∙ all_among_is ms ns k e g))
    by_test k h false g = refl

    go : (l : List Token) → head_one_of ns l ≡ false → head_one_of ms l ≡ false
    go [] h = refl
    go (t ∷ l) h = by_test t.kind h (is_one_of ms t.kind) refl

pub stops_left : {ms : List Terminal} {ts : List Token} (ns : List Terminal) → Stops (ms ++ ns) ts → Stops ms ts
stops_left {ms} {ts} ns s = record { is = go ts s.is }
  where
    by_test : (k : TokenKind) → is_one_of (ms ++ ns) k ≡ false → (b : Bool) → is_one_of ms k ≡ b → b ≡ false
    by_test k h true g = absurd (false≢true (sym h ∙ one_of_left ms ns k g))
    by_test k h false g = refl

    go : (l : List Token) → head_one_of (ms ++ ns) l ≡ false → head_one_of ms l ≡ false
    go [] h = refl
    go (t ∷ l) h = by_test t.kind h (is_one_of ms t.kind) refl

pub stops_right : {ns : List Terminal} {ts : List Token} (ms : List Terminal) → Stops (ms ++ ns) ts → Stops ns ts
stops_right {ns} {ts} ms s = record { is = go ts s.is }
  where
    by_test : (k : TokenKind) → is_one_of (ms ++ ns) k ≡ false → (b : Bool) → is_one_of ns k ≡ b → b ≡ false
    by_test k h true g = absurd (false≢true (sym h ∙ one_of_right ms ns k g))
    by_test k h false g = refl

    go : (l : List Token) → head_one_of (ms ++ ns) l ≡ false → head_one_of ns l ≡ false
    go [] h = refl
    go (t ∷ l) h = by_test t.kind h (is_one_of ns t.kind) refl

-- a comma
abbrev pub comma : Terminal
comma = terminal.Mark sign.Comma

-- no comma, and none of these
pub quiet_of : {ms : List Terminal} {ts : List Token} → Stops (comma ∷ ms) ts → Quiet ms ts
quiet_of {ms} {ts} s = record { comma = go ts (stops_left {ms = comma ∷ []} ms s).is; stops = stops_right (comma ∷ []) s }
  where
    no_comma : (t : Token) → (is_such comma t.kind || false) ≡ false → is_such comma t.kind ≡ false
    no_comma t h = by_test (is_such comma t.kind) h
      where
        by_test : (b : Bool) → (b || false) ≡ false → b ≡ false
        by_test true g = g
        by_test false g = refl

    go : (l : List Token) → head_one_of (comma ∷ []) l ≡ false → is_list_comma l ≡ false
    go [] h = refl
    go (t ∷ []) h = no_comma t h
    go (t ∷ u ∷ l) h = rw (no_comma t h) refl

-- a comma before a link is none before another part of a list
pub quiet_comma : {ms : List Terminal} {t : Token} {us : List Token} → all_apart (comma ∷ []) ms ≡ true → Is comma t → Starts (terminal.Keyword word.Then ∷ []) us → Quiet ms (t ∷ us)
quiet_comma {ms} {t} {us} e h s = record { comma = go us s.is; stops = apart_stops e (token_starts h) }
  where
    go : (l : List Token) → head_one_of (terminal.Keyword word.Then ∷ []) l ≡ true → is_list_comma (t ∷ l) ≡ false
    go [] g = absurd (false≢true g)
    go (u ∷ l) g = rw (h.such) (ap not (only (is_such (terminal.Keyword word.Then) u.kind) g))
      where
        only : (b : Bool) → (b || false) ≡ true → b ≡ true
        only true x = refl
        only false x = x

-- a comma before what is no link is one before another part of a list
pub not_quiet : {cs ms : List Terminal} {t : Token} {us : List Token} → all_apart cs (terminal.Keyword word.Then ∷ []) ≡ true → Is comma t → Starts cs us → Quiet ms (t ∷ us) → ⊥
not_quiet {cs} {ms} {t} {us} e h s q = go us (apart_stops {cs = cs} e s).is s.is q.comma
  where
    go : (l : List Token) → head_one_of (terminal.Keyword word.Then ∷ []) l ≡ false → head_one_of cs l ≡ true → is_list_comma (t ∷ l) ≡ false → ⊥
    go [] g x k = absurd (false≢true x)
    go (u ∷ l) g x k = by_test (is_such (terminal.Keyword word.Then) u.kind) g (sym k ∙ rw (h.such) refl)
      where
        by_test : (b : Bool) → (b || false) ≡ false → false ≡ not b → ⊥
        by_test true y z = false≢true (sym y)
        by_test false y z = false≢true z
