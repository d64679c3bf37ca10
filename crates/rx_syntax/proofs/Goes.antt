-- From the first piece to the last: how a text ends.
use Rattle.std.proofs.Common.{◌≡◌, ℕ, ◌+◌, ◌<◌, ◌≤◌, List, [], ◌++◌, length, refl, sym, ap, ◌∙◌, subst, length-append, append_assoc, append-nil, arith, Option, Some}
use Rattle.rx_syntax.specs.declared.token.Place.{Place}
use Rattle.rx_syntax.specs.declared.token.Token.{Token}
use Rattle.rx_syntax.specs.declared.token.TokenKind.{TokenKind}
use Rattle.rx_syntax.specs.declared.fault.LexFault.{LexFault}
use Rattle.rx_syntax.specs.declared.fault.LexFault.TheVariants.{TextLimit}
use Rattle.rx_syntax.specs.Text.{place_after, place_behind, IsToken, IsPiece, a_token, tokens_of, token_limit, HasTokens, start, piece, AreTokens, IsBad, IsFault, bad, text_limit}
use Rattle.rx_syntax.specs.Laws.{OneList, OneFault, NoFault}
use Rattle.rx_syntax.proofs.Lexed.{after_both}
use Rattle.rx_syntax.proofs.Unique.{piece_unique, bad_no_piece, bad_unique, piece_some, bad_some}

-- the tokens of a text, or its first fault
pub data End : Type 0 where
  listed : List Token → End
  faulty : LexFault → End

abbrev pub add : List Token → End → End
add ts (listed us) = listed (ts ++ us)
add ts (faulty e) = faulty e

-- at the place and behind so many tokens, the text ends so
pub data Goes : Place → ℕ → List ℕ → End → Type 0 where
  done : {p : Place} {n : ℕ} → n ≤ token_limit → Goes p n [] (listed [])
  on : {p : Place} {n : ℕ} {run rest : List ℕ} {k : Option TokenKind} {end : End} → IsPiece run rest k → Goes (place_after p run) (n + length (tokens_of p k)) rest end → Goes p n (run ++ rest) (add (tokens_of p k) end)
  ill : {p : Place} {n : ℕ} {rest : List ℕ} {e : LexFault} → n ≤ token_limit → IsBad p rest e → Goes p n rest (faulty e)
  full : {p : Place} {n : ℕ} {run rest : List ℕ} {k : TokenKind} → n ≡ token_limit → IsToken run rest k → Goes p n (run ++ rest) (faulty (TextLimit p))

-- past the limit nothing ends
past : {p : Place} {n : ℕ} {text : List ℕ} {end : End} → Goes p n text end → token_limit < n → ⊥
past (done h) g = absurd (omega arith)
past (on {p = p} {n = n} {k = k} x d) g = past d (omega arith)
past (ill h b) g = absurd (omega arith)
past (full h t) g = absurd (omega arith)

token_past : (p : Place) {q : Place} {n : ℕ} {rest : List ℕ} {end : End} {k : Option TokenKind} (t : TokenKind) → k ≡ Some t → Goes q (n + length (tokens_of p k)) rest end → n ≡ token_limit → ⊥
token_past p {q} {n} {rest} {end} t e d h = past (subst (λ x. Goes q (n + length (tokens_of p x)) rest end) e d) (omega arith)

pub unique : {p : Place} {n : ℕ} {text text' : List ℕ} {end end' : End} → Goes p n text end → Goes p n text' end' → text ≡ text' → end ≡ end'
unique (done h) (done h') e = refl
unique (done h) (on x d) e = absurd (piece_some x (sym e))
unique (done h) (ill h' b) e = absurd (bad_some b (sym e))
unique (done h) (full h' t) e = absurd (piece_some (a_token t) (sym e))
unique (on x d) (done h) e = absurd (piece_some x e)
unique {p} {n} (on {run = run} {rest = rest} {k = k} {end = end} x d) (on {run = run'} {rest = rest'} {k = k'} {end = end'} x' d') e =
    let s = piece_unique x x' e in
    let d'' : Goes (place_after p run) (n + length (tokens_of p k)) rest' end' = subst (λ r. Goes (place_after p r) (n + length (tokens_of p k)) rest' end') (sym s.runs) (subst (λ j. Goes (place_after p run') (n + length (tokens_of p j)) rest' end') (sym s.kinds) d') in
    ap (add (tokens_of p k)) (unique d d'' s.rests) ∙ ap (λ j. add (tokens_of p j) end') s.kinds
unique (on x d) (ill h b) e = absurd (bad_no_piece b x (sym e))
unique {p} (on x d) (full {k = t} h y) e = absurd (token_past p t (piece_unique x (a_token y) e).kinds d h)
unique (ill h b) (done h') e = absurd (bad_some b e)
unique (ill h b) (on x d) e = absurd (bad_no_piece b x e)
unique (ill h b) (ill h' b') e = ap faulty (bad_unique b b' e)
unique (ill h b) (full h' t) e = absurd (bad_no_piece b (a_token t) e)
unique (full h t) (done h') e = absurd (piece_some (a_token t) e)
unique {p} (full {k = t} h y) (on x d) e = absurd (token_past p t (piece_unique x (a_token y) (sym e)).kinds d h)
unique (full h t) (ill h' b) e = absurd (bad_no_piece b (a_token t) (sym e))
unique (full h t) (full h' t') e = refl

abbrev at_start : Place
at_start = record { line = 1; column = 1 }

add_none : (end : End) → add [] end ≡ end
add_none (listed us) = refl
add_none (faulty e) = refl

add_both : (ts us : List Token) (end : End) → add ts (add us end) ≡ add (ts ++ us) end
add_both ts us (listed vs) = ap listed (sym (append_assoc ts us vs))
add_both ts us (faulty e) = refl

-- what goes on behind the pieces that were cut goes from the start
from_start : {text before rest : List ℕ} {tokens : List Token} {end : End} → HasTokens text before tokens rest → Goes (place_behind before) (length tokens) rest end → Goes at_start 0 text (add tokens end)
from_start {text} {end = end} start d = subst (Goes at_start 0 text) (sym (add_none end)) d
from_start {text} {end = end} (piece {before = before} {run = run} {rest = rest} {tokens = tokens} {k = k} h x) d =
    let us = tokens_of (place_behind before) k in
    let d' : Goes (place_after (place_behind before) run) (length tokens + length us) rest end = subst (λ n. Goes (place_after (place_behind before) run) n rest end) (length-append tokens us) (subst (λ p. Goes p (length (tokens ++ us)) rest end) (after_both at_start before run) d) in
    subst (Goes at_start 0 text) (add_both tokens us end) (from_start h (on x d'))

listed_from : (text : List ℕ) (tokens : List Token) (finish : Place) → AreTokens text tokens finish → Goes at_start 0 text (listed (tokens ++ []))
listed_from text tokens finish t = from_start t.cut (done t.few)

faulty_from : (text : List ℕ) (e : LexFault) → IsFault text e → Goes at_start 0 text (faulty e)
faulty_from text e (bad h few b) = from_start h (ill few b)
faulty_from text e (text_limit h full_up t) = from_start h (full full_up t)

pub one_list : OneList
one_list text tokens tokens' finish finish' t t' =
    let same = unique (listed_from text tokens finish t) (listed_from text tokens' finish' t') refl in
    let same' : tokens ++ [] ≡ tokens' ++ [] = cc in
    sym (append-nil tokens) ∙ same' ∙ append-nil tokens'

pub one_fault : OneFault
one_fault text e e' f f' = let same = unique (faulty_from text e f) (faulty_from text e' f') refl in cc

pub no_fault : NoFault
no_fault text tokens finish e t f = let same = unique (listed_from text tokens finish t) (faulty_from text e f) refl in cc
