-- How far a text was read.
use Rattle.std.proofs.Common.{◌≡◌, ℕ, ◌+◌, ◌≤◌, Bool, true, false, List, [], ◌∷◌, ◌++◌, length, refl, sym, ap, ◌∙◌, subst, length-append, append_assoc, append-nil, arith, Option, Some, ◌⊎◌, inl, inr}
use Rattle.std.specs.Prelude.{if◌then◌else◌, ◌==◌}
use Rattle.rx_syntax.specs.declared.token.Place.{Place}
use Rattle.rx_syntax.specs.declared.token.Token.{Token}
use Rattle.rx_syntax.specs.declared.token.TokenKind.{TokenKind}
use Rattle.rx_syntax.specs.declared.fault.LexFault.{LexFault}
use Rattle.rx_syntax.specs.declared.fault.LexFault.TheVariants.{NoMemory}
use Rattle.rx_syntax.specs.Text.{place_after, place_behind, IsToken, IsPiece, a_token, a_blank, tokens_of, token_limit, HasTokens, start, piece, AreTokens, IsBad, IsFault, bad, text_limit, IsTooMany}

-- the bytes before the rest, and their tokens
pub record Lexed (text : List ℕ) (tokens : List Token) (rest : List ℕ) (place : Place) : Type 0 where
  pub before : List ℕ
  pub split : text ≡ before ++ rest
  pub read : HasTokens text before tokens rest
  pub few : length tokens ≤ token_limit
  pub place_is : place ≡ place_behind before
  pub line : place.line ≤ length before + 1
  pub column : place.column ≤ length before + 1

pub lexed_start : (text : List ℕ) → Lexed text [] text (record { line = 1; column = 1 })
lexed_start text = record { before = []; split = refl; read = start; few = omega arith; place_is = refl; line = omega arith; column = omega arith }

pub after_both : (p : Place) (xs ys : List ℕ) → place_after p (xs ++ ys) ≡ place_after (place_after p xs) ys
after_both p [] ys = refl
after_both p (x ∷ xs) ys = after_both (if x == 10 then record { line = p.line + 1; column = 1 } else record { line = p.line; column = p.column + 1 }) xs ys

after_bounds : (p : Place) (xs : List ℕ) (m n : ℕ) → p.line ≤ m → p.column ≤ n → 1 ≤ n → ((place_after p xs).line ≤ m + length xs) × ((place_after p xs).column ≤ n + length xs)
after_bounds p [] m n e f g = (omega arith, omega arith)
after_bounds p (x ∷ xs) m n e f g = by_line (x == 10) p xs m n e f g (λ p' m' n' e' f' g'. after_bounds p' xs m' n' e' f' g')
  where
    by_line : (b : Bool) (p : Place) (xs : List ℕ) (m n : ℕ) → p.line ≤ m → p.column ≤ n → 1 ≤ n → ((p' : Place) (m' n' : ℕ) → p'.line ≤ m' → p'.column ≤ n' → 1 ≤ n' → ((place_after p' xs).line ≤ m' + length xs) × ((place_after p' xs).column ≤ n' + length xs)) → ((place_after (if b then record { line = p.line + 1; column = 1 } else record { line = p.line; column = p.column + 1 }) xs).line ≤ m + length (x ∷ xs)) × ((place_after (if b then record { line = p.line + 1; column = 1 } else record { line = p.line; column = p.column + 1 }) xs).column ≤ n + length (x ∷ xs))
    by_line true p xs m n e f g h = let r = h (record { line = p.line + 1; column = 1 }) (m + 1) n (omega arith) (omega arith) g in (omega (arith, r.0), omega (arith, r.1))
    by_line false p xs m n e f g h = let r = h (record { line = p.line; column = p.column + 1 }) m (n + 1) (omega arith) (omega arith) (omega arith) in (omega (arith, r.0), omega (arith, r.1))

-- one piece further
pub lexed_on : {text : List ℕ} {tokens tokens' : List Token} {rest : List ℕ} {place place' : Place} {k : Option TokenKind} (run behind : List ℕ) → rest ≡ run ++ behind → Lexed text tokens rest place → IsPiece run behind k → tokens' ≡ tokens ++ tokens_of place k → length tokens' ≤ token_limit → place' ≡ place_after place run → Lexed text tokens' behind place'
lexed_on {text} {tokens} {tokens'} {rest} {place} {place'} {k} run behind e r p t few q =
    let b = after_bounds place run (length r.before + 1) (length r.before + 1) r.line r.column (omega arith) in
    record {
      before = r.before ++ run;
      split = r.split ∙ ap (λ xs. r.before ++ xs) e ∙ sym (append_assoc r.before run behind);
      read = rw (t, r.place_is) (piece (subst (HasTokens text r.before tokens) e r.read) p);
      few = few;
      place_is = q ∙ ap (λ x. place_after x run) r.place_is ∙ sym (after_both _ r.before run);
      line = rw q (omega (arith, b.0, length-append r.before run));
      column = rw q (omega (arith, b.1, length-append r.before run));
    }

-- the end
pub lexed_whole : {text : List ℕ} {tokens : List Token} {place : Place} (rest : List ℕ) → length rest ≡ 0 → Lexed text tokens rest place → AreTokens text tokens place
lexed_whole {text} {tokens} {place} [] e r =
    let all : r.before ≡ text = sym (r.split ∙ append-nil r.before) in
    record {
      cut = subst (λ b. HasTokens text b tokens []) all r.read;
      few = r.few;
      finish = r.place_is ∙ ap place_behind all;
    }
lexed_whole (b ∷ rest) e r = absurd (omega arith)

-- a piece that is bad
pub lexed_bad : {text : List ℕ} {tokens : List Token} {rest : List ℕ} {place : Place} {e : LexFault} → Lexed text tokens rest place → (e ≡ NoMemory) ⊎ IsBad place rest e → (e ≡ NoMemory) ⊎ IsFault text e
lexed_bad r (inl m) = inl m
lexed_bad {rest = rest} {e = e} r (inr b) = inr (bad r.read r.few (subst (λ p. IsBad p rest e) r.place_is b))

token_of : {run rest : List ℕ} {k : Option TokenKind} (t : TokenKind) → k ≡ Some t → IsPiece run rest k → IsToken run rest t
token_of {run} {rest} t e (a_token {k = u} p) = let same : u ≡ t = cc in subst (IsToken run rest) same p
token_of t e (a_blank b) = absurd cc

-- a token too many
pub lexed_limit : {text : List ℕ} {tokens : List Token} {rest : List ℕ} {place : Place} {e : LexFault} {k : Option TokenKind} (run behind : List ℕ) → rest ≡ run ++ behind → Lexed text tokens rest place → IsPiece run behind k → (e ≡ NoMemory) ⊎ IsTooMany tokens k place e → (e ≡ NoMemory) ⊎ IsFault text e
lexed_limit run behind e r p (inl m) = inl m
lexed_limit {text} {tokens} run behind e r p (inr t) = inr (rw (t.fault, r.place_is) (text_limit (subst (HasTokens text r.before tokens) e r.read) t.full (token_of t.one_token t.is p)))
