-- Longest runs of bytes.
use Rattle.std.proofs.Common.{◌≡◌, ℕ, zero, suc, ◌+◌, ◌<◌, ◌≤◌, Bool, true, false, ◌&&◌, cond, List, [], ◌∷◌, ◌++◌, length, take, drop, refl, sym, ap, ◌∙◌, subst, arith}
use Rattle.std.specs.List.{list_all, prefix_len}
use Rattle.std.proofs.lemmas.Bool.{false≢true, and_parts}
use Rattle.std.proofs.lemmas.List.Sums.{prefix_len-le-length}
use Rattle.rx_syntax.specs.Numbers.{begins_with}
use Rattle.rx_syntax.specs.Text.{IsRun}

pub both : (a b : Bool) → a ≡ true → b ≡ true → (a && b) ≡ true
both true b e h = h
both false b e h = e

-- the bytes that `prefix_len` counts are a run
pub run_of : (p : ℕ → Bool) (xs : List ℕ) → IsRun p (take (prefix_len p xs) xs) (drop (prefix_len p xs) xs)
run_of p [] = record { all = refl; ends = refl }
run_of p (x ∷ xs) = by_first (p x) refl (prefix_len p xs) (run_of p xs)
  where
    by_first : (b : Bool) → p x ≡ b → (n : ℕ) → IsRun p (take n xs) (drop n xs) → IsRun p (take (cond b (1 + n) 0) (x ∷ xs)) (drop (cond b (1 + n) 0) (x ∷ xs))
    by_first true e n r = let one : 1 + n ≡ suc n = omega arith in rw one (record { all = both (p x) _ e r.all; ends = r.ends })
    by_first false e n r = record { all = refl; ends = e }

pub run_within : (p : ℕ → Bool) (xs : List ℕ) → prefix_len p xs ≤ length xs
run_within p xs = prefix_len-le-length p xs

-- a run that begins with a byte that passes is not empty
pub run_some : (p : ℕ → Bool) (xs : List ℕ) → begins_with p xs ≡ true → 0 < prefix_len p xs
run_some p [] h = absurd (false≢true h)
run_some p (x ∷ xs) h = let e : prefix_len p (x ∷ xs) ≡ 1 + prefix_len p xs = ap (λ b. cond b (1 + prefix_len p xs) 0) h in omega arith

pub begins_take : (p : ℕ → Bool) (n : ℕ) (xs : List ℕ) → 0 < n → begins_with p xs ≡ true → begins_with p (take n xs) ≡ true
begins_take p zero xs h e = absurd (omega arith)
begins_take p (suc n) [] h e = e
begins_take p (suc n) (x ∷ xs) h e = e

-- a test that holds where another does
pub begins_also : (p q : ℕ → Bool) → ((b : ℕ) → p b ≡ true → q b ≡ true) → (xs : List ℕ) → begins_with p xs ≡ true → begins_with q xs ≡ true
begins_also p q i [] h = h
begins_also p q i (x ∷ xs) h = i x h

pub all_also : (p q : ℕ → Bool) → ((b : ℕ) → p b ≡ true → q b ≡ true) → (xs : List ℕ) → list_all p xs ≡ true → list_all q xs ≡ true
all_also p q i [] h = refl
all_also p q i (x ∷ xs) h = let a = and_parts (p x) (list_all p xs) h in both (q x) _ (i x a.0) (all_also p q i xs a.1)

-- each element of a list that passes does
pub all_at : (p : ℕ → Bool) (xs : List ℕ) (y : ℕ) (ys : List ℕ) → list_all p (xs ++ y ∷ ys) ≡ true → p y ≡ true
all_at p [] y ys h = (and_parts (p y) (list_all p ys) h).0
all_at p (x ∷ xs) y ys h = all_at p xs y ys (and_parts (p x) (list_all p (xs ++ y ∷ ys)) h).1

-- two texts with the same bytes
pub record AreSame (xs xs' ys ys' : List ℕ) : Type 0 where
  pub fronts : xs ≡ xs'
  pub rests : ys ≡ ys'

-- a text has one longest run
pub run_unique : (p : ℕ → Bool) (xs xs' ys ys' : List ℕ) → IsRun p xs ys → IsRun p xs' ys' → xs ++ ys ≡ xs' ++ ys' → AreSame xs xs' ys ys'
run_unique p [] [] ys ys' r s e = record { fronts = refl; rests = e }
run_unique p [] (x ∷ xs') ys ys' r s e = absurd (false≢true (sym (subst (λ zs. begins_with p zs ≡ false) e r.ends) ∙ (and_parts (p x) (list_all p xs') s.all).0))
run_unique p (x ∷ xs) [] ys ys' r s e = absurd (false≢true (sym (subst (λ zs. begins_with p zs ≡ false) (sym e) s.ends) ∙ (and_parts (p x) (list_all p xs) r.all).0))
run_unique p (x ∷ xs) (x' ∷ xs') ys ys' r s e =
    let heads : x ≡ x' = cc in
    let tails : xs ++ ys ≡ xs' ++ ys' = cc in
    let a = run_unique p xs xs' ys ys' (record { all = (and_parts (p x) (list_all p xs) r.all).1; ends = r.ends }) (record { all = (and_parts (p x') (list_all p xs') s.all).1; ends = s.ends }) tails in
    let f = a.fronts in
    record { fronts = cc; rests = a.rests }
