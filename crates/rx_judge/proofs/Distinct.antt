-- Numbers that stand once, one after the other.
use Rattle.std.proofs.Common.{◌≡◌, ◌∙◌, refl, ℕ, ◌+◌, ◌<◌, ◌≤◌, Bool, true, false, not, ◌&&◌, ◌||◌, List, [], ◌∷◌, ◌++◌, length, get_or, take, drop, arith}
use Rattle.std.specs.Prelude.{ℤ, if◌then◌else◌}
use Rattle.std.specs.Ordering.{int_eq}
use Rattle.std.specs.List.{list_all}
use Rattle.std.proofs.lemmas.Int.{ints}
use Rattle.std.proofs.lemmas.List.{at_drop_more, at_drop_all, take_more}
use Rattle.rx_judge.specs.Scalar.{is_among, is_distinct}

-- none of the numbers is among those that were seen
abbrev pub apart : List ℤ → List ℤ → Bool
apart seen xs = list_all (λ y. not (is_among y seen)) xs

-- none of the later numbers is among the earlier ones, and no later one stands twice
abbrev pub rest : List ℤ → List ℤ → Bool
rest seen xs = apart seen xs && is_distinct xs

eq_symmetric : (a b : ℤ) → int_eq a b ≡ int_eq b a
eq_symmetric a b = grind (arith, ints)

or_false : (b : Bool) → (b || false) ≡ (false || b)
or_false true = refl
or_false false = refl

or_assoc : (a b c : Bool) → (a || (b || c)) ≡ ((a || b) || c)
or_assoc true b c = refl
or_assoc false b c = refl

among_push : (y x : ℤ) (seen : List ℤ) → is_among y (seen ++ x ∷ []) ≡ (is_among y seen || int_eq x y)
among_push y x [] = rw (eq_symmetric y x) (or_false (int_eq x y))
among_push y x (s ∷ seen) = rw (among_push y x seen) (or_assoc (int_eq y s) (is_among y seen) (int_eq x y))

mixed : (a b c d : Bool) → (not (a || b) && (c && not d)) ≡ ((not a && c) && not (b || d))
mixed true b c d = refl
mixed false true true d = refl
mixed false true false d = refl
mixed false false c d = refl

apart_push : (x : ℤ) (seen xs : List ℤ) → apart (seen ++ x ∷ []) xs ≡ (apart seen xs && not (is_among x xs))
apart_push x seen [] = refl
apart_push x seen (y ∷ ys) = rw (among_push y x seen, apart_push x seen ys) (mixed (is_among y seen) (int_eq x y) (apart seen ys) (is_among x ys))

moved : (a b c : Bool) → (a && (not b && c)) ≡ ((a && not b) && c)
moved true b c = refl
moved false b c = refl

one_new : (x : ℤ) (seen xs : List ℤ) → is_among x seen ≡ false → rest seen (x ∷ xs) ≡ rest (seen ++ x ∷ []) xs
one_new x seen xs h = rw (h, apart_push x seen xs) (moved (apart seen xs) (is_among x xs) (is_distinct xs))

one_old : (x : ℤ) (seen xs : List ℤ) → is_among x seen ≡ true → rest seen (x ∷ xs) ≡ false
one_old x seen xs h = rw h refl

none_seen : (xs : List ℤ) → apart [] xs ≡ true
none_seen [] = refl
none_seen (x ∷ xs) = none_seen xs

pub start : (zs : List ℤ) → is_distinct zs ≡ rest [] zs
start zs = rw (none_seen zs) refl

pub again : (zs : List ℤ) (i : ℕ) (d : ℤ) → is_distinct zs ≡ rest (take i zs) (drop i zs) → i < length zs → is_among (get_or zs i d) (take i zs) ≡ true → is_distinct zs ≡ false
again zs i d h l k = h ∙ at_drop_more (λ ys. rest (take i zs) ys) zs i d l ∙ one_old (get_or zs i d) (take i zs) (drop (i + 1) zs) k

pub new : (zs : List ℤ) (i : ℕ) (d : ℤ) → is_distinct zs ≡ rest (take i zs) (drop i zs) → i < length zs → is_among (get_or zs i d) (take i zs) ≡ false → is_distinct zs ≡ rest (take (i + 1) zs) (drop (i + 1) zs)
new zs i d h l k =
    let t = take_more zs i d l in
    h ∙ at_drop_more (λ ys. rest (take i zs) ys) zs i d l ∙ rw t (one_new (get_or zs i d) (take i zs) (drop (i + 1) zs) k)

-- the numbers that were seen, with one that is new
pub one_more : (zs ks next : List ℤ) (i : ℕ) (d k : ℤ) → i < length zs → ks ≡ take i zs → k ≡ get_or zs i d → is_among k ks ≡ false → next ≡ (if is_among k ks then ks else ks ++ k ∷ []) → next ≡ take (i + 1) zs
one_more zs ks next i d k l h e n g = (rw n at g) ∙ rw (h, e, take_more zs i d l) refl

pub ends : (zs : List ℤ) (i : ℕ) → is_distinct zs ≡ rest (take i zs) (drop i zs) → length zs ≤ i → is_distinct zs ≡ true
ends zs i h l = h ∙ at_drop_all (λ ys. rest (take i zs) ys) zs i l
