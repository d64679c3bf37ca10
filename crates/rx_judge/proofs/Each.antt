-- Meanings of lists, item by item.
use Rattle.std.proofs.Common.{◌≡◌, ◌∙◌, ap, sym, refl, ℕ, ◌+◌, ◌<◌, ◌≤◌, List, [], ◌∷◌, ◌++◌, length, get_or, drop, append_assoc, map, Result, Ok, Err}
use Rattle.std.proofs.lemmas.List.{at_drop_more, at_drop_all}
use Rattle.rx_judge.specs.Meaning.{Meaning, ◌>>=◌, Tells, each_from, all_stand_from}
use Rattle.rx_judge.specs.declared.fault.Fault.{Fault}
use Rattle.rx_judge.specs.declared.fault.Fault.TheVariants.{Refused, NoMemory}

-- these, and then those of the meaning
abbrev pub before : {B R : Type 0} → List B → Result (List B) R → Result (List B) R
before ys m = m >>= (λ zs. Ok (ys ++ zs))

-- the first i items mean ys
pub record Sofar {A B R : Type 0} (f : ℕ → A → Result B R) (xs : List A) (i : ℕ) (ys : List B) : Type 0 where
  pub rest : each_from f 0 xs ≡ before ys (each_from f i (drop i xs))

none_and_then : {B R : Type 0} (m : Result (List B) R) → m ≡ before [] m
none_and_then (Ok zs) = refl
none_and_then (Err r) = refl

one_and_then : {B R : Type 0} (ys : List B) (y : B) (m : Result (List B) R) → before ys (m >>= (λ zs. Ok (y ∷ zs))) ≡ before (ys ++ y ∷ []) m
one_and_then ys y (Ok zs) = ap (λ w. Ok w) (sym (append_assoc ys (y ∷ []) zs))
one_and_then ys y (Err r) = refl

pub start : {A B R : Type 0} (f : ℕ → A → Result B R) (xs : List A) → Sofar f xs 0 []
start f xs = record { rest = none_and_then (each_from f 0 xs) }

pub more : {A B R : Type 0} {f : ℕ → A → Result B R} {xs : List A} {i : ℕ} {ys : List B} (x : A) (y : B) → Sofar f xs i ys → i < length xs → x ≡ get_or xs i x → f i x ≡ Ok y → Sofar f xs (i + 1) (ys ++ y ∷ [])
more {f = f} {xs = xs} {i = i} {ys = ys} x y s h e k =
    let p = at_drop_more (λ zs. before ys (each_from f i zs)) xs i x h in
    record { rest = s.rest ∙ p ∙ rw (← e, k) (one_and_then ys y (each_from f (i + 1) (drop (i + 1) xs))) }

pub refuses : {A B : Type 0} {f : ℕ → A → Meaning B} {xs : List A} {i : ℕ} {ys : List B} (x : A) (e : Fault) → Sofar f xs i ys → i < length xs → x ≡ get_or xs i x → Tells e (f i x) → Tells e (each_from f 0 xs)
refuses {f = f} {xs = xs} {i = i} {ys = ys} x (Refused r) s h e k =
    let p = at_drop_more (λ zs. before ys (each_from f i zs)) xs i x h in
    s.rest ∙ p ∙ rw (← e, k) refl
refuses x NoMemory s h e k = tt

append_none : {B : Type 0} (ys : List B) → ys ++ [] ≡ ys
append_none [] = refl
append_none (y ∷ ys) = ap (λ w. y ∷ w) (append_none ys)

pub ends : {A B R : Type 0} {f : ℕ → A → Result B R} {xs : List A} {i : ℕ} {ys : List B} → Sofar f xs i ys → length xs ≤ i → each_from f 0 xs ≡ Ok ys
ends {f = f} {xs = xs} {i = i} {ys = ys} s h = s.rest ∙ at_drop_all (λ zs. before ys (each_from f i zs)) xs i h ∙ ap (λ w. Ok w) (append_none ys)

map_push : {A B : Type 0} (g : A → B) (ys : List A) (y : A) → map g (ys ++ y ∷ []) ≡ map g ys ++ g y ∷ []
map_push g [] y = refl
map_push g (z ∷ ys) y = ap (λ w. g z ∷ w) (map_push g ys y)

pub pushed : {A B C R : Type 0} {f : ℕ → A → Result B R} {xs : List A} {i : ℕ} (g : C → B) (ys zs : List C) (y : C) → Sofar f xs i (map g ys ++ g y ∷ []) → zs ≡ ys ++ y ∷ [] → Sofar f xs i (map g zs)
pushed g ys zs y s e = rw (e, map_push g ys y) s

-- ---- items that only stand or are refused

-- the first i items stand
pub record Standing {A R : Type 0} (f : ℕ → A → Result (Unit {0}) R) (xs : List A) (i : ℕ) : Type 0 where
  pub rest : all_stand_from f 0 xs ≡ all_stand_from f i (drop i xs)

pub standing_start : {A R : Type 0} (f : ℕ → A → Result (Unit {0}) R) (xs : List A) → Standing f xs 0
standing_start f xs = record { rest = refl }

pub stands_more : {A R : Type 0} {f : ℕ → A → Result (Unit {0}) R} {xs : List A} {i : ℕ} (x : A) (y : Unit {0}) → Standing f xs i → i < length xs → x ≡ get_or xs i x → f i x ≡ Ok y → Standing f xs (i + 1)
stands_more {f = f} {xs = xs} {i = i} x y s h e k =
    let p = at_drop_more (λ zs. all_stand_from f i zs) xs i x h in
    record { rest = s.rest ∙ p ∙ rw (← e, k) refl }

pub standing_refuses : {A : Type 0} {f : ℕ → A → Meaning (Unit {0})} {xs : List A} {i : ℕ} (x : A) (e : Fault) → Standing f xs i → i < length xs → x ≡ get_or xs i x → Tells e (f i x) → Tells e (all_stand_from f 0 xs)
standing_refuses {f = f} {xs = xs} {i = i} x (Refused r) s h e k =
    let p = at_drop_more (λ zs. all_stand_from f i zs) xs i x h in
    s.rest ∙ p ∙ rw (← e, k) refl
standing_refuses x NoMemory s h e k = tt

pub standing_ends : {A R : Type 0} {f : ℕ → A → Result (Unit {0}) R} {xs : List A} {i : ℕ} → Standing f xs i → length xs ≤ i → all_stand_from f 0 xs ≡ Ok tt
standing_ends {f = f} {xs = xs} {i = i} s h = s.rest ∙ at_drop_all (λ zs. all_stand_from f i zs) xs i h
