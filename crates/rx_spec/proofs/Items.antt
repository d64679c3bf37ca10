-- Lists that are made item by item, by the places of their items.
use Rattle.std.proofs.Common.{◌≡◌, ◌∙◌, ap, sym, refl, subst, ℕ, zero, suc, ◌+◌, Bool, true, false, ◌||◌, not, List, [], ◌∷◌, ◌++◌, map, Some, Result, Ok, arith}
use Rattle.std.specs.Prelude.{slice_get}
use Rattle.std.specs.List.{list_all, list_any, AllByRecursion}
use Rattle.std.proofs.lemmas.Option.{none-some, same_Some}
use Rattle.rx_judge.specs.Meaning.{◌>>=◌, each_from}
use Rattle.rx_judge.proofs.Lows.{both_true}
use Rattle.rx_judge.proofs.Meanings.{bind_ok, ok_same}

-- ---- meanings of lists

-- the item that y is made of
pub source_of : {A B R : Type 0} (f : ℕ → A → Result B R) (n : ℕ) (xs : List A) (ys : List B) (k : ℕ) (y : B) → each_from f n xs ≡ Ok ys → slice_get ys k ≡ Some y → (x : A) × (slice_get xs k ≡ Some x) × (f (n + k) x ≡ Ok y)
source_of f n [] ys k y e h = absurd (none-some y (rw (sym (ok_same [] ys e)) at h))
source_of f n (x ∷ xs) ys zero y e h =
    let one = bind_ok (f n x) (λ b. each_from f (n + 1) xs >>= (λ bs. Ok (b ∷ bs))) ys e in
    let rest = bind_ok (each_from f (n + 1) xs) (λ bs. Ok (one.0 ∷ bs)) ys one.2 in
    let here : slice_get (one.0 ∷ rest.0) 0 ≡ Some y = ap (λ zs. slice_get zs 0) (ok_same (one.0 ∷ rest.0) ys rest.2) ∙ h in
    let place : n ≡ n + 0 = omega arith in
    (x, refl, subst (λ j. f j x ≡ Ok y) place (one.1 ∙ ap (λ z. Ok z) (same_Some one.0 y here)))
source_of f n (x ∷ xs) ys (suc k) y e h =
    let one = bind_ok (f n x) (λ b. each_from f (n + 1) xs >>= (λ bs. Ok (b ∷ bs))) ys e in
    let rest = bind_ok (each_from f (n + 1) xs) (λ bs. Ok (one.0 ∷ bs)) ys one.2 in
    let there : slice_get (one.0 ∷ rest.0) (suc k) ≡ Some y = ap (λ zs. slice_get zs (suc k)) (ok_same (one.0 ∷ rest.0) ys rest.2) ∙ h in
    let r = source_of f (n + 1) xs rest.0 k y rest.1 there in
    let place : n + 1 + k ≡ n + suc k = omega arith in
    (r.0, r.1, subst (λ j. f j r.0 ≡ Ok y) place r.2)

-- ---- lists

pub mapped : {A B : Type 0} (f : A → B) (xs : List A) (k : ℕ) (y : B) → slice_get (map f xs) k ≡ Some y → (x : A) × (slice_get xs k ≡ Some x) × (f x ≡ y)
mapped f [] k y h = absurd (none-some y h)
mapped f (x ∷ xs) zero y h = (x, refl, same_Some (f x) y h)
mapped f (x ∷ xs) (suc k) y h = mapped f xs k y h

pub all_from : {A : Type 0} (P : A → Type 0) (xs : List A) → ((k : ℕ) (x : A) → slice_get xs k ≡ Some x → P x) → AllByRecursion P xs
all_from P [] h = tt
all_from P (x ∷ xs) h = (h 0 x refl, all_from P xs (λ k y e. h (suc k) y e))

pub all_append : {A : Type 0} (P : A → Type 0) (xs ys : List A) → AllByRecursion P xs → AllByRecursion P ys → AllByRecursion P (xs ++ ys)
all_append P [] ys a b = b
all_append P (x ∷ xs) ys a b = (a.0, all_append P xs ys a.1 b)

-- a test that holds of all items holds of each
pub tested_at : {A : Type 0} (test : A → Bool) (xs : List A) (k : ℕ) (x : A) → list_all test xs ≡ true → slice_get xs k ≡ Some x → test x ≡ true
tested_at test [] k x a h = absurd (none-some x h)
tested_at test (y ∷ xs) zero x a h = ap test (sym (same_Some y x h)) ∙ (both_true (test y) (list_all test xs) a).0
tested_at test (y ∷ xs) (suc k) x a h = tested_at test xs k x (both_true (test y) (list_all test xs) a).1 h

none_of_two : (a b : Bool) → not (a || b) ≡ true → (a ≡ false) × (not b ≡ true)
none_of_two true b h = cc
none_of_two false b h = (refl, h)

-- a test that holds of no item fails at each
pub fails_at : {A : Type 0} (test : A → Bool) (xs : List A) (k : ℕ) (x : A) → not (list_any test xs) ≡ true → slice_get xs k ≡ Some x → test x ≡ false
fails_at test [] k x a h = absurd (none-some x h)
fails_at test (y ∷ xs) zero x a h = ap test (sym (same_Some y x h)) ∙ (none_of_two (test y) (list_any test xs) a).0
fails_at test (y ∷ xs) (suc k) x a h = fails_at test xs k x (none_of_two (test y) (list_any test xs) a).1 h
