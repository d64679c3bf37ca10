-- Places in a list that lacks one element and has more at its end.
use Rattle.std.proofs.Common.{◌≡◌, refl, sym, ap, ◌∙◌, ℕ, zero, suc, ◌+◌, ◌-◌, ◌<◌, ◌≤◌, arith, List, [], ◌∷◌, ◌++◌, length, Some, None, length-append, inl, inr, ◌⊎◌, min, ◌^◌, MatchResult, Result, Ok, Err, Bor}
use Rattle.std.specs.List.{slice_get, remove}
use Rattle.std.proofs.lemmas.Bool.{cases_lt}

pub get-append_left : {X : Type 0} (xs ys : List X) (i : ℕ) (x : X) → slice_get xs i ≡ Some x → slice_get (xs ++ ys) i ≡ Some x
get-append_left [] ys i x e = cc
get-append_left (y ∷ xs) ys zero x e = e
get-append_left (y ∷ xs) ys (suc i) x e = get-append_left xs ys i x e

pub get-append_right : {X : Type 0} (xs ys : List X) (i : ℕ) → length xs ≤ i → slice_get (xs ++ ys) i ≡ slice_get ys (i - length xs)
get-append_right [] ys i h = ap (slice_get ys) (let e : i ≡ i - 0 = omega arith in e)
get-append_right (x ∷ xs) ys zero h = absurd (omega arith)
get-append_right (x ∷ xs) ys (suc i) h =
    let l : length xs ≤ i = omega arith in
    get-append_right xs ys i l ∙ ap (slice_get ys) (let e : i - length xs ≡ suc i - length (x ∷ xs) = omega arith in e)

pub get-remove_before : {X : Type 0} (xs : List X) (t i : ℕ) (x : X) → i < t → slice_get xs i ≡ Some x → slice_get (remove xs t) i ≡ Some x
get-remove_before [] t i x h e = cc
get-remove_before (y ∷ xs) zero i x h e = absurd (omega arith)
get-remove_before (y ∷ xs) (suc t) zero x h e = e
get-remove_before (y ∷ xs) (suc t) (suc i) x h e = let l : i < t = omega arith in get-remove_before xs t i x l e

pub get-remove_after : {X : Type 0} (xs : List X) (t i : ℕ) (x : X) → t ≤ i → slice_get xs (suc i) ≡ Some x → slice_get (remove xs t) i ≡ Some x
get-remove_after [] t i x h e = cc
get-remove_after (y ∷ xs) zero i x h e = e
get-remove_after (y ∷ xs) (suc t) zero x h e = absurd (omega arith)
get-remove_after (y ∷ xs) (suc t) (suc i) x h e = let l : t ≤ i = omega arith in get-remove_after xs t i x l e

pub length-remove_within : {X : Type 0} (xs : List X) (t : ℕ) → t < length xs → length (remove xs t) + 1 ≡ length xs
length-remove_within [] t h = absurd (omega arith)
length-remove_within (x ∷ xs) zero h = omega arith
length-remove_within (x ∷ xs) (suc t) h = let l : t < length xs = omega arith in omega (arith, length-remove_within xs t l)

pub remove_past : {X : Type 0} (xs : List X) (t : ℕ) → length xs ≤ t → remove xs t ≡ xs
remove_past [] zero h = refl
remove_past [] (suc t) h = refl
remove_past (x ∷ xs) zero h = absurd (omega arith)
remove_past (x ∷ xs) (suc t) h = let l : length xs ≤ t = omega arith in ap (λ zs. x ∷ zs) (remove_past xs t l)

pub length-remove_at_most : {X : Type 0} (xs : List X) (t : ℕ) → length (remove xs t) ≤ length xs
length-remove_at_most [] zero = omega arith
length-remove_at_most [] (suc t) = omega arith
length-remove_at_most (x ∷ xs) zero = omega arith
length-remove_at_most (x ∷ xs) (suc t) = omega (arith, length-remove_at_most xs t)

within : {X : Type 0} (xs : List X) (i : ℕ) (x : X) → slice_get xs i ≡ Some x → i < length xs
within [] i x e = cc
within (y ∷ xs) zero x e = omega arith
within (y ∷ xs) (suc i) x e = omega (arith, within xs i x e)

-- how many elements are left where one is taken out
abbrev pub LeftOf : ℕ → ℕ → ℕ → Type 0
LeftOf t count left = (t < count → left + 1 ≡ count) × (count ≤ t → left ≡ count)

pub left_is : {X : Type 0} (xs : List X) (t count left : ℕ) → count ≡ length xs → LeftOf t count left → left ≡ length (remove xs t)
left_is xs t count left e h =
    elim (cases_lt t (length xs)) [
      | inl l ↦ (let r = length-remove_within xs t l in let s = h.0 (omega (arith, e, l)) in omega (arith, e, r, s))
      | inr l ↦ (let r = ap length (remove_past xs t l) in let s = h.1 (omega (arith, e, l)) in omega (arith, e, r, s))
    ]

-- what is found before the element that is taken out, or one place later behind it
pub found_before : {X : Type 0} (xs ys : List X) (t place : ℕ) (x : X) → place < t → slice_get xs place ≡ Some x → slice_get (remove xs t ++ ys) place ≡ Some x
found_before xs ys t place x h e = get-append_left (remove xs t) ys place x (get-remove_before xs t place x h e)

pub found_after : {X : Type 0} (xs ys : List X) (t place next : ℕ) (x : X) → t ≤ place → next ≡ suc place → slice_get xs next ≡ Some x → slice_get (remove xs t ++ ys) place ≡ Some x
found_after xs ys t place next x h s e = get-append_left (remove xs t) ys place x (get-remove_after xs t place x h (ap (slice_get xs) (sym s) ∙ e))

pub found_more : {X : Type 0} (xs ys : List X) (left place : ℕ) (x : X) → left ≡ length xs → left ≤ place → slice_get ys (place - left) ≡ Some x → slice_get (xs ++ ys) place ≡ Some x
found_more xs ys left place x e h f =
    get-append_right xs ys place (omega (arith, e, h)) ∙ ap (λ (n : ℕ). slice_get ys (place - n)) (sym e) ∙ f

pub never : {X : Type 0} (xs : List X) (i : ℕ) (x : X) → slice_get xs i ≡ Some x → length xs ≤ i → ⊥
never xs i x e h = absurd (omega (arith, within xs i x e, h))

pub none_past : {X : Type 0} (xs : List X) (i : ℕ) → length xs ≤ i → slice_get xs i ≡ None
none_past [] i h = refl
none_past (x ∷ xs) zero h = absurd (omega arith)
none_past (x ∷ xs) (suc i) h = let l : length xs ≤ i = omega arith in none_past xs i l

-- where the search in the list before went on: at the same place before the element that is taken out, else at most one later
abbrev pub Before : ℕ → ℕ → ℕ → Type 0
Before t place before = ((place < t) × (before ≡ place)) ⊎ ((t ≤ place) × (before ≡ min (place + 1) 18446744073709551615))

pub left_within : (t count left place before : ℕ) → count ≤ before → LeftOf t count left → Before t place before → left ≤ place
left_within t count left place before h l (inl b) =
    elim (cases_lt t count) [ inl g ↦ (let s = l.0 g in omega (arith, b.0, b.1, h, s)) | inr g ↦ (let s = l.1 g in omega (arith, b.0, b.1, h, s)) ]
left_within t count left place before h l (inr b) =
    elim (cases_lt t count) [ inl g ↦ (let s = l.0 g in omega (arith, b.0, b.1, h, s)) | inr g ↦ (let s = l.1 g in omega (arith, b.0, b.1, h, g, s)) ]

-- what was found in the list before is what stands at the place
pub found_at : {X : Type 0} (xs ys : List X) (t place before : ℕ) (x : X) → length xs < 2 ^ 64 → place < 2 ^ 64 → Before t place before → slice_get xs before ≡ Some x → slice_get (remove xs t ++ ys) place ≡ Some x
found_at xs ys t place before x short small (inl b) e = found_before xs ys t place x b.0 (ap (slice_get xs) (sym b.1) ∙ e)
found_at xs ys t place before x short small (inr b) e =
    elim (cases_lt place 18446744073709551615) [
      | inl l ↦ found_after xs ys t place before x b.0 (omega (arith, b.1, l)) e
      | inr l ↦ absurd (never xs before x e (omega (arith, b.1, l, short)))
    ]

-- what was not found there is sought behind what is left of it
pub sought_more : {X : Type 0} (xs ys zs : List X) (t count left place : ℕ) → zs ≡ remove xs t ++ ys → count ≡ length xs → LeftOf t count left → left ≤ place
    → (r : Result (Bor X) ℕ) → MatchResult r (λ found. slice_get ys (place - left) ≡ Some found.now) (λ n. (n ≡ left + length ys) × (n ≤ place))
    → MatchResult r (λ found. slice_get zs place ≡ Some found.now) (λ n. (n ≡ length zs) × (n ≤ place))
sought_more xs ys zs t count left place e c l h (Ok found) f =
    ap (λ ws. slice_get ws place) e ∙ found_more (remove xs t) ys left place found.now (left_is xs t count left c l) h f
sought_more xs ys zs t count left place e c l h (Err n) f =
    (omega (arith, f.0, ap length e, length-append (remove xs t) ys, left_is xs t count left c l), f.1)
