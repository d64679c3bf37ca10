-- How often numbers stand in a list.
use Rattle.std.proofs.Common.{◌≡◌, ◌≢◌, ℕ, ◌+◌, ◌<◌, ◌≤◌, List, [], ◌∷◌, ◌++◌, length, true, false, refl, sym, ap, subst, arith, inl, inr}
use Rattle.std.specs.Prelude.{eqb}
use Rattle.std.specs.List.{AllByRecursion, IsDistinct, list_any}
use Rattle.std.proofs.lemmas.Bool.{eq-eqb, cases_lt}
use Rattle.std.proofs.lemmas.Bool.Decides.{eqb_tells}
use Rattle.std.proofs.lemmas.Map.Steps.{length-le_from_distinct_below}
use Rattle.rx_pool.specs.Pool.{Pool, times, IsOut, IsPool}

pub times-append : (n : ℕ) (xs ys : List ℕ) → times n (xs ++ ys) ≡ times n xs + times n ys
times-append n [] ys = omega arith
times-append n (x ∷ xs) ys = omega (arith, times-append n xs ys)

times_self : (n : ℕ) → times n (n ∷ []) ≡ 1
times_self n = rw (eq-eqb n n refl) refl

times_another : (m n : ℕ) → m ≢ n → times m (n ∷ []) ≡ 0
times_another m n h = elim (eqb_tells m n) [
  | inl p ↦ absurd (h p.1)
  | inr p ↦ rw p.0 refl
]

-- one more of this number
pub times-last : (n : ℕ) (xs : List ℕ) → times n (xs ++ n ∷ []) ≡ times n xs + 1
times-last n xs = omega (arith, times-append n xs (n ∷ []), times_self n)

-- no more of another
pub times-other : (m n : ℕ) (xs : List ℕ) → m ≢ n → times m (xs ++ n ∷ []) ≡ times m xs
times-other m n xs h = omega (arith, times-append m xs (n ∷ []), times_another m n h)

apart : (x : ℕ) (xs : List ℕ) → times x xs ≡ 0 → AllByRecursion (λ y. eqb x y ≡ false) xs
apart x [] h = tt
apart x (y ∷ ys) h = elim (eqb_tells x y) [
  | inl p ↦ absurd (omega (arith, rw p.0 at h))
  | inr p ↦ (p.0, apart x ys (omega (arith, h)))
]

distinct : (xs : List ℕ) → ((n : ℕ) → times n xs ≤ 1) → IsDistinct eqb xs
unfolding IsDistinct
distinct [] h = tt
distinct (x ∷ xs) h = (apart x xs (omega (arith, rw (eq-eqb x x refl) at (h x))), distinct xs (λ n. omega (arith, h n)))

stands : (q : ℕ) (xs : List ℕ) → list_any (eqb q) xs ≡ true → 0 < times q xs
stands q (x ∷ xs) h = elim (eqb_tells q x) [
  | inl p ↦ rw p.0 (omega arith)
  | inr p ↦ omega (arith, stands q xs (rw p.0 at h))
]
stands q [] h = grind (arith, h)

within : (p : Pool) (n m : ℕ) → IsPool p → IsOut p n → 0 < times m (n ∷ p.free) → m < p.count
within p n m h out s = elim (cases_lt m (p.count)) [
  | inl l ↦ l
  | inr l ↦ elim (eqb_tells m n) [
    | inl e ↦ rw e.1 out.0
    | inr e ↦ absurd (omega (arith, h.slots_only m l, rw e.0 at s))
  ]
]

-- where a slot is out, fewer numbers are free than there are slots
pub fewer : (p : Pool) (n : ℕ) → IsPool p → IsOut p n → length p.free + 1 ≤ p.count
fewer p n h out =
    let once : (m : ℕ) → times m (n ∷ p.free) ≤ 1 = λ m. elim (eqb_tells m n) [
      | inl e ↦ rw e.0 (subst (λ k. 1 + times k p.free ≤ 1) (sym e.1) (omega (arith, out.1)))
      | inr e ↦ rw e.0 (omega (arith, h.once m))
    ] in
    omega (arith, length-le_from_distinct_below (n ∷ p.free) (p.count) (distinct (n ∷ p.free) once) (λ q s. within p n q h out (stands q (n ∷ p.free) s)))

-- a number that is taken goes from the free ones to those held
pub held-taken : (m n : ℕ) (free rest held : List ℕ) → free ≡ rest ++ n ∷ [] → times m free + times m held ≤ 1 → times m rest + times m (n ∷ held) ≤ 1
held-taken m n free rest held e h = omega (arith, ap (times m) e, times-append m rest (n ∷ []), h)

-- and back
pub held-given : (m n : ℕ) (free more held : List ℕ) → more ≡ free ++ n ∷ [] → times m free + times m (n ∷ held) ≤ 1 → times m more + times m held ≤ 1
held-given m n free more held e h = omega (arith, ap (times m) e, times-append m free (n ∷ []), h)
