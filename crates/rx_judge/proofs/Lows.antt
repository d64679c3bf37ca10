-- Low coefficients: the test and the facts.
use Rattle.std.proofs.Common.{◌≡◌, refl, Bool, true, false, ◌&&◌, List, [], ◌∷◌, ◌⊎◌, inl, inr, subst, sym, arith}
use Rattle.std.specs.Prelude.{ℤ, pos}
use Rattle.std.specs.List.{list_all, AllByRecursion}
use Rattle.std.proofs.lemmas.Int.{ints}
use Rattle.rx_types.specs.Coefficients.{Unknown, coefficient_of, quotient_coefficients, IsLow, AreLow}
use Rattle.rx_types.specs.Tree.{Tree}
use Rattle.rx_judge.specs.Low.{unknowns_in, is_low, are_low}
use Rattle.rx_judge.proofs.Forms.{Among, counted}

pub both_true : (a b : Bool) → a && b ≡ true → (a ≡ true) × (b ≡ true)
both_true true true h = (refl, refl)
both_true true false h = absurd (cc)
both_true false true h = absurd (cc)
both_true false false h = absurd (cc)

pub low_facts : (z : ℤ) → is_low z ≡ true → IsLow z
low_facts z h = record { above = grind (arith, ints); below = grind (arith, ints) }

zero_is_low : IsLow (pos 0)
zero_is_low = record { above = omega (arith, ints); below = omega (arith, ints) }

all_facts : (zs : List ℤ) → list_all is_low zs ≡ true → AllByRecursion (λ z. IsLow z) zs
all_facts [] h = tt
all_facts (z ∷ zs) h = let b = both_true (is_low z) (list_all is_low zs) h in (low_facts z b.0, all_facts zs b.1)

-- the coefficient of an unknown among those that are tested
low_among : (x : Tree) (us : List Unknown) (u : Unknown) → list_all (λ v. is_low (coefficient_of v x)) us ≡ true → Among u us → IsLow (coefficient_of u x)
low_among x [] u h a = absurd a
low_among x (v ∷ us) u h (inl e) = let b = both_true (is_low (coefficient_of v x)) (list_all (λ w. is_low (coefficient_of w x)) us) h in subst (λ w. IsLow (coefficient_of w x)) e (low_facts (coefficient_of v x) b.0)
low_among x (v ∷ us) u h (inr a) = let b = both_true (is_low (coefficient_of v x)) (list_all (λ w. is_low (coefficient_of w x)) us) h in low_among x us u b.1 a

low_if : (x : Tree) (u : Unknown) → list_all (λ v. is_low (coefficient_of v x)) (unknowns_in x) ≡ true → (coefficient_of u x ≡ pos 0) ⊎ Among u (unknowns_in x) → IsLow (coefficient_of u x)
low_if x u h (inl e) = subst (λ z. IsLow z) (sym e) zero_is_low
low_if x u h (inr a) = low_among x (unknowns_in x) u h a

pub are_low_facts : (x : Tree) → are_low x ≡ true → AreLow x
are_low_facts x h =
    let b = both_true (list_all (λ u. is_low (coefficient_of u x)) (unknowns_in x)) (list_all is_low (quotient_coefficients x)) h in
    record { leaves = λ u. low_if x u b.0 (counted u x); quotients = all_facts (quotient_coefficients x) b.1 }
