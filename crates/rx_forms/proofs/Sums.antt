-- What the operations on sums do to their numbers at a point.
use Rattle.std.proofs.Common.{◌≡◌, sym, ap, ℕ, zero, suc, arith, List, [], ◌∷◌, ◌++◌, replicate, get_or, ℤ, pos, negsuc, ◌+ℤ◌, ◌-ℤ◌, ◌*ℤ◌, neg_ℤ}
use Rattle.std.proofs.lemmas.Int.{ints}
use Rattle.std.proofs.Math.IntN.{zero-*ℤ, *ℤ-zero}
use Rattle.rx_model.specs.Sums.{product_sum}
use Rattle.rx_model.proofs.Ring.{times_add}
use Rattle.rx_model.proofs.Sums.{product_sum-weighted}
use Rattle.rx_forms.specs.declared.linear.Linear.{Linear}
use Rattle.rx_forms.specs.Linear.{at, constant, term, weighted, plus, minus, times, less_one}

one_times : (z : ℤ) → pos 1 *ℤ z ≡ z
one_times z = omega (arith, ints)

less_one_times : (z : ℤ) → negsuc 0 *ℤ z ≡ neg_ℤ z
less_one_times z = omega (arith, ints)

sums : (a b p q c d s : ℤ) → s ≡ a *ℤ p +ℤ b *ℤ q → s +ℤ (a *ℤ c +ℤ b *ℤ d) ≡ a *ℤ (p +ℤ c) +ℤ b *ℤ (q +ℤ d)
sums a b p q c d s e = omega (arith, ints, e, times_add a p c, times_add b q d)

pub at_weighted : (f g : Linear) (a b : ℤ) (point : List ℤ) → at (weighted f a g b) point ≡ a *ℤ at f point +ℤ b *ℤ at g point
at_weighted f g a b point = sums a b _ _ f.constant g.constant _ (product_sum-weighted f.coefficients g.coefficients point a b)

pub at_plus : (f g : Linear) (point : List ℤ) → at (plus f g) point ≡ at f point +ℤ at g point
at_plus f g point = let e = at_weighted f g (pos 1) (pos 1) point in omega (arith, ints)

pub at_minus : (f g : Linear) (point : List ℤ) → at (minus f g) point ≡ at f point -ℤ at g point
at_minus f g point = let e = at_weighted f g (pos 1) (negsuc 0) point in omega (arith, ints)

pub at_times : (k : ℤ) (f : Linear) (point : List ℤ) → at (times k f) point ≡ k *ℤ at f point
at_times k f point = let e = at_weighted f (constant (pos 0)) k (pos 1) point in omega (arith, ints)

chosen : (k : ℤ) (i : ℕ) (point : List ℤ) → product_sum (replicate i (pos 0) ++ k ∷ []) point ≡ k *ℤ get_or point i (pos 0)
chosen k zero [] = sym (*ℤ-zero k)
chosen k zero (x ∷ point) = omega (arith, ints)
chosen k (suc i) [] = sym (*ℤ-zero k)
chosen k (suc i) (x ∷ point) = let e = chosen k i point in omega (arith, ints, zero-*ℤ x)

pub at_term : (k : ℤ) (i : ℕ) (c : ℤ) (point : List ℤ) → at (term k i c) point ≡ k *ℤ get_or point i (pos 0) +ℤ c
at_term k i c point = ap (λ (z : ℤ). z +ℤ c) (chosen k i point)

pub at_variable : (i : ℕ) (point : List ℤ) → at (term (pos 1) i (pos 0)) point ≡ get_or point i (pos 0)
at_variable i point = let e = at_term (pos 1) i (pos 0) point in omega (arith, ints)

pub at_constant : (k : ℤ) (point : List ℤ) → at (constant k) point ≡ k
at_constant k point = omega (arith, ints)

pub at_less_one : (f : Linear) (point : List ℤ) → at (less_one f) point ≡ at f point -ℤ pos 1
at_less_one f point = omega (arith, ints)
