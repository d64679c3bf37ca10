-- One less than a sum, variables that are truth values, and what a callee's answer makes of one's own.
use Rattle.std.proofs.Common.{◌≡◌, refl, sym, ap, ◌∙◌, ℕ, zero, suc, arith, List, [], ◌∷◌, ◌++◌, map, replicate, Bool, true, false, ℤ, pos, negsuc, neg_ℤ, ◌*ℤ◌, ◌+ℤ◌, ◌-ℤ◌, Option, Some, None, IfOk, IfErr, OnOk, Ok, Err, Result}
use Rattle.std.proofs.lemmas.Int.{ints}
use Rattle.rx_model.specs.Sums.{weighted_sum}
use Rattle.rx_forms.specs.declared.fault.FormFault.{FormFault}
use Rattle.rx_forms.specs.declared.fault.FormFault.TheVariants.{PathLimit}
use Rattle.rx_forms.specs.declared.linear.Linear.{Linear}
use Rattle.rx_forms.specs.declared.linear.Form.{AtLeast}
use Rattle.rx_forms.specs.Linear.{constant, minus, less_one, equal}
use Rattle.rx_forms.specs.Normal.{joined}
use Rattle.rx_forms.specs.Code.{number_by}
use Rattle.rx_forms.specs.Expressions.{multiple}

-- ---- one less

one_times : (z : ℤ) → pos 1 *ℤ z ≡ z
one_times z = omega (arith, ints)

each_once : (cs : List ℤ) → weighted_sum cs (pos 1) [] (negsuc 0) ≡ cs
each_once [] = refl
each_once (c ∷ cs) = ap (λ (z : ℤ). z ∷ weighted_sum cs (pos 1) [] (negsuc 0)) (one_times c) ∙ ap (λ (zs : List ℤ). c ∷ zs) (each_once cs)

less_by_one : (c : ℤ) → pos 1 *ℤ c +ℤ negsuc 0 *ℤ pos 1 ≡ c -ℤ pos 1
less_by_one c = omega (arith, ints)

abbrev made_of : List ℤ → ℤ → Linear
made_of cs k = record { coefficients = cs; constant = k }

pub one_less_is : (f : Linear) → minus f (constant (pos 1)) ≡ less_one f
one_less_is f =
    ap (λ (cs : List ℤ). made_of cs (pos 1 *ℤ f.constant +ℤ negsuc 0 *ℤ pos 1)) (each_once f.coefficients)
    ∙ ap (λ (z : ℤ). made_of f.coefficients z) (less_by_one f.constant)

-- ---- truth values

opposite_of : (i : ℕ) → map (λ r. negsuc 0 *ℤ r) (replicate i (pos 0) ++ pos 1 ∷ []) ≡ replicate i (pos 0) ++ negsuc 0 ∷ []
opposite_of zero = refl
opposite_of (suc i) = ap (λ (zs : List ℤ). pos 0 ∷ zs) (opposite_of i)

less_zero : (b : ℤ) → pos 1 *ℤ pos 0 +ℤ negsuc 0 *ℤ b ≡ neg_ℤ b
less_zero b = omega (arith, ints)

no_less : (b : ℤ) → pos 1 *ℤ b +ℤ negsuc 0 *ℤ pos 0 ≡ b
no_less b = omega (arith, ints)

at_least_number : (v : Option ℕ) (b : ℤ) → minus (number_by v) (constant b) ≡ multiple (pos 1) v (neg_ℤ b)
at_least_number None b = ap (λ (z : ℤ). made_of [] z) (less_zero b)
at_least_number (Some i) b =
    ap (λ (cs : List ℤ). made_of cs (pos 1 *ℤ pos 0 +ℤ negsuc 0 *ℤ b)) (each_once (replicate i (pos 0) ++ pos 1 ∷ []))
    ∙ ap (λ (z : ℤ). made_of (replicate i (pos 0) ++ pos 1 ∷ []) z) (less_zero b)

at_most_number : (v : Option ℕ) (b : ℤ) → minus (constant b) (number_by v) ≡ multiple (negsuc 0) v b
at_most_number None b = ap (λ (z : ℤ). made_of [] z) (no_less b)
at_most_number (Some i) b =
    ap (λ (cs : List ℤ). made_of cs (pos 1 *ℤ b +ℤ negsuc 0 *ℤ pos 0)) (opposite_of i)
    ∙ ap (λ (z : ℤ). made_of (replicate i (pos 0) ++ negsuc 0 ∷ []) z) (no_less b)

-- a variable is a number
pub is_number : (v : Option ℕ) (b : ℤ) (f g : Linear) → f ≡ multiple (pos 1) v (neg_ℤ b) → g ≡ multiple (negsuc 0) v b → joined true (AtLeast f) (AtLeast g) ≡ equal (number_by v) (constant b)
is_number v b f g p q =
    ap (λ (h : Linear). joined true (AtLeast h) (AtLeast g)) (p ∙ sym (at_least_number v b))
    ∙ ap (λ (h : Linear). joined true (AtLeast (minus (number_by v) (constant b))) (AtLeast h)) (q ∙ sym (at_most_number v b))

-- ---- answers

-- what follows from a value and from another fact of an `Ok`
pub both_ok : {T E : Type 0} (r : Result T E) (P R : T → Type 0) (Q : Type 0) → ((v : T) → P v → Q → R v) → IfOk r P → OnOk r Q → IfOk r R
both_ok (Ok v) P R Q f p q = f v p q
both_ok (Err e) P R Q f p q = tt

-- a test that fails at the limit makes another fail
pub fails_too : {T : Type 0} (r : Result T FormFault) (a b : Bool) → (a ≡ false → b ≡ false) → IfErr r (λ e. e ≡ PathLimit → a ≡ false) → IfErr r (λ e. e ≡ PathLimit → b ≡ false)
fails_too (Ok v) a b f h = tt
fails_too (Err e) a b f h = λ k. f (h k)
