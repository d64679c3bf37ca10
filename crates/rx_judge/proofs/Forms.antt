-- Linear forms of expressions: their terms are those of the operators.
use Rattle.std.proofs.Common.{◌≡◌, ◌∙◌, ap, sym, refl, ℕ, Bool, true, false, List, [], ◌∷◌, ◌++◌, map, ◌⊎◌, inl, inr, subst, arith}
use Rattle.std.specs.Prelude.{ℤ, pos, negsuc, neg_ℤ, ◌+ℤ◌, ◌-ℤ◌, ◌*ℤ◌, ◌&&◌, ◌==◌, if◌then◌else◌}
use Rattle.std.specs.List.{list_all}
use Rattle.std.proofs.lemmas.List.{map-append, append-nil}
use Rattle.std.proofs.lemmas.List.Folds.{list_all-map}
use Rattle.std.proofs.lemmas.Int.{ints}
use Rattle.std.proofs.lemmas.Bool.Decides.{nat_tests}
use Rattle.rx_types.specs.declared.expr.Operator.{Operator}
use Rattle.rx_types.specs.declared.expr.Operator.TheVariants as op
use Rattle.rx_types.specs.Coefficients.{Unknown, NumberOf, FirstOf, LastOf, SizeOf, Bits, coefficient_of, quotient_coefficients}
use Rattle.rx_types.specs.Static.{is_static, static_value}
use Rattle.rx_types.specs.Tree.{Tree, Number, Truth, Field, First, Last, Size, Total, Neg, Not, Binary}
use Rattle.rx_judge.specs.Low.{unknowns_in, unknowns_by, is_low, are_low}
use Rattle.std.specs.List.{AllByRecursion}
use Rattle.std.proofs.lemmas.List.Elements.{All-from_recursion, recursion_from_All}
use Rattle.rx_types.specs.Coefficients.{IsLow}
use Rattle.rx_judge.specs.Form.{IsLowForm}
use Rattle.rx_judge.specs.Form.{is_same, coefficient_in, sum_term, scaled_term, code_of, term_of, HasForm}
use Rattle.rx_judge.specs.declared.form.Term.{Term}
use Rattle.rx_judge.specs.declared.form.LinearForm.{LinearForm}

-- ---- unknowns

-- the unknown stands among these
abbrev pub Among : Unknown → List Unknown → Type 0
Among u [] = ⊥
Among u (v ∷ vs) = (v ≡ u) ⊎ Among u vs

among_left : (u : Unknown) (us vs : List Unknown) → Among u us → Among u (us ++ vs)
among_left u [] vs h = absurd h
among_left u (w ∷ us) vs (inl e) = inl e
among_left u (w ∷ us) vs (inr h) = inr (among_left u us vs h)

among_right : (u : Unknown) (us vs : List Unknown) → Among u vs → Among u (us ++ vs)
among_right u [] vs h = h
among_right u (w ∷ us) vs h = inr (among_right u us vs h)

-- the coefficient is 0, or the unknown stands in the expression
abbrev pub Counted : Unknown → Tree → Type 0
Counted u x = (coefficient_of u x ≡ pos 0) ⊎ Among u (unknowns_in x)

same_number : (f g : ℕ) → (f == g) ≡ true → f ≡ g
same_number f g h = grind (arith, nat_tests)

leaf_by : (b : Bool) (u v : Unknown) → (b ≡ true → v ≡ u) → ((if b then pos 1 else pos 0) ≡ pos 0) ⊎ Among u (v ∷ [])
leaf_by true u v h = inr (inl (h refl))
leaf_by false u v h = inl refl

of_number : (u : Unknown) (n : ℤ) → Counted u (Number n)
of_number (NumberOf g) n = inl refl
of_number u n = inl refl

of_truth : (u : Unknown) (b : Bool) → Counted u (Truth b)
of_truth (NumberOf g) b = inl refl
of_truth u b = inl refl

of_not : (u : Unknown) (a : Tree) → Counted u (Not a)
of_not (NumberOf g) a = inl refl
of_not u a = inl refl

of_field : (u : Unknown) (f : ℕ) → Counted u (Field f)
of_field (NumberOf g) f = leaf_by (g == f) (NumberOf g) (NumberOf f) (λ e. ap (λ n. NumberOf n) (sym (same_number g f e)))
of_field u f = inl refl

of_first : (u : Unknown) (f : ℕ) → Counted u (First f)
of_first (FirstOf g) f = leaf_by (g == f) (FirstOf g) (FirstOf f) (λ e. ap (λ n. FirstOf n) (sym (same_number g f e)))
of_first u f = inl refl

of_last : (u : Unknown) (f : ℕ) → Counted u (Last f)
of_last (LastOf g) f = leaf_by (g == f) (LastOf g) (LastOf f) (λ e. ap (λ n. LastOf n) (sym (same_number g f e)))
of_last u f = inl refl

of_size : (u : Unknown) (f : ℕ) → Counted u (Size f)
of_size (SizeOf g) f = leaf_by (g == f) (SizeOf g) (SizeOf f) (λ e. ap (λ n. SizeOf n) (sym (same_number g f e)))
of_size u f = inl refl

of_total : (u : Unknown) → Counted u Total
of_total Bits = inr (inl refl)
of_total u = inl refl

times_zero : (y : ℤ) → y *ℤ pos 0 ≡ pos 0
times_zero y = omega (arith, ints)

zero_times : (y : ℤ) → pos 0 *ℤ y ≡ pos 0
zero_times y = omega (arith, ints)

of_neg : (u : Unknown) (us : List Unknown) (c : ℤ) → (c ≡ pos 0) ⊎ Among u us → (neg_ℤ c ≡ pos 0) ⊎ Among u us
of_neg u us c (inl e) = inl (rw e refl)
of_neg u us c (inr h) = inr h

of_sum : (u : Unknown) (us vs : List Unknown) (c d : ℤ) → (c ≡ pos 0) ⊎ Among u us → (d ≡ pos 0) ⊎ Among u vs → (c +ℤ d ≡ pos 0) ⊎ Among u (us ++ vs)
of_sum u us vs c d (inl e) (inl f) = inl (rw (e, f) refl)
of_sum u us vs c d (inr h) k = inr (among_left u us vs h)
of_sum u us vs c d (inl e) (inr k) = inr (among_right u us vs k)

of_difference : (u : Unknown) (us vs : List Unknown) (c d : ℤ) → (c ≡ pos 0) ⊎ Among u us → (d ≡ pos 0) ⊎ Among u vs → (c -ℤ d ≡ pos 0) ⊎ Among u (us ++ vs)
of_difference u us vs c d (inl e) (inl f) = inl (rw (e, f) refl)
of_difference u us vs c d (inr h) k = inr (among_left u us vs h)
of_difference u us vs c d (inl e) (inr k) = inr (among_right u us vs k)

of_product : (b : Bool) (u : Unknown) (us vs : List Unknown) (y z c d : ℤ) → (c ≡ pos 0) ⊎ Among u us → (d ≡ pos 0) ⊎ Among u vs → ((if b then y *ℤ d else c *ℤ z) ≡ pos 0) ⊎ Among u (us ++ vs)
of_product true u us vs y z c d h (inl f) = inl (rw f (times_zero y))
of_product true u us vs y z c d h (inr k) = inr (among_right u us vs k)
of_product false u us vs y z c d (inl e) k = inl (rw e (zero_times z))
of_product false u us vs y z c d (inr h) k = inr (among_left u us vs h)

counted_by : (o : Operator) (u : Unknown) (a b : Tree) → Counted u a → Counted u b → Counted u (Binary o a b)
counted_by op.Add u a b h k = of_sum u (unknowns_in a) (unknowns_in b) (coefficient_of u a) (coefficient_of u b) h k
counted_by op.Sub u a b h k = of_difference u (unknowns_in a) (unknowns_in b) (coefficient_of u a) (coefficient_of u b) h k
counted_by op.Mul u a b h k = of_product (is_static a) u (unknowns_in a) (unknowns_in b) (static_value a) (static_value b) (coefficient_of u a) (coefficient_of u b) h k
counted_by op.Mod u a b h k = h
counted_by o u a b h k = inl refl

pub counted : (u : Unknown) (x : Tree) → Counted u x
counted u (Number n) = of_number u n
counted u (Truth b) = of_truth u b
counted u (Field f) = of_field u f
counted u (First f) = of_first u f
counted u (Last f) = of_last u f
counted u (Size f) = of_size u f
counted u Total = of_total u
counted u (Neg a) = of_neg u (unknowns_in a) (coefficient_of u a) (counted u a)
counted u (Not a) = of_not u a
counted u (Binary o a b) = counted_by o u a b (counted u a) (counted u b)

-- a static expression has no unknowns that are leaves
both_three : (a b c : Bool) → (a && b && c) ≡ true → (b ≡ true) × (c ≡ true)
both_three true true true h = (refl, refl)
both_three true true false h = cc
both_three true false c h = cc
both_three false b c h = cc

none_by : (o : Operator) (us vs : List Unknown) → us ≡ [] → vs ≡ [] → unknowns_by o us vs ≡ []
none_by op.Add us vs e f = rw (e, f) refl
none_by op.Sub us vs e f = rw (e, f) refl
none_by op.Mul us vs e f = rw (e, f) refl
none_by op.Mod us vs e f = e
none_by o us vs e f = refl

no_unknowns : (x : Tree) → is_static x ≡ true → unknowns_in x ≡ []
no_unknowns (Number n) h = refl
no_unknowns (Neg a) h = no_unknowns a h
no_unknowns (Binary o a b) h = let p = both_three (Rattle.rx_types.specs.Static.is_arithmetic o) (is_static a) (is_static b) h in none_by o (unknowns_in a) (unknowns_in b) (no_unknowns a p.0) (no_unknowns b p.1)
no_unknowns (Truth b) h = refl
no_unknowns (Not a) h = refl
no_unknowns (Field f) h = absurd (cc)
no_unknowns (First f) h = absurd (cc)
no_unknowns (Last f) h = absurd (cc)
no_unknowns (Size f) h = absurd (cc)
no_unknowns Total h = absurd (cc)

-- ---- looking up a coefficient

is_same_code : (u v : Unknown) → is_same (code_of u) (code_of v) ≡ true → u ≡ v
is_same_code (NumberOf f) (NumberOf g) h = ap (λ n. NumberOf n) (same_number f g h)
is_same_code (FirstOf f) (FirstOf g) h = ap (λ n. FirstOf n) (same_number f g h)
is_same_code (LastOf f) (LastOf g) h = ap (λ n. LastOf n) (same_number f g h)
is_same_code (SizeOf f) (SizeOf g) h = ap (λ n. SizeOf n) (same_number f g h)
is_same_code Bits Bits h = refl
is_same_code u v h = absurd (cc)

equal_self : (f : ℕ) → (f == f) ≡ true
equal_self f = grind (arith, nat_tests)

same_self : (u : Unknown) → is_same (code_of u) (code_of u) ≡ true
same_self (NumberOf f) = equal_self f
same_self (FirstOf f) = equal_self f
same_self (LastOf f) = equal_self f
same_self (SizeOf f) = equal_self f
same_self Bits = refl

choose : (b : Bool) (p q r : ℤ) → (b ≡ true → p ≡ r) → (b ≡ false → q ≡ r) → (if b then p else q) ≡ r
choose true p q r f g = f refl
choose false p q r f g = g refl

not_both : (b : Bool) → b ≡ true → b ≡ false → ⊥
not_both true h k = cc
not_both false h k = cc

later : (c : ℤ) (us : List Unknown) (u v : Unknown) → is_same (code_of v) (code_of u) ≡ false → (c ≡ pos 0) ⊎ Among u (v ∷ us) → (c ≡ pos 0) ⊎ Among u us
later c us u v s (inl e) = inl e
later c us u v s (inr (inl e)) = absurd (not_both (is_same (code_of u) (code_of u)) (same_self u) (subst (λ w. is_same (code_of w) (code_of u) ≡ false) e s))
later c us u v s (inr (inr k)) = inr k

look : (x : Tree) (us : List Unknown) (u : Unknown) → (coefficient_of u x ≡ pos 0) ⊎ Among u us → coefficient_in (map (term_of x) us) (code_of u) ≡ coefficient_of u x
look x [] u (inl e) = sym e
look x [] u (inr h) = absurd h
look x (v ∷ us) u h =
    choose (is_same (code_of v) (code_of u)) (coefficient_of v x) (coefficient_in (map (term_of x) us) (code_of u)) (coefficient_of u x)
    (λ s. ap (λ w. coefficient_of w x) (is_same_code v u s))
    (λ s. look x us u (later (coefficient_of u x) us u v s h))

look_up : (x : Tree) (u : Unknown) → coefficient_in (map (term_of x) (unknowns_in x)) (code_of u) ≡ coefficient_of u x
look_up x u = look x (unknowns_in x) u (counted u x)

-- ---- forms of operators

abbrev terms_of : Tree → List Term
terms_of x = map (term_of x) (unknowns_in x)

sum_part : (a b x : Tree) (us : List Unknown) → map (sum_term (terms_of a) (terms_of b)) (map (term_of x) us) ≡ map (term_of (Binary op.Add a b)) us
sum_part a b x [] = refl
sum_part a b x (u ∷ us) = rw (look_up a u, look_up b u, sum_part a b x us) refl

sum_all : (a b : Tree) → map (sum_term (terms_of a) (terms_of b)) (terms_of a ++ terms_of b) ≡ terms_of (Binary op.Add a b)
sum_all a b =
    let f = sum_term (terms_of a) (terms_of b) in
    let g = term_of (Binary op.Add a b) in
    map-append f (terms_of a) (terms_of b)
    ∙ ap (λ ts. ts ++ map f (terms_of b)) (sum_part a b a (unknowns_in a))
    ∙ ap (λ ts. map g (unknowns_in a) ++ ts) (sum_part a b b (unknowns_in b))
    ∙ sym (map-append g (unknowns_in a) (unknowns_in b))

pub sum_form : (l r f : LinearForm) (a b : Tree) → HasForm l a → HasForm r b → f.terms.items ≡ map (sum_term l.terms.items r.terms.items) (l.terms.items ++ r.terms.items) → f.quotients.items ≡ l.quotients.items ++ r.quotients.items → HasForm f (Binary op.Add a b)
sum_form l r f a b h k t q = record { terms = t ∙ rw (h.terms, k.terms) (sum_all a b); quotients = q ∙ rw (h.quotients, k.quotients) refl }

minus : (c d : ℤ) → c +ℤ neg_ℤ d ≡ c -ℤ d
minus c d = omega (arith, ints)

sub_terms : (a b : Tree) (us : List Unknown) → map (term_of (Binary op.Add a (Neg b))) us ≡ map (term_of (Binary op.Sub a b)) us
sub_terms a b [] = refl
sub_terms a b (u ∷ us) = rw (minus (coefficient_of u a) (coefficient_of u b), sub_terms a b us) refl

pub difference_form : (f : LinearForm) (a b : Tree) → HasForm f (Binary op.Add a (Neg b)) → HasForm f (Binary op.Sub a b)
difference_form f a b h = record { terms = h.terms ∙ sub_terms a b (unknowns_in a ++ unknowns_in b); quotients = h.quotients }

times_terms : (z : ℤ) (a y : Tree) → ((u : Unknown) → z *ℤ coefficient_of u a ≡ coefficient_of u y) → (us : List Unknown) → map (scaled_term z) (map (term_of a) us) ≡ map (term_of y) us
times_terms z a y h [] = refl
times_terms z a y h (u ∷ us) = rw (h u, times_terms z a y h us) refl

scaled_form : (z : ℤ) (l f : LinearForm) (a y : Tree) → HasForm l a → f.terms.items ≡ map (scaled_term z) l.terms.items → f.quotients.items ≡ map (λ c. z *ℤ c) l.quotients.items → unknowns_in y ≡ unknowns_in a → ((u : Unknown) → z *ℤ coefficient_of u a ≡ coefficient_of u y) → quotient_coefficients y ≡ map (λ c. z *ℤ c) (quotient_coefficients a) → HasForm f y
scaled_form z l f a y h t q e c k = record {
  terms = t ∙ rw (h.terms, e) (times_terms z a y c (unknowns_in a));
  quotients = q ∙ rw (h.quotients, k) refl;
}

minus_one : (c : ℤ) → negsuc 0 *ℤ c ≡ neg_ℤ c
minus_one c = omega (arith, ints)

map_minus : (cs : List ℤ) → map neg_ℤ cs ≡ map (λ c. negsuc 0 *ℤ c) cs
map_minus [] = refl
map_minus (c ∷ cs) = rw (minus_one c, map_minus cs) refl

pub negative_form : (l f : LinearForm) (a : Tree) → HasForm l a → f.terms.items ≡ map (scaled_term (negsuc 0)) l.terms.items → f.quotients.items ≡ map (λ c. negsuc 0 *ℤ c) l.quotients.items → HasForm f (Neg a)
negative_form l f a h t q = scaled_form (negsuc 0) l f a (Neg a) h t q refl (λ u. minus_one (coefficient_of u a)) (map_minus (quotient_coefficients a))

true_branch : {A : Type 0} (b : Bool) (x y : A) → b ≡ true → x ≡ (if b then x else y)
true_branch true x y h = refl
true_branch false x y h = absurd (cc)

false_branch : {A : Type 0} (b : Bool) (x y : A) → b ≡ false → y ≡ (if b then x else y)
false_branch false x y h = refl
false_branch true x y h = absurd (cc)

-- a product with a static left side
pub left_form : (l f : LinearForm) (a b : Tree) → HasForm l b → is_static a ≡ true → f.terms.items ≡ map (scaled_term (static_value a)) l.terms.items → f.quotients.items ≡ map (λ c. static_value a *ℤ c) l.quotients.items → HasForm f (Binary op.Mul a b)
left_form l f a b h s t q =
    scaled_form (static_value a) l f b (Binary op.Mul a b) h t q
    (ap (λ us. us ++ unknowns_in b) (no_unknowns a s))
    (λ u. true_branch (is_static a) (static_value a *ℤ coefficient_of u b) (coefficient_of u a *ℤ static_value b) s)
    (sym (true_branch (is_static a) (map (λ d. static_value a *ℤ d) (quotient_coefficients b)) (map (λ c. c *ℤ static_value b) (quotient_coefficients a)) s))

swapped : (z c : ℤ) → z *ℤ c ≡ c *ℤ z
swapped z c = omega (arith, ints)

map_swapped : (z : ℤ) (cs : List ℤ) → map (λ c. c *ℤ z) cs ≡ map (λ c. z *ℤ c) cs
map_swapped z [] = refl
map_swapped z (c ∷ cs) = rw (swapped z c, map_swapped z cs) refl

-- a product whose right side alone is static
pub right_form : (l f : LinearForm) (a b : Tree) → HasForm l a → is_static a ≡ false → is_static b ≡ true → f.terms.items ≡ map (scaled_term (static_value b)) l.terms.items → f.quotients.items ≡ map (λ c. static_value b *ℤ c) l.quotients.items → HasForm f (Binary op.Mul a b)
right_form l f a b h n s t q =
    scaled_form (static_value b) l f a (Binary op.Mul a b) h t q
    (ap (λ us. unknowns_in a ++ us) (no_unknowns b s) ∙ append-nil (unknowns_in a))
    (λ u. swapped (static_value b) (coefficient_of u a) ∙ false_branch (is_static a) (static_value a *ℤ coefficient_of u b) (coefficient_of u a *ℤ static_value b) n)
    (sym (false_branch (is_static a) (map (λ d. static_value a *ℤ d) (quotient_coefficients b)) (map (λ c. c *ℤ static_value b) (quotient_coefficients a)) n) ∙ map_swapped (static_value b) (quotient_coefficients a))

pub remainder_form : (l f : LinearForm) (a b : Tree) → HasForm l a → f.terms.items ≡ l.terms.items → f.quotients.items ≡ l.quotients.items ++ neg_ℤ (static_value b) ∷ [] → HasForm f (Binary op.Mod a b)
remainder_form l f a b h t q = record { terms = t ∙ h.terms; quotients = q ∙ rw (h.quotients) refl }

-- ---- low forms

pub low_same : (f : LinearForm) (x : Tree) → HasForm f x → (list_all (λ t. is_low t.coefficient) f.terms.items && list_all is_low f.quotients.items) ≡ are_low x
low_same f x h = rw (h.terms, h.quotients, list_all-map (λ (t : Term). is_low t.coefficient) (term_of x) (unknowns_in x)) refl

minus_low : (c : ℤ) → IsLow c → IsLow (negsuc 0 *ℤ c)
minus_low c h = record { above = omega (arith, ints, h); below = omega (arith, ints, h) }

minus_terms : (ts : List Term) → AllByRecursion (λ t. IsLow t.coefficient) ts → AllByRecursion (λ t. IsLow t.coefficient) (map (scaled_term (negsuc 0)) ts)
minus_terms [] h = tt
minus_terms (t ∷ ts) h = (minus_low t.coefficient h.0, minus_terms ts h.1)

minus_numbers : (zs : List ℤ) → AllByRecursion (λ z. IsLow z) zs → AllByRecursion (λ z. IsLow z) (map (λ c. negsuc 0 *ℤ c) zs)
minus_numbers [] h = tt
minus_numbers (z ∷ zs) h = (minus_low z h.0, minus_numbers zs h.1)

pub minus_low_form : (l f : LinearForm) → IsLowForm l → f.terms.items ≡ map (scaled_term (negsuc 0)) l.terms.items → f.quotients.items ≡ map (λ c. negsuc 0 *ℤ c) l.quotients.items → IsLowForm f
minus_low_form l f h t q = record {
  terms = rw t (All-from_recursion (λ (t : Term). IsLow t.coefficient) (map (scaled_term (negsuc 0)) l.terms.items) (minus_terms l.terms.items (recursion_from_All (λ (t : Term). IsLow t.coefficient) l.terms.items h.terms)));
  quotients = rw q (All-from_recursion (λ z. IsLow z) (map (λ c. negsuc 0 *ℤ c) l.quotients.items) (minus_numbers l.quotients.items (recursion_from_All (λ z. IsLow z) l.quotients.items h.quotients)));
}
