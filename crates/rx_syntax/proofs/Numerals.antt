-- Runs that are numbers.
use Rattle.std.proofs.Common.{◌≡◌, ℕ, ◌^◌, ◌<◌, ◌≤◌, Bool, true, false, ◌&&◌, ◌||◌, not, List, [], ◌∷◌, ◌++◌, length, take, drop, refl, sym, ap, ◌∙◌, subst, arith, Option, Some, None, IfSome, IfNone, ◌==◌, take-append-drop, length-drop, length-append}
use Rattle.std.specs.Prelude.{nat_lt}
use Rattle.std.specs.List.{list_all}
use Rattle.std.proofs.lemmas.Bool.{false≢true, and_parts}
use Rattle.std.proofs.lemmas.Bool.Decides.{nat_tests}
use Rattle.std.proofs.lemmas.List.{take_all}
use Rattle.rx_syntax.specs.Bytes.{is_well_joined}
use Rattle.rx_syntax.specs.Numbers.{begins_with, digit_of, are_digits, value_of, IsBased, IsNumeral, decimal, based, IsNumber}
use Rattle.rx_syntax.specs.Text.{IsRun}
use Rattle.rx_syntax.proofs.Runs.{all_also, all_at, run_unique}

-- a byte other than `#`
abbrev pub no_hash : ℕ → Bool
no_hash b = not (b == 35)

abbrev is_below : ℕ → ℕ → Bool
is_below base b = b == 95 || nat_lt (digit_of b) base

below_of : (base : ℕ) (run : List ℕ) → are_digits base run ≡ true → list_all (is_below base) run ≡ true
below_of base run h =
    let begins = begins_with (λ b. not (b == 95)) run in
    (and_parts (begins && is_well_joined run) (list_all (is_below base) run) h).1

digit_no_hash : (b : ℕ) → is_below 10 b ≡ true → no_hash b ≡ true
digit_no_hash b h = by_test (b == 35) refl
  where
    by_test : (t : Bool) → (b == 35) ≡ t → not t ≡ true
    by_test false e = refl
    by_test true e = absurd (false≢true (subst (λ x. is_below 10 x ≡ true) (let same : b ≡ 35 = grind (arith, nat_tests) in same) h))

digits_no_hash : (run : List ℕ) → are_digits 10 run ≡ true → list_all no_hash run ≡ true
digits_no_hash run h = all_also (is_below 10) no_hash digit_no_hash run (below_of 10 run h)

pub decimal_some : (run : List ℕ) (o : Option ℕ) → IfSome o (λ n. (are_digits 10 run ≡ true) × (n ≡ value_of 10 run) × (n < 2 ^ 127)) → IfSome o (λ n. IsNumber run n)
decimal_some run None h = tt
decimal_some run (Some n) h = record { numeral = subst (IsNumeral run) (sym h.1) (decimal h.0); fits = h.2 }

no_decimal : (run : List ℕ) (n : ℕ) → IsNumeral run n → n < 2 ^ 127 → list_all no_hash run ≡ true → (are_digits 10 run ≡ true → 2 ^ 127 ≤ value_of 10 run) → ⊥
no_decimal run n (decimal d) f h g = let k = g d in omega arith
no_decimal run n (based {base = base} {rest = rest} b) f h g = false≢true (all_at no_hash base 35 rest h)

pub decimal_none : (run : List ℕ) (o : Option ℕ) → list_all no_hash run ≡ true → IfNone o (are_digits 10 run ≡ true → 2 ^ 127 ≤ value_of 10 run) → IfNone o ((n : ℕ) → IsNumber run n → ⊥)
decimal_none run (Some n) h g = tt
decimal_none run None h g = λ n x. no_decimal run n x.numeral x.fits h g

pub based_some : (base rest : List ℕ) (o : Option ℕ) → IfSome o (λ n. IsBased base rest n × (n < 2 ^ 127)) → IfSome o (λ n. IsNumber (base ++ 35 ∷ rest) n)
based_some base rest None h = tt
based_some base rest (Some n) h = record { numeral = based h.0; fits = h.1 }

no_based : (base rest run : List ℕ) (n : ℕ) → IsNumeral run n → run ≡ base ++ 35 ∷ rest → list_all no_hash base ≡ true → (IsBased base rest n → ⊥) → ⊥
no_based base rest run n (decimal d) e h g = false≢true (all_at (is_below 10) base 35 rest (subst (λ r. list_all (is_below 10) r ≡ true) e (below_of 10 run d)))
no_based base rest run n (based {base = base'} {rest = rest'} b) e h g =
    let r : IsRun no_hash base' (35 ∷ rest') = record { all = digits_no_hash base' b.decimal; ends = refl } in
    let s : IsRun no_hash base (35 ∷ rest) = record { all = h; ends = refl } in
    let a = run_unique no_hash base' base (35 ∷ rest') (35 ∷ rest) r s e in
    let rests = a.rests in
    let same : rest' ≡ rest = cc in
    g (subst (λ x. IsBased base x n) same (subst (λ x. IsBased x rest' n) a.fronts b))

pub based_none : (base rest : List ℕ) (o : Option ℕ) → list_all no_hash base ≡ true → IfNone o ((n : ℕ) → IsBased base rest n → n < 2 ^ 127 → ⊥) → IfNone o ((n : ℕ) → IsNumber (base ++ 35 ∷ rest) n → ⊥)
based_none base rest (Some n) h g = tt
based_none base rest None h g = λ n x. no_based base rest (base ++ 35 ∷ rest) n x.numeral refl h (λ b. g n b x.fits)

-- where no byte stands behind the base, the whole run has no `#`
pub no_hash_at_all : (n : ℕ) (run rest : List ℕ) → rest ≡ drop n run → length rest ≡ 0 → list_all no_hash (take n run) ≡ true → list_all no_hash run ≡ true
no_hash_at_all n run rest e z h = subst (λ r. list_all no_hash r ≡ true) (nothing_behind (drop n run) (ap length (sym e) ∙ z)) h
  where
    nothing_behind : (xs : List ℕ) → length xs ≡ 0 → take n run ≡ run
    nothing_behind xs z' = take_all n run (let l = length-drop n run in let e' = ap length e in omega arith)

-- the byte behind the base is a `#`
pub at_hash : (n : ℕ) (run base rest rest' : List ℕ) (b : ℕ) → base ≡ take n run → rest ≡ drop n run → rest ≡ b ∷ rest' → IsRun no_hash (take n run) (drop n run) → run ≡ base ++ 35 ∷ rest'
at_hash n run base rest rest' b e f g r =
    let ends : begins_with no_hash (b ∷ rest') ≡ false = subst (λ xs. begins_with no_hash xs ≡ false) (sym f ∙ g) r.ends in
    let is : b ≡ 35 = grind (arith, nat_tests) in
    let behind : drop n run ≡ 35 ∷ rest' = sym f ∙ g ∙ ap (λ x. x ∷ rest') is in
    sym (take-append-drop n run) ∙ ap (λ xs. take n run ++ xs) behind ∙ ap (λ xs. xs ++ 35 ∷ rest') (sym e)

snoc_same : (xs ys : List ℕ) → xs ++ 35 ∷ [] ≡ ys ++ 35 ∷ [] → xs ≡ ys
snoc_same [] [] e = refl
snoc_same [] (y ∷ ys) e = let l = length-append ys (35 ∷ []) in let l' = ap length e in absurd (omega arith)
snoc_same (x ∷ xs) [] e = let l = length-append xs (35 ∷ []) in let l' = ap length e in absurd (omega arith)
snoc_same (x ∷ xs) (y ∷ ys) e =
    let tails : xs ++ 35 ∷ [] ≡ ys ++ 35 ∷ [] = cc in
    let h = snoc_same xs ys tails in
    cc

based_same : (base base' rest rest' : List ℕ) (n n' : ℕ) → IsBased base rest n → IsBased base' rest' n' → base ++ 35 ∷ rest ≡ base' ++ 35 ∷ rest' → n ≡ n'
based_same base base' rest rest' n n' b b' e =
    let r : IsRun no_hash base (35 ∷ rest) = record { all = digits_no_hash base b.decimal; ends = refl } in
    let r' : IsRun no_hash base' (35 ∷ rest') = record { all = digits_no_hash base' b'.decimal; ends = refl } in
    let a = run_unique no_hash base base' (35 ∷ rest) (35 ∷ rest') r r' e in
    let rests = a.rests in
    let same : rest ≡ rest' = cc in
    let digits = snoc_same b.digits b'.digits (sym b.closed ∙ same ∙ b'.closed) in
    b.value ∙ ap (λ x. value_of (value_of 10 x) b.digits) a.fronts ∙ ap (value_of (value_of 10 base')) digits ∙ sym b'.value

numeral_unique : (run run' : List ℕ) (n n' : ℕ) → IsNumeral run n → IsNumeral run' n' → run ≡ run' → n ≡ n'
numeral_unique run run' n n' (decimal d) (decimal d') e = ap (value_of 10) e
numeral_unique run run' n n' (decimal d) (based {base = base} {rest = rest} b) e = absurd (false≢true (all_at no_hash base 35 rest (subst (λ r. list_all no_hash r ≡ true) e (digits_no_hash run d))))
numeral_unique run run' n n' (based {base = base} {rest = rest} b) (decimal d) e = absurd (false≢true (all_at no_hash base 35 rest (subst (λ r. list_all no_hash r ≡ true) (sym e) (digits_no_hash run' d))))
numeral_unique run run' n n' (based {base = base} {rest = rest} b) (based {base = base'} {rest = rest'} b') e = based_same base base' rest rest' n n' b b' e

-- a run is one number
pub number_unique : (run : List ℕ) (n n' : ℕ) → IsNumber run n → IsNumber run n' → n ≡ n'
number_unique run n n' x y = numeral_unique run run n n' x.numeral y.numeral refl
