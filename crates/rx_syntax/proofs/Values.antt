-- The number of digits, one byte after the other.
use Rattle.std.proofs.Common.{◌≢◌, IfNone, Option, Some, None, ◌≡◌, ℕ, ◌+◌, ◌*◌, mul-le-mul, ◌<◌, ◌≤◌, Bool, true, false, cond, List, [], ◌∷◌, ◌++◌, length, take, drop, get_or, ap, ◌∙◌, arith, take-append-drop, ◌==◌}
use Rattle.std.specs.Prelude.{fold}
use Rattle.std.proofs.lemmas.Bool.Decides.{nat_tests}
use Rattle.std.proofs.lemmas.List.{take_more}
use Rattle.std.proofs.lemmas.List.Sums.{fold-append}
use Rattle.rx_syntax.specs.Numbers.{digit_of, value_of}

-- one byte more
abbrev pub with_digit : ℕ → ℕ → ℕ → ℕ
with_digit base n b = cond (b == 95) n (base * n + digit_of b)

grows_by : (skip : Bool) (base n d : ℕ) → 1 ≤ base → n ≤ cond skip n (base * n + d)
grows_by true base n d h = omega arith
grows_by false base n d h = let m : 1 * n ≤ base * n = mul-le-mul {n₁ = 1} {m₁ = n} {n₂ = base} {m₂ = n} h (omega arith) in omega arith

-- more bytes make no smaller number
fold_grows : (base n : ℕ) (run : List ℕ) → 1 ≤ base → n ≤ fold (with_digit base) n run
fold_grows base n [] h = omega arith
fold_grows base n (b ∷ run) h = let one = grows_by (b == 95) base n (digit_of b) h in let more = fold_grows base (with_digit base n b) run h in omega arith

pub value_of-take_more : (base : ℕ) (run : List ℕ) (i : ℕ) → i < length run → value_of base (take (i + 1) run) ≡ with_digit base (value_of base (take i run)) (get_or run i 0)
value_of-take_more base run i within = ap (value_of base) (take_more run i 0 within) ∙ fold-append (with_digit base) 0 (take i run) (get_or run i 0 ∷ [])

pub value_of-take : (base : ℕ) (run : List ℕ) (i : ℕ) → 1 ≤ base → value_of base (take i run) ≤ value_of base run
value_of-take base run i h =
    let whole : value_of base (take i run ++ drop i run) ≡ value_of base run = ap (value_of base) (take-append-drop i run) in
    let parts : value_of base (take i run ++ drop i run) ≡ fold (with_digit base) (value_of base (take i run)) (drop i run) = fold-append (with_digit base) 0 (take i run) (drop i run) in
    let grows = fold_grows base (value_of base (take i run)) (drop i run) h in
    omega arith

-- a byte that is no `_` is a digit more
pub digit_more : (base n b : ℕ) → b ≢ 95 → with_digit base n b ≡ base * n + digit_of b
digit_more base n b h = grind (arith, nat_tests)

pub if_none : {T P : Type 0} (o : Option T) → P → IfNone o P
if_none None h = h
if_none (Some x) h = tt
