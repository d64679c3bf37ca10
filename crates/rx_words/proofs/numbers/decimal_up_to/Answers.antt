use Rattle.std.proofs.Common.{◌≡◌, ℕ, zero, suc, ◌+◌, ◌-◌, ◌*◌, ◌<◌, ◌≤◌, nat_le, Bool, true, false, List, [], ◌∷◌, length, get_or, take, Option, Some, None, fold, refl, cond, arith}
use Rattle.std.proofs.lemmas.Bool.Decides.{nat_tests}
use Rattle.rx_words.specs.Numbers.{decimal}
use Rattle.rx_words.proofs.numbers.decimal_up_to.Goals as goal

abbrev step : ℕ → ℕ → ℕ
step n digit = 10 * n + (digit - 48)

-- more digits make no smaller number
grows : (n : ℕ) (digits : List ℕ) → n ≤ fold step n digits
grows n [] = omega arith
grows n (d ∷ digits) = let rest = grows (step n d) digits in omega arith

over : (n : ℕ) (digits : List ℕ) (i : ℕ) → i < length digits → step (fold step n (take i digits)) (get_or digits i 0) ≤ fold step n digits
over n [] i within = absurd (omega arith)
over n (d ∷ digits) zero within = grows (step n d) digits
over n (d ∷ digits) (suc i) within = over (step n d) digits i (omega arith)

none_above : (n most : ℕ) → most < n → None ≡ cond (nat_le n most) (Some n) None
none_above n most above = go (nat_le n most) (let e : nat_le n most ≡ false = grind (arith, nat_tests) in e)
  where
    go : (b : Bool) → b ≡ false → None ≡ cond b (Some n) None
    go true e = absurd (let no : true ≡ false = e in cc)
    go false e = refl

pub returns-then-number-most : goal.returns-then-number-most
returns-then-number-most c =
    let digits = c.args.digits.now in
    let least = over 0 digits c.loop-digit.digit-index (omega arith) in
    none_above (decimal digits) c.args.most (omega (arith, least))
