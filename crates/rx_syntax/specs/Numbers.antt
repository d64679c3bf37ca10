-- Numbers as they are written: `digit_of`, `are_digits`, `value_of`, `IsNumeral`, `IsNumber`.
use Rattle.std.specs.Prelude.{◌≡◌, ℕ, ◌+◌, ◌-◌, ◌*◌, ◌^◌, ◌<◌, ◌≤◌, Bool, true, false, nat_le, nat_lt, ◌==◌, ◌&&◌, ◌||◌, not, if◌then◌else◌, List, [], ◌∷◌, ◌++◌, fold}
use Rattle.std.specs.List.{list_all}
use Rattle.rx_syntax.specs.Bytes.{is_digit, is_well_joined}

-- the first byte, if there is one, passes the test
abbrev pub begins_with : (ℕ → Bool) → List ℕ → Bool
begins_with p [] = false
begins_with p (b ∷ bytes) = p b

-- the number of a digit, in either case; 16 where it is none
abbrev pub digit_of : ℕ → ℕ
digit_of b = if is_digit b then b - 48 else (if nat_le 65 b && nat_le b 70 then b - 55 else (if nat_le 97 b && nat_le b 102 then b - 87 else 16))

-- digits below the base, with single `_` between digits
abbrev pub are_digits : ℕ → List ℕ → Bool
are_digits base run = begins_with (λ b. not (b == 95)) run && is_well_joined run && list_all (λ b. b == 95 || nat_lt (digit_of b) base) run

-- the number of such digits
abbrev pub value_of : ℕ → List ℕ → ℕ
value_of base run = fold (λ n b. if b == 95 then n else base * n + digit_of b) 0 run

-- a base from 2 to 16 in decimal digits, and behind its `#` digits below it and another `#`
pub record IsBased (base rest : List ℕ) (n : ℕ) : Type 0 where
  pub decimal : are_digits 10 base ≡ true
  pub low : 2 ≤ value_of 10 base
  pub high : value_of 10 base ≤ 16
  pub digits : List ℕ
  pub closed : rest ≡ digits ++ 35 ∷ []
  pub below : are_digits (value_of 10 base) digits ≡ true
  pub value : n ≡ value_of (value_of 10 base) digits

-- decimal digits, or a base and its digits
pub data IsNumeral : List ℕ → ℕ → Type 0 where
  decimal : {run : List ℕ} → are_digits 10 run ≡ true → IsNumeral run (value_of 10 run)
  based : {base rest : List ℕ} {n : ℕ} → IsBased base rest n → IsNumeral (base ++ 35 ∷ rest) n

-- a number that a token may have
pub record IsNumber (run : List ℕ) (n : ℕ) : Type 0 where
  pub numeral : IsNumeral run n
  pub fits : n < 2 ^ 127
