-- Numbers in words: `is_numeral`, `decimal`, `number_in`.
use Rattle.std.specs.Prelude.{ℕ, ◌+◌, ◌-◌, ◌*◌, Bool, false, ◌&&◌, ◌==◌, not, nat_le, List, [], ◌∷◌, Option, Some, None, fold, if◌then◌else◌}
use Rattle.std.specs.List.{list_all}
use Rattle.rx_syntax.specs.Bytes.{is_digit}

-- digits, at least one, the first of them not 0
abbrev pub is_numeral : List ℕ → Bool
is_numeral [] = false
is_numeral (b ∷ bs) = not (b == 48) && list_all is_digit (b ∷ bs)

-- the number of decimal digits
abbrev pub decimal : List ℕ → ℕ
decimal digits = fold (λ n digit. 10 * n + (digit - 48)) 0 digits

-- the number that the text is, if it is one from the least to the most
abbrev pub number_in : ℕ → ℕ → List ℕ → Option ℕ
number_in least most text = if is_numeral text && (nat_le (decimal text) most && nat_le least (decimal text)) then Some (decimal text) else None
