-- No number of a scalar type is above the greatest.
use Rattle.std.proofs.Common.{ℕ, zero, suc, ◌<◌, ◌≤◌, Bool, true, false, List, [], ◌∷◌, length, ap, arith}
use Rattle.std.specs.Prelude.{slice_index_or}
use Rattle.rx_types.specs.declared.scalar.Literal.{Literal}
use Rattle.rx_types.specs.Domain.{Domain, Integer, Enumeration, IsLiteral, IsNumberOf, greatest, greatest_literal, numbers_of, greatest_of}

literal-le_greatest : (literals : List Literal) (k : ℕ) (d : Literal) → k < length literals → (slice_index_or literals k d).number ≤ greatest (numbers_of literals)
literal-le_greatest [] k d h = absurd (omega arith)
literal-le_greatest (l ∷ ls) zero d h = omega arith
literal-le_greatest (l ∷ ls) (suc k) d h = omega (arith, literal-le_greatest ls k d (omega arith))

of_literals : (literals : List Literal) (size : ℕ) (always_valid : Bool) (n : ℕ) → IsLiteral literals size always_valid n → n ≤ greatest_literal literals size always_valid
of_literals literals size true n h = omega arith
of_literals literals size false n h = let e = ap (λ l. l.number) h.1.2 in let f = h.2 in omega (arith, literal-le_greatest literals h.1.0 h.0 h.1.1, e, f)

pub number-le_greatest : (t : Domain) (n : ℕ) → IsNumberOf t n → n ≤ greatest_of t
number-le_greatest (Integer first last size) n h = h.1
number-le_greatest (Enumeration literals size always_valid) n h = of_literals literals size always_valid n h
