-- Two numbers under an operator, in a message without fields.
use Rattle.std.proofs.Common.{◌≡◌, ℕ, ◌<◌, ◌^◌, [], true, arith}
use Rattle.std.specs.Prelude.{ℤ}
use Rattle.std.proofs.lemmas.Int.{ints}
use Rattle.rx_types.specs.declared.expr.Operator.{Operator}
use Rattle.rx_types.specs.Environment.{in_message}
use Rattle.rx_types.specs.Narrow.{single, interval_by, is_short, is_divisor_in, IsNarrow, StaysWithin}
use Rattle.rx_types.specs.Tree.{Number, Binary}
use Rattle.rx_types.proofs.Short.{short_facts, divisor_in_facts}

abbrev pub none : ℕ → ℕ
none f = 0

pub without_fields : (total : ℕ) → total < 2 ^ 24 → StaysWithin none (in_message total [])
without_fields total h =
    record {
      total = h;
      fields = λ f. record { first_above = omega (arith, ints); first_below = omega (arith, ints); size_above = omega (arith, ints); size_below = omega (arith, ints); last_below = omega (arith, ints); number = omega arith };
    }

pub two_numbers : (o : Operator) (a b : ℤ) → is_short (single a) ≡ true → is_short (single b) ≡ true → is_short (interval_by o (single a) (single b)) ≡ true → is_divisor_in o (single b) ≡ true → IsNarrow none (Binary o (Number a) (Number b))
two_numbers o a b h k r d = (short_facts _ r, divisor_in_facts o _ d, short_facts _ h, short_facts _ k)
