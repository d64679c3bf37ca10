-- Numbers of at most 63 bits.
use Rattle.std.proofs.Common.{◌≡◌, refl, ℕ, ◌^◌, ◌≤◌, true, ◌&&◌, List, [], ◌∷◌, arith}
use Rattle.std.specs.Prelude.{ℤ, pos, negsuc, int_le, int_lt, nat_abs}
use Rattle.std.proofs.lemmas.Int.{ints}
use Rattle.std.proofs.lemmas.Bool.Decides.{nat_tests}
use Rattle.std.proofs.Math.Pow.{pow_mono}
use Rattle.rx_judge.specs.Scalar.{is_size, is_some_list, is_distinct, are_numbers, are_literals}
use Rattle.rx_judge.proofs.Lows.{both_true}

at_most_63 : (n : ℤ) → is_size n ≡ true → 2 ^ nat_abs n ≤ 2 ^ 63
at_most_63 (pos k) s = let b : k ≤ 63 = grind (arith, ints, nat_tests) in pow_mono b
at_most_63 (negsuc k) s = absurd (cc)

in_range : (m : ℕ) (z : ℤ) → m ≤ 2 ^ 63 → int_le (pos 0) z && int_lt z (pos m) ≡ true → int_le (pos 0) z && int_lt z (pos (2 ^ 63)) ≡ true
in_range m (pos z) b h = grind (arith, ints, nat_tests)
in_range m (negsuc z) b h = h

pub wider : (n : ℤ) (zs : List ℤ) → is_size n ≡ true → are_numbers n zs ≡ true → are_numbers (pos 63) zs ≡ true
wider n [] s h = refl
wider n (z ∷ zs) s h =
    let b = both_true (int_le (pos 0) z && int_lt z (pos (2 ^ nat_abs n))) (are_numbers n zs) h in
    rw (in_range (2 ^ nat_abs n) z (at_most_63 n s) b.0, wider n zs s b.1) refl

-- the numbers of an enumeration have 63 bits
pub literals_fit : (n : ℤ) (zs : List ℤ) → are_literals n zs ≡ true → are_numbers (pos 63) zs ≡ true
literals_fit n zs h =
    let a = both_true (is_size n && is_some_list zs && are_numbers n zs) (is_distinct zs) h in
    let b = both_true (is_size n && is_some_list zs) (are_numbers n zs) a.0 in
    let c = both_true (is_size n) (is_some_list zs) b.0 in
    wider n zs c.0 b.1
