-- Bits of bytes that are set one after the other.
use Rattle.std.proofs.Common.{◌≡◌, ◌≢◌, ℕ, suc, ◌+◌, ◌-◌, ◌*◌, ◌/◌, ◌%◌, ◌^◌, ◌<◌, inl, inr, List, length, get_or, set, refl, sym, ap, ◌∙◌, arith, bit_and, Bool, true, false, if◌then◌else◌, ◌==◌}
use Rattle.std.proofs.lemmas.List.{get_or-set_same, get_or-set_other}
use Rattle.std.specs.Int.{bit_at as bit_of}
use Rattle.std.proofs.lemmas.Nat.Bits.{bit_at-lt, shr_and_one}
use Rattle.std.proofs.lemmas.Nat.{shr-shr}
use Rattle.std.proofs.lemmas.Bool.Decides.{Decides-eqb}
use Rattle.rx_model.specs.Bits.{bit_at, number_at}
use Rattle.rx_bits.specs.Outside.{SameOutside}
use Rattle.rx_bits.proofs.Places.{same_number}

-- bit k has the value, and no other bit has changed
pub record IsSet (bytes new : List ℕ) (k bit : ℕ) : Type 0 where
  pub here : bit_at new k ≡ bit
  pub others : (i : ℕ) → i ≢ k → bit_at new i ≡ bit_at bytes i

true_false : true ≡ false → ⊥
true_false e = cc

by_byte :
    (bytes : List ℕ) (at b k i : ℕ) → at ≡ k / 8 → at < length bytes → ((j : ℕ) → j < 8 → j ≢ 7 - k % 8 → bit_of b j ≡ bit_of (get_or bytes at 0) j) → i ≢ k → (d : Bool) → (i / 8 == at) ≡ d
    → bit_at (set bytes at b) i ≡ bit_at bytes i
by_byte bytes at b k i e within others apart true h =
    let same : i / 8 ≡ at = (Decides-eqb (i / 8) at).0 h in
    let low : 7 - i % 8 < 8 = omega arith in
    let differs : 7 - i % 8 ≢ 7 - k % 8 = λ z. apart (omega (arith, e, same, z)) in
    rw (same, get_or-set_same bytes at b 0 within) (others (7 - i % 8) low differs)
by_byte bytes at b k i e within others apart false h =
    let other : i / 8 ≢ at = λ z. true_false (sym ((Decides-eqb (i / 8) at).1 z) ∙ h) in
    ap (λ x. x / 2 ^ (7 - i % 8) % 2) (get_or-set_other bytes at (i / 8) b 0 other)

-- a byte whose bit is set, in its place
pub sets :
    (bytes : List ℕ) (at b k bit : ℕ) → at ≡ k / 8 → at < length bytes → bit_of b (7 - k % 8) ≡ bit → ((j : ℕ) → j < 8 → j ≢ 7 - k % 8 → bit_of b j ≡ bit_of (get_or bytes at 0) j)
    → IsSet bytes (set bytes at b) k bit
sets bytes at b k bit e within here others =
    record {
      here = rw (sym e, get_or-set_same bytes at b 0 within) here;
      others = λ i apart. by_byte bytes at b k i e within others apart (i / 8 == at) refl;
    }

-- the next bit of a number
next_bit : (n size index : ℕ) → index < size → n / 2 ^ (size - (index + 1)) ≡ 2 * (n / 2 ^ (size - index)) + bit_of n (size - 1 - index)
next_bit n size index h =
    let k = size - 1 - index in
    let now : size - (index + 1) ≡ k = omega arith in
    let before : size - index ≡ k + 1 = omega arith in
    let half : n / 2 ^ k / 2 ≡ n / 2 ^ (k + 1) = shr-shr n k 1 in
    rw (now, before, sym half) (omega arith)

truth_if : (n i : ℕ) (x : ℕ) → x ≡ bit_of n i → (b : Bool) → (x == 1) ≡ b → (if b then 1 else 0) ≡ bit_of n i
truth_if n i x e true h = sym ((Decides-eqb x 1).0 h) ∙ e
truth_if n i x e false h =
    let other : x ≢ 1 = λ z. true_false (sym ((Decides-eqb x 1).1 z) ∙ h) in
    omega (arith, other, e, bit_at-lt n i)

-- the test of bit i
pub tested_bit : (n i : ℕ) → (if bit_and (n / 2 ^ i) 1 == 1 then 1 else 0) ≡ bit_of n i
tested_bit n i = truth_if n i (bit_and (n / 2 ^ i) 1) (shr_and_one n i) (bit_and (n / 2 ^ i) 1 == 1) refl

-- one bit more of a number that is put
pub record IsMore (old new : List ℕ) (first size index n : ℕ) : Type 0 where
  pub number : number_at new first (index + 1) ≡ n / 2 ^ (size - (index + 1))
  pub others : SameOutside first (index + 1) old new

pub one_more :
    (bytes old new : List ℕ) (first size index n bit : ℕ) → index < size → number_at bytes first index ≡ n / 2 ^ (size - index) → SameOutside first index old bytes → IsSet bytes new (first + index) bit
    → bit ≡ bit_of n (size - 1 - index) → IsMore old new first size index n
one_more bytes old new first size index n bit h number others s b =
    let next : index + 1 ≡ suc index = omega arith in
    let rest : number_at new first index ≡ number_at bytes first index = same_number bytes new first index (λ i low high. s.others i (λ e. omega (arith, e))) in
    let all : number_at new first (suc index) ≡ 2 * (n / 2 ^ (size - index)) + bit_of n (size - 1 - index) =
    ap (λ x. 2 * x + bit_at new (first + index)) (rest ∙ number) ∙ ap (λ x. 2 * (n / 2 ^ (size - index)) + x) (s.here ∙ b) in
    record {
      number = ap (λ j. number_at new first j) next ∙ all ∙ sym (next_bit n size index h);
      others = λ i out. elim out [
        | inl low ↦ s.others i (λ e. omega (arith, e, low)) ∙ others i (inl low)
        | inr high ↦ s.others i (λ e. omega (arith, e, high)) ∙ others i (inr (omega (arith, high)))
      ];
    }
