use Rattle.std.proofs.Common.{◌≡◌, ℕ, ◌+◌, ◌-◌, ◌*◌, ◌/◌, ◌%◌, ◌^◌, ◌<◌, get_or, bit_and, ap, ◌∙◌, sym, add-one, arith}
use Rattle.std.proofs.Math.Nat.{pow-succ'}
use Rattle.std.proofs.lemmas.Grind.{common_steps}
use Rattle.rx_model.specs.Bits.{number, place_bits, bit_at}
use Rattle.rx_model.proofs.BitLemmas.{place_bits-more, bit_at-below}
use Rattle.rx_bits.proofs.reading.high_number.Goals as goal

-- the low bit of a number
low_bit : (n : ℕ) → bit_and n 1 ≡ n % 2
low_bit n = grind (arith, common_steps)

pub loop-index-preserved : goal.loop-index-preserved
loop-index-preserved c =
    let first = c.args.first in
    let index = c.loop-index.index in
    let bytes = c.args.bytes.now in
    let byte : first / 8 + (first % 8 + index) / 8 ≡ (first + index) / 8 = omega arith in
    let within : (first % 8 + index) % 8 ≡ (first + index) % 8 = omega arith in
    let inside = c.requires.inside in
    let more = place_bits-more first index bytes (omega arith) in
    let this = bit_and (get_or bytes ((first + index) / 8) 0 / 2 ^ (7 - (first + index) % 8)) 1 in
    let bit : this ≡ bit_at bytes (first + index) = low_bit _ in
    let small : this < 2 = rw bit (bit_at-below bytes (first + index)) in
    record {
      number = rw (byte, within) (ap (λ n. 2 * n + this) c.loop-index.invariant.number ∙ ap (λ b. 2 * number (place_bits first index bytes) + b) bit ∙ sym more);
      below = let double : 2 ^ (index + 1) ≡ 2 * 2 ^ index = rw add-one (pow-succ' 2 index) in rw (byte, within, double) (omega arith);
    }
