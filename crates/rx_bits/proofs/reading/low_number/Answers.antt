use Rattle.std.proofs.Common.{◌≡◌, ℕ, ◌+◌, ◌-◌, ◌*◌, ◌^◌, ◌<◌, ◌≤◌, ap, ◌∙◌, sym, arith}
use Rattle.std.proofs.Math.Pow.{pow_mono}
use Rattle.std.proofs.lemmas.Nat.{pow-add}
use Rattle.rx_model.specs.Bits.{number, place_bits, reversed_groups}
use Rattle.rx_model.proofs.BitLemmas.{reversed_groups-more}
use Rattle.rx_bits.proofs.reading.low_number.Goals as goal

-- the number of at most six groups is below 2 to the 48
below_six_groups : (n k : ℕ) → n < 2 ^ (8 * k) → k ≤ 6 → n < 2 ^ 48
below_six_groups n k below few = let most : 2 ^ (8 * k) ≤ 2 ^ 48 = pow_mono {i = 8 * k} {j = 48} (omega arith) in omega arith

-- one group more
below_more : (n h k : ℕ) → n < 2 ^ (8 * k) → h < 256 → 256 * n + h < 2 ^ (8 + 8 * k)
below_more n h k below small = let parts : 2 ^ (8 + 8 * k) ≡ 256 * 2 ^ (8 * k) = pow-add 2 8 (8 * k) in rw parts (omega arith)

pub overflow_mul-number : goal.overflow_mul-number
overflow_mul-number c =
    let small : c.loop-index.number < 2 ^ 48 = below_six_groups _ (c.args.count - c.loop-index.index) c.loop-index.invariant.below (omega arith) in
    omega arith

pub overflow_add-number : goal.overflow_add-number
overflow_add-number c =
    let small : c.loop-index.number < 2 ^ 48 = below_six_groups _ (c.args.count - c.loop-index.index) c.loop-index.invariant.below (omega arith) in
    let group : c.high_number.result < 256 = c.high_number.ensures.below in
    omega arith

pub loop-index-preserved : goal.loop-index-preserved
loop-index-preserved c =
    let first = c.args.first in
    let index = c.loop-index.index - 1 in
    let k = c.args.count - c.loop-index.index in
    let bytes = c.args.bytes.now in
    let size : 8 * (c.args.count - index) ≡ 8 + 8 * k = omega arith in
    let next : first + 8 * index + 8 ≡ first + 8 * c.loop-index.index = omega arith in
    let more = reversed_groups-more (first + 8 * index) k bytes (omega arith) in
    let group : c.high_number.result < 256 = c.high_number.ensures.below in
    record {
      number = rw size (ap (λ n. 256 * n + c.high_number.result) (c.loop-index.invariant.number ∙ ap (λ f. number (reversed_groups (place_bits f (8 * k) bytes))) (sym next))
          ∙ ap (λ g. 256 * number (reversed_groups (place_bits (first + 8 * index + 8) (8 * k) bytes)) + g) c.high_number.ensures.number ∙ sym more);
      below = rw size (below_more _ _ k c.loop-index.invariant.below group);
    }
