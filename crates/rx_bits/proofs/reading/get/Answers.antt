use Rattle.std.proofs.Common.{◌≡◌, ℕ, ◌*◌, ◌/◌, ◌%◌, ◌<◌, ◌≤◌, true, drop, inl, inr, ap, ◌∙◌, arith, ◌⊎◌}
use Rattle.std.proofs.lemmas.List.{take_rest}
use Rattle.rx_model.specs.Bits.{number, place_bits, reversed_groups}
use Rattle.rx_model.proofs.BitLemmas.{place_bits-drop}
use Rattle.rx_bits.proofs.reading.get.Goals as goal

-- at least eight bits in groups of eight
whole_groups : (size : ℕ) → (size < 8) ⊎ (size % 8 ≡ 0) → 8 ≤ size → 8 * (size / 8) ≡ size
whole_groups size (inl few) many = omega arith
whole_groups size (inr whole) many = omega arith

pub returns-clause-number : goal.returns-clause-number
returns-clause-number c =
    let low : c.args.low_order ≡ true = c.if-not-low_order.false in
    let size : 8 * (c.args.size / 8) ≡ c.args.size = whole_groups c.args.size (c.requires.groups low) c.if-size-lt8.false in
    let there = rw take_rest at c.low_number.ensures.number in
    rw low (there ∙ ap (λ k. number (reversed_groups (place_bits (c.args.first % 8) k (drop (c.args.first / 8) c.args.bytes.now)))) size ∙ ap (λ l. number (reversed_groups l)) (place_bits-drop c.args.first c.args.size c.args.bytes.now))
