use Rattle.std.proofs.Common.{◌≡◌, ℕ, ◌+◌, ◌*◌, ◌/◌, ◌%◌, ◌<◌, length, ap, ◌∙◌, sym, arith, rules}
use Rattle.rx_model.specs.Bits.{number, number_at, place_bits}
use Rattle.rx_model.proofs.BitLemmas.{number-place_bits, reversed_groups-few, length-place_bits}
use Rattle.rx_bits.proofs.writing.put.Goals as goal

-- a place as the byte in which it begins, and the bit
split : (first : ℕ) → 8 * (first / 8) + first % 8 ≡ first
split first = omega arith

pub returns-then-not-low_order-clause-here : goal.returns-then-not-low_order-clause-here
returns-then-not-low_order-clause-here c =
    let new = c.put_high.new.bytes in
    let long : length new ≡ length c.args.bytes.now = search rules in
    let high : number (place_bits c.args.first c.args.size new) ≡ c.args.number =
    number-place_bits new c.args.first c.args.size (omega (arith, c.requires.inside, long)) ∙ ap (λ f. number_at new f c.args.size) (sym (split c.args.first)) ∙ c.put_high.ensures.here in
    rw c.if-not-low_order.true high

pub returns-then-size-lt8-clause-here : goal.returns-then-size-lt8-clause-here
returns-then-size-lt8-clause-here c =
    let new = c.put_high-then-size-lt8.new.bytes in
    let long : length new ≡ length c.args.bytes.now = search rules in
    let high : number (place_bits c.args.first c.args.size new) ≡ c.args.number =
    number-place_bits new c.args.first c.args.size (omega (arith, c.requires.inside, long)) ∙ ap (λ f. number_at new f c.args.size) (sym (split c.args.first)) ∙ c.put_high-then-size-lt8.ensures.here in
    let few : length (place_bits c.args.first c.args.size new) < 8 = rw (length-place_bits c.args.first c.args.size new (omega (arith, c.requires.inside, long))) c.if-size-lt8.true in
    rw c.if-not-low_order.false (ap number (reversed_groups-few (place_bits c.args.first c.args.size new) few) ∙ high)
