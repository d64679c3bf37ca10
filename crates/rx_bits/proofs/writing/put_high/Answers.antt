use Rattle.std.proofs.Common.{◌≡◌, ◌+◌, ◌-◌, ◌*◌, ◌/◌, ◌%◌, ◌<◌, length, sym, ap, ◌∙◌, arith}
use Rattle.std.specs.Int.{bit_at as bit_of}
use Rattle.std.proofs.lemmas.List.{take-set-le}
use Rattle.rx_bits.proofs.Setting.{sets, tested_bit, one_more}
use Rattle.rx_bits.proofs.writing.put_high.Goals as goal

pub loop-index-preserved : goal.loop-index-preserved
loop-index-preserved c =
    let at = c.args.at in
    let offset = c.args.offset in
    let first = 8 * at + offset in
    let index = c.loop-index.index in
    let bytes = c.loop-index.bytes in
    let begins = c.requires.begins in
    let byte : at + (offset + index) / 8 ≡ (first + index) / 8 = omega arith in
    let place : 7 - (offset + index) % 8 ≡ 7 - (first + index) % 8 = omega arith in
    let inside : at + (offset + index) / 8 < length bytes = omega (arith, c.requires.inside, c.loop-index-test.true, c.loop-index.auto.bytes) in
    let set_one = sets bytes (at + (offset + index) / 8) c.with_bit.result (first + index) _ byte inside (ap (λ p. bit_of c.with_bit.result p) (sym place) ∙ c.with_bit.ensures.here) (λ j low apart. c.with_bit.ensures.others j low (λ e. apart (e ∙ place))) in
    let more = one_more bytes c.args.bytes.now _ first c.args.size index c.args.value _ c.loop-index-test.true c.loop-index.invariant.number c.loop-index.invariant.others set_one (tested_bit c.args.value (c.args.size - 1 - index)) in
    record {
      number = more.number;
      others = more.others;
      before = take-set-le at bytes (at + (offset + index) / 8) c.with_bit.result (omega arith) ∙ c.loop-index.invariant.before;
    }
