use Rattle.std.proofs.Common.{◌≡◌, ◌∙◌, refl, arith, slice_index_or}
use Rattle.std.specs.Prelude.{pos, ◌*ℤ◌}
use Rattle.std.proofs.lemmas.Int.{ints}
use Rattle.rx_judge.specs.Form.{scaled_number}
use Rattle.rx_judge.proofs.Products.{passed, product_fits, passed_product, map_more}
use Rattle.rx_judge.proofs.form.scaled_numbers.Goals as goal

pub overflow_mul-factor : goal.overflow_mul-factor
overflow_mul-factor c =
    let x = slice_index_or c.args.numbers.now c.loop-number.number-index (pos 0) in
    let low = c.requires.low c.loop-number.number-index (pos 0) c.loop-number-test.true in
    let a = low.above in
    let b = low.below in
    let e : passed c.args.factor ≡ c.args.factor = omega (arith, ints) in
    let f : passed x ≡ x = omega (arith, ints) in
    rw (e, f) (product_fits c.args.factor x c.requires.factor low)

pub loop-number-preserved : goal.loop-number-preserved
loop-number-preserved c =
    let x = slice_index_or c.args.numbers.now c.loop-number.number-index (pos 0) in
    let low = c.requires.low c.loop-number.number-index (pos 0) c.loop-number-test.true in
    let a = low.above in
    let b = low.below in
    let e : passed c.args.factor ≡ c.args.factor = omega (arith, ints) in
    let f : passed x ≡ x = omega (arith, ints) in
    let g = passed_product c.args.factor x c.requires.factor low in
    let y : passed (passed c.args.factor *ℤ passed x) ≡ scaled_number (passed c.args.factor) x = rw (e, f, g) refl in
    c.in_ok-push.ensures.items ∙ map_more (scaled_number (passed c.args.factor)) c.args.numbers.now c.loop-number.scaled.items c.loop-number.number-index (pos 0) (passed (passed c.args.factor *ℤ passed x)) c.loop-number-test.true c.loop-number.invariant y
