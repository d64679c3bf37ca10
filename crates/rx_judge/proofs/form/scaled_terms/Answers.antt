use Rattle.std.proofs.Common.{◌≡◌, ◌∙◌, ap, refl, arith, slice_index_or}
use Rattle.std.specs.Prelude.{pos, ◌*ℤ◌}
use Rattle.std.proofs.lemmas.Int.{ints}
use Rattle.rx_judge.specs.Form.{scaled_term}
use Rattle.rx_judge.specs.declared.form.Term.{Term}
use Rattle.rx_judge.specs.declared.form.Unknown.TheVariants.{NumberOf}
use Rattle.rx_judge.proofs.Products.{passed, product_fits, passed_product, map_more}
use Rattle.rx_judge.proofs.form.scaled_terms.Goals as goal

pub overflow_mul-factor : goal.overflow_mul-factor
overflow_mul-factor c =
    let d : Term = record { unknown = NumberOf 0; coefficient = pos 0 } in
    let x = (slice_index_or c.args.terms.now c.loop-term.term-index d).coefficient in
    let low = c.requires.low c.loop-term.term-index d c.loop-term-test.true in
    let a = low.above in
    let b = low.below in
    let e : passed c.args.factor ≡ c.args.factor = omega (arith, ints) in
    let f : passed x ≡ x = omega (arith, ints) in
    rw (e, f) (product_fits c.args.factor x c.requires.factor low)

pub loop-term-preserved : goal.loop-term-preserved
loop-term-preserved c =
    let d : Term = record { unknown = NumberOf 0; coefficient = pos 0 } in
    let t = slice_index_or c.args.terms.now c.loop-term.term-index d in
    let low = c.requires.low c.loop-term.term-index d c.loop-term-test.true in
    let a = low.above in
    let b = low.below in
    let e : passed c.args.factor ≡ c.args.factor = omega (arith, ints) in
    let f : passed t.coefficient ≡ t.coefficient = omega (arith, ints) in
    let g = passed_product c.args.factor t.coefficient c.requires.factor low in
    let y : passed (passed c.args.factor *ℤ passed t.coefficient) ≡ passed c.args.factor *ℤ t.coefficient = rw (e, f, g) refl in
    c.in_ok-push.ensures.items ∙ map_more (scaled_term (passed c.args.factor)) c.args.terms.now c.loop-term.scaled.items c.loop-term.term-index d (record { unknown = t.unknown; coefficient = passed (passed c.args.factor *ℤ passed t.coefficient) }) c.loop-term-test.true c.loop-term.invariant (ap (λ z. record { unknown = t.unknown; coefficient = z }) y)
