use Rattle.std.proofs.Common.{◌∙◌, sym, ap, subst, ℕ, ◌+◌, ◌<◌, ◌++◌, length, List, Option, arith}
use Rattle.rx_graph.specs.declared.message.Field.{Field}
use Rattle.rx_lines.specs.Subjects.{assigned_if, number_among}
use Rattle.rx_lines.proofs.Numbers.{AllBelow, values_more, below_more}
use Rattle.rx_lines.proofs.values.assign.Goals as goal

pub loop-place-preserved : goal.loop-place-preserved
loop-place-preserved c =
    let fields = c.args.message.now.graph.fields in
    let number : ℕ → Option ℕ = λ f. number_among f c.args.fields.now c.args.numbers.now in
    let i = c.loop-place.place in
    let within : i < length fields = omega (arith, c.loop-place-test.true, ap (λ (fs : List Field). length fs) c.fields-place-end.ensures.fields) in
    let put = c.in_ok-values.ensures ∙ ap (λ (o : Option ℕ). c.loop-place.values ++ assigned_if i o) c.number_among.ensures in
    record {
      left = values_more number fields i c.loop-place.values c.in_ok-values.values within put ∙ c.loop-place.invariant.left;
      below = subst (AllBelow (i + 1)) (sym c.in_ok-values.ensures) (below_more i c.loop-place.values c.number_among.result c.loop-place.invariant.below);
    }
