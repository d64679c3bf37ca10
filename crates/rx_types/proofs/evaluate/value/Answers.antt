use Rattle.std.proofs.Common.{arith, sym, subst}
use Rattle.std.proofs.lemmas.Int.{ints}
use Rattle.rx_types.specs.Value.{IsSmall}
use Rattle.rx_types.proofs.Within.{narrow_is_evaluable, narrow_is_small}
use Rattle.rx_types.proofs.evaluate.value.Goals as goal

pub evaluate-requires : goal.evaluate-requires
evaluate-requires c = narrow_is_evaluable c.requires.0 _ c.requires.2 _ c.requires.1

pub returns-clause-small : goal.returns-clause-small
returns-clause-small c =
    let small = narrow_is_small c.requires.0 _ c.requires.2 _ c.requires.1 in
    let here : IsSmall c.evaluate.result = subst (λ z. IsSmall z) (sym c.evaluate.ensures) small in
    record { above = omega (arith, ints, here.above, here.below); below = omega (arith, ints, here.above, here.below) }
