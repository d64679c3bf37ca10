use Rattle.std.proofs.Common.{◌<◌, length, ◌≡◌, ◌∙◌, ◌+◌, ◌++◌, ap, arith, ℤ, FitsSigned, get_or, set, pos, map, take, drop, rules}
use Rattle.std.specs.Int.{w128, int_div_euclid}
use Rattle.std.proofs.lemmas.Int.{to_z-of_z}
use Rattle.std.proofs.lemmas.List.{get_or_default}
use Rattle.std.proofs.lemmas.List.Edits.{map_over_more}
use Rattle.rx_linear.proofs.buffer.divide_each.Goals as goal

pub loop-i-preserved : goal.loop-i-preserved
loop-i-preserved c =
    let fd : FitsSigned w128 c.args.divisor = c.ranges.divisor in
    let fn : FitsSigned w128 (get_or c.loop-i.numbers c.loop-i.i (pos 0)) = search rules in
    let fq : FitsSigned w128 c.div_euclid.result = record { sfits = c.div_euclid.type_inv } in
    let q : c.div_euclid.result ≡ int_div_euclid (get_or c.loop-i.numbers c.loop-i.i (pos 0)) c.args.divisor = simp to_z-of_z at c.div_euclid.ensures in
    let inv = simp to_z-of_z at c.loop-i.invariant in
    let within : c.loop-i.i < length c.loop-i.numbers = omega arith in
    let step : set c.loop-i.numbers c.loop-i.i c.div_euclid.result ≡ map (λ z. int_div_euclid z c.args.divisor) (take (c.loop-i.i + 1) c.args.numbers.now) ++ drop (c.loop-i.i + 1) c.args.numbers.now =
    ap (λ (z : ℤ). set c.loop-i.numbers c.loop-i.i z) q
    ∙ map_over_more (λ z. int_div_euclid z c.args.divisor) c.args.numbers.now c.loop-i.numbers c.loop-i.i (get_or c.loop-i.numbers c.loop-i.i (pos 0)) c.loop-i-test.true inv (get_or_default c.loop-i.numbers c.loop-i.i (pos 0) _ within) in
    simp to_z-of_z step
