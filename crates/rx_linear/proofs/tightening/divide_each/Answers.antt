use Rattle.std.proofs.Common.{◌≡◌, ◌∙◌, ◌+◌, ◌++◌, ◌<◌, ◌^◌, sym, ap, subst, arith, ℤ, FitsSigned, get_or, set, pos, map, take, drop, length, unsigned_abs, to_z, of_z}
use Rattle.std.specs.Int.{w128, int_div_euclid}
use Rattle.std.proofs.lemmas.Int.{to_z-of_z}
use Rattle.std.proofs.lemmas.List.{get_or_default}
use Rattle.std.proofs.lemmas.List.Edits.{map_over_more}
use Rattle.std.proofs.lemmas.List.Elements.{All-get_or}
use Rattle.rx_linear.proofs.Bounds.{wide_fits}
use Rattle.rx_linear.proofs.Tight.{not_yet, still_there}
use Rattle.rx_linear.proofs.tightening.divide_each.Goals as goal

pub loop-i-preserved : goal.loop-i-preserved
loop-i-preserved c =
    let i = c.loop-i.i in
    let zs = c.args.numbers.now in
    let fd : FitsSigned w128 c.args.divisor = c.ranges.divisor in
    let inv = simp to_z-of_z at c.loop-i.invariant in
    let h : i < length zs = omega (arith, c.loop-i-test.true, c.len-i-end.ensures) in
    let x = get_or c.loop-i.numbers i (pos 0) in
    let same : x ≡ get_or zs i (pos 0) = not_yet (λ z. int_div_euclid z c.args.divisor) zs c.loop-i.numbers i (pos 0) h inv in
    let fx : FitsSigned w128 x = wide_fits x (subst (λ (z : ℤ). unsigned_abs z < 2 ^ 41) (sym same) (All-get_or (λ z. unsigned_abs z < 2 ^ 41) zs i (pos 0) h c.requires.small)) in
    let fq : FitsSigned w128 c.div_euclid.result = record { sfits = c.div_euclid.type_inv } in
    let q : c.div_euclid.result ≡ int_div_euclid x c.args.divisor =
    c.div_euclid.ensures
    ∙ ap (λ (z : ℤ). int_div_euclid z (to_z w128 (of_z w128 c.args.divisor))) (ap (λ zs. to_z w128 (of_z w128 (get_or zs i (pos 0)))) c.as_slice.ensures ∙ to_z-of_z w128 x fx)
    ∙ ap (int_div_euclid x) (to_z-of_z w128 c.args.divisor fd) in
    let step : set c.loop-i.numbers i c.div_euclid.result ≡ map (λ z. int_div_euclid z c.args.divisor) (take (i + 1) zs) ++ drop (i + 1) zs =
    ap (λ (z : ℤ). set c.loop-i.numbers i z) q
    ∙ map_over_more (λ z. int_div_euclid z c.args.divisor) zs c.loop-i.numbers i x h inv (get_or_default c.loop-i.numbers i (pos 0) _ (still_there (λ z. int_div_euclid z c.args.divisor) zs c.loop-i.numbers i h inv)) in
    simp to_z-of_z (c.set.ensures ∙ ap (set c.loop-i.numbers i) (to_z-of_z w128 _ fq) ∙ step)
