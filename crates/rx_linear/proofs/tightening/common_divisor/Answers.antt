use Rattle.std.proofs.Common.{take, ◌<◌, ◌≡◌, ◌∙◌, ◌^◌, ℕ, ℤ, List, FitsSigned, get_or, pos, unsigned_abs, subst, ap, sym}
use Rattle.std.specs.Int.{w128, IsGcd}
use Rattle.std.proofs.lemmas.Int.{to_z-of_z}
use Rattle.std.proofs.lemmas.List.{take_all}
use Rattle.std.proofs.lemmas.List.Elements.{All-get_or}
use Rattle.rx_linear.specs.Divisors.{IsGreatestCommonDivisor}
use Rattle.rx_linear.proofs.Bounds.{wide_fits}
use Rattle.rx_linear.proofs.Divisors.{gcd_step, common_divisor_is, one_stays}
use Rattle.rx_linear.proofs.tightening.common_divisor.Goals as goal

pub loop-coefficient-preserved : goal.loop-coefficient-preserved
loop-coefficient-preserved c =
    let below = All-get_or (λ z. unsigned_abs z < 2 ^ 41) c.args.coefficients.now c.loop-coefficient.coefficient-index (pos 0) c.loop-coefficient-test.true c.requires in
    let f : FitsSigned w128 (get_or c.args.coefficients.now c.loop-coefficient.coefficient-index (pos 0)) = wide_fits _ below in
    let e : c.unsigned_abs-magnitude.result ≡ unsigned_abs (get_or c.args.coefficients.now c.loop-coefficient.coefficient-index (pos 0)) =
    c.unsigned_abs-magnitude.ensures.value ∙ ap unsigned_abs (to_z-of_z w128 _ f) in
    let P : ℕ → Type 0 = λ n. IsGcd c.loop-coefficient.divisor n c.greatest_common_divisor-divisor.result in
    gcd_step c.args.coefficients.now c.loop-coefficient.coefficient-index c.loop-coefficient.divisor c.greatest_common_divisor-divisor.result c.loop-coefficient-test.true c.loop-coefficient.invariant (subst P e c.greatest_common_divisor-divisor.ensures)

pub returns-then-divisor-eq1-clause-value : goal.returns-then-divisor-eq1-clause-value
returns-then-divisor-eq1-clause-value c =
    let P : ℕ → Type 0 = λ d. IsGreatestCommonDivisor (take c.loop-coefficient.coefficient-index c.args.coefficients.now) d in
    let one = one_stays c.args.coefficients.now c.loop-coefficient.coefficient-index (subst P c.if-divisor-eq1.true c.loop-coefficient.invariant) in
    sym (common_divisor_is c.args.coefficients.now 1 one)

pub returns-then-divisor-eq1-clause-greatest : goal.returns-then-divisor-eq1-clause-greatest
returns-then-divisor-eq1-clause-greatest c =
    let P : ℕ → Type 0 = λ d. IsGreatestCommonDivisor (take c.loop-coefficient.coefficient-index c.args.coefficients.now) d in
    let one = one_stays c.args.coefficients.now c.loop-coefficient.coefficient-index (subst P c.if-divisor-eq1.true c.loop-coefficient.invariant) in
    one

pub returns : goal.returns
returns c =
    let P : List ℤ → Type 0 = λ cs. IsGreatestCommonDivisor cs c.loop-coefficient.divisor in
    let whole : IsGreatestCommonDivisor c.args.coefficients.now c.loop-coefficient.divisor =
    subst P (take_all c.loop-coefficient.coefficient-index c.args.coefficients.now c.loop-coefficient-test.false) c.loop-coefficient.invariant in
    record { value = sym (common_divisor_is c.args.coefficients.now c.loop-coefficient.divisor whole); greatest = whole }
