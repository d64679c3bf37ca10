use Rattle.std.proofs.Common.{◌≡◌, sym, ap, ◌∙◌, subst, ◌<◌, arith, ◌↔◌, FitsSigned}
use Rattle.std.specs.Int.{w128}
use Rattle.std.proofs.lemmas.Int.{ints, to_z-of_z}
use Rattle.rx_linear.specs.declared.row.Row.{Row}
use Rattle.rx_linear.specs.Rows.{Holds, tight, divisor_of}
use Rattle.rx_linear.proofs.Divisors.{divisor_divides}
use Rattle.rx_linear.proofs.Stacked.{same_parts}
use Rattle.rx_linear.proofs.Soundness.{tight_holds}
use Rattle.rx_linear.proofs.tightening.tighten.Goals as goal

pub returns-clause-sound : goal.returns-clause-sound
returns-clause-sound c = λ point.
    let positive : 0 < divisor_of c.args.row.now = omega arith in
    let fits : FitsSigned w128 c.args.row.now.least = omega (arith, ints, c.requires.1) in
    let e : c.tightened.result ≡ tight c.args.row.now = c.tightened.ensures ∙ ap tight (same_parts (c.in_ok-coefficients.ensures ∙ c.as_slice.ensures) (to_z-of_z w128 c.args.row.now.least fits)) in
    subst (λ (r : Row). Holds c.args.row.now point ↔ Holds r point) (sym e) (tight_holds c.args.row.now point positive (divisor_divides c.args.row.now.coefficients))
