use Rattle.std.proofs.Common.{ap, ℤ, FitsSigned, rules}
use Rattle.std.specs.Int.{w128}
use Rattle.std.proofs.lemmas.Int.{to_z-of_z}
use Rattle.rx_linear.specs.declared.row.Row.{Row}
use Rattle.rx_shadow.proofs.joined.row_of.Goals as goal

pub returns : goal.returns
returns c =
    let f : FitsSigned w128 c.args.least.now = search rules in
    ap (λ (z : ℤ). let r : Row = record { coefficients = c.args.coefficients; least = z } in r) (to_z-of_z w128 _ f)
