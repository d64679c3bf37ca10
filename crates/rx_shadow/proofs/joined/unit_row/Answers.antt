use Rattle.std.proofs.Common.{◌≡◌, ◌∙◌, ap, List, ℤ, pos, replicate, FitsSigned, to_z, of_z, rules}
use Rattle.std.specs.Int.{w128}
use Rattle.std.proofs.lemmas.Int.{to_z-of_z}
use Rattle.rx_linear.specs.declared.row.Row.{Row}
use Rattle.rx_linear.specs.Units.{unit}
use Rattle.rx_linear.proofs.Stacked.{filled_is_unit}
use Rattle.rx_shadow.proofs.joined.unit_row.Goals as goal

pub returns : goal.returns
returns c =
    let f : FitsSigned w128 c.args.coefficient.now = search rules in
    let zeros : c.from_vec-coefficients.result ≡ replicate c.args.variables (pos 0) = search rules in
    c.row_of.ensures
    ∙ ap (λ (zs : List ℤ). let r : Row = record { coefficients = zs; least = c.args.least.now } in r)
    (c.set.ensures ∙ filled_is_unit c.args.variable c.args.variables (to_z w128 (of_z w128 c.args.coefficient.now)) c.from_vec-coefficients.result c.requires zeros ∙ ap (unit c.args.variables c.args.variable) (to_z-of_z w128 _ f))
