use Rattle.std.proofs.Common.{◌∙◌, ap, ℤ, FitsSigned, to_z, of_z, rules, length}
use Rattle.std.specs.Int.{w128}
use Rattle.std.proofs.lemmas.Int.{to_z-of_z}
use Rattle.rx_linear.specs.Units.{unit}
use Rattle.rx_linear.proofs.Stacked.{filled_is_unit}
use Rattle.rx_linear.proofs.buffer.make_unit.Goals as goal

pub returns : goal.returns
returns c =
    let f : FitsSigned w128 c.args.coefficient.now = search rules in
    filled_is_unit c.args.variable (length c.args.numbers.now) (to_z w128 (of_z w128 c.args.coefficient.now)) c.fill.new.self c.requires (c.fill.ensures.after (λ y h. h)) ∙ ap (λ (z : ℤ). unit (length c.args.numbers.now) c.args.variable z) (to_z-of_z w128 _ f)
