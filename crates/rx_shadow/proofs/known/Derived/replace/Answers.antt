use Rattle.std.proofs.Common.{◌≡◌, ap, ◌∙◌, pos, negsuc, neg_ℤ, ℤ, arith}
use Rattle.std.proofs.lemmas.Int.{ints}
use Rattle.std.proofs.lemmas.List.Elements.{All-contains}
use Rattle.rx_linear.specs.Systems.{FitsSystem}
use Rattle.rx_linear.specs.Units.{unit_row}
use Rattle.rx_shadow.proofs.Closings.{unit_is}
use Rattle.rx_shadow.proofs.known.Derived.replace.Goals as goal

pub join_values-requires-clause-low_bound : goal.join_values-requires-clause-low_bound
join_values-requires-clause-low_bound c =
    let b = c.in-Some.ensures.0 in
    unit_is c.args.self.now.variables c.args.variable (pos 1) c.in-Some.low.now.row (All-contains (λ k. FitsSystem c.args.self.now.variables k.row) c.args.leaving.now c.in-Some.low.now c.requires.leaving_fit b.low_among).0 b.low_unit

pub join_values-requires-clause-high_bound : goal.join_values-requires-clause-high_bound
join_values-requires-clause-high_bound c =
    let b = c.in-Some.ensures.0 in
    let e = c.in-Some.ensures.2 in
    let negated : c.in-Some.high.now.row.least ≡ neg_ℤ c.in-Some.low.now.row.least = omega (arith, ints, e) in
    unit_is c.args.self.now.variables c.args.variable (negsuc 0) c.in-Some.high.now.row (All-contains (λ k. FitsSystem c.args.self.now.variables k.row) c.args.leaving.now c.in-Some.high.now c.requires.leaving_fit b.high_among).0 b.high_unit
    ∙ ap (λ (z : ℤ). unit_row c.args.self.now.variables c.args.variable (negsuc 0) z) negated
