use Rattle.std.proofs.Common.{refl, sym, subst}
use Rattle.rx_linear.specs.Systems.{FitsSystem}
use Rattle.rx_shadow.proofs.Initial.{tight_fits, wide_from_narrow}
use Rattle.rx_shadow.proofs.Numbered.{unit_fits}
use Rattle.rx_shadow.proofs.joined.JoinedRows.join_unit.Goals as goal

pub tightened-requires : goal.tightened-requires
tightened-requires c =
    wide_from_narrow c.in_ok-row.row (unit_fits c.self.inside.variables c.self.inside.variables c.args.variable c.args.coefficient.now c.args.least.now c.in_ok-row.row refl c.requires.coefficient_small c.requires.least_small c.in_ok-row.ensures).1

pub invariant_of-self : goal.invariant_of-self
invariant_of-self c =
    c.keep_new.ensures.joined c.self.inside.variables c.self.invariant
    (subst (FitsSystem c.self.inside.variables) (sym c.tightened.ensures) (tight_fits c.self.inside.variables c.in_ok-row.row (unit_fits c.self.inside.variables c.self.inside.variables c.args.variable c.args.coefficient.now c.args.least.now c.in_ok-row.row refl c.requires.coefficient_small c.requires.least_small c.in_ok-row.ensures)))
