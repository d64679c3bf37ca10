use Rattle.std.proofs.Common.{refl, subst, List}
use Rattle.std.specs.List.{All}
use Rattle.std.proofs.lemmas.List.{take_all}
use Rattle.std.proofs.lemmas.List.Elements.{All-more}
use Rattle.rx_linear.specs.declared.row.Row.{Row}
use Rattle.rx_linear.specs.Systems.{FitsSystem}
use Rattle.rx_linear.proofs.system.System.fits.Goals as goal

pub loop-row-preserved : goal.loop-row-preserved
loop-row-preserved c =
    All-more (FitsSystem c.args.variables) c.args.rows.now c.loop-row.row-index c.row-item.result c.loop-row-test.true c.loop-row.invariant
    (subst (λ (r : Row). FitsSystem c.args.variables r) c.row-item.is (c.fits.ensures.0 c.if-not-fits.false))

pub returns : goal.returns
returns c =
    let whole : All (FitsSystem c.args.variables) c.args.rows.now =
    subst (λ (rs : List Row). All (FitsSystem c.args.variables) rs) (take_all c.loop-row.row-index c.args.rows.now c.loop-row-test.false) c.loop-row.invariant in
    (λ t. (c.if-variables-gt192.false, whole), λ h. refl)
