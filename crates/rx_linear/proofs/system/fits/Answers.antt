use Rattle.std.proofs.Common.{◌≡◌, ◌∙◌, ◌^◌, sym, ap, false}
use Rattle.rx_linear.specs.Rows.{all_below}
use Rattle.rx_linear.proofs.Stacking.{test_from_all_below}
use Rattle.rx_linear.proofs.system.fits.Goals as goal

pub returns-then-not-all_small : goal.returns-then-not-all_small
returns-then-not-all_small c =
    let wrong : all_below (2 ^ 20) c.args.row.now.coefficients ≡ false = ap (all_below (2 ^ 20)) (sym c.as_slice.ensures) ∙ sym c.all_small.ensures ∙ c.if-not-all_small.true in
    (λ t. cc, λ h. absurd (let right = test_from_all_below (2 ^ 20) c.args.row.now.coefficients h.1.0 in cc))
