use Rattle.std.proofs.Common.{◌≡◌, sym, ap, ◌∙◌, Option, Some, ℤ, true, neg_ℤ, int_lt}
use Rattle.std.proofs.lemmas.List.Elements.{All-contains}
use Rattle.rx_linear.specs.declared.row.Row.{Row}
use Rattle.rx_linear.specs.Systems.{FitsSystem}
use Rattle.rx_shadow.specs.Bounds.{exceeds, least_upper}
use Rattle.rx_shadow.specs.Known.{rows_of}
use Rattle.rx_shadow.proofs.Closings.{closing_bounds}
use Rattle.rx_shadow.proofs.bounds.bounds_clash.Goals as goal

pub returns-then-exceeds : goal.returns-then-exceeds
returns-then-exceeds c =
    let b = c.in_ok-low.ensures in
    let low = ap (λ (row : Row). row.least) c.row.ensures in
    let high = ap (λ (row : Row). neg_ℤ row.least) c.row-2.ensures in
    let t : int_lt (neg_ℤ c.in_ok-low.high.now.row.least) c.in_ok-low.low.now.row.least ≡ true =
    sym (ap (λ (z : ℤ). int_lt (neg_ℤ c.row-2.result.now.least) z) low ∙ ap (λ (z : ℤ). int_lt z c.in_ok-low.low.now.row.least) high) ∙ sym c.exceeds.ensures ∙ c.if-exceeds.true in (
      ap (λ (o : Option ℤ). exceeds o (least_upper c.args.variable (rows_of c.args.known.now))) b.lower ∙ ap (exceeds (Some c.in_ok-low.low.now.row.least)) b.upper ∙ t,
      closing_bounds c.args.variables c.args.variable c.args.known.now c.in_ok-low.low.now c.in_ok-low.high.now b.low_among b.high_among
          (All-contains (λ k. FitsSystem c.args.variables k.row) c.args.known.now c.in_ok-low.low.now c.requires.fit b.low_among)
          (All-contains (λ k. FitsSystem c.args.variables k.row) c.args.known.now c.in_ok-low.high.now c.requires.fit b.high_among)
          b.low_unit b.high_unit t,
    )
