use Rattle.std.proofs.Common.{◌≡◌, sym, ap, ◌∙◌, arith, true, false, ◌&&◌, ◌||◌, ℤ, pos, int_lt, int_le, FitsSigned, to_z, of_z}
use Rattle.std.specs.Int.{w128}
use Rattle.std.proofs.lemmas.Int.{to_z-of_z}
use Rattle.rx_shadow.specs.Bounds.{width}
use Rattle.rx_shadow.specs.Known.{rows_of}
use Rattle.rx_shadow.proofs.Exactness.{narrowest_step}
use Rattle.rx_shadow.proofs.bounds.narrowest.Goals as goal
use Rattle.rx_shadow.proofs.bounds.narrowest.Goals.{then-is_narrower, else-is_narrower}

narrower_is : (a b w v : ℤ) → a ≡ w → b ≡ v → (int_lt (pos 0) a && (int_le b (pos 0) || int_lt a b)) ≡ (int_lt (pos 0) w && (int_le v (pos 0) || int_lt w v))
narrower_is a b w v e f = ap (λ (z : ℤ). int_lt (pos 0) z && (int_le b (pos 0) || int_lt z b)) e ∙ ap (λ (z : ℤ). int_lt (pos 0) w && (int_le z (pos 0) || int_lt w z)) f

pub loop-variable-preserved : goal.loop-variable-preserved
loop-variable-preserved c =
    let inv = c.loop-variable.invariant in
    let rows = rows_of c.args.known.now in
    let step = narrowest_step rows c.loop-variable.variable c.loop-variable.best in
    let fits : FitsSigned w128 c.width-next.result = record { sfits = c.width-next.type_inv } in
    let next : to_z w128 (of_z w128 c.width-next.result) ≡ width rows c.loop-variable.variable = to_z-of_z w128 _ fits ∙ c.width-next.ensures in
    let test : c.is_narrower.result ≡ (int_lt (pos 0) (width rows c.loop-variable.variable) && (int_le (width rows c.loop-variable.best) (pos 0) || int_lt (width rows c.loop-variable.variable) (width rows c.loop-variable.best))) =
    c.is_narrower.ensures ∙ narrower_is _ _ _ _ next inv.least in
    elim c.if-is_narrower.branch [
      | then-is_narrower w ↦ record {
        within = omega (arith, w.best-is);
        most = omega (arith, c.loop-variable-test.true);
        best = w.best-is ∙ step true inv.best (sym test ∙ w.if-is_narrower.true);
        least = w.least-is ∙ next ∙ ap (width rows) (sym w.best-is);
      }
      | else-is_narrower w ↦ record {
        within = omega (arith, w.best-is, inv.within);
        most = omega (arith, c.loop-variable-test.true);
        best = w.best-is ∙ step false inv.best (sym test ∙ w.if-is_narrower.false);
        least = w.least-is ∙ inv.least ∙ ap (width rows) (sym w.best-is);
      }
    ]
