use Rattle.std.proofs.Common.{◌∙◌, sym, ap, arith, List, map}
use Rattle.std.proofs.lemmas.List.{drop_all}
use Rattle.std.proofs.lemmas.Grind.{common_steps}
use Rattle.rx_proof.specs.declared.proof.Proof.{Proof}
use Rattle.rx_proof.specs.Room.{depth, greatest_of}
use Rattle.rx_proof.proofs.Weights.{depth_close, depth_halve, depth_case}
use Rattle.rx_proof.proofs.desk.+depth.Goals as goal

pub returns-in-Close : goal.returns-in-Close
returns-in-Close t c = c.len.ensures ∙ sym (ap depth c.in-Close.is ∙ depth_close c.in-Close.steps)

pub returns-in_ok-high-in-Halve : goal.returns-in_ok-high-in-Halve
returns-in_ok-high-in-Halve t c =
    let whole = ap depth c.in-Halve.is ∙ depth_halve c.in-Halve.field-0 c.in-Halve.field-1 c.in-Halve.low c.in-Halve.high in
    let low = c.in_ok-low-in-Halve.ensures ∙ ap depth c.get.ensures in
    let high = c.in_ok-high-in-Halve.ensures ∙ ap depth c.get-in-Halve.ensures in
    grind (arith, common_steps, whole, low, high)

pub returns-after-loop-inner : goal.returns-after-loop-inner
returns-after-loop-inner t c =
    let whole = ap depth c.in-Case.is ∙ depth_case c.in-Case.field-0 c.in-Case.proofs in
    let done = ap (λ (ps : List Proof). greatest_of (map depth ps)) (drop_all c.loop-inner.inner-index c.as_slice-inner-items.result.now c.loop-inner-test.false) in
    let all = ap (λ (ps : List Proof). greatest_of (map depth ps)) c.as_slice-inner-items.ensures in
    omega (arith, c.loop-inner.invariant, done, all, whole)
