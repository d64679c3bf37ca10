use Rattle.std.proofs.Common.{◌∙◌, sym, ap, arith}
use Rattle.std.proofs.lemmas.Grind.{common_steps}
use Rattle.rx_checks.specs.Steps.{steps_of, total_steps}
use Rattle.rx_lines.proofs.Stepping.{steps_close, steps_halve, steps_case, total_more}
use Rattle.rx_lines.proofs.steps.+steps.Goals as goal

pub total_steps-loop-proof-preserved : goal.total_steps-loop-proof-preserved
total_steps-loop-proof-preserved t c =
    let next = total_more c.args.proofs.now c.loop-proof.proof-index c.proof-item.result c.loop-proof-test.true c.proof-item.is in
    omega (arith, next, c.loop-proof.invariant, c.in_ok-steps_of.ensures, c.in_ok-sum.ensures)

pub steps_of-returns-in-Close : goal.steps_of-returns-in-Close
steps_of-returns-in-Close t c = c.len.ensures ∙ sym (ap steps_of c.in-Close.is ∙ steps_close c.in-Close.steps)

pub steps_of-returns-in_ok-high-in-Halve : goal.steps_of-returns-in_ok-high-in-Halve
steps_of-returns-in_ok-high-in-Halve t c =
    let whole = ap steps_of c.in-Halve.is ∙ steps_halve c.in-Halve.field-0 c.in-Halve.field-1 c.in-Halve.low c.in-Halve.high in
    let low = c.in_ok-low-in-Halve.ensures ∙ ap steps_of c.get.ensures in
    let high = c.in_ok-high-in-Halve.ensures ∙ ap steps_of c.get-in-Halve.ensures in
    grind (arith, common_steps, whole, low, high)

pub steps_of-returns-in_ok-sum-in-Case : goal.steps_of-returns-in_ok-sum-in-Case
steps_of-returns-in_ok-sum-in-Case t c =
    let whole = ap steps_of c.in-Case.is ∙ steps_case c.in-Case.field-0 c.in-Case.proofs in
    c.in_ok-sum-in-Case.ensures ∙ ap total_steps c.as_slice.ensures ∙ sym whole
