use Rattle.std.proofs.Common.{refl, sym, subst, ◌∙◌, [], ◌∷◌}
use Rattle.rx_graph.proofs.Listed.{same_node}
use Rattle.rx_layout.specs.Goals.{source}
use Rattle.rx_checks.specs.declared.verdict.Verdict.{Verdict}
use Rattle.rx_checks.specs.Told.{IsNextVerdict}
use Rattle.rx_checks.proofs.lines.judge_line.Goals as goal

pub returns-in_ok-line : goal.returns-in_ok-line
returns-in_ok-line c =
    let p = c.args.path.now in
    let goal = c.args.line.now.goal in
    record {
      goal = refl;
      here = λ s. subst (λ (v : Verdict). IsNextVerdict p.domains p.graph c.args.splits goal (p.path ∷ []) v c.in_ok-line.field-0) c.replace-verdict.ensures.value c.in_ok-line.ensures;
      elsewhere = λ n. absurd (n (same_node (source goal) p.node (sym c.is_asked_by.ensures ∙ c.if-is_asked_by.true)));
    }
