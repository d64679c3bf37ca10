use Rattle.std.proofs.Common.{sym, ap, subst, ◌∙◌, List, map}
use Rattle.std.specs.List.{AllByRecursion}
use Rattle.rx_graph.specs.Typed.{Typed}
use Rattle.rx_layout.specs.declared.goal.Goal.{Goal}
use Rattle.rx_layout.specs.Goals.{IsGoal}
use Rattle.rx_layout.specs.Listed.{all_goals}
use Rattle.rx_checks.specs.declared.report.Line.{Line}
use Rattle.rx_checks.specs.Lines.{AreFirst}
use Rattle.rx_checks.proofs.Kept.{all_listed}
use Rattle.rx_checks.proofs.NextLines.{goals_of_lines}
use Rattle.rx_checks.proofs.checking.report_of.Goals as goal

pub judge_nodes-requires-clause-goals : goal.judge_nodes-requires-clause-goals
judge_nodes-requires-clause-goals c =
    let t = c.elaborated-known.result.now in
    let m = c.args.message.now in
    let listed = all_listed (λ g. IsGoal t.domains t.graph g) (all_goals t.domains t.graph) (λ g a. (c.goals_are_listed.ensures g).1 a) in
    let goals = subst (λ (gs : List Goal). AllByRecursion (λ g. IsGoal t.domains t.graph g) gs) (sym (c.deref.ensures.value ∙ c.in_ok-goals.ensures)) listed in
    goals_of_lines m.domains m.graph c.deref.result.now c.deref_mut.result.now
    (ap (λ (ls : List Line). map (λ line. line.goal) ls) c.deref_mut.ensures.value ∙ c.in_ok-lines.ensures.goals)
    (subst (λ (u : Typed). AllByRecursion (λ g. IsGoal u.domains u.graph g) c.deref.result.now) c.elaborated-known.ensures goals)

pub judge_nodes-requires-clause-first : goal.judge_nodes-requires-clause-first
judge_nodes-requires-clause-first c =
    let m = c.args.message.now in
    subst (λ (ls : List Line). AreFirst m.domains m.graph c.args.splits ls) (sym c.deref_mut.ensures.value) (c.in_ok-lines.ensures.first m.domains m.graph c.args.splits)
