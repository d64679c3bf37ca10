use Rattle.std.proofs.Common.{subst, ap, arith, length, ◌∙◌, List}
use Rattle.rx_graph.specs.declared.message.Node.{Node}
use Rattle.rx_graph.specs.declared.message.Field as field
use Rattle.rx_graph.specs.Cycles.{ArePathsTo}
use Rattle.rx_graph.specs.Typed.{Typed}
use Rattle.rx_checks.specs.Lines.{AreNextLines}
use Rattle.rx_checks.proofs.NextLines.{same_goals, lines_goals, behind_more, behind_all}
use Rattle.rx_checks.proofs.lines.judge_nodes.Goals as goal

pub judge_node-requires : goal.judge_node-requires
judge_node-requires c = let m = c.args.message.now in same_goals m.domains m.graph c.args.lines.now c.loop-place.lines c.loop-place.invariant.goals c.requires.goals

pub loop-place-preserved : goal.loop-place-preserved
loop-place-preserved c =
    let m = c.args.message.now in
    let old = c.loop-place.lines in
    let new = c.judge_node.new.lines in
    let e = c.in_ok-judge_node.ensures in
    record {
      goals = lines_goals m.domains m.graph c.args.splits c.node_at.result e.0 old new e.2 ∙ c.loop-place.invariant.goals;
      behind = behind_more m.domains m.graph c.args.splits c.loop-place.place e.0 old new
          (subst (λ (n : Node). ArePathsTo m.graph n e.0) c.node_at.ensures e.1)
          (subst (λ (n : Node). AreNextLines m.domains m.graph c.args.splits n e.0 old new) c.node_at.ensures e.2) c.loop-place.invariant.behind;
    }

pub returns-clause-stand : goal.returns-clause-stand
returns-clause-stand c =
    let m = c.args.message.now in
    let fields = ap (λ (fs : List field.Field). length fs) (c.fields.ensures.fields ∙ ap (λ (t : Typed). t.graph.fields) c.elaborated.ensures) in
    behind_all m.domains m.graph c.args.splits c.is_checkable.ensures.known.elaborated c.loop-place.place (omega (arith, fields, c.loop-place-test.false)) c.loop-place.lines
    (same_goals m.domains m.graph c.args.lines.now c.loop-place.lines c.loop-place.invariant.goals c.requires.goals) c.loop-place.invariant.behind
