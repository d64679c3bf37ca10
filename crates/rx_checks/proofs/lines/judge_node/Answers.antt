use Rattle.std.proofs.Common.{◌≡◌, ◌+◌, sym, ap, subst, ◌∙◌, List, ℕ, [], ◌∷◌, ◌++◌, take}
use Rattle.std.proofs.lemmas.List.{take_more, take_all}
use Rattle.rx_graph.specs.Cycles.{ArePathsTo}
use Rattle.rx_graph.specs.Typed.{Typed}
use Rattle.rx_checks.specs.Lines.{AreNextLines}
use Rattle.rx_checks.proofs.NextLines.{same_goals, lines_same, lines_then, lines_goals}
use Rattle.rx_checks.proofs.lines.judge_node.Goals as goal

pub loop-path-init : goal.loop-path-init
loop-path-init c = let m = c.args.message.now in lines_same m.domains m.graph c.args.splits c.args.node c.args.lines.now

pub judge_path-requires-clause-goals : goal.judge_path-requires-clause-goals
judge_path-requires-clause-goals c =
    let m = c.args.message.now in
    let l = c.loop-path in
    same_goals m.domains m.graph c.args.lines.now l.lines
    (lines_goals m.domains m.graph c.args.splits c.args.node (take l.path-index c.deref-path-items.result.now) c.args.lines.now l.lines l.invariant) c.requires

pub loop-path-preserved : goal.loop-path-preserved
loop-path-preserved c =
    let m = c.args.message.now in
    let l = c.loop-path in
    let paths = c.deref-path-items.result.now in
    let path = c.path-item.result in
    let e : take (l.path-index + 1) paths ≡ take l.path-index paths ++ path ∷ [] = take_more paths l.path-index path c.loop-path-test.true ∙ ap (λ (x : List ℕ). take l.path-index paths ++ x ∷ []) (sym c.path-item.is) in
    subst (λ (ps : List (List ℕ)). AreNextLines m.domains m.graph c.args.splits c.args.node ps c.args.lines.now c.judge_path.new.lines) (sym e)
    (lines_then m.domains m.graph c.args.splits c.args.node (take l.path-index paths) (path ∷ []) c.args.lines.now l.lines c.judge_path.new.lines l.invariant c.in_ok-judge_path.ensures)

pub returns : goal.returns
returns c =
    let m = c.args.message.now in
    let l = c.loop-path in
    let paths = c.deref-path-items.result.now in (
      paths,
      subst (λ (ps : List (List ℕ)). ArePathsTo m.graph c.args.node ps) (sym c.deref-path-items.ensures.value)
          (subst (λ (t : Typed). ArePathsTo t.graph c.args.node c.in_ok-paths.paths.items) c.elaborated.ensures c.in_ok-paths.ensures),
      subst (λ (ps : List (List ℕ)). AreNextLines m.domains m.graph c.args.splits c.args.node ps c.args.lines.now l.lines) (take_all l.path-index paths c.loop-path-test.false) l.invariant,
    )
