use Rattle.std.proofs.Common.{arith, [], ◌∷◌}
use Rattle.rx_checks.proofs.NextLines.{up_none, up_goal, up_more, up_all}
use Rattle.rx_checks.proofs.lines.judge_lines.Goals as goal

pub loop-line-init : goal.loop-line-init
loop-line-init c = let p = c.args.path.now in up_none p.domains p.graph c.args.splits p.node (p.path ∷ []) c.args.lines.now

pub judge_line-requires : goal.judge_line-requires
judge_line-requires c =
    let p = c.args.path.now in
    let l = c.loop-line in
    up_goal p.domains p.graph c.args.splits p.node (p.path ∷ []) l.line-index c.args.lines.now l.lines c.line-item.result l.invariant (omega (arith, c.loop-line-test.true, l.auto.lines)) c.requires

pub loop-line-preserved : goal.loop-line-preserved
loop-line-preserved c =
    let p = c.args.path.now in
    let l = c.loop-line in
    up_more p.domains p.graph c.args.splits p.node (p.path ∷ []) l.line-index c.args.lines.now l.lines c.line-item.result c.judge_line.new.line l.invariant (omega (arith, c.loop-line-test.true, l.auto.lines))
    c.in_ok-judge_line.ensures

pub returns : goal.returns
returns c =
    let p = c.args.path.now in
    let l = c.loop-line in
    up_all p.domains p.graph c.args.splits p.node (p.path ∷ []) l.line-index c.args.lines.now l.lines l.invariant (omega (arith, c.loop-line-test.false, l.auto.lines))
