use Rattle.std.proofs.Common.{ap, ◌∙◌}
use Rattle.rx_forms.specs.PathLimit.{keeps_path}
use Rattle.rx_forms.proofs.Asking.{goes_on, stops, all_asked}
use Rattle.rx_forms.proofs.within.keep_within.Goals as goal

pub returns-then-not-kept : goal.returns-then-not-kept
returns-then-not-kept c =
    let p = keeps_path c.args.message.now.domains c.args.message.now.graph c.args.numbers.now in
    stops p c.args.paths.now c.loop-path.path-index _ c.loop-path.invariant c.path-item.result c.in_ok-kept.kept c.loop-path-test.true c.path-item.is (c.in_ok-kept.ensures ∙ ap p c.links.ensures) c.if-not-kept.true

pub returns : goal.returns
returns c =
    let p = keeps_path c.args.message.now.domains c.args.message.now.graph c.args.numbers.now in
    all_asked p c.args.paths.now c.loop-path.path-index _ c.loop-path.invariant c.loop-path-test.false

pub loop-path-preserved : goal.loop-path-preserved
loop-path-preserved c =
    let p = keeps_path c.args.message.now.domains c.args.message.now.graph c.args.numbers.now in
    goes_on p c.args.paths.now c.loop-path.path-index _ c.loop-path.invariant c.path-item.result c.in_ok-kept.kept c.loop-path-test.true c.path-item.is (c.in_ok-kept.ensures ∙ ap p c.links.ensures) c.if-not-kept.false
