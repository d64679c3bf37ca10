use Rattle.std.proofs.Common.{get_or}
use Rattle.rx_forms.specs.Code.{formed_all}
use Rattle.rx_forms.proofs.Asking.{goes_on, stops, all_asked}
use Rattle.rx_forms.proofs.Chosen.{alone_at, same_item}
use Rattle.rx_forms.proofs.choices.keeps_ones.Goals as goal

pub returns-then-not-kept : goal.returns-then-not-kept
returns-then-not-kept c =
    let p = alone_at c.args.message.now.domains c.args.message.now.graph (formed_all c.args.fields.now) c.args.next c.args.next in
    let k = c.loop-index.index-index in
    stops p c.args.numbers.now k _ c.loop-index.invariant (get_or c.args.numbers.now k 0) c.in_ok-kept.kept c.loop-index-test.true (same_item c.args.numbers.now k c.loop-index-test.true) c.in_ok-kept.ensures c.if-not-kept.true

pub returns : goal.returns
returns c =
    let p = alone_at c.args.message.now.domains c.args.message.now.graph (formed_all c.args.fields.now) c.args.next c.args.next in
    all_asked p c.args.numbers.now c.loop-index.index-index _ c.loop-index.invariant c.loop-index-test.false

pub loop-index-preserved : goal.loop-index-preserved
loop-index-preserved c =
    let p = alone_at c.args.message.now.domains c.args.message.now.graph (formed_all c.args.fields.now) c.args.next c.args.next in
    let k = c.loop-index.index-index in
    goes_on p c.args.numbers.now k _ c.loop-index.invariant (get_or c.args.numbers.now k 0) c.in_ok-kept.kept c.loop-index-test.true (same_item c.args.numbers.now k c.loop-index-test.true) c.in_ok-kept.ensures c.if-not-kept.false
