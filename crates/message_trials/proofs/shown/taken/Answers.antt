use Rattle.std.proofs.Common.{◌≡◌, refl, sym, ◌∙◌, subst, ◌<◌, length, get_or}
use Rattle.rx_graph.specs.Graph.{graph_of}
use Rattle.message_trials.proofs.Counting.{numbered, if_numbered, one_more, no_more}
use Rattle.message_trials.proofs.shown.taken.Goals as goal
use Rattle.message_trials.proofs.shown.taken.Goals.{then-is_same+else-count-number, else-is_same}

pub returns-then-count-number : goal.returns-then-count-number
returns-then-count-number c =
    if_numbered (graph_of c.args.message.now) c.args.node c.args.number c.loop-link.link-index c.link-item.result c.args.env.now
    (numbered (graph_of c.args.message.now) c.args.message.now.links.items c.as_slice-link-items.result.now c.args.node c.args.number c.loop-link.link-index c.loop-link.count c.link-item.result refl (sym c.as_slice-link-items.ensures.value) c.loop-link-test.true c.link-item.is (c.is_same.ensures.same.0 c.if-is_same.true) c.loop-link.invariant c.if-count-number.true)
    (λ l. l.now) c.if_true.result c.if_true.ensures

pub loop-link-preserved : goal.loop-link-preserved
loop-link-preserved c =
    let items = c.args.message.now.links.items in
    let same = c.as_slice-link-items.ensures.value in
    let within = subst (λ ls. c.loop-link.link-index < length ls) same c.loop-link-test.true in
    let is = subst (λ ls. c.link-item.result ≡ get_or ls c.loop-link.link-index c.link-item.result) same c.link-item.is in
    elim c.if-is_same.branch [
      | then-is_same+else-count-number w ↦ w.count-is ∙ one_more items c.args.node c.loop-link.link-index c.link-item.result within is c.is_same.result c.is_same.ensures.node w.if-is_same.true c.loop-link.count c.loop-link.invariant
      | else-is_same w ↦ w.count-is ∙ no_more items c.args.node c.loop-link.link-index c.link-item.result within is c.is_same.result c.is_same.ensures.node w.if-is_same.false c.loop-link.count c.loop-link.invariant
    ]
