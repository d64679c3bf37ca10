use Rattle.rx_spec.specs.Shape.{bare_arrow}
use Rattle.rx_spec.proofs.Made.{one_more}
use Rattle.rx_spec.proofs.counting.bare_links.Goals as goal

pub loop-way-preserved : goal.loop-way-preserved
loop-way-preserved c =
    one_more (bare_arrow c.args.place) c.loop-way.links.items c.push.new.self.items c.bare_link.result c.args.ways.now c.loop-way.way-index _
    c.loop-way-test.true c.bare_link.ensures c.in_ok-push.ensures.items c.loop-way.invariant
