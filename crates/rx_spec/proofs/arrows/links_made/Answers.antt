use Rattle.rx_elab.specs.Parts.{message_parts_of}
use Rattle.rx_spec.specs.Arrows.{arrow_of_way}
use Rattle.rx_spec.proofs.Made.{one_more}
use Rattle.rx_spec.proofs.arrows.links_made.Goals as goal

pub loop-way-preserved : goal.loop-way-preserved
loop-way-preserved c =
    one_more (arrow_of_way c.args.name.now c.args.message.now (message_parts_of c.args.parts.now)) c.loop-way.links.items c.push.new.self.items c.in_ok-link_of_way.field-0 c.args.ways.now c.loop-way.way-index _
    c.loop-way-test.true c.in_ok-link_of_way.ensures c.in_ok-push.ensures.items c.loop-way.invariant
