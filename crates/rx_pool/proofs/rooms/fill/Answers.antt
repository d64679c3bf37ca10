use Rattle.std.proofs.Common.{◌<◌, [], ◌∷◌, ap, ◌∙◌, arith, length-append, length}
use Rattle.rx_pool.specs.Rooms.{padded}
use Rattle.rx_pool.proofs.Written.{padded-more}
use Rattle.rx_pool.proofs.rooms.fill.Goals as goal

pub loop-room-preserved : goal.loop-room-preserved
loop-room-preserved c =
    let i = c.loop-room.invariant in
    let items = c.in-Ok.ensures.items in
    let more : length c.loop-room.room.items < c.args.size = omega (arith, c.loop-room-test.true, c.len.ensures, c.loop-room.room.ok.0) in
    record {
      short = omega (arith, ap length items, length-append c.loop-room.room.items (0 ∷ []), more);
      same = ap (padded c.args.size) items ∙ padded-more c.args.size c.loop-room.room.items more ∙ i.same;
      reserved = omega (arith, i.reserved, c.push.ensures.capacity);
      capacity = omega (arith, i.capacity, c.push.ensures.capacity);
    }
