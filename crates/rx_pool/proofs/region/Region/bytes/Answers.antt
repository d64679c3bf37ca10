use Rattle.std.proofs.Common.{◌≡◌, sym, ap, subst, ◌∙◌, length}
use Rattle.rx_pool.specs.Pool.{Pool, IsOut, IsPool, slot_of}
use Rattle.rx_pool.specs.Rooms.{written, pool_of}
use Rattle.rx_pool.proofs.Written.{bytes_are, length_is}
use Rattle.rx_pool.proofs.region.Region.bytes.Goals as goal

pub returns : goal.returns
returns c =
    let size = c.self.inside.size in
    let rooms = c.self.inside.rooms.items in
    let free = c.self.inside.free.items in
    let p = pool_of size (written rooms) free in
    let n = c.number.result in
    let room = c.index.result.now in
    let kept = c.self.invariant.0 in
    let out : IsOut p n = subst (λ m. IsOut p m) (sym c.number.ensures) (subst (λ (q : Pool). IsOut q c.args.slot.now) (sym c.self.view_is) c.requires) in
    let same : slot_of p n ≡ slot_of c.args.self.now c.args.slot.now = ap (slot_of p) c.number.ensures ∙ ap (λ (q : Pool). slot_of q c.args.slot.now) c.self.view_is in
    record {
      bytes = c.as_slice.ensures.value ∙ sym (bytes_are size rooms free n room kept out c.index.ensures) ∙ same;
      length = ap length c.as_slice.ensures.value ∙ length_is size rooms free n room kept out c.index.ensures ∙ ap (λ (q : Pool). q.size) c.self.view_is;
      pool = subst IsPool c.self.view_is kept.pool;
    }
