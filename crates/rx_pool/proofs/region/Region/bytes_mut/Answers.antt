use Rattle.std.proofs.Common.{◌≡◌, refl, sym, ap, subst, ◌∙◌, length, vec_capacity}
use Rattle.std.specs.Vec.{with_items}
use Rattle.rx_pool.specs.Pool.{Pool, IsOut, IsPool, slot_of, with_slot, overwritten}
use Rattle.rx_pool.specs.Rooms.{written, pool_of}
use Rattle.rx_pool.proofs.Written.{is_placed, bytes_are, length_is, capacity_is, kept_room, pool_room, length-with_items, items_written}
use Rattle.rx_pool.proofs.region.Region.bytes_mut.Goals as goal

pub invariant_of-self-lent : goal.invariant_of-self-lent
invariant_of-self-lent c w =
    let s = c.self.inside in
    let p = pool_of s.size (written s.rooms.items) s.free.items in
    let n = c.number.result in
    let room = c.index_mut.result.now in
    let out : IsOut p n = subst (λ m. IsOut p m) (sym c.number.ensures) (subst (λ (q : Pool). IsOut q c.args.slot.now) (sym c.self.view_is) c.requires) in
    let l = is_placed s.size s.rooms.items s.free.items n out in
    let long = length-with_items room w ∙ length_is s.size s.rooms.items s.free.items n room c.self.invariant.0 out c.index_mut.ensures.value in
    let held = capacity_is s.size s.rooms.items (vec_capacity s.free) n room c.self.invariant.1 l c.index_mut.ensures.value in
    kept_room s.size s.rooms.items s.free.items (vec_capacity s.free) n (with_items room w) long held l c.self.invariant.0 c.self.invariant.1

pub returns : goal.returns
returns c =
    let s = c.self.inside in
    let p = pool_of s.size (written s.rooms.items) s.free.items in
    let n = c.number.result in
    let room = c.index_mut.result.now in
    let kept = c.self.invariant.0 in
    let out : IsOut p n = subst (λ m. IsOut p m) (sym c.number.ensures) (subst (λ (q : Pool). IsOut q c.args.slot.now) (sym c.self.view_is) c.requires) in
    let are = bytes_are s.size s.rooms.items s.free.items n room kept out c.index_mut.ensures.value in
    let long = length_is s.size s.rooms.items s.free.items n room kept out c.index_mut.ensures.value in
    let same : slot_of p n ≡ slot_of c.args.self.now c.args.slot.now = ap (slot_of p) c.number.ensures ∙ ap (λ (q : Pool). slot_of q c.args.slot.now) c.self.view_is in (
      (
        refl,
        λ w. pool_room s.size s.rooms.items s.free.items n (with_items room w) (length-with_items room w ∙ long)
            ∙ ap (with_slot p n) (items_written room w ∙ ap (λ b. overwritten b w) (sym are ∙ same))
            ∙ ap (λ m. with_slot p m (overwritten (slot_of c.args.self.now c.args.slot.now) w)) c.number.ensures
            ∙ ap (λ (q : Pool). with_slot q c.args.slot.now (overwritten (slot_of c.args.self.now c.args.slot.now) w)) c.self.view_is,
      ),
      record {
        writes_back = tt;
        bytes = c.as_mut_slice.ensures.value ∙ sym are ∙ same;
        length = ap length c.as_mut_slice.ensures.value ∙ long ∙ ap (λ (q : Pool). q.size) c.self.view_is;
        pool = subst IsPool c.self.view_is kept.pool;
      },
    )
