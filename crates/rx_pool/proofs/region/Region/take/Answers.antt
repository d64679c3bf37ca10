use Rattle.std.proofs.Common.{◌+◌, ◌≤◌, sym, ap, subst, ◌∙◌, arith, vec_capacity}
use Rattle.rx_pool.specs.Pool.{IsOut, Pool, times}
use Rattle.rx_pool.proofs.Numbers.{held-taken}
use Rattle.rx_pool.proofs.Taken.{kept_filled, reserved_filled, same_slots, same_count, still_out, is_out, short_room, is_placed_room}
use Rattle.rx_pool.proofs.Written.{capacity_is}
use Rattle.rx_pool.proofs.region.Region.take.Goals as goal

pub index_mut-requires : goal.index_mut-requires
index_mut-requires c =
    let s = c.self.inside in
    omega (arith, s.rooms.ok.0, is_placed_room s.size s.rooms.items s.free.items c.pop.new.self.items c.in-Some.number c.in-Some.ensures.items c.self.invariant.0)

pub fill-requires-clause-short : goal.fill-requires-clause-short
fill-requires-clause-short c =
    let s = c.self.inside in
    short_room s.size s.rooms.items s.free.items c.pop.new.self.items c.in-Some.number c.index_mut.result.now c.in-Some.ensures.items c.self.invariant.0 c.index_mut.ensures.value

pub fill-requires-clause-reserved : goal.fill-requires-clause-reserved
fill-requires-clause-reserved c =
    let s = c.self.inside in
    let l = is_placed_room s.size s.rooms.items s.free.items c.pop.new.self.items c.in-Some.number c.in-Some.ensures.items c.self.invariant.0 in
    capacity_is s.size s.rooms.items (vec_capacity s.free) c.in-Some.number c.index_mut.result.now c.self.invariant.1 l c.index_mut.ensures.value

pub invariant_of-self : goal.invariant_of-self
invariant_of-self c =
    let s = c.self.inside in
    let room = c.index_mut.result.now in
    let l = is_placed_room s.size s.rooms.items s.free.items c.pop.new.self.items c.in-Some.number c.in-Some.ensures.items c.self.invariant.0 in
    let held = capacity_is s.size s.rooms.items (vec_capacity s.free) c.in-Some.number room c.self.invariant.1 l c.index_mut.ensures.value in (
      kept_filled s.size s.rooms.items s.free.items c.pop.new.self.items c.in-Some.number room c.fill.new.room c.in-Some.ensures.items c.self.invariant.0 c.index_mut.ensures.value c.fill.ensures.filled,
      reserved_filled s.size s.rooms.items (vec_capacity s.free) (vec_capacity c.pop.new.self) c.in-Some.number c.fill.new.room (omega (arith, held, c.fill.ensures.capacity)) (omega (arith, c.pop.ensures.capacity)) c.self.invariant.1,
    )

pub returns-in-Some-clause-out : goal.returns-in-Some-clause-out
returns-in-Some-clause-out c =
    let s = c.self.inside in
    rw c.of.ensures (is_out s.size s.rooms.items s.free.items c.pop.new.self.items c.in-Some.number c.fill.new.room c.in-Some.ensures.items c.self.invariant.0)

pub returns-in-Some-clause-kept : goal.returns-in-Some-clause-kept
returns-in-Some-clause-kept c =
    let s = c.self.inside in
    let room = c.index_mut.result.now in
    record {
      size = ap (λ (q : Pool). q.size) c.self.view_is;
      count = same_count s.size s.rooms.items s.free.items c.pop.new.self.items c.in-Some.number c.fill.new.room ∙ ap (λ (q : Pool). q.count) c.self.view_is;
      slots = same_slots s.size s.rooms.items s.free.items c.pop.new.self.items c.in-Some.number room c.fill.new.room c.in-Some.ensures.items c.self.invariant.0 c.index_mut.ensures.value c.fill.ensures.filled ∙ ap (λ (q : Pool). q.slots) c.self.view_is;
    }

pub returns-in-Some-clause-pool : goal.returns-in-Some-clause-pool
returns-in-Some-clause-pool c = (invariant_of-self c).0.pool

pub returns-in-Some-clause-apart : goal.returns-in-Some-clause-apart
returns-in-Some-clause-apart c held h m =
    let s = c.self.inside in
    rw c.of.ensures (held-taken m c.in-Some.number s.free.items c.pop.new.self.items held c.in-Some.ensures.items (subst (λ (q : Pool). times m q.free + times m held ≤ 1) (sym c.self.view_is) (h m)))

pub returns-in-Some-clause-others : goal.returns-in-Some-clause-others
returns-in-Some-clause-others c m out =
    let s = c.self.inside in
    still_out s.size s.rooms.items s.free.items c.pop.new.self.items c.in-Some.number c.fill.new.room m c.in-Some.ensures.items (subst (λ (q : Pool). IsOut q m) (sym c.self.view_is) out)
