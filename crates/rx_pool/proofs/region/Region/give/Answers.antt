use Rattle.std.proofs.Common.{◌≡◌, ℕ, ◌+◌, ◌≤◌, List, [], ◌∷◌, ◌++◌, sym, ap, subst, ◌∙◌, arith, vec_capacity}
use Rattle.rx_pool.specs.Pool.{Pool, IsOut, times}
use Rattle.rx_pool.specs.Rooms.{written, capacities, IsKept}
use Rattle.rx_pool.proofs.Numbers.{times-other, held-given}
use Rattle.rx_pool.proofs.Slots.{kept_given}
use Rattle.rx_pool.proofs.Written.{fits, more_reserved}
use Rattle.rx_pool.proofs.region.Region.give.Goals as goal

pub unreachable-requires : goal.unreachable-requires
unreachable-requires c =
    let s = c.self.inside in
    let out = subst (λ (q : Pool). IsOut q c.args.slot) (sym c.self.view_is) c.requires in
    omega (arith, s.free.ok.0, c.in-Err.ensures.full, fits s.size s.rooms.items s.free.items (vec_capacity s.free) c.args.slot c.self.invariant.0 c.self.invariant.1 out)

pub invariant_of-self : goal.invariant_of-self
invariant_of-self c =
    let s = c.self.inside in
    let out = subst (λ (q : Pool). IsOut q c.args.slot) (sym c.self.view_is) c.requires in
    let items : c.push.new.self.items ≡ s.free.items ++ c.args.slot ∷ [] = c.in-Ok.ensures.items ∙ ap (λ n. s.free.items ++ n ∷ []) c.number.ensures in (
      subst (λ (ns : List ℕ). IsKept s.size (written s.rooms.items) ns) (sym items) (kept_given s.size (written s.rooms.items) s.free.items c.args.slot out c.self.invariant.0),
      more_reserved s.size (capacities s.rooms.items) (vec_capacity s.free) (vec_capacity c.push.new.self) c.push.ensures.capacity c.self.invariant.1,
    )

pub returns-clause-pool : goal.returns-clause-pool
returns-clause-pool c = (invariant_of-self c).0.pool

pub returns-clause-apart : goal.returns-clause-apart
returns-clause-apart c held h m =
    let s = c.self.inside in
    let items : c.push.new.self.items ≡ s.free.items ++ c.args.slot ∷ [] = c.in-Ok.ensures.items ∙ ap (λ n. s.free.items ++ n ∷ []) c.number.ensures in
    held-given m c.args.slot s.free.items c.push.new.self.items held items (subst (λ (q : Pool). times m q.free + times m (c.args.slot ∷ held) ≤ 1) (sym c.self.view_is) (h m))

pub returns-clause-others : goal.returns-clause-others
returns-clause-others c m out other =
    let s = c.self.inside in
    let was = subst (λ (q : Pool). IsOut q m) (sym c.self.view_is) out in
    let items : c.push.new.self.items ≡ s.free.items ++ c.args.slot ∷ [] = c.in-Ok.ensures.items ∙ ap (λ n. s.free.items ++ n ∷ []) c.number.ensures in
    (was.0, ap (times m) items ∙ times-other m c.args.slot s.free.items other ∙ was.1)
