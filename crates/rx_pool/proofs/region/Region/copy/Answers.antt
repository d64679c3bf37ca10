use Rattle.std.proofs.Common.{◌≡◌, ℕ, List, [], get_or, set, sym, ap, subst, ◌∙◌, Vec, vec_capacity}
use Rattle.std.specs.Global.{Global}
use Rattle.std.specs.Vec.{with_items}
use Rattle.rx_pool.specs.Pool.{Pool, IsOut, slot_of, with_slot}
use Rattle.rx_pool.specs.Rooms.{written, capacities, pool_of, IsReserved}
use Rattle.rx_pool.proofs.Copied.{same_length, kept_copied, pool_copied}
use Rattle.rx_pool.proofs.Parts.{refilled}
use Rattle.rx_pool.proofs.region.Region.copy.Goals as goal

pub invariant_of-self : goal.invariant_of-self
invariant_of-self c =
    let s = c.self.inside in
    let rooms = s.rooms.items in
    let new = c.copy_over.new.rooms in
    let p = pool_of s.size (written rooms) s.free.items in
    let m = c.number.result in
    let n = c.number-2.result in
    let there : IsOut p m = subst (λ k. IsOut p k) (sym c.number.ensures) (subst (λ (q : Pool). IsOut q c.args.from.now) (sym c.self.view_is) c.requires.from) in
    let here : IsOut p n = subst (λ k. IsOut p k) (sym c.number-2.ensures) (subst (λ (q : Pool). IsOut q c.args.to.now) (sym c.self.view_is) c.requires.to) in
    let copied : written new ≡ set (written rooms) n (get_or (written rooms) m []) = subst (λ (rs : List (Vec ℕ Global)). written new ≡ set (written rs) n (get_or (written rs) m [])) c.deref_mut.ensures.value c.copy_over.ensures.copied in
    let held : capacities new ≡ capacities rooms = c.copy_over.ensures.capacities ∙ ap capacities c.deref_mut.ensures.value in
    let whole = refilled rooms new s.rooms.len (same_length rooms new n (get_or (written rooms) m []) copied ∙ sym s.rooms.ok.0) in (
      kept_copied s.size rooms s.free.items m n (with_items s.rooms new).items there here (ap written whole ∙ copied) c.self.invariant.0,
      subst (λ (cs : List ℕ). IsReserved s.size cs (vec_capacity s.free)) (sym (ap capacities whole ∙ held)) c.self.invariant.1,
    )

pub returns-clause-copied : goal.returns-clause-copied
returns-clause-copied c =
    let s = c.self.inside in
    let rooms = s.rooms.items in
    let new = c.copy_over.new.rooms in
    let p = pool_of s.size (written rooms) s.free.items in
    let m = c.number.result in
    let n = c.number-2.result in
    let there : IsOut p m = subst (λ k. IsOut p k) (sym c.number.ensures) (subst (λ (q : Pool). IsOut q c.args.from.now) (sym c.self.view_is) c.requires.from) in
    let copied : written new ≡ set (written rooms) n (get_or (written rooms) m []) = subst (λ (rs : List (Vec ℕ Global)). written new ≡ set (written rs) n (get_or (written rs) m [])) c.deref_mut.ensures.value c.copy_over.ensures.copied in
    let whole = refilled rooms new s.rooms.len (same_length rooms new n (get_or (written rooms) m []) copied ∙ sym s.rooms.ok.0) in
    pool_copied s.size rooms s.free.items m n (with_items s.rooms new).items there (ap written whole ∙ copied) c.self.invariant.0
    ∙ ap (λ k. with_slot p n (slot_of p k)) c.number.ensures
    ∙ ap (λ k. with_slot p k (slot_of p c.args.from.now)) c.number-2.ensures
    ∙ ap (λ (q : Pool). with_slot q c.args.to.now (slot_of q c.args.from.now)) c.self.view_is

pub returns-clause-pool : goal.returns-clause-pool
returns-clause-pool c = (invariant_of-self c).0.pool
