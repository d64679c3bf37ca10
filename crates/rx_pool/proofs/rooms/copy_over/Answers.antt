use Rattle.std.proofs.Common.{ℕ, ◌<◌, length, sym, ap, ◌∙◌, arith, Vec, vec_capacity}
use Rattle.std.specs.Global.{Global}
use Rattle.rx_pool.specs.Rooms.{written, capacities}
use Rattle.rx_pool.proofs.Parts.{set_front, set_back, get_front, get_back, written_over, same_capacities}
use Rattle.rx_pool.proofs.rooms.copy_over.Goals as goal

pub returns-then-from-to-clause-copied : goal.returns-then-from-to-clause-copied
returns-then-from-to-clause-copied c =
    let rooms = c.args.rooms.now in
    let front = c.split_at_mut-front.result.0.now in
    let back = c.split_at_mut-front.result.1.now in
    let parts = c.split_at_mut-front.ensures in
    let source = c.index-front-from.result in
    let room = c.copy_from_slice.new.self in
    let inside : c.args.from < length front = omega (arith, parts.front_len, c.if-from-to.true) in
    ap written (set_back rooms front back c.args.to room parts.value parts.front_len)
    ∙ written_over rooms c.args.from c.args.to source room (c.index-front-from.is ∙ get_front rooms front back c.args.from source parts.value inside) c.requires.from (c.copy_from_slice.ensures.items ∙ c.deref.ensures.value ∙ ap (λ (v : Vec ℕ Global). v.items) (sym c.index-front-from.is))

pub returns-then-to-from-clause-copied : goal.returns-then-to-from-clause-copied
returns-then-to-from-clause-copied c =
    let rooms = c.args.rooms.now in
    let front = c.split_at_mut-front-then-to-from.result.0.now in
    let back = c.split_at_mut-front-then-to-from.result.1.now in
    let parts = c.split_at_mut-front-then-to-from.ensures in
    let source = c.index-back-0-then-to-from.result in
    let room = c.copy_from_slice-then-to-from.new.self in
    let inside : c.args.to < length front = omega (arith, parts.front_len, c.if-to-from.true) in
    ap written (set_front rooms front back c.args.to room parts.value inside)
    ∙ written_over rooms c.args.from c.args.to source room (c.index-back-0-then-to-from.is ∙ get_back rooms front back c.args.from source parts.value parts.front_len) c.requires.from (c.copy_from_slice-then-to-from.ensures.items ∙ c.deref-then-to-from.ensures.value ∙ ap (λ (v : Vec ℕ Global). v.items) (sym c.index-back-0-then-to-from.is))

pub returns-then-to-from-clause-capacities : goal.returns-then-to-from-clause-capacities
returns-then-to-from-clause-capacities c =
    let rooms = c.args.rooms.now in
    let front = c.split_at_mut-front-then-to-from.result.0.now in
    let back = c.split_at_mut-front-then-to-from.result.1.now in
    let parts = c.split_at_mut-front-then-to-from.ensures in
    let old = c.index-front-to.result in
    let room = c.copy_from_slice-then-to-from.new.self in
    let inside : c.args.to < length front = omega (arith, parts.front_len, c.if-to-from.true) in
    ap capacities (set_front rooms front back c.args.to room parts.value inside)
    ∙ same_capacities rooms c.args.to old room (c.index-front-to.is ∙ get_front rooms front back c.args.to old parts.value inside) (c.copy_from_slice-then-to-from.ensures.capacity ∙ ap vec_capacity (sym c.index-front-to.is))
