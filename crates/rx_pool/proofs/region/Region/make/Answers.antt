use Rattle.std.proofs.Common.{◌≡◌, ℕ, ◌+◌, ◌<◌, ◌≤◌, List, [], ◌∷◌, length, map, replicate, refl, sym, ap, subst, ◌∙◌, arith, Vec, vec_capacity, length-append}
use Rattle.std.specs.Global.{Global}
use Rattle.std.specs.Prelude.{All}
use Rattle.std.proofs.lemmas.List.{length-map, length-replicate}
use Rattle.rx_pool.specs.Pool.{times}
use Rattle.rx_pool.specs.Rooms.{written, capacities, padded}
use Rattle.rx_pool.proofs.Made.{rooms-more, reserved-more, free-more, none-more, kept_new, padded_empty}
use Rattle.rx_pool.proofs.region.Region.make.Goals as goal

pub loop-number-preserved : goal.loop-number-preserved
loop-number-preserved c =
    let i = c.loop-number.invariant in
    let rooms = c.loop-number.rooms.items in
    let free = c.loop-number.free.items in
    let k = c.loop-number.number in
    let room = c.in_ok-with_capacity.field-0 in
    record {
      rooms = ap written c.in_ok-push.ensures.items ∙ rooms-more rooms room k c.in_ok-with_capacity.ensures.items i.rooms;
      reserved = subst (λ (rs : List (Vec ℕ Global)). All (λ n. c.args.slot_bytes ≤ n) (capacities rs)) (sym c.in_ok-push.ensures.items) (reserved-more c.args.slot_bytes rooms room (omega (arith, c.in_ok-with_capacity.ensures.exact)) i.reserved);
      numbers = omega (arith, i.numbers, c.push-in-loop-number.ensures.capacity);
      free = ap length c.in_ok-push-2.ensures.items ∙ length-append free (k ∷ []) ∙ ap (λ n. n + 1) i.free;
      all_free = subst (λ (ns : List ℕ). (n : ℕ) → n < k + 1 → times n ns ≡ 1) (sym c.in_ok-push-2.ensures.items) (free-more free k i.all_free i.no_more);
      no_more = subst (λ (ns : List ℕ). (n : ℕ) → k + 1 ≤ n → times n ns ≡ 0) (sym c.in_ok-push-2.ensures.items) (none-more free k i.no_more);
    }

pub invariant_of-result : goal.invariant_of-result
invariant_of-result c =
    let i = c.loop-number.invariant in
    let rooms = c.loop-number.rooms.items in
    let many : c.loop-number.number ≡ c.args.slots = omega (arith, c.loop-number.auto.number-end, c.loop-number-test.false) in (
      kept_new c.args.slot_bytes c.loop-number.number (written rooms) c.loop-number.free.items (omega (arith, c.requires.some)) i.rooms i.all_free i.no_more,
      record {
        bytes = i.reserved;
        free = omega (arith, i.numbers, many, length-map rooms vec_capacity, length-map rooms (λ (room : Vec ℕ Global). room.items), ap length i.rooms, length-replicate {A = List ℕ} c.loop-number.number []);
      },
    )

pub returns-clause-fresh : goal.returns-clause-fresh
returns-clause-fresh c =
    let i = c.loop-number.invariant in
    let many : c.loop-number.number ≡ c.args.slots = omega (arith, c.loop-number.auto.number-end, c.loop-number-test.false) in
    record {
      size = refl;
      count = ap length i.rooms ∙ length-replicate {A = List ℕ} c.loop-number.number [] ∙ many;
      bytes = ap (map (padded c.args.slot_bytes)) i.rooms ∙ padded_empty c.args.slot_bytes c.loop-number.number ∙ ap (λ k. replicate k (replicate c.args.slot_bytes 0)) many;
      all_free = λ n l. i.all_free n (omega (arith, l, many));
      free = i.free ∙ many;
    }

pub returns-clause-pool : goal.returns-clause-pool
returns-clause-pool c = (invariant_of-result c).0.pool
