use Rattle.std.proofs.Common.{◌-ℤ◌, ◌≡◌, ◌∙◌, ◌+◌, ◌<◌, ◌^◌, sym, ap, subst, arith, ℤ, List, get_or, pos, to_z, of_z, map, take, drop, length, length-take, length-drop, get_or-drop}
use Rattle.std.specs.Int.{w128, int_div_euclid}
use Rattle.std.specs.Prelude.{slice_range}
use Rattle.std.proofs.lemmas.Int.{ints}
use Rattle.std.proofs.lemmas.List.{length-map}
use Rattle.rx_linear.specs.Rows.{AllBelow}
use Rattle.rx_linear.specs.Divisors.{common_divisor_of, divided_up}
use Rattle.rx_linear.proofs.Divisors.{divisor_below, divided_up_code}
use Rattle.rx_linear.proofs.Stacked.{part_is, written_row, written_after, divided_is_tight, undivided_is_tight}
use Rattle.rx_linear.proofs.buffer.tighten_at.Goals as goal

divisor : (c : goal.After-div_euclid) → c.common_divisor-divisor.result ≡ common_divisor_of (take c.args.variables (drop c.args.at c.args.cells.now))
divisor c = c.common_divisor-divisor.ensures.value ∙ ap common_divisor_of (part_is c.args.cells.now c.args.at c.args.variables)

below : (c : goal.After-div_euclid) → c.common_divisor-divisor.result < 2 ^ 41
below c =
    divisor_below _ c.common_divisor-divisor.result (2 ^ 41) (omega arith) (subst (λ (zs : List ℤ). AllBelow (2 ^ 41) zs) (sym (part_is c.args.cells.now c.args.at c.args.variables)) c.requires.wide.0) c.common_divisor-divisor.ensures.greatest

divided : (c : goal.After-div_euclid) → c.divide_each.new.numbers ≡ map (λ z. int_div_euclid z (pos c.common_divisor-divisor.result)) (take c.args.variables (drop c.args.at c.args.cells.now))
divided c =
    let known : to_z w128 c.common_divisor-divisor.result ≡ pos c.common_divisor-divisor.result = omega (arith, ints, below c) in
    c.divide_each.ensures
    ∙ ap (λ (d : ℤ). map (λ z. int_div_euclid z d) (slice_range c.args.cells.now c.args.at (c.args.at + c.args.variables))) known
    ∙ ap (λ (zs : List ℤ). map (λ z. int_div_euclid z (pos c.common_divisor-divisor.result)) zs) (part_is c.args.cells.now c.args.at c.args.variables)

written : (c : goal.After-div_euclid) → length c.divide_each.new.numbers ≡ c.args.variables
written c = omega (arith, ap length (divided c), length-map (take c.args.variables (drop c.args.at c.args.cells.now)) (λ z. int_div_euclid z (pos c.common_divisor-divisor.result)), length-take c.args.variables (drop c.args.at c.args.cells.now), length-drop c.args.at c.args.cells.now)

constant : (c : goal.After-div_euclid) → to_z w128 (of_z w128 (pos 0 -ℤ to_z w128 (of_z w128 c.div_euclid.result))) ≡ divided_up (get_or (drop c.args.at c.args.cells.now) c.args.variables (pos 0)) c.common_divisor-divisor.result
constant c =
    let least = get_or-drop c.args.at c.args.cells.now c.args.variables (pos 0) in
    divided_up_code (get_or c.args.cells.now (c.args.at + c.args.variables) (pos 0)) c.div_euclid.result c.common_divisor-divisor.result (rw least at c.requires.wide.1) (below c) c.div_euclid.ensures
    ∙ ap (λ (z : ℤ). divided_up z c.common_divisor-divisor.result) (sym least)

pub returns-then-divisor-gt1-clause-value : goal.returns-then-divisor-gt1-clause-value
returns-then-divisor-gt1-clause-value c =
    written_row c.args.at c.args.variables c.args.cells.now c.divide_each.new.numbers _ c.requires.room (written c)
    ∙ divided_is_tight c.args.variables c.common_divisor-divisor.result (drop c.args.at c.args.cells.now) c.divide_each.new.numbers _ c.if-divisor-gt1.true (divisor c) (divided c) (constant c)

pub returns-then-divisor-gt1-clause-after : goal.returns-then-divisor-gt1-clause-after
returns-then-divisor-gt1-clause-after c = written_after c.args.at c.args.variables c.args.cells.now c.divide_each.new.numbers _ c.requires.room (written c)

pub returns-else-divisor-gt1-clause-value : goal.returns-else-divisor-gt1-clause-value
returns-else-divisor-gt1-clause-value c =
    undivided_is_tight c.args.variables c.common_divisor-divisor.result (drop c.args.at c.args.cells.now) (omega arith) (c.common_divisor-divisor.ensures.value ∙ ap common_divisor_of (part_is c.args.cells.now c.args.at c.args.variables))
