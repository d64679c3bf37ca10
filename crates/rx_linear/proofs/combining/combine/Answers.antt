use Rattle.std.proofs.Common.{◌≡◌, ◌^◌, ◌∙◌, sym, subst, ap, FitsSigned, List, ℤ, ◌*ℤ◌, ◌+ℤ◌, length, to_z, of_z}
use Rattle.std.specs.Int.{w128}
use Rattle.std.proofs.lemmas.Int.{to_z-of_z}
use Rattle.rx_linear.specs.declared.row.Row.{Row}
use Rattle.rx_model.specs.Sums.{weighted_sum}
use Rattle.rx_linear.specs.Rows.{AllBelow, Holds, Wide, combined}
use Rattle.rx_linear.proofs.Bounds.{weighted_call, constant_fits}
use Rattle.rx_linear.proofs.Soundness.{combined_holds, combined_wide}
use Rattle.rx_linear.proofs.Loops.{combine_step, combine_end}
use Rattle.rx_linear.proofs.combining.combine.Goals as goal

pub loop-i-preserved : goal.loop-i-preserved
loop-i-preserved c =
    let fa : FitsSigned w128 c.args.left_times = c.ranges.left_times in
    let fb : FitsSigned w128 c.args.right_times = c.ranges.right_times in
    let el = c.as_slice-left_coefficients.ensures in
    let er = c.as_slice-right_coefficients.ensures in
    let nl : AllBelow (2 ^ 20) c.as_slice-left_coefficients.result.now = rw el c.requires.left_narrow.0 in
    let nr : AllBelow (2 ^ 20) c.as_slice-right_coefficients.result.now = rw er c.requires.right_narrow.0 in
    let same : length c.as_slice-left_coefficients.result.now ≡ length c.as_slice-right_coefficients.result.now = ap length el ∙ c.requires.same_length ∙ sym (ap length er) in
    let fw : FitsSigned w128 c.weighted-coefficient.result = record { sfits = c.weighted-coefficient.type_inv } in
    simp to_z-of_z (combine_step c.loop-i.coefficients.items c.push.new.self.items c.as_slice-left_coefficients.result.now c.as_slice-right_coefficients.result.now (weighted_sum c.as_slice-left_coefficients.result.now c.args.left_times c.as_slice-right_coefficients.result.now c.args.right_times) c.args.left_times c.args.right_times c.weighted-coefficient.result c.loop-i.i fa fb nl nr c.loop-i-test.true same c.weighted-coefficient.ensures fw c.in_ok-push.ensures.items (simp to_z-of_z at c.loop-i.invariant))

-- the row that is returned
abbrev goal_row : goal.After-from_vec → Row
goal_row c = record { coefficients = c.from_vec.result; least = to_z w128 (of_z w128 c.weighted-least.result) }

pub returns : goal.returns
returns c =
    let fa : FitsSigned w128 c.args.left_times = c.ranges.left_times in
    let fb : FitsSigned w128 c.args.right_times = c.ranges.right_times in
    let el = c.as_slice-left_coefficients.ensures in
    let er = c.as_slice-right_coefficients.ensures in
    let same : length c.as_slice-left_coefficients.result.now ≡ length c.as_slice-right_coefficients.result.now = ap length el ∙ c.requires.same_length ∙ sym (ap length er) in
    let fl : FitsSigned w128 c.args.left.now.least = constant_fits c.args.left.now.least c.requires.left_narrow.1 in
    let fr : FitsSigned w128 c.args.right.now.least = constant_fits c.args.right.now.least c.requires.right_narrow.1 in
    let fw : FitsSigned w128 c.weighted-least.result = record { sfits = c.weighted-least.type_inv } in
    let constant : to_z w128 (of_z w128 c.weighted-least.result) ≡ c.args.left_times *ℤ c.args.left.now.least +ℤ c.args.right_times *ℤ c.args.right.now.least =
    to_z-of_z w128 c.weighted-least.result fw ∙ weighted_call c.args.left.now.least c.args.left_times c.args.right.now.least c.args.right_times c.weighted-least.result fa fb fl fr c.weighted-least.ensures in
    let list : c.loop-i.coefficients.items ≡ weighted_sum c.as_slice-left_coefficients.result.now c.args.left_times c.as_slice-right_coefficients.result.now c.args.right_times =
    combine_end c.loop-i.coefficients.items c.as_slice-left_coefficients.result.now c.as_slice-right_coefficients.result.now _ c.args.left_times c.args.right_times c.loop-i.i same c.loop-i-test.false (simp to_z-of_z at c.loop-i.invariant) in
    let named : c.loop-i.coefficients.items ≡ weighted_sum c.args.left.now.coefficients c.args.left_times c.args.right.now.coefficients c.args.right_times = cc in
    let at : c.from_vec.result ≡ weighted_sum c.args.left.now.coefficients c.args.left_times c.args.right.now.coefficients c.args.right_times = c.from_vec.ensures ∙ named in
    let value : goal_row c ≡ combined c.args.left.now c.args.left_times c.args.right.now c.args.right_times = cc in
    let sound : (point : List ℤ) → Holds c.args.left.now point → Holds c.args.right.now point → Holds (goal_row c) point =
    λ point hl hr. subst (λ (r : Row). Holds r point) (sym value) (combined_holds c.args.left.now c.args.right.now c.args.left_times c.args.right_times point c.requires.left_multiplier.0 c.requires.right_multiplier.0 hl hr) in
    let wide : Wide (goal_row c) =
    subst (λ (r : Row). Wide r) (sym value) (combined_wide c.args.left.now c.args.right.now c.args.left_times c.args.right_times c.requires.left_narrow c.requires.right_narrow c.requires.left_multiplier c.requires.right_multiplier) in
    record { value = value; sound = sound; wide = wide }
