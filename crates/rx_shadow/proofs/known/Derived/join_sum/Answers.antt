use Rattle.std.proofs.Common.{◌≡◌, sym, ap, ◌∙◌, ◌++◌, length, FitsSigned, Some, ℤ, to_z, of_z}
use Rattle.std.specs.Int.{w128}
use Rattle.std.proofs.lemmas.Int.{to_z-of_z}
use Rattle.std.proofs.lemmas.List.Elements.{Contains-append_left}
use Rattle.rx_linear.specs.declared.row.Row.{Row}
use Rattle.rx_linear.specs.Rows.{combined}
use Rattle.rx_shadow.proofs.Derivations.{combine_given}
use Rattle.rx_shadow.proofs.RowTests.{combined_length, on_ok}
use Rattle.rx_shadow.proofs.known.Derived.join_sum.Goals as goal

rows_same : (r s t u : Row) (a b : ℤ) → r ≡ s → t ≡ u → combined r a t b ≡ combined s a u b
rows_same r s t u a b h k = ap (λ (x : Row). combined x a t b) h ∙ ap (λ (x : Row). combined s a x b) k

pub join-requires-clause-length : goal.join-requires-clause-length
join-requires-clause-length c =
    ap (λ (row : Row). length row.coefficients) (c.in_ok-row.ensures.value ∙ rows_same c.row.result.now c.args.left.now.row c.row-2.result.now c.args.right.now.row (to_z w128 (of_z w128 c.args.left_times)) (to_z w128 (of_z w128 c.args.right_times)) c.row.ensures c.row-2.ensures)
    ∙ combined_length c.args.left.now.row c.args.right.now.row (to_z w128 (of_z w128 c.args.left_times)) (to_z w128 (of_z w128 c.args.right_times)) c.args.self.now.variables c.requires.left_fits.0 c.requires.right_fits.0

pub returns-clause-derived : goal.returns-clause-derived
returns-clause-derived c =
    let fa : FitsSigned w128 c.args.left_times = c.ranges.left_times in
    let fb : FitsSigned w128 c.args.right_times = c.ranges.right_times in
    on_ok c.join.result _ _
    (λ h given others cl cr d.
    h given others
    (let g = combine_given given c.args.self.now.given c.args.self.now.steps.items (others ++ c.args.self.now.known.items) c.args.left.now c.args.right.now c.args.left_times c.args.right_times d (Contains-append_left others c.args.self.now.known.items c.args.left.now cl) (Contains-append_left others c.args.self.now.known.items c.args.right.now cr) c.requires.left_fits.1 c.requires.right_fits.1 c.requires.left_multiplier c.requires.right_multiplier in
    let told : c.in_ok-row.row ≡ combined c.row.result.now c.args.left_times c.row-2.result.now c.args.right_times = simp to_z-of_z at c.in_ok-row.ensures.value in
    let e : c.in_ok-row.row ≡ combined c.args.left.now.row c.args.left_times c.args.right.now.row c.args.right_times = told ∙ rows_same c.row.result.now c.args.left.now.row c.row-2.result.now c.args.right.now.row c.args.left_times c.args.right_times c.row.ensures c.row-2.ensures in
    simp to_z-of_z (g ∙ ap (λ (row : Row). Some row) (sym e)))
    d)
    c.join.ensures.derived
