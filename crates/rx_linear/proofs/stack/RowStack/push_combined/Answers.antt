use Rattle.std.proofs.Common.{take, ◌≡◌, ◌∙◌, ◌<◌, ◌*◌, ◌+◌, arith, sym, ap, subst, length, List, ℤ, true, false, drop, FitsSigned}
use Rattle.std.specs.Int.{w128}
use Rattle.std.specs.Prelude.{slice_get, ◌++◌, ◌∷◌, []}
use Rattle.std.specs.Vec.{with_items}
use Rattle.std.proofs.lemmas.Int.{to_z-of_z}
use Rattle.std.proofs.lemmas.List.{with_items_is}
use Rattle.rx_linear.specs.Rows.{combined, Narrow, IsMultiplier}
use Rattle.rx_linear.specs.Steps.{combine_found}
use Rattle.rx_linear.specs.Cells.{Stacked, IsStack, Pushes, row_of, rows_of, can_combine}
use Rattle.rx_linear.proofs.Stacks.{pushed_row, place_below}
use Rattle.rx_linear.proofs.Soundness.{combined_wide}
use Rattle.rx_linear.proofs.Stacking.{count_below, room_for, room_of_all, pushed_stack, Combines, combines_from_test, combine_taken, combine_refused, pushes_none, pushes_some}
use Rattle.rx_linear.proofs.stack.RowStack.push_combined.Goals as goal

pub can_combine-requires-clause-room : goal.can_combine-requires-clause-room
can_combine-requires-clause-room c = rw c.deref.ensures.value (room_of_all c.self.inside.variables c.self.inside.count c.self.inside.limit c.self.inside.cells.items c.self.invariant)

pub returns-then-not-can_combine-clause-pushes : goal.returns-then-not-can_combine-clause-pushes
returns-then-not-can_combine-clause-pushes c =
    let fa : FitsSigned w128 c.args.left_times = c.ranges.left_times in
    let fb : FitsSigned w128 c.args.right_times = c.ranges.right_times in
    let tested : c.can_combine.result ≡ can_combine c.self.inside.variables c.self.inside.count c.self.inside.cells.items c.args.left c.args.left_times c.args.right c.args.right_times =
    (simp to_z-of_z at c.can_combine.ensures) ∙ ap (λ (zs : List ℤ). can_combine c.self.inside.variables c.self.inside.count zs c.args.left c.args.left_times c.args.right c.args.right_times) c.deref.ensures.value in
    subst (λ (s : Stacked). Pushes s.rows (combine_found (slice_get s.rows c.args.left) c.args.left_times (slice_get s.rows c.args.right) c.args.right_times) false s.rows) c.self.view_is
    (pushes_none (rows_of c.self.inside.variables c.self.inside.count c.self.inside.cells.items) _ (combine_refused c.self.inside.variables c.self.inside.count c.self.inside.cells.items c.args.left c.args.left_times c.args.right c.args.right_times (sym tested ∙ c.if-not-can_combine.true)))

passed : (c : goal.After-deref_mut) → can_combine c.self.inside.variables c.self.inside.count c.self.inside.cells.items c.args.left c.args.left_times c.args.right c.args.right_times ≡ true
passed c =
    let fa : FitsSigned w128 c.args.left_times = c.ranges.left_times in
    let fb : FitsSigned w128 c.args.right_times = c.ranges.right_times in
    let tested : c.can_combine.result ≡ can_combine c.self.inside.variables c.self.inside.count c.self.inside.cells.items c.args.left c.args.left_times c.args.right c.args.right_times =
    (simp to_z-of_z at c.can_combine.ensures) ∙ ap (λ (zs : List ℤ). can_combine c.self.inside.variables c.self.inside.count zs c.args.left c.args.left_times c.args.right c.args.right_times) c.deref.ensures.value in
    sym tested ∙ c.if-not-can_combine.false

met : (c : goal.After-deref_mut) → Combines c.self.inside.variables c.self.inside.count c.self.inside.cells.items c.args.left c.args.left_times c.args.right c.args.right_times
met c = combines_from_test c.self.inside.variables c.self.inside.count c.self.inside.cells.items c.args.left c.args.left_times c.args.right c.args.right_times (passed c)

pub combine_at-requires-clause-left_before : goal.combine_at-requires-clause-left_before
combine_at-requires-clause-left_before c = omega (arith, place_below c.args.left c.self.inside.count (c.self.inside.variables + 1) (met c).left_there)

pub combine_at-requires-clause-right_before : goal.combine_at-requires-clause-right_before
combine_at-requires-clause-right_before c = omega (arith, place_below c.args.right c.self.inside.count (c.self.inside.variables + 1) (met c).right_there)

pub combine_at-requires-clause-room : goal.combine_at-requires-clause-room
combine_at-requires-clause-room c =
    rw c.deref_mut.ensures.value (room_for c.self.inside.variables c.self.inside.count c.self.inside.limit c.self.inside.cells.items c.self.invariant (count_below c.self.inside.variables c.self.inside.count c.self.inside.limit c.self.inside.cells.items c.args.self.now c.self.view_is c.requires.room))

pub combine_at-requires-clause-left_narrow : goal.combine_at-requires-clause-left_narrow
combine_at-requires-clause-left_narrow c = subst (λ (zs : List ℤ). Narrow (row_of c.self.inside.variables (drop (c.args.left * (c.self.inside.variables + 1)) zs))) (sym c.deref_mut.ensures.value) (met c).left_narrow

pub combine_at-requires-clause-right_narrow : goal.combine_at-requires-clause-right_narrow
combine_at-requires-clause-right_narrow c = subst (λ (zs : List ℤ). Narrow (row_of c.self.inside.variables (drop (c.args.right * (c.self.inside.variables + 1)) zs))) (sym c.deref_mut.ensures.value) (met c).right_narrow

pub combine_at-requires-clause-left_multiplier : goal.combine_at-requires-clause-left_multiplier
combine_at-requires-clause-left_multiplier c = subst IsMultiplier (sym (to_z-of_z w128 c.args.left_times c.ranges.left_times)) (met c).left_multiplier

pub combine_at-requires-clause-right_multiplier : goal.combine_at-requires-clause-right_multiplier
combine_at-requires-clause-right_multiplier c = subst IsMultiplier (sym (to_z-of_z w128 c.args.right_times c.ranges.right_times)) (met c).right_multiplier

below : (c : goal.After-self-2-1) → c.self.inside.count < c.self.inside.limit
below c = count_below c.self.inside.variables c.self.inside.count c.self.inside.limit c.self.inside.cells.items c.args.self.now c.self.view_is c.requires.room

same : (c : goal.After-self-2-1) → length c.combine_at.new.cells ≡ length c.self.inside.cells.items
same c = c.combine_at.auto.cells ∙ ap length c.deref_mut.ensures.value

written : (c : goal.After-self-2-1) → (with_items c.self.inside.cells c.combine_at.new.cells).items ≡ c.combine_at.new.cells
written c = with_items_is c.self.inside.cells c.combine_at.new.cells (same c ∙ sym c.self.inside.cells.ok.0)

-- that the two rows may be combined, after their sum was written
passes : (c : goal.After-self-2-1) → can_combine c.self.inside.variables c.self.inside.count c.self.inside.cells.items c.args.left c.args.left_times c.args.right c.args.right_times ≡ true
passes c =
    let fa : FitsSigned w128 c.args.left_times = c.ranges.left_times in
    let fb : FitsSigned w128 c.args.right_times = c.ranges.right_times in
    let tested : c.can_combine.result ≡ can_combine c.self.inside.variables c.self.inside.count c.self.inside.cells.items c.args.left c.args.left_times c.args.right c.args.right_times =
    (simp to_z-of_z at c.can_combine.ensures) ∙ ap (λ (zs : List ℤ). can_combine c.self.inside.variables c.self.inside.count zs c.args.left c.args.left_times c.args.right c.args.right_times) c.deref.ensures.value in
    sym tested ∙ c.if-not-can_combine.false

known : (c : goal.After-self-2-1) → Combines c.self.inside.variables c.self.inside.count c.self.inside.cells.items c.args.left c.args.left_times c.args.right c.args.right_times
known c = combines_from_test c.self.inside.variables c.self.inside.count c.self.inside.cells.items c.args.left c.args.left_times c.args.right c.args.right_times (passes c)

given : (c : goal.After-self-2-1) → row_of c.self.inside.variables (drop (c.self.inside.count * (c.self.inside.variables + 1)) c.combine_at.new.cells) ≡ (combined (row_of c.self.inside.variables (drop (c.args.left * (c.self.inside.variables + 1)) c.self.inside.cells.items)) c.args.left_times (row_of c.self.inside.variables (drop (c.args.right * (c.self.inside.variables + 1)) c.self.inside.cells.items)) c.args.right_times)
given c =
    let fa : FitsSigned w128 c.args.left_times = c.ranges.left_times in
    let fb : FitsSigned w128 c.args.right_times = c.ranges.right_times in
    (simp to_z-of_z at c.combine_at.ensures.value) ∙ ap (λ (zs : List ℤ). combined (row_of c.self.inside.variables (drop (c.args.left * (c.self.inside.variables + 1)) zs)) c.args.left_times (row_of c.self.inside.variables (drop (c.args.right * (c.self.inside.variables + 1)) zs)) c.args.right_times) c.deref_mut.ensures.value

-- the rows that are left
left : (c : goal.After-self-2-1) → rows_of c.self.inside.variables (c.self.inside.count + 1) c.combine_at.new.cells ≡ rows_of c.self.inside.variables c.self.inside.count c.self.inside.cells.items ++ (combined (row_of c.self.inside.variables (drop (c.args.left * (c.self.inside.variables + 1)) c.self.inside.cells.items)) c.args.left_times (row_of c.self.inside.variables (drop (c.args.right * (c.self.inside.variables + 1)) c.self.inside.cells.items)) c.args.right_times) ∷ []
left c =
    pushed_row c.self.inside.variables c.self.inside.count c.self.inside.cells.items c.combine_at.new.cells (combined (row_of c.self.inside.variables (drop (c.args.left * (c.self.inside.variables + 1)) c.self.inside.cells.items)) c.args.left_times (row_of c.self.inside.variables (drop (c.args.right * (c.self.inside.variables + 1)) c.self.inside.cells.items)) c.args.right_times)
    (c.combine_at.ensures.before ∙ ap (take (c.self.inside.count * (c.self.inside.variables + 1))) c.deref_mut.ensures.value)
    (given c)

pub invariant_of-self : goal.invariant_of-self
invariant_of-self c =
    subst (λ (zs : List ℤ). IsStack c.self.inside.variables (c.self.inside.count + 1) c.self.inside.limit zs) (sym (written c))
    (pushed_stack c.self.inside.variables c.self.inside.count c.self.inside.limit c.self.inside.cells.items c.combine_at.new.cells (combined (row_of c.self.inside.variables (drop (c.args.left * (c.self.inside.variables + 1)) c.self.inside.cells.items)) c.args.left_times (row_of c.self.inside.variables (drop (c.args.right * (c.self.inside.variables + 1)) c.self.inside.cells.items)) c.args.right_times) c.self.invariant (same c) (below c) (combined_wide (row_of c.self.inside.variables (drop (c.args.left * (c.self.inside.variables + 1)) c.self.inside.cells.items)) (row_of c.self.inside.variables (drop (c.args.right * (c.self.inside.variables + 1)) c.self.inside.cells.items)) c.args.left_times c.args.right_times (known c).left_narrow (known c).right_narrow (known c).left_multiplier (known c).right_multiplier) (left c))

pub returns-clause-pushes : goal.returns-clause-pushes
returns-clause-pushes c =
    subst (λ (s : Stacked). Pushes s.rows (combine_found (slice_get s.rows c.args.left) c.args.left_times (slice_get s.rows c.args.right) c.args.right_times) true (rows_of c.self.inside.variables (c.self.inside.count + 1) (with_items c.self.inside.cells c.combine_at.new.cells).items)) c.self.view_is
    (pushes_some (rows_of c.self.inside.variables c.self.inside.count c.self.inside.cells.items) _ _ (combined (row_of c.self.inside.variables (drop (c.args.left * (c.self.inside.variables + 1)) c.self.inside.cells.items)) c.args.left_times (row_of c.self.inside.variables (drop (c.args.right * (c.self.inside.variables + 1)) c.self.inside.cells.items)) c.args.right_times) (combine_taken c.self.inside.variables c.self.inside.count c.self.inside.cells.items c.args.left c.args.left_times c.args.right c.args.right_times (passes c)) (ap (rows_of c.self.inside.variables (c.self.inside.count + 1)) (written c) ∙ left c))
