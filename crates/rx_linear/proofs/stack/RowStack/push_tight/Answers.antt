use Rattle.std.proofs.Common.{take, ◌≡◌, ◌∙◌, ◌<◌, ◌*◌, ◌+◌, arith, sym, ap, subst, length, List, ℤ, true, false, drop}
use Rattle.std.specs.Prelude.{slice_get, ◌++◌, ◌∷◌, []}
use Rattle.std.specs.Vec.{with_items}
use Rattle.std.proofs.lemmas.List.{with_items_is}
use Rattle.rx_linear.specs.Rows.{tight, Wide}
use Rattle.rx_linear.specs.Steps.{tighten_found}
use Rattle.rx_linear.specs.Cells.{Stacked, IsStack, Pushes, row_of, rows_of}
use Rattle.rx_linear.proofs.Stacks.{pushed_row, place_below}
use Rattle.rx_linear.proofs.Stacking.{count_below, room_for, pushed_stack, tight_wide, wide_row, tighten_taken, tighten_refused, pushes_none, pushes_some}
use Rattle.rx_linear.proofs.stack.RowStack.push_tight.Goals as goal

pub returns-then-row-self-clause-pushes : goal.returns-then-row-self-clause-pushes
returns-then-row-self-clause-pushes c =
    subst (λ (s : Stacked). Pushes s.rows (tighten_found (slice_get s.rows c.args.row)) false s.rows) c.self.view_is
    (pushes_none (rows_of c.self.inside.variables c.self.inside.count c.self.inside.cells.items) _ (tighten_refused c.self.inside.variables c.self.inside.count c.args.row c.self.inside.cells.items c.if-row-self.true))

pub copy_tight_at-requires-clause-from_before : goal.copy_tight_at-requires-clause-from_before
copy_tight_at-requires-clause-from_before c = omega (arith, place_below c.args.row c.self.inside.count (c.self.inside.variables + 1) c.if-row-self.false)

pub copy_tight_at-requires-clause-room : goal.copy_tight_at-requires-clause-room
copy_tight_at-requires-clause-room c =
    rw c.deref_mut.ensures.value
    (room_for c.self.inside.variables c.self.inside.count c.self.inside.limit c.self.inside.cells.items c.self.invariant (count_below c.self.inside.variables c.self.inside.count c.self.inside.limit c.self.inside.cells.items c.args.self.now c.self.view_is c.requires.room))

pub copy_tight_at-requires-clause-wide : goal.copy_tight_at-requires-clause-wide
copy_tight_at-requires-clause-wide c =
    subst (λ (zs : List ℤ). Wide (row_of c.self.inside.variables (drop (c.args.row * (c.self.inside.variables + 1)) zs))) (sym c.deref_mut.ensures.value)
    (wide_row c.self.inside.variables c.self.inside.count c.args.row c.self.inside.cells.items c.self.invariant.wide c.if-row-self.false)

below : (c : goal.After-self-2-1) → c.self.inside.count < c.self.inside.limit
below c = count_below c.self.inside.variables c.self.inside.count c.self.inside.limit c.self.inside.cells.items c.args.self.now c.self.view_is c.requires.room

same : (c : goal.After-self-2-1) → length c.copy_tight_at.new.cells ≡ length c.self.inside.cells.items
same c = c.copy_tight_at.auto.cells ∙ ap length c.deref_mut.ensures.value

written : (c : goal.After-self-2-1) → (with_items c.self.inside.cells c.copy_tight_at.new.cells).items ≡ c.copy_tight_at.new.cells
written c = with_items_is c.self.inside.cells c.copy_tight_at.new.cells (same c ∙ sym c.self.inside.cells.ok.0)

-- the rows that are left
left : (c : goal.After-self-2-1) → rows_of c.self.inside.variables (c.self.inside.count + 1) c.copy_tight_at.new.cells ≡ rows_of c.self.inside.variables c.self.inside.count c.self.inside.cells.items ++ (tight (row_of c.self.inside.variables (drop (c.args.row * (c.self.inside.variables + 1)) c.self.inside.cells.items))) ∷ []
left c =
    pushed_row c.self.inside.variables c.self.inside.count c.self.inside.cells.items c.copy_tight_at.new.cells (tight (row_of c.self.inside.variables (drop (c.args.row * (c.self.inside.variables + 1)) c.self.inside.cells.items)))
    (c.copy_tight_at.ensures.before ∙ ap (take (c.self.inside.count * (c.self.inside.variables + 1))) c.deref_mut.ensures.value)
    (c.copy_tight_at.ensures.value ∙ ap (λ (zs : List ℤ). tight (row_of c.self.inside.variables (drop (c.args.row * (c.self.inside.variables + 1)) zs))) c.deref_mut.ensures.value)

pub invariant_of-self : goal.invariant_of-self
invariant_of-self c =
    subst (λ (zs : List ℤ). IsStack c.self.inside.variables (c.self.inside.count + 1) c.self.inside.limit zs) (sym (written c))
    (pushed_stack c.self.inside.variables c.self.inside.count c.self.inside.limit c.self.inside.cells.items c.copy_tight_at.new.cells (tight (row_of c.self.inside.variables (drop (c.args.row * (c.self.inside.variables + 1)) c.self.inside.cells.items))) c.self.invariant (same c) (below c) (tight_wide (row_of c.self.inside.variables (drop (c.args.row * (c.self.inside.variables + 1)) c.self.inside.cells.items)) (wide_row c.self.inside.variables c.self.inside.count c.args.row c.self.inside.cells.items c.self.invariant.wide c.if-row-self.false)) (left c))

pub returns-clause-pushes : goal.returns-clause-pushes
returns-clause-pushes c =
    subst (λ (s : Stacked). Pushes s.rows (tighten_found (slice_get s.rows c.args.row)) true (rows_of c.self.inside.variables (c.self.inside.count + 1) (with_items c.self.inside.cells c.copy_tight_at.new.cells).items)) c.self.view_is
    (pushes_some (rows_of c.self.inside.variables c.self.inside.count c.self.inside.cells.items) _ _ (tight (row_of c.self.inside.variables (drop (c.args.row * (c.self.inside.variables + 1)) c.self.inside.cells.items))) (tighten_taken c.self.inside.variables c.self.inside.count c.args.row c.self.inside.cells.items c.if-row-self.false) (ap (rows_of c.self.inside.variables (c.self.inside.count + 1)) (written c) ∙ left c))
