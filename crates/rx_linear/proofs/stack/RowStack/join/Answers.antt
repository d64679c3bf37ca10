use Rattle.std.proofs.Common.{◌≡◌, ◌∙◌, sym, ap, subst, length, List, ℤ}
use Rattle.std.specs.Vec.{with_items}
use Rattle.std.proofs.lemmas.List.{with_items_is}
use Rattle.rx_linear.specs.Rows.{tight}
use Rattle.rx_linear.specs.Joining.{joined_one}
use Rattle.rx_linear.specs.Cells.{Stacked, IsStack, rows_of}
use Rattle.rx_linear.proofs.Stacking.{count_below, room_for, joined_stack, with_rows, narrow_wide}
use Rattle.rx_linear.proofs.stack.RowStack.join.Goals as goal

pub join_row_at-self-inside-requires-clause-room : goal.join_row_at-self-inside-requires-clause-room
join_row_at-self-inside-requires-clause-room c =
    rw c.deref_mut.ensures.value
    (room_for c.self.inside.variables c.self.inside.count c.self.inside.limit c.self.inside.cells.items c.self.invariant (count_below c.self.inside.variables c.self.inside.count c.self.inside.limit c.self.inside.cells.items c.args.self.now c.self.view_is c.requires.room))

-- the rows that the joining leaves
left : (c : goal.After-self-2-1) → rows_of c.self.inside.variables c.join_row_at-self-inside.result c.join_row_at-self-inside.new.cells ≡ joined_one (rows_of c.self.inside.variables c.self.inside.count c.self.inside.cells.items) (tight c.args.row.now)
left c = c.join_row_at-self-inside.ensures.value ∙ ap (λ (zs : List ℤ). joined_one (rows_of c.self.inside.variables c.self.inside.count zs) (tight c.args.row.now)) c.deref_mut.ensures.value

same : (c : goal.After-self-2-1) → length c.join_row_at-self-inside.new.cells ≡ length c.self.inside.cells.items
same c = c.join_row_at-self-inside.auto.cells ∙ ap length c.deref_mut.ensures.value

written : (c : goal.After-self-2-1) → (with_items c.self.inside.cells c.join_row_at-self-inside.new.cells).items ≡ c.join_row_at-self-inside.new.cells
written c = with_items_is c.self.inside.cells c.join_row_at-self-inside.new.cells (same c ∙ sym c.self.inside.cells.ok.0)

pub invariant_of-self : goal.invariant_of-self
invariant_of-self c =
    let below = count_below c.self.inside.variables c.self.inside.count c.self.inside.limit c.self.inside.cells.items c.args.self.now c.self.view_is c.requires.room in
    subst (λ (zs : List ℤ). IsStack c.self.inside.variables c.join_row_at-self-inside.result c.self.inside.limit zs) (sym (written c))
    (joined_stack c.self.inside.variables c.self.inside.count c.self.inside.limit c.join_row_at-self-inside.result c.self.inside.cells.items c.join_row_at-self-inside.new.cells c.args.row.now c.self.invariant (same c) below c.join_row_at-self-inside.ensures.count (narrow_wide c.args.row.now c.requires.narrow) (left c))

pub returns : goal.returns
returns c =
    with_rows c.self.inside.variables c.self.inside.limit _ _ _ c.args.self.now c.self.view_is
    (ap (rows_of c.self.inside.variables c.join_row_at-self-inside.result) (written c) ∙ left c ∙ ap (λ (s : Stacked). joined_one s.rows (tight c.args.row.now)) c.self.view_is)
