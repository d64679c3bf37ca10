use Rattle.std.proofs.Common.{◌≡◌, ◌∙◌, sym, ap, subst, length, List, ℤ, ℕ}
use Rattle.std.specs.Vec.{with_items}
use Rattle.std.proofs.lemmas.List.{with_items_is}
use Rattle.rx_linear.specs.Rows.{tight}
use Rattle.rx_linear.specs.Units.{unit_row}
use Rattle.rx_linear.specs.Joining.{joined_one}
use Rattle.rx_linear.specs.Cells.{Stacked, IsStack, rows_of}
use Rattle.rx_linear.proofs.Stacking.{count_below, room_for, joined_stack, with_rows, unit_wide}
use Rattle.rx_linear.proofs.stack.RowStack.join_unit.Goals as goal

pub join_unit_at-self-inside-requires-clause-room : goal.join_unit_at-self-inside-requires-clause-room
join_unit_at-self-inside-requires-clause-room c =
    rw c.deref_mut.ensures.value
    (room_for c.self.inside.variables c.self.inside.count c.self.inside.limit c.self.inside.cells.items c.self.invariant (count_below c.self.inside.variables c.self.inside.count c.self.inside.limit c.self.inside.cells.items c.args.self.now c.self.view_is c.requires.room))

pub join_unit_at-self-inside-requires-clause-wide : goal.join_unit_at-self-inside-requires-clause-wide
join_unit_at-self-inside-requires-clause-wide c = unit_wide c.self.inside.variables c.args.variable c.args.coefficient.now c.args.least.now c.requires.coefficient_small c.requires.least_small

-- the rows that the joining leaves
left : (c : goal.After-self-2-1) → rows_of c.self.inside.variables c.join_unit_at-self-inside.result c.join_unit_at-self-inside.new.cells ≡ joined_one (rows_of c.self.inside.variables c.self.inside.count c.self.inside.cells.items) (tight (unit_row c.self.inside.variables c.args.variable c.args.coefficient.now c.args.least.now))
left c = c.join_unit_at-self-inside.ensures.value ∙ ap (λ (zs : List ℤ). joined_one (rows_of c.self.inside.variables c.self.inside.count zs) (tight (unit_row c.self.inside.variables c.args.variable c.args.coefficient.now c.args.least.now))) c.deref_mut.ensures.value

same : (c : goal.After-self-2-1) → length c.join_unit_at-self-inside.new.cells ≡ length c.self.inside.cells.items
same c = c.join_unit_at-self-inside.auto.cells ∙ ap length c.deref_mut.ensures.value

written : (c : goal.After-self-2-1) → (with_items c.self.inside.cells c.join_unit_at-self-inside.new.cells).items ≡ c.join_unit_at-self-inside.new.cells
written c = with_items_is c.self.inside.cells c.join_unit_at-self-inside.new.cells (same c ∙ sym c.self.inside.cells.ok.0)

pub invariant_of-self : goal.invariant_of-self
invariant_of-self c =
    let below = count_below c.self.inside.variables c.self.inside.count c.self.inside.limit c.self.inside.cells.items c.args.self.now c.self.view_is c.requires.room in
    subst (λ (zs : List ℤ). IsStack c.self.inside.variables c.join_unit_at-self-inside.result c.self.inside.limit zs) (sym (written c))
    (joined_stack c.self.inside.variables c.self.inside.count c.self.inside.limit c.join_unit_at-self-inside.result c.self.inside.cells.items c.join_unit_at-self-inside.new.cells (unit_row c.self.inside.variables c.args.variable c.args.coefficient.now c.args.least.now) c.self.invariant (same c) below c.join_unit_at-self-inside.ensures.count (unit_wide c.self.inside.variables c.args.variable c.args.coefficient.now c.args.least.now c.requires.coefficient_small c.requires.least_small) (left c))

pub returns : goal.returns
returns c =
    with_rows c.self.inside.variables c.self.inside.limit _ _ _ c.args.self.now c.self.view_is
    (ap (rows_of c.self.inside.variables c.join_unit_at-self-inside.result) (written c) ∙ left c ∙ ap (λ (s : Stacked). joined_one s.rows (tight (unit_row c.self.inside.variables c.args.variable c.args.coefficient.now c.args.least.now))) c.self.view_is
    ∙ ap (λ (n : ℕ). joined_one c.args.self.now.rows (tight (unit_row n c.args.variable c.args.coefficient.now c.args.least.now))) (ap (λ (s : Stacked). s.variables) c.self.view_is))
