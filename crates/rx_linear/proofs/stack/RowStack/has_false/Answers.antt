use Rattle.std.proofs.Common.{◌∙◌, ◌+◌, ◌*◌, sym, ap, List, ℤ, drop}
use Rattle.std.specs.List.{list_any}
use Rattle.rx_linear.specs.Joining.{is_false}
use Rattle.rx_linear.specs.Cells.{Stacked, row_of}
use Rattle.rx_linear.proofs.Stacks.{none_of-more, some_of}
use Rattle.rx_linear.proofs.stack.RowStack.has_false.Goals as goal

pub loop-row-preserved : goal.loop-row-preserved
loop-row-preserved c = none_of-more is_false c.self.inside.variables c.loop-row.row c.self.inside.cells.items c.loop-row.invariant (sym (c.is_false_at.ensures ∙ ap (λ (zs : List ℤ). is_false (row_of c.self.inside.variables (drop (c.loop-row.row * (c.self.inside.variables + 1)) zs))) c.deref.ensures.value) ∙ c.if-is_false_at.false)

pub returns-then-is_false_at : goal.returns-then-is_false_at
returns-then-is_false_at c =
    sym (some_of is_false c.self.inside.variables c.self.inside.count c.loop-row.row c.self.inside.cells.items c.loop-row-test.true (sym (c.is_false_at.ensures ∙ ap (λ (zs : List ℤ). is_false (row_of c.self.inside.variables (drop (c.loop-row.row * (c.self.inside.variables + 1)) zs))) c.deref.ensures.value) ∙ c.if-is_false_at.true))
    ∙ ap (λ (s : Stacked). list_any is_false s.rows) c.self.view_is
