use Rattle.std.proofs.Common.{refl, true, ◌≡◌, ◌∙◌, ◌+◌, ◌-◌, ◌*◌, sym, ap, Bool, List, ℤ, ℕ, drop, false, ◌||◌}
use Rattle.std.specs.List.{list_any}
use Rattle.rx_linear.specs.Joining.{is_false}
use Rattle.rx_linear.specs.Steps.{last_is_false}
use Rattle.rx_linear.specs.Cells.{Stacked, row_of, rows_of}
use Rattle.rx_linear.proofs.Stacks.{last_row, length-rows_of}
use Rattle.rx_linear.proofs.stack.RowStack.last_is_false.Goals as goal

or_false : (b : Bool) → b ≡ (b || false)
or_false true = refl
or_false false = refl

pub returns-then-self-gt0 : goal.returns-then-self-gt0
returns-then-self-gt0 c =
    c.is_false_at.ensures
    ∙ ap (λ (zs : List ℤ). is_false (row_of c.self.inside.variables (drop ((c.self.inside.count - 1) * (c.self.inside.variables + 1)) zs))) c.deref.ensures.value
    ∙ or_false (is_false (row_of c.self.inside.variables (drop ((c.self.inside.count - 1) * (c.self.inside.variables + 1)) c.self.inside.cells.items)))
    ∙ sym (ap (list_any is_false) (last_row c.self.inside.variables c.self.inside.count c.self.inside.cells.items c.if-self-gt0.true))
    ∙ ap (λ (k : ℕ). list_any is_false (drop (k - 1) (rows_of c.self.inside.variables c.self.inside.count c.self.inside.cells.items))) (sym (length-rows_of c.self.inside.variables c.self.inside.count c.self.inside.cells.items))
    ∙ ap (λ (s : Stacked). last_is_false s.rows) c.self.view_is
