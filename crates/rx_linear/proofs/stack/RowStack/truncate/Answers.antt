use Rattle.std.proofs.Common.{◌∙◌, ◌≤◌, sym, ap, arith, take}
use Rattle.rx_linear.specs.Cells.{Stacked}
use Rattle.rx_linear.proofs.Stacks.{rows_of-front}
use Rattle.rx_linear.proofs.Stacking.{count_is, cut_stack, with_rows}
use Rattle.rx_linear.proofs.stack.RowStack.truncate.Goals as goal

below : (c : goal.After-self-1) → c.args.count ≤ c.self.inside.count
below c = omega (arith, count_is c.self.inside.variables c.self.inside.count c.self.inside.limit c.self.inside.cells.items c.args.self.now c.self.view_is)

pub invariant_of-self : goal.invariant_of-self
invariant_of-self c = cut_stack c.self.inside.variables c.self.inside.count c.self.inside.limit c.args.count c.self.inside.cells.items c.self.invariant (below c)

pub returns : goal.returns
returns c =
    with_rows c.self.inside.variables c.self.inside.limit _ _ _ c.args.self.now c.self.view_is
    (sym (rows_of-front c.self.inside.variables c.args.count c.self.inside.count c.self.inside.cells.items (below c)) ∙ ap (λ (s : Stacked). take c.args.count s.rows) c.self.view_is)
