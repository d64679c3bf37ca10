use Rattle.std.proofs.Common.{◌∙◌, sym, ap, subst, take}
use Rattle.rx_linear.specs.Systems.{LinearSystem}
use Rattle.rx_shadow.specs.Known.{rows_of}
use Rattle.rx_shadow.specs.Joined.{IsJoined}
use Rattle.rx_shadow.proofs.Numbered.{joined_front, rows_front, with_rows}
use Rattle.rx_shadow.proofs.joined.JoinedRows.truncate.Goals as goal

pub invariant_of-self : goal.invariant_of-self
invariant_of-self c = subst (IsJoined c.self.inside.variables) (sym c.truncate.ensures.items) (joined_front c.self.inside.variables c.args.count c.self.inside.known.items c.self.invariant)

pub returns : goal.returns
returns c =
    with_rows c.self.inside.variables (rows_of c.self.inside.known.items) (rows_of c.truncate.new.self.items) (take c.args.count c.args.self.now.rows) c.args.self.now c.self.view_is
    (ap rows_of c.truncate.ensures.items ∙ rows_front c.args.count c.self.inside.known.items ∙ ap (λ (s : LinearSystem). take c.args.count s.rows) c.self.view_is)
