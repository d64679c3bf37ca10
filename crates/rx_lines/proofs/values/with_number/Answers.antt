use Rattle.std.proofs.Common.{◌∙◌, sym, ap, ◌++◌, Option, ℕ}
use Rattle.rx_graph.specs.Fits.{Number}
use Rattle.rx_lines.specs.Subjects.{assigned_if}
use Rattle.rx_lines.proofs.Numbers.{content_none, inserted_last}
use Rattle.rx_lines.proofs.values.with_number.Goals as goal

pub put-requires : goal.put-requires
put-requires c = content_none c.args.field c.args.values c.requires

pub returns-in_ok-more-in-Some : goal.returns-in_ok-more-in-Some
returns-in_ok-more-in-Some c =
    c.in_ok-more-in-Some.ensures
    ∙ inserted_last c.args.field (Number c.in-Some.number) c.args.values c.requires
    ∙ sym (ap (λ (o : Option ℕ). c.args.values ++ assigned_if c.args.field o) c.in-Some.is)
