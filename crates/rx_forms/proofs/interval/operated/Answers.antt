use Rattle.std.proofs.Common.{sym, ◌∙◌}
use Rattle.rx_forms.proofs.Intervals.{narrow_some, same_some, no_some}
use Rattle.rx_forms.proofs.interval.operated.Goals as goal

pub returns-in-Some : goal.returns-in-Some
returns-in-Some c = same_some _ _ (sym c.in-Some.is ∙ c.bounds.ensures.interval ∙ narrow_some c.args.operator c.args.left c.args.right c.requires.short c.requires.divisor)

pub returns-in-None : goal.returns-in-None
returns-in-None c = no_some _ _ (sym c.in-None.is ∙ c.bounds.ensures.interval ∙ narrow_some c.args.operator c.args.left c.args.right c.requires.short c.requires.divisor)
