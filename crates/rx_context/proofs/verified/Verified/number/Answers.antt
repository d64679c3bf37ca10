use Rattle.std.proofs.Common.{sym, ap, ◌∙◌}
use Rattle.rx_graph.specs.Fits.{Number}
use Rattle.rx_context.proofs.Within.{number_read}
use Rattle.rx_context.proofs.verified.Verified.number.Goals as goal

pub returns-clause-content : goal.returns-clause-content
returns-clause-content c =
    λ domains m t s typed.
    let number = sym (ap (λ p. p.number) c.entry.ensures.place) in
    ap Number (sym (number_read domains m c.args.self.now c.entry.ensures.reading s c.args.field t typed c.requires) ∙ number)
