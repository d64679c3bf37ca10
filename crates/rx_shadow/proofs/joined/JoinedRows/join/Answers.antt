use Rattle.std.proofs.Common.{sym, ap, subst, ℕ}
use Rattle.rx_linear.specs.Systems.{LinearSystem, FitsSystem}
use Rattle.rx_shadow.proofs.Initial.{tight_fits}
use Rattle.rx_shadow.proofs.joined.JoinedRows.join.Goals as goal

pub invariant_of-self : goal.invariant_of-self
invariant_of-self c =
    c.keep_new.ensures.joined c.self.inside.variables c.self.invariant
    (subst (FitsSystem c.self.inside.variables) (sym c.in_ok-last.ensures.value) (tight_fits c.self.inside.variables c.args.row.now (subst (λ (n : ℕ). FitsSystem n c.args.row.now) (sym (ap (λ (s : LinearSystem). s.variables) c.self.view_is)) c.requires)))
