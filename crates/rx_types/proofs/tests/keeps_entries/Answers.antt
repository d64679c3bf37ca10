use Rattle.std.proofs.Common.{sym, subst, [], ◌∷◌, ◌++◌}
use Rattle.std.specs.Prelude.{pos}
use Rattle.rx_types.specs.Environment.{Placed, AreDistinct}
use Rattle.rx_types.proofs.Entries.{one_alone}
use Rattle.rx_types.proofs.tests.keeps_entries.Goals as goal

pub push-requires-clause-new : goal.push-requires-clause-new
push-requires-clause-new g c =
    let p : Placed = record { field = 2; first = pos 0; size = pos 8; number = 200 } in
    subst (λ e. AreDistinct (e.fields ++ p ∷ [])) (sym c.new-env.ensures) (one_alone p)
