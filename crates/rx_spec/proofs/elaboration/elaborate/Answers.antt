-- Packages whose names stand are ready, and what comes out may be checked.
use Rattle.std.proofs.Common.{rules}
use Rattle.rx_spec.proofs.Elaborating.{packages_ready, sound_if}
use Rattle.rx_spec.proofs.elaboration.elaborate.Goals as goal

pub typed-requires : goal.typed-requires
typed-requires c = record { ready = packages_ready c.args.asked.now c.args.packages.now c.in_ok-names_stand.field-0 c.in_ok-names_stand.ensures.meaning }

pub returns-clause-sound : goal.returns-clause-sound
returns-clause-sound c = sound_if c.args.asked.now c.args.packages.now c.typed.result (search rules)
