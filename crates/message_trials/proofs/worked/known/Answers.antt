use Rattle.message_trials.proofs.worked.known.Goals as goal

pub over-requires : goal.over-requires
over-requires c = record { elaborated = c.requires.message.elaborated; boolean = c.requires.boolean }
