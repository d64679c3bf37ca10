use Rattle.std.proofs.Common.{arith}
use Rattle.message_trials.proofs.writing.written_by.Goals as goal

pub room-needed-requires : goal.room-needed-requires
room-needed-requires c = let s = c.requires.short in (s.0, s.1, s.2, omega (arith, s.3))
