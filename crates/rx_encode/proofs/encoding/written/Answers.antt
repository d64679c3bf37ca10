use Rattle.std.proofs.Common.{arith}
use Rattle.rx_encode.proofs.encoding.written.Goals as goal

pub room-requires : goal.room-requires
room-requires c = let s = c.requires.short in (s.0, s.1, s.2, omega (arith, s.3))

pub written_into-requires-clause-sound : goal.written_into-requires-clause-sound
written_into-requires-clause-sound c = c.requires.sound

pub written_into-requires-clause-kinds : goal.written_into-requires-clause-kinds
written_into-requires-clause-kinds c = c.requires.kinds

pub written_into-requires-clause-short : goal.written_into-requires-clause-short
written_into-requires-clause-short c = c.requires.short

pub written_into-requires-clause-long : goal.written_into-requires-clause-long
written_into-requires-clause-long c =
    λ domains m stands. omega (arith, c.room.ensures domains m stands.stands, c.in_ok-buffer.ensures.len, c.as_mut_slice.ensures.len)

pub returns : goal.returns
returns c = c.written_into.ensures
