use Rattle.std.proofs.Common.{arith}
use Rattle.rx_syntax.proofs.lexer.place_after.Goals as goal

pub overflow_add-place-else-byte-eq10 : goal.overflow_add-place-else-byte-eq10
overflow_add-place-else-byte-eq10 c = omega (arith, c.loop-byte.invariant.column, c.requires.column)
