use Rattle.std.proofs.Common.{sym, subst, arith}
use Rattle.rx_serial.specs.Laws.{AreBytes}
use Rattle.rx_encode.proofs.encoding.copied.Goals as goal

pub returns : goal.returns
returns c =
    let same = c.in_ok-copy.ensures.items in
    (subst AreBytes (sym same) (λ i. omega (arith, c.type_inv.bytes i)), same)
