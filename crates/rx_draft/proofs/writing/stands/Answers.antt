use Rattle.std.proofs.Common.{◌≡◌, ◌+◌, length, ap, arith}
use Rattle.std.specs.Prelude.{slice_range}
use Rattle.rx_model.specs.Bits.{bits}
use Rattle.rx_draft.proofs.SameBytes.{AreBytes, bytes_range, same_bytes}
use Rattle.rx_draft.proofs.writing.stands.Goals as goal

pub returns-clause-bits : goal.returns-clause-bits
returns-clause-bits c =
    let part = slice_range c.args.buffer.now c.args.at (c.args.at + length c.args.bytes.now) in
    let there : AreBytes part = bytes_range c.args.buffer.now c.args.at (c.args.at + length c.args.bytes.now) (λ i. let fits = c.type_inv.buffer i in omega arith) in
    let given : AreBytes c.args.bytes.now = λ i. let fits = c.type_inv.bytes i in omega arith in
    (λ yes. ap bits (c.is_there.ensures.0 yes), λ same. c.is_there.ensures.1 (same_bytes part c.args.bytes.now there given same))
