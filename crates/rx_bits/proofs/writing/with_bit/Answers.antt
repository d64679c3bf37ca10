use Rattle.std.proofs.Common.{if◌then◌else◌, w8, ap, sym, ◌∙◌}
use Rattle.std.proofs.lemmas.Nat.Bits.{bit_at_set_same, bit_at_set_other, bit_at_clear_same, bit_at_clear_other}
use Rattle.rx_bits.proofs.writing.with_bit.Goals as goal

pub returns-then-bit-clause-here : goal.returns-then-bit-clause-here
returns-then-bit-clause-here c = bit_at_set_same w8 c.args.byte c.args.place c.requires ∙ ap (λ b. if b then 1 else 0) (sym c.if-bit.true)

pub returns-then-bit-clause-others : goal.returns-then-bit-clause-others
returns-then-bit-clause-others c = λ i low apart. bit_at_set_other w8 c.args.byte c.args.place c.requires i apart

pub returns-else-bit-clause-here : goal.returns-else-bit-clause-here
returns-else-bit-clause-here c = bit_at_clear_same w8 c.args.byte c.args.place c.requires ∙ ap (λ b. if b then 1 else 0) (sym c.if-bit.false)

pub returns-else-bit-clause-others : goal.returns-else-bit-clause-others
returns-else-bit-clause-others c = λ i low apart. bit_at_clear_other w8 c.args.byte c.args.place c.requires i low apart
