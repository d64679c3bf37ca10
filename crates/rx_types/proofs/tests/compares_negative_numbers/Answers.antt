use Rattle.std.proofs.Common.{refl, sym, subst, lit<}
use Rattle.std.specs.Prelude.{pos, negsuc}
use Rattle.rx_types.specs.declared.expr.Operator.TheVariants as op
use Rattle.rx_types.specs.Narrow.{IsNarrow, StaysWithin}
use Rattle.rx_types.proofs.Examples.{none, without_fields, two_numbers}
use Rattle.rx_types.proofs.tests.compares_negative_numbers.Goals as goal

pub truth-requires : goal.truth-requires
truth-requires g c =
    (none, subst (λ x. IsNarrow none x) (sym (c.in_ok-below.ensures)) (two_numbers op.Less (negsuc 6) (pos 2) refl refl refl refl), subst (λ e. StaysWithin none e) (sym c.new.ensures) (without_fields 3 (lit< tt)))
