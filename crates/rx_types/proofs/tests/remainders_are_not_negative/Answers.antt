use Rattle.std.proofs.Common.{refl, sym, subst, lit<, ◌∙◌}
use Rattle.std.specs.Prelude.{pos, negsuc}
use Rattle.rx_types.specs.declared.expr.Operator.TheVariants as op
use Rattle.rx_types.specs.Narrow.{IsNarrow, StaysWithin}
use Rattle.rx_types.proofs.Examples.{none, without_fields, two_numbers}
use Rattle.rx_types.proofs.tests.remainders_are_not_negative.Goals as goal

pub value-requires : goal.value-requires
value-requires g c =
    (none, subst (λ x. IsNarrow none x) (sym (c.in_ok-copy.ensures ∙ c.in_ok-rest.ensures)) (two_numbers op.Mod (negsuc 6) (pos 2) refl refl refl refl), subst (λ e. StaysWithin none e) (sym c.new.ensures) (without_fields 3 (lit< tt)))
