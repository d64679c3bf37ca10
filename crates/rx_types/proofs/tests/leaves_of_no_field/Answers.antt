use Rattle.std.proofs.Common.{refl, sym, subst, lit<}
use Rattle.rx_types.specs.Narrow.{StaysWithin}
use Rattle.rx_types.proofs.Short.{short_facts}
use Rattle.rx_types.proofs.Examples.{none, without_fields}
use Rattle.rx_types.proofs.tests.leaves_of_no_field.Goals as goal

pub value-requires : goal.value-requires
value-requires g c =
    (none, short_facts _ refl, subst (λ e. StaysWithin none e) (sym c.new.ensures) (without_fields 3 (lit< tt)))

pub value-requires-2 : goal.value-requires-2
value-requires-2 g c =
    (none, short_facts _ refl, subst (λ e. StaysWithin none e) (sym c.new-2.ensures) (without_fields 3 (lit< tt)))
