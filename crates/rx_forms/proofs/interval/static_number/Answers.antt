use Rattle.std.proofs.Common.{subst, sym}
use Rattle.rx_types.specs.Environment.{Environment}
use Rattle.rx_types.specs.Narrow.{StaysWithin}
use Rattle.rx_forms.proofs.Intervals.{nothing_stays}
use Rattle.rx_forms.proofs.interval.static_number.Goals as goal

pub value-requires : goal.value-requires
value-requires c =
    let limit = c.requires.narrow.0 in
    (limit, c.requires.narrow.1, subst (λ (e : Environment). StaysWithin limit e) (sym c.new.ensures) (nothing_stays limit))
