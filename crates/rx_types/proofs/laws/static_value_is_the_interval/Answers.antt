use Rattle.rx_types.proofs.Statics.{static_everywhere}
use Rattle.rx_types.proofs.laws.static_value_is_the_interval.Goals as goal

pub returns : goal.returns
returns c = λ x static. static_everywhere x static
