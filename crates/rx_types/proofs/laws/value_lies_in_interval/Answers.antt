use Rattle.rx_types.proofs.Within.{value_in}
use Rattle.rx_types.proofs.laws.value_lies_in_interval.Goals as goal

pub returns : goal.returns
returns c = λ limit e x stays narrow. value_in limit e stays x narrow
