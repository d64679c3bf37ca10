use Rattle.rx_types.proofs.Greatest.{number-le_greatest}
use Rattle.rx_types.proofs.laws.numbers_are_up_to_the_greatest.Goals as goal

pub returns : goal.returns
returns c = λ t n h. number-le_greatest t n h
