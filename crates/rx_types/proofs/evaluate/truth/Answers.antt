use Rattle.rx_types.proofs.Within.{narrow_is_evaluable}
use Rattle.rx_types.proofs.evaluate.truth.Goals as goal

pub evaluate-requires : goal.evaluate-requires
evaluate-requires c = narrow_is_evaluable c.requires.0 _ c.requires.2 _ c.requires.1
