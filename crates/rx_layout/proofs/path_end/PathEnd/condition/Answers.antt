use Rattle.rx_layout.proofs.Gathered.{if_ok}
use Rattle.rx_layout.specs.Laid.{end_front}
use Rattle.rx_layout.specs.TypedPath.{path_of}
use Rattle.rx_layout.proofs.path_end.PathEnd.condition.Goals as goal

pub condition_besides-requires : goal.condition_besides-requires
condition_besides-requires c = record { room = c.nothing-nothing.ensures.few }

pub returns : goal.returns
returns c = if_ok c.condition_besides.result _ _ (λ new h. h (end_front (path_of c.args.self.now)) c.nothing-nothing.ensures) c.condition_besides.ensures
