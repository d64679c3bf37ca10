use Rattle.std.proofs.Common.{sym}
use Rattle.rx_layout.specs.Laid.{end_front}
use Rattle.rx_layout.specs.TypedPath.{path_of}
use Rattle.rx_layout.proofs.Behind
use Rattle.rx_layout.proofs.Gathered.{if_ok}
use Rattle.rx_layout.proofs.Laying.{renamed}
use Rattle.rx_layout.proofs.goal_parts.taken.Goals as goal

pub returns : goal.returns
returns c =
    let e = c.args.end.now in
    let front = end_front (path_of e) in
    if_ok c.condition.result _ _ (λ a h. renamed (path_of e) 190 _ _ a (sym (Behind.taken_behind e.domains e.graph front e.arrow)) h) c.condition.ensures
