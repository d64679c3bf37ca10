use Rattle.rx_program.proofs.Soundness.{done_shows_soundness, not_accepted_shows_fault, undecided_shows_walk}
use Rattle.rx_program.proofs.laws.statuses_tell_soundness.Goals as goal

pub returns : goal.returns
returns c = record { done = done_shows_soundness; not_accepted = not_accepted_shows_fault; undecided = undecided_shows_walk }
