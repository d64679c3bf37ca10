use Rattle.std.proofs.Common.{◌≡◌}
use Rattle.message_trials.proofs.Counting.{count_before}
use Rattle.message_trials.proofs.shown.taken.Given as goal

abbrev pub invariant-loop-link : goal.invariant-loop-link
invariant-loop-link l = l.count ≡ count_before l.message.links.items l.node l.link-index
