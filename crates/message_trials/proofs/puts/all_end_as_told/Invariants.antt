use Rattle.std.proofs.Common.{◌≡◌}
use Rattle.message_trials.proofs.puts.all_end_as_told.Given as goal

abbrev pub invariant-loop-step : goal.invariant-loop-step
invariant-loop-step l = l.draft.plan ≡ l.plan
