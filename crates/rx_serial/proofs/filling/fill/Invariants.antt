use Rattle.std.proofs.Common.{◌≡◌, ◌-◌, ℕ, List, length}
use Rattle.rx_draft.specs.Seals.{KeepsRest}
use Rattle.rx_serial.specs.Filling.{Gives}
use Rattle.rx_serial.proofs.filling.fill.Given as goal

abbrev pub invariant-loop-field : goal.invariant-loop-field
invariant-loop-field l = record {
  plan : l.draft.plan ≡ l.initial.draft.plan;
  total : l.draft.total ≡ l.initial.draft.total;
  gives : Gives l.valuation l.draft;
  rest : (start : List ℕ) → KeepsRest start l.initial.draft → KeepsRest start l.draft;
}

abbrev pub decreases-loop-field : goal.decreases-loop-field
decreases-loop-field l = 129 - length l.draft.fields
