use Rattle.std.proofs.Common.{◌≡◌, ◌++◌, [], take, drop}
use Rattle.rx_layout.specs.Laid.{laid_from}
use Rattle.rx_layout.proofs.fields.add_overlays.Given as goal

abbrev pub invariant-loop-place : goal.invariant-loop-place
invariant-loop-place l =
    l.forms ++ laid_from l.message.domains l.message.graph (take l.place l.fields) (drop l.place l.fields) ≡ l.fn.forms ++ laid_from l.message.domains l.message.graph [] l.fields
