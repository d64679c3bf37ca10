use Rattle.std.proofs.Common.{◌≡◌, ◌≤◌, length, map, take, drop}
use Rattle.rx_prover.proofs.pending.put.Given as goal

abbrev pub invariant-loop-branches : goal.invariant-loop-branches
invariant-loop-branches l = record {
  before : take (length l.fn.pending.items) l.pending.items ≡ l.fn.pending.items;
  longer : length l.fn.pending.items ≤ length l.pending.items;
  added : map (λ d. d.now) (drop (length l.fn.pending.items) l.pending.items) ≡ take l.branches-index l.more;
}
