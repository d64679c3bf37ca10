use Rattle.std.proofs.Common.{◌≡◌, ◌≤◌, length, map, take}
use Rattle.rx_closure.specs.Closure.{package_limit, added}
use Rattle.rx_closure.proofs.closure.add.Given as goal

-- the names so far
abbrev pub invariant-loop-named : goal.invariant-loop-named
invariant-loop-named l = record {
  added : l.names.items ≡ added l.fn.names.items (map (λ n. n.word) (take l.named-index l.more));
  few : length l.names.items ≤ package_limit;
}
