use Rattle.std.proofs.Common.{◌-◌, ◌<◌, ◌≤◌, length, take, IfSome}
use Rattle.rx_io.specs.Shelf.{SameTexts}
use Rattle.rx_closure.specs.Closure.{package_limit, ArePaired}
use Rattle.rx_closure.proofs.ClosureLemmas.{IsWalkedFrom, AreFetchedFrom}
use Rattle.rx_closure.proofs.closure.walk.Given as goal

-- the walk so far
abbrev pub invariant-loop-k : goal.invariant-loop-k
invariant-loop-k g l = record {
  after : 0 < l.k;
  within : l.k ≤ length l.names.items;
  few : length l.names.items ≤ package_limit;
  walked : IfSome (g.H.Shelf.texts l.fn.shelf) (λ texts. IsWalkedFrom texts l.fn.names.items l.k l.names.items);
  fetched : IfSome (g.H.Shelf.texts l.fn.shelf) (λ texts. AreFetchedFrom texts (take 1 l.fn.names.items) l.fn.packages.asked.items l.fn.packages.trees.items (take l.k l.names.items) l.packages.asked.items l.packages.trees.items);
  paired : ArePaired l.packages.asked.items l.packages.trees.items;
  same : SameTexts (g.H.Shelf.texts l.fn.shelf) (g.H.Shelf.texts l.shelf);
  faults : g.H.Shelf.faults l.fn.shelf ≤ g.H.Shelf.faults l.shelf;
}

abbrev pub decreases-loop-k : goal.decreases-loop-k
decreases-loop-k g l = package_limit - l.k
