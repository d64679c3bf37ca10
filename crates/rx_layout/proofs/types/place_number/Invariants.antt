use Rattle.std.proofs.Common.{◌≡◌, ◌++◌, take, drop}
use Rattle.rx_layout.specs.Types.{placed_in}
use Rattle.rx_layout.proofs.types.place_number.Given as goal

abbrev pub invariant-loop-place : goal.invariant-loop-place
invariant-loop-place l = record {
  same : l.numbers.items ≡ l.fn.numbers.items;
  placed : take l.place l.numbers.items ++ placed_in l.number (drop l.place l.numbers.items) ≡ placed_in l.number l.fn.numbers.items;
}
