use Rattle.std.proofs.Common.{◌≡◌, max, drop, map}
use Rattle.rx_proof.specs.Room.{depth, greatest_of}
use Rattle.rx_proof.proofs.desk.+depth.Given as goal

abbrev pub invariant-loop-inner : goal.invariant-loop-inner
invariant-loop-inner l = max l.greatest (greatest_of (map depth (drop l.inner-index l.inner-items))) ≡ greatest_of (map depth l.inner-items)
