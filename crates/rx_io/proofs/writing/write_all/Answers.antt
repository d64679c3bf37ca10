use Rattle.std.proofs.Common.{◌≤◌, length, arith}
use Rattle.std.proofs.KnownBytes.{Appends-trans}
use Rattle.rx_io.proofs.TakeLemmas.{take-add_rest}
use Rattle.rx_io.proofs.writing.write_all.Goals as goal

pub loop-at-preserved : goal.loop-at-preserved
loop-at-preserved g c = record {
  within = grind arith;
  written = let within : c.loop-at.at ≤ length c.args.bytes.now = c.loop-at.invariant.within in rw (take-add_rest _ _ _ within) (Appends-trans _ _ _ _ _ c.loop-at.invariant.written c.in_ok-at.ensures.taken);
  never_falls = grind arith;
}
