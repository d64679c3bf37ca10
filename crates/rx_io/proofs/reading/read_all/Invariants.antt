use Rattle.std.proofs.Common.{length, ◌+◌, ◌-◌, ◌≤◌}
use Rattle.std.specs.Io.KnownBytes.{Consumes}
use Rattle.rx_io.proofs.reading.read_all.Given as goal

-- what was taken so far is what was collected
abbrev pub invariant-loop-count : goal.invariant-loop-count
invariant-loop-count g l =
    let source = g.I.Source in
    record {
      within : length l.bytes.items ≤ l.limit;
      taken : Consumes (source.left l.fn.source) (source.left l.source) l.bytes.items;
      reads : source.reads l.source ≤ source.reads l.fn.source + length l.bytes.items;
      never_falls : source.faults l.fn.source ≤ source.faults l.source;
    }

abbrev pub decreases-loop-count : goal.decreases-loop-count
decreases-loop-count g l = l.limit - length l.bytes.items
