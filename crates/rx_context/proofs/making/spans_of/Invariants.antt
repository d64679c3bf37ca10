use Rattle.std.proofs.Common.{◌≡◌, ℕ, ◌+◌, ◌<◌, length}
use Rattle.std.specs.Prelude.{slice_get}
use Rattle.rx_graph.specs.declared.message.Node.TheVariants.{Start, At}
use Rattle.rx_graph.specs.Graph.{arrows}
use Rattle.rx_context.specs.Plan.{IsSpanOf, span_or_none}
use Rattle.rx_context.proofs.making.spans_of.Given as goal

-- the spans of the start and of the fields so far
abbrev pub invariant-loop-field : goal.invariant-loop-field
invariant-loop-field l = record {
  start : IsSpanOf (arrows l.message.links.items) Start (span_or_none (slice_get l.spans.items 0));
  fields : (f : ℕ) → f < l.field → IsSpanOf (arrows l.message.links.items) (At f) (span_or_none (slice_get l.spans.items (f + 1)));
  count : length l.spans.items ≡ l.field + 1;
}
