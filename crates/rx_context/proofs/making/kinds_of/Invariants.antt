use Rattle.std.proofs.Common.{◌≡◌, ℕ, ◌<◌, length}
use Rattle.std.specs.Prelude.{slice_get}
use Rattle.rx_graph.specs.Graph.{domains_in, graph_of, type_of}
use Rattle.rx_context.specs.Plan.{kind_if_any}
use Rattle.rx_context.proofs.making.kinds_of.Given as goal

-- the types of the fields so far
abbrev pub invariant-loop-field : goal.invariant-loop-field
invariant-loop-field l = record {
  types : (f : ℕ) → f < l.field-index → kind_if_any (slice_get l.kinds.items f) ≡ type_of (domains_in l.scalars) (graph_of l.message) f;
  count : length l.kinds.items ≡ l.field-index;
}
