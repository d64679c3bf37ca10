use Rattle.std.proofs.Common.{◌∙◌}
use Rattle.std.specs.Prelude.{slice_get}
use Rattle.rx_graph.specs.Fits.{content_size}
use Rattle.rx_graph.specs.Graph.{type_of, overlay_of}
use Rattle.rx_values.specs.Valuation.{content}
use Rattle.rx_serial.proofs.Owned.{overlay_has_none, other_has_all}
use Rattle.rx_serial.proofs.measuring.own_bits.Goals as goal

pub returns-then-is_overlay : goal.returns-then-is_overlay
returns-then-is_overlay c =
    λ domains m s.
    overlay_has_none (overlay_of (slice_get m.fields c.args.field)) c.is_overlay.result (content_size (type_of domains m c.args.field) (content c.args.value.now)) (c.is_overlay.ensures domains m s) c.if-is_overlay.true

pub returns : goal.returns
returns c =
    λ domains m s.
    c.size_of.ensures domains m s ∙ other_has_all (overlay_of (slice_get m.fields c.args.field)) c.is_overlay.result (content_size (type_of domains m c.args.field) (content c.args.value.now)) (c.is_overlay.ensures domains m s) c.if-is_overlay.false
