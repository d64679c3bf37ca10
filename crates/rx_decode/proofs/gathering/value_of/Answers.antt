use Rattle.std.proofs.Common.{sym, ap, ◌∙◌}
use Rattle.rx_types.specs.Environment.{place_of}
use Rattle.rx_graph.specs.Graph.{type_of}
use Rattle.rx_graph.specs.Fits.{Bytes}
use Rattle.rx_decode.proofs.Typed.{number_there, bytes_there}
use Rattle.rx_decode.proofs.gathering.value_of.Goals as goal

pub returns-then-is_scalar : goal.returns-then-is_scalar
returns-then-is_scalar c =
    let domains = c.args.message.now.domains in
    let m = c.args.message.now.graph in
    let v = c.args.verified.now in
    number_there (type_of domains m c.args.field) m.low_order v.bytes (place_of c.args.field v.fields) c.number.result (sym c.is_scalar.ensures ∙ c.if-is_scalar.true) (λ t typed. c.number.ensures.content domains m t c.requires.stands typed)

pub returns : goal.returns
returns c =
    let domains = c.args.message.now.domains in
    let m = c.args.message.now.graph in
    let v = c.args.verified.now in
    ap Bytes c.in_ok-bytes.ensures.items
    ∙ bytes_there (type_of domains m c.args.field) m.low_order v.bytes (place_of c.args.field v.fields) c.bytes.result.now (sym c.is_scalar.ensures ∙ c.if-is_scalar.false) (λ typed. c.bytes.ensures.content domains m c.requires.stands typed)
