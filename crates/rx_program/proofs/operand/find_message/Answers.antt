use Rattle.std.proofs.Common.{◌∙◌, sym, ap, true, Some, Option, slice_get, option_map}
use Rattle.rx_graph.specs.Graph.{Graph}
use Rattle.rx_graph.specs.Typed.{Typed, typed}
use Rattle.rx_program.specs.Operand.{is_of}
use Rattle.rx_program.proofs.OperandLemmas.{there, made_of, nothing_there, message_first, other_more, none_more}
use Rattle.rx_program.proofs.operand.find_message.Goals.{in-Some+else-is_of, in_default}
use Rattle.rx_program.proofs.operand.find_message.Goals as goal

pub returns-then-is_of : goal.returns-then-is_of
returns-then-is_of c =
    let graphs = c.args.spec.now.graphs in
    let domains = c.args.spec.now.domains in
    let is = sym c.in-Some.is ∙ c.message.ensures in
    let at = there domains (slice_get graphs c.loop-place.place) c.in-Some.message is in
    let graph = c.message-in-Some.ensures.graph ∙ ap (λ (t : Typed). t.graph) c.elaborated.ensures in
    let this = ap (λ (m : Graph). is_of c.args.owner.now c.args.name.now m) (sym graph) ∙ sym c.is_of.ensures ∙ c.if-is_of.true in
    let found = message_first c.args.owner.now c.args.name.now graphs c.loop-place.place c.in-Some.message.graph c.loop-place.invariant at this in
    ap (λ (t : Typed). Some t) (made_of domains (slice_get graphs c.loop-place.place) c.in-Some.message is) ∙ ap (λ (o : Option Graph). option_map (typed domains) o) (sym found)

pub loop-place-preserved : goal.loop-place-preserved
loop-place-preserved c = elim c.match-message.branch [
  | in-Some+else-is_of w ↦ (
      let is = sym w.in-Some.is ∙ c.message.ensures in
      let at = there c.args.spec.now.domains (slice_get c.args.spec.now.graphs c.loop-place.place) w.in-Some.message is in
      let graph = w.message-in-Some.ensures.graph ∙ ap (λ (t : Typed). t.graph) w.elaborated.ensures in
      let other = ap (λ (m : Graph). is_of c.args.owner.now c.args.name.now m) (sym graph) ∙ sym w.is_of.ensures ∙ w.if-is_of.false in
      other_more c.args.owner.now c.args.name.now c.args.spec.now.graphs c.loop-place.place w.in-Some.message.graph c.loop-place.invariant at other)
  | in_default w ↦ none_more c.args.owner.now c.args.name.now c.args.spec.now.graphs c.loop-place.place c.loop-place.invariant
      (nothing_there c.args.spec.now.domains (slice_get c.args.spec.now.graphs c.loop-place.place) (sym w.in_default.is ∙ c.message.ensures))
]
