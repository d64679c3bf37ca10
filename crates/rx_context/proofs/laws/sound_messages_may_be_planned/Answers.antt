use Rattle.rx_graph.proofs.Exclusions.{exclusive_from_checks}
use Rattle.rx_context.proofs.laws.sound_messages_may_be_planned.Goals as goal

pub returns : goal.returns
returns c =
    let m = c.args.message.now in
    let sound = c.is_sound.ensures.sound in
    record { elaborated = sound.elaborated; exclusive = exclusive_from_checks m.domains m.graph sound.holds; grid = sound.holds.grid; overlays = sound.holds.overlay }
