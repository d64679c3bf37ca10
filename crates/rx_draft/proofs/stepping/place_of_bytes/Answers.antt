use Rattle.std.proofs.Common.{◌≡◌, ◌*◌, length, rules, ◌∙◌}
use Rattle.std.specs.Prelude.{pos}
use Rattle.rx_graph.specs.Checks.{size_to}
use Rattle.rx_draft.proofs.Taking.{has_size, bytes_have_value}
use Rattle.rx_draft.proofs.stepping.place_of_bytes.Goals as goal

pub returns-then-size-wanted-2-clause-refused : goal.returns-then-size-wanted-2-clause-refused
returns-then-size-wanted-2-clause-refused c =
    λ domains m before s.
    let e = c.args.env.now in
    let t = c.in-Beyond.ensures domains m s in
    let size : size_to domains m t.0 e c.args.field ≡ pos (8 * length c.args.bytes.now) = search rules in
    ((t.0, t.1), bytes_have_value domains m e c.args.field c.args.bytes.now, has_size domains m c.args.plan.now s e c.requires.underway c.args.field t.0 c.args.bytes.now t.1 size, λ lies. t.3 (lies t.0 t.1))
