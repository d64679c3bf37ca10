use Rattle.std.proofs.Common.{◌≤◌, length, rules}
use Rattle.rx_decode.proofs.Fitting.{reads_as}
use Rattle.rx_decode.proofs.gathering.values_of.Goals as goal

pub returns-clause-reads : goal.returns-clause-reads
returns-clause-reads c =
    let domains = c.args.message.now.domains in
    let m = c.args.message.now.graph in
    let v = c.args.verified.now in
    let path = c.requires.reads domains m c.requires.stands in
    let all : length m.fields ≤ c.loop-field.field = search rules in
    reads_as domains m c.requires.stands.elaborated c.requires.stands.grid c.requires.stands.overlays v.bytes path.0 v.fields path.1 path.2 c.loop-field.values c.loop-field.field all c.loop-field.invariant
