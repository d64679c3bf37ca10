use Rattle.std.proofs.Common.{◌<◌, length, arith, rules, slice_index_or}
use Rattle.std.proofs.lemmas.List.{get_or_read}
use Rattle.std.proofs.lemmas.Option.{slice_get-get_or}
use Rattle.rx_cycle.proofs.Chains.{start, more, all}
use Rattle.rx_cycle.proofs.ways.Ways.make.Goals as goal

pub loop-index-init : goal.loop-index-init
loop-index-init c = start _ _ _ _ (search rules) (search rules)

pub loop-index-preserved : goal.loop-index-preserved
loop-index-preserved c =
    let links = c.args.links.now in
    let i = c.loop-index.index in
    let this = slice_index_or links i record { source = 0; target = 0 } in
    let l = slice_get-get_or links i record { source = 0; target = 0 } (omega arith) in
    let below = c.requires.source i this l in
    let within : this.source < length c.loop-index.last.items = omega arith in
    more links c.args.nodes i c.loop-index.last.items c.loop-index.previous.items c.push.new.self.items this c.index.result.now c.loop-index.invariant l below (get_or_read c.loop-index.last.items this.source c.index.result.now within c.index.ensures 0) (search rules)

pub returns : goal.returns
returns c = all _ _ _ _ _ c.loop-index.invariant (omega arith)
