use Rattle.std.proofs.Common.{rules, ◌∙◌, false, length, sym, arith, refl}
use Rattle.std.proofs.lemmas.List.{get_or_read, nil_from_length}
use Rattle.rx_cycle.proofs.Searching.{begun, popped, rest, ended, seen_within}
use Rattle.rx_cycle.proofs.reach.leads.Goals as goal

pub loop-node-init : goal.loop-node-init
loop-node-init c = begun c.args.links.now (length c.args.ways.now.last.items) c.args.from _ _ c.requires.from (search rules) (search rules)

pub follow-requires-clause-node : goal.follow-requires-clause-node
follow-requires-clause-node c =
    let now = popped c.args.links.now (length c.args.ways.now.last.items) c.args.from c.loop-node.seen.items c.loop-node.waiting.items c.pop.new.self.items c.in-Some.node c.args.from (length c.args.links.now) c.loop-node.invariant c.in-Some.ensures.items refl in
    let h = seen_within c.loop-node.seen.items c.in-Some.node now.from_node in
    let e = now.nodes in
    omega arith

pub loop-node-preserved : goal.loop-node-preserved
loop-node-preserved c =
    let links = c.args.links.now in
    let n = length c.args.ways.now.last.items in
    let now = popped links n c.args.from c.loop-node.seen.items c.loop-node.waiting.items c.pop.new.self.items c.in-Some.node c.args.from (length links) c.loop-node.invariant c.in-Some.ensures.items refl in
    rest links n c.args.from c.follow.new.seen.items c.follow.new.waiting.items c.in-Some.node (c.in_ok-follow.ensures.reached c.args.from now)

pub returns : goal.returns
returns c =
    let links = c.args.links.now in
    let n = length c.args.ways.now.last.items in
    let seen = c.loop-node.seen.items in
    let within = c.loop-node.invariant.nodes in
    let done = ended links n c.args.from seen c.loop-node.waiting.items c.args.from c.args.to c.loop-node.invariant (nil_from_length c.loop-node.waiting.items (search rules)) in
    let h = c.requires.to in
    let read = get_or_read seen c.args.to c.index.result.now (omega arith) c.index.ensures false in
    (λ s. done.0 (sym read ∙ s), λ w. read ∙ done.1 w)
