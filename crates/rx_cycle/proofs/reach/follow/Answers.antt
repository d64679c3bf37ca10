use Rattle.std.proofs.Common.{rules, ◌<◌, ◌-◌, ◌∙◌, false, length, slice_index_or, sym, subst, arith, ℕ, ap, List, Bool}
use Rattle.std.proofs.lemmas.List.{get_or_read}
use Rattle.std.proofs.lemmas.Option.{slice_get-get_or}
use Rattle.rx_cycle.specs.Ways.{IsLastFrom}
use Rattle.rx_cycle.proofs.Searching.{Following, skip, mark}
use Rattle.rx_cycle.proofs.reach.follow.Goals as goal
use Rattle.rx_cycle.proofs.reach.follow.Goals.{then-not-index+in_ok-push, else-not-index}

pub loop-next-preserved : goal.loop-next-preserved
loop-next-preserved c =
    let links = c.args.links.now in
    let n = length c.args.ways.now.last.items in
    let i = c.loop-next.next - 1 in
    let f = c.loop-next.invariant in
    let inside : i < length links = let a = f.within in let b = f.chain.within in omega arith in
    let this = slice_index_or links i record { source = 0; target = 0 } in
    let l = slice_get-get_or links i record { source = 0; target = 0 } inside in
    let b = c.requires.below.target i this l in
    let within : this.target < length c.loop-next.seen.items = subst (λ (m : ℕ). this.target < m) (sym f.nodes) b in
    let read = get_or_read c.loop-next.seen.items this.target c.index.result.now within c.index.ensures false in
    let p = c.index-next-in-loop-next.result.now in
    let before : IsLastFrom links this.source i p = subst (λ (x : ℕ). IsLastFrom links this.source i x) (sym (get_or_read c.args.ways.now.previous.items i p (let e = c.requires.lists.all in omega arith) c.index-next-in-loop-next.ensures 0)) (c.requires.lists.from_link i this l) in
    elim c.if-not-index.branch [
      | then-not-index+in_ok-push w ↦ mark links n c.args.seen.now.items c.args.waiting.now.items c.args.node c.loop-next.next p c.loop-next.seen.items c.if-not-index.seen.items c.loop-next.waiting.items c.if-not-index.waiting.items this f (omega arith) l b (sym read ∙ w.if-not-index.true) before (search rules) (search rules)
      | else-not-index w ↦ subst (λ (s : List Bool). Following links n c.args.seen.now.items c.args.waiting.now.items c.args.node p s c.if-not-index.waiting.items) (sym (ap (λ v. v.items) w.seen-is)) (subst (λ (ws : List ℕ). Following links n c.args.seen.now.items c.args.waiting.now.items c.args.node p c.loop-next.seen.items ws) (sym (ap (λ v. v.items) w.waiting-is)) (skip links n c.args.seen.now.items c.args.waiting.now.items c.args.node c.loop-next.next p c.loop-next.seen.items c.loop-next.waiting.items this f (omega arith) l (sym read ∙ w.if-not-index.false) before))
    ]
