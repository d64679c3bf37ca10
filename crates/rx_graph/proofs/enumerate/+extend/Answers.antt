use Rattle.std.proofs.Common.{rules, ◌≡◌, ◌<◌, ◌≤◌, refl, sym, ap, subst, ◌∙◌, [], ◌∷◌, ◌++◌, map, length, ℕ, ◌-◌, List, append-nil, arith}
use Rattle.std.specs.Prelude.{OnOk, IfErr}
use Rattle.rx_graph.specs.declared.fault.PathFault.TheVariants.{TooManyPaths}
use Rattle.rx_graph.specs.Graph.{arrows}
use Rattle.rx_graph.specs.Onward.{onward}
use Rattle.rx_graph.proofs.Ways.{onward_here, onward_none, onward_step, take_step, skip_step, cut_back}
use Rattle.rx_graph.proofs.enumerate.+extend.Goals as goal
use Rattle.rx_graph.proofs.enumerate.+extend.Goals.{then-is-2+in_ok-push+in_ok-extend, else-is-2}

pub returns-then-is-clause-added : goal.returns-then-is-clause-added
returns-then-is-clause-added t c =
    let w = onward_here (arrows c.args.links.now) c.args.more c.args.end c.args.at (sym c.is.ensures ∙ c.if-is.true) in
    let one : c.as_slice.result.now ∷ [] ≡ map (λ p. c.args.path.now.items ++ p) (onward (arrows c.args.links.now) c.args.more c.args.end c.args.at) =
    ap (λ (x : List ℕ). x ∷ []) (c.as_slice.ensures.value ∙ sym (append-nil c.args.path.now.items)) ∙ ap (λ (ws : List (List ℕ)). map (λ p. c.args.path.now.items ++ p) ws) (sym w) in
    subst (λ (ws : List (List ℕ)). OnOk c.add.result (c.add.new.paths.items ≡ c.args.paths.now.items ++ ws)) one c.add.ensures.added

pub returns-then-is-clause-many : goal.returns-then-is-clause-many
returns-then-is-clause-many t c =
    let w = onward_here (arrows c.args.links.now) c.args.more c.args.end c.args.at (sym c.is.ensures ∙ c.if-is.true) in
    let one : c.as_slice.result.now ∷ [] ≡ map (λ p. c.args.path.now.items ++ p) (onward (arrows c.args.links.now) c.args.more c.args.end c.args.at) =
    ap (λ (x : List ℕ). x ∷ []) (c.as_slice.ensures.value ∙ sym (append-nil c.args.path.now.items)) ∙ ap (λ (ws : List (List ℕ)). map (λ p. c.args.path.now.items ++ p) ws) (sym w) in
    subst (λ (ws : List (List ℕ)). IfErr c.add.result (λ e. e ≡ TooManyPaths → 4096 < length (c.args.paths.now.items ++ ws))) one c.add.ensures.many

pub returns-then-more-eq0-clause-added : goal.returns-then-more-eq0-clause-added
returns-then-more-eq0-clause-added t c =
    let w = onward_none (arrows c.args.links.now) c.args.more c.args.end c.args.at (sym c.is.ensures ∙ c.if-is.false) c.if-more-eq0.true in
    sym (append-nil c.args.paths.now.items) ∙ ap (λ (ws : List (List ℕ)). c.args.paths.now.items ++ map (λ p. c.args.path.now.items ++ p) ws) (sym w)

pub loop-index-init : goal.loop-index-init
loop-index-init t c =
    let w = onward_step (arrows c.args.links.now) c.args.more c.args.end c.args.at (sym c.is.ensures ∙ c.if-is.false) (omega (arith, c.if-more-eq0.false)) in
    (ap (λ (ws : List (List ℕ)). c.args.paths.now.items ++ map (λ p. c.args.path.now.items ++ p) ws) (sym w), refl, c.requires.within)

pub loop-index-preserved : goal.loop-index-preserved
loop-index-preserved t c = elim c.if-is-2.branch [
  | then-is-2+in_ok-push+in_ok-extend w ↦ (
    take_step (onward (arrows c.args.links.now) (c.args.more - 1) c.args.end) c.args.at c.loop-index.index c.args.links.now c.index-links-index.result c.is-in-loop-index.result
        c.args.path.now.items c.loop-index.path.items w.push.new.self.items c.loop-index.paths.items c.if-is-2.paths.items _
        c.loop-index-test.true c.index-links-index.is c.is-in-loop-index.ensures w.if-is-2.true w.in_ok-push.ensures.items c.loop-index.invariant.1
        (ap (λ p. p.items) w.paths-is ∙ w.in_ok-extend.ensures.added) c.loop-index.invariant.0,
    cut_back c.args.path.now.items c.loop-index.path.items w.push.new.self.items w.extend.new.path.items c.if-is-2.path.items c.loop-index.index w.len-depth.result
        c.loop-index.invariant.1 w.in_ok-push.ensures.items w.in_ok-extend.ensures.path (w.len-depth.ensures ∙ (search rules)) (ap (λ p. p.items) w.path-is ∙ w.truncate.ensures.items),
    subst (λ (ps : List (List ℕ)). length ps ≤ 4096) (sym (ap (λ p. p.items) w.paths-is)) w.in_ok-extend.ensures.within,
  )
  | else-is-2 w ↦ (
    skip_step (onward (arrows c.args.links.now) (c.args.more - 1) c.args.end) c.args.at c.loop-index.index c.args.links.now c.index-links-index.result c.is-in-loop-index.result
        c.args.path.now.items c.loop-index.paths.items c.if-is-2.paths.items _
        c.loop-index-test.true c.index-links-index.is c.is-in-loop-index.ensures w.if-is-2.false (ap (λ p. p.items) w.paths-is) c.loop-index.invariant.0,
    ap (λ p. p.items) w.path-is ∙ c.loop-index.invariant.1,
    subst (λ (ps : List (List ℕ)). length ps ≤ 4096) (sym (ap (λ p. p.items) w.paths-is)) c.loop-index.invariant.2,
  )
]
