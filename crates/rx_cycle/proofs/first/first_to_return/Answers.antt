use Rattle.std.proofs.Common.{below_more, arith, sym, ◌∙◌, Some, None}
use Rattle.std.proofs.lemmas.Bool.{false≢true}
use Rattle.rx_cycle.specs.Graph.{IsFirstToReturn}
use Rattle.rx_cycle.proofs.Leading.{told, one_told}
use Rattle.rx_cycle.proofs.Returning.{no_cycle}
use Rattle.rx_cycle.proofs.first.first_to_return.Goals as goal

pub loop-index-preserved : goal.loop-index-preserved
loop-index-preserved c = below_more _ _ c.loop-index.invariant (λ r. false≢true (sym c.if-branch.false ∙ c.in_ok-returns.ensures.1 r))

pub returns-then-branch-clause-value : goal.returns-then-branch-clause-value
returns-then-branch-clause-value c =
    let f : IsFirstToReturn c.args.links.now c.loop-index.index = record { returns = c.in_ok-returns.ensures.0 c.if-branch.true; first = c.loop-index.invariant } in
    one_told c.args.links.now (Some c.loop-index.index) _ f (told c.args.links.now)

pub returns-clause-first : goal.returns-clause-first
returns-clause-first c = no_cycle c.args.links.now (λ i h. c.loop-index.invariant i (let e = c.loop-index-test.false in omega arith))

pub returns-clause-value : goal.returns-clause-value
returns-clause-value c = one_told c.args.links.now None _ (no_cycle c.args.links.now (λ i h. c.loop-index.invariant i (let e = c.loop-index-test.false in omega arith))) (told c.args.links.now)
