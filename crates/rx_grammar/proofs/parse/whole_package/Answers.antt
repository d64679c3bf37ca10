use Rattle.std.proofs.Common.{arith, rules, ◌<◌, ◌≢◌, ◌≡◌, length, ℕ, List, []}
use Rattle.std.proofs.lemmas.Result.{err_from_is_err_and}
use Rattle.rx_grammar.proofs.Whole.{alone_of, left_over, all_read, all_fit}
use Rattle.rx_grammar.proofs.parse.whole_package.Goals as goal

pub returns-in_err-tree-clause-fault : goal.returns-in_err-tree-clause-fault
returns-in_err-tree-clause-fault c =
    let p = err_from_is_err_and c.from_residual.result c.from_residual.ensures.1 in
    rw (p.1, p.2) (alone_of _ [] _ _ (rw (c.start.ensures.tokens, c.start.ensures.limits) at c.in_err-tree.ensures))

pub returns-then-not-is_empty-clause-fault : goal.returns-then-not-is_empty-clause-fault
returns-then-not-is_empty-clause-fault c =
    let some : 0 < length c.in_ok-tree.cursor.rest.now = search rules in
    left_over _ [] _ _ _ _ (rw (c.start.ensures.tokens, c.start.ensures.limits) at c.in_ok-tree.ensures) some

pub returns-clause-tree : goal.returns-clause-tree
returns-clause-tree c =
    let none : length c.in_ok-tree.cursor.rest.now ≡ 0 = search rules in
    all_read _ [] _ _ _ _ (rw (c.start.ensures.tokens, c.start.ensures.limits) at c.in_ok-tree.ensures) none

pub returns-clause-fits : goal.returns-clause-fits
returns-clause-fits c =
    let none : length c.in_ok-tree.cursor.rest.now ≡ 0 = search rules in
    all_fit _ [] _ _ _ _ (rw (c.start.ensures.tokens, c.start.ensures.limits) at c.in_ok-tree.ensures) none
