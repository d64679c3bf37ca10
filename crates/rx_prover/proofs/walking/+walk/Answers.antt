use Rattle.std.proofs.Common.{sym, ap, ◌∙◌, subst, ℕ, ◌+◌, ◌-◌, ◌<◌, ◌^◌, arith, List, [], ◌∷◌, ◌++◌, map, drop, length, ℤ, pos, neg_ℤ, ◌+ℤ◌, unsigned_abs, to_z, of_z, replicate}
use Rattle.std.specs.List.{All, remove}
use Rattle.rx_linear.specs.Systems.{LinearSystem, FitsSystem}
use Rattle.rx_linear.specs.Units.{unit_row}
use Rattle.rx_proof.specs.declared.query.Query.{Query, out-Query}
use Rattle.rx_proof.specs.Queries.{each_has_variables}
use Rattle.rx_proof.specs.Acceptance.{Node, entered}
use Rattle.rx_proof.proofs.Nodes.{joined_longer}
use Rattle.rx_proof.proofs.Weights.{has_variables_out}
use Rattle.std.specs.Int.{w128}
use Rattle.rx_linear.specs.declared.step.Step.{Step}
use Rattle.rx_proof.specs.declared.proof.Proof.{Proof}
use Rattle.rx_proof.specs.declared.proof.Proof as proof
use Rattle.rx_proof.proofs.Nodes.{low_code, low_small}
use Rattle.rx_shadow.specs.declared.solving.Solved.{Solved}
use Rattle.rx_shadow.specs.Bounds.{HasUnitRows}
use Rattle.rx_shadow.specs.Simple.{outcome}
use Rattle.rx_shadow.specs.Joined.{IsSolvedAt}
use Rattle.rx_shadow.proofs.Initial.{if_ok}
use Rattle.rx_prover.specs.declared.tree.OpenTree.{OpenTree}
use Rattle.rx_prover.specs.declared.tree.OpenTree as tree
use Rattle.rx_prover.specs.declared.walked.Walked.TheVariants as walked
use Rattle.rx_prover.specs.Trees.{as_tree}
use Rattle.rx_prover.specs.Walked.{node_of, Goes, IsLowerDone}
use Rattle.rx_prover.proofs.Progress.{Progress, progress_more, goes_case, goes_case_point, goes_case_unfinished}
use Rattle.rx_prover.proofs.Halves.{goes_lower_point, goes_lower_unfinished, goes_upper_closed, goes_upper_point, goes_upper_unfinished}
use Rattle.rx_prover.proofs.Calls.{goes_clash, leaf_closed, leaf_found, IsHard, variable_within, hard_small, hard_kind, upper_small, lower_done, moved, hard_stopped, case_stopped, case_kind, same_cast, negation_fits, next_cast}
use Rattle.rx_prover.proofs.Nodes.{bounded_after, cut_rows, put_after, first_taken, none_even, branch_even, branch_node, same_branch, none_after}
use Rattle.rx_prover.proofs.walking.+walk.Goals as goal

pub walk-returns-in-Some-clause-goes : goal.walk-returns-in-Some-clause-goes
walk-returns-in-Some-clause-goes t c = goes_clash (node_of c.args.rows.now (map (λ d. d.now) (drop c.args.next c.args.pending.now.items))) c.args.splits c.in-Some.step c.in_ok-closed_by.field-0 c.in-Some.ensures.0 c.in-Some.ensures.1 c.in_ok-closed_by.ensures

pub walk_branch-join_all-requires : goal.walk_branch-join_all-requires
walk_branch-join_all-requires t c =
    subst (λ (n : ℕ). All (FitsSystem n) c.rows.result.now) (has_variables_out c.args.branch.now c.args.rows.now.variables c.requires.branch_even).0
    (subst (All (FitsSystem (out-Query c.args.branch.now).system.variables)) (sym c.rows.ensures.value) c.rows.ensures.limits.1)

pub walk_branch-truncate-requires : goal.walk_branch-truncate-requires
walk_branch-truncate-requires t c =
    let rows = ap (λ (s : LinearSystem). length s.rows) (c.in_ok-walked.ensures.rows ∙ c.in_ok-join_all.ensures) in
    omega (arith, rows, c.len-count.ensures, joined_longer c.args.rows.now.rows c.rows.result.now)

pub walk_branch-returns-clause-rows : goal.walk_branch-returns-clause-rows
walk_branch-returns-clause-rows t c = cut_rows c.args.rows.now c.join_all.new.self c.walk.new.rows c.truncate.new.self c.rows.result.now c.len-count.result c.in_ok-join_all.ensures c.in_ok-walked.ensures.rows c.len-count.ensures c.truncate.ensures

pub walk_branch-walk-requires : goal.walk_branch-walk-requires
walk_branch-walk-requires t c =
    let out = has_variables_out c.args.branch.now c.args.rows.now.variables c.requires.branch_even in (
      omega (arith, c.decreases),
      (
        bounded_after c.args.rows.now c.join_all.new.self c.rows.result.now c.requires.bounded c.in_ok-join_all.ensures,
        branch_even (λ d. d.now) c.args.pending.now.items c.put.new.pending.items c.as_slice.result.now (c.args.next + 1) c.join_all.new.self.variables c.args.rows.now.variables
            (omega (arith, c.requires.within)) c.in_ok-put.ensures.before c.in_ok-put.ensures.added (ap (λ (s : LinearSystem). s.variables) c.in_ok-join_all.ensures) c.requires.even
            (ap (λ (ds : List (List Query)). each_has_variables ds c.args.rows.now.variables) c.as_slice.ensures ∙ out.1),
      ),
    )

pub walk_branch-returns-clause-goes : goal.walk_branch-returns-clause-goes
walk_branch-returns-clause-goes t c =
    let either : List (List Query) = map (λ d. d.now) (drop c.args.next c.args.pending.now.items) in
    subst (λ (node : Node). Goes node c.args.splits c.in_ok-walked.walked)
    (branch_node c.args.rows.now c.join_all.new.self either (map (λ d. d.now) (drop (c.args.next + 1) c.put.new.pending.items)) c.args.branch.now c.rows.result.now c.in_ok-join_all.ensures c.rows.ensures.value
    (put_after (λ d. d.now) c.args.pending.now.items c.put.new.pending.items c.as_slice.result.now (c.args.next + 1) (omega (arith, c.requires.within)) c.in_ok-put.ensures.before c.in_ok-put.ensures.added
    ∙ ap (λ (ds : List (List Query)). ds ++ c.as_slice.result.now) (sym (first_taken (λ d. d.now) c.args.pending.now.items c.args.next))
    ∙ ap (λ (ds : List (List Query)). remove either 0 ++ ds) c.as_slice.ensures))
    c.in_ok-walked.ensures.goes

pub walk_half-walk-requires : goal.walk_half-walk-requires
walk_half-walk-requires t c = (
  omega (arith, c.decreases),
  (
    bounded_after c.args.rows.now c.join_unit.new.self (unit_row c.args.rows.now.variables c.args.variable c.args.coefficient.now c.args.least.now ∷ []) c.requires.bounded c.in_ok-join_unit.ensures,
    none_even (λ d. d.now) (drop c.args.next c.args.pending.now.items) c.join_unit.new.self.variables c.requires.none,
  ),
)

-- ---- cases

pub walk_cases-returns-then-splits-eq0-clause-goes : goal.walk_cases-returns-then-splits-eq0-clause-goes
walk_cases-returns-then-splits-eq0-clause-goes t c =
    case_stopped c.args.rows.now (map (λ d. d.now) (drop c.args.next c.args.pending.now.items)) (map (λ d. d.now) (drop (c.args.next + 1) c.args.pending.now.items)) c.args.branches.now c.args.splits c.requires.apart c.requires.first c.if-splits-eq0.true

pub walk_cases-returns-in-Found-clause-goes : goal.walk_cases-returns-in-Found-clause-goes
walk_cases-returns-in-Found-clause-goes t c =
    let either : List (List Query) = map (λ d. d.now) (drop c.args.next c.args.pending.now.items) in
    let rest : List (List Query) = map (λ d. d.now) (drop (c.args.next + 1) c.args.pending.now.items) in
    let i = c.loop-branch.invariant in
    goes_case_point (node_of c.args.rows.now either) c.args.branches.now rest c.branch-item.result c.args.splits c.loop-branch.branch-index (c.args.splits - 1) c.loop-branch.left c.loop-branch.proofs.items c.in-Found.point
    (case_kind c.args.rows.now either rest c.args.branches.now c.requires.apart c.requires.first) c.requires.first (omega (arith, c.if-splits-eq0.false)) c.loop-branch-test.true c.branch-item.is i.progress
    (subst (λ (n : Node). Goes n c.loop-branch.left (walked.Found c.in-Found.point)) (same_branch (λ d. d.now) c.loop-branch.rows c.args.rows.now c.loop-branch.pending.items c.args.pending.now.items c.args.next c.branch-item.result i.rows i.pending)
    (subst (Goes (entered (node_of c.loop-branch.rows (map (λ d. d.now) (drop c.args.next c.loop-branch.pending.items))) 0 c.branch-item.result) c.loop-branch.left) c.in-Found.is c.in_ok-proof.ensures.goes))

pub walk_cases-returns-in-Unfinished-clause-goes : goal.walk_cases-returns-in-Unfinished-clause-goes
walk_cases-returns-in-Unfinished-clause-goes t c =
    let either : List (List Query) = map (λ d. d.now) (drop c.args.next c.args.pending.now.items) in
    let rest : List (List Query) = map (λ d. d.now) (drop (c.args.next + 1) c.args.pending.now.items) in
    let i = c.loop-branch.invariant in
    goes_case_unfinished (node_of c.args.rows.now either) c.args.branches.now c.branch-item.result c.args.splits c.loop-branch.branch-index (c.args.splits - 1) c.loop-branch.left c.loop-branch.proofs.items c.in-Unfinished.tree c.in_ok-tree-in-Unfinished.tree
    (case_kind c.args.rows.now either rest c.args.branches.now c.requires.apart c.requires.first) (omega (arith, c.if-splits-eq0.false)) c.loop-branch-test.true c.branch-item.is i.progress
    (subst (λ (n : Node). Goes n c.loop-branch.left (walked.Unfinished c.in-Unfinished.tree)) (same_branch (λ d. d.now) c.loop-branch.rows c.args.rows.now c.loop-branch.pending.items c.args.pending.now.items c.args.next c.branch-item.result i.rows i.pending)
    (subst (Goes (entered (node_of c.loop-branch.rows (map (λ d. d.now) (drop c.args.next c.loop-branch.pending.items))) 0 c.branch-item.result) c.loop-branch.left) c.in-Unfinished.is c.in_ok-proof.ensures.goes))
    (c.in_ok-tree-in-Unfinished.ensures
    ∙ ap (λ (ps : List Proof). tree.Case 0 (map as_tree ps ++ c.in-Unfinished.tree ∷ replicate (length c.args.branches.now - (length ps + 1)) tree.Open)) c.deref.ensures.value)

pub walk_cases-loop-branch-preserved : goal.walk_cases-loop-branch-preserved
walk_cases-loop-branch-preserved t c =
    let either : List (List Query) = map (λ d. d.now) (drop c.args.next c.args.pending.now.items) in
    let i = c.loop-branch.invariant in
    record {
      rows = c.in_ok-proof.ensures.rows ∙ i.rows;
      pending = c.in_ok-proof.ensures.pending ∙ i.pending;
      progress =
          subst (λ (ps : List Proof). Progress (node_of c.args.rows.now either) c.args.branches.now (c.loop-branch.branch-index + 1) (c.args.splits - 1) ps c.in-Closed.rest) (sym c.in_ok-push-in-Closed.ensures.items)
          (progress_more (node_of c.args.rows.now either) c.args.branches.now c.branch-item.result c.loop-branch.branch-index (c.args.splits - 1) c.loop-branch.left c.in-Closed.rest c.loop-branch.proofs.items c.in-Closed.proof c.loop-branch-test.true c.branch-item.is i.progress
          (subst (λ (n : Node). Goes n c.loop-branch.left (walked.Closed c.in-Closed.proof c.in-Closed.rest)) (same_branch (λ d. d.now) c.loop-branch.rows c.args.rows.now c.loop-branch.pending.items c.args.pending.now.items c.args.next c.branch-item.result i.rows i.pending)
          (subst (Goes (entered (node_of c.loop-branch.rows (map (λ d. d.now) (drop c.args.next c.loop-branch.pending.items))) 0 c.branch-item.result) c.loop-branch.left) c.in-Closed.is c.in_ok-proof.ensures.goes)));
    }

pub walk_cases-returns-clause-goes : goal.walk_cases-returns-clause-goes
walk_cases-returns-clause-goes t c =
    let either : List (List Query) = map (λ d. d.now) (drop c.args.next c.args.pending.now.items) in
    let rest : List (List Query) = map (λ d. d.now) (drop (c.args.next + 1) c.args.pending.now.items) in
    goes_case (node_of c.args.rows.now either) c.args.branches.now rest c.args.splits c.loop-branch.branch-index (c.args.splits - 1) c.loop-branch.left c.loop-branch.proofs.items (proof.Case 0 c.from_vec.result)
    (case_kind c.args.rows.now either rest c.args.branches.now c.requires.apart c.requires.first) c.requires.first (omega (arith, c.if-splits-eq0.false)) c.loop-branch-test.false c.loop-branch.invariant.progress (ap (λ (ps : List Proof). proof.Case 0 ps) c.from_vec.ensures)

-- ---- leaves

pub walk_leaf-returns-in-Closed-clause-goes : goal.walk_leaf-returns-in-Closed-clause-goes
walk_leaf-returns-in-Closed-clause-goes t c =
    leaf_closed c.args.rows.now c.args.splits c.in-Closed.steps (proof.Close c.from_vec.result) c.requires.apart
    (subst (λ (x : Solved). IsSolvedAt c.args.rows.now.variables c.args.rows.now.rows (outcome c.args.rows.now.variables c.args.rows.now.rows) x) c.in-Closed.is c.in_ok-steps.ensures)
    (ap (λ (ss : List Step). proof.Close ss) c.from_vec.ensures)

pub walk_leaf-returns-in-Point-clause-goes : goal.walk_leaf-returns-in-Point-clause-goes
walk_leaf-returns-in-Point-clause-goes t c =
    leaf_found c.args.rows.now c.args.splits c.in-Point.point c.requires.apart
    (subst (λ (x : Solved). IsSolvedAt c.args.rows.now.variables c.args.rows.now.rows (outcome c.args.rows.now.variables c.args.rows.now.rows) x) c.in-Point.is c.in_ok-steps.ensures)

-- ---- halvings

pub walk_halves-returns-then-splits-eq0-clause-goes : goal.walk_halves-returns-then-splits-eq0-clause-goes
walk_halves-returns-then-splits-eq0-clause-goes t c = hard_stopped c.args.rows.now c.args.splits c.requires.apart c.requires.hard c.if-splits-eq0.true

pub walk_halves-middle-middle-requires : goal.walk_halves-middle-middle-requires
walk_halves-middle-middle-requires t c =
    variable_within c.args.rows.now c.args.variable (record { limits = c.variables-variables.ensures.limits; bounded = c.requires.bounded; apart = c.requires.apart; hard = c.requires.hard; narrow = c.requires.narrow })

pub walk_halves-overflow_sub-middle : goal.walk_halves-overflow_sub-middle
walk_halves-overflow_sub-middle t c =
    negation_fits c.middle-middle.result (hard_small c.args.rows.now c.args.variable c.middle-middle.result (record { limits = c.variables-variables.ensures.limits; bounded = c.requires.bounded; apart = c.requires.apart; hard = c.requires.hard; narrow = c.requires.narrow }) c.middle-middle.ensures)

pub walk_halves-walk_half-requires : goal.walk_halves-walk_half-requires
walk_halves-walk_half-requires t c =
    let h : IsHard c.args.rows.now c.args.variable = record { limits = c.variables-variables.ensures.limits; bounded = c.requires.bounded; apart = c.requires.apart; hard = c.requires.hard; narrow = c.requires.narrow } in
    let m = c.middle-middle.result in
    let s = hard_small c.args.rows.now c.args.variable m h c.middle-middle.ensures in (
      omega (arith, c.decreases, c.if-splits-eq0.false),
      (
        variable_within c.args.rows.now c.args.variable h,
        (
          omega arith,
          (
            low_small m _ s (low_code m s),
            (c.requires.bounded, c.requires.none),
          ),
        ),
      ),
    )

pub walk_halves-walk_upper-requires : goal.walk_halves-walk_upper-requires
walk_halves-walk_upper-requires t c =
    let h : IsHard c.args.rows.now c.args.variable = record { limits = c.variables-variables.ensures.limits; bounded = c.requires.bounded; apart = c.requires.apart; hard = c.requires.hard; narrow = c.requires.narrow } in
    let m = c.middle-middle.result in
    let s = hard_small c.args.rows.now c.args.variable m h c.middle-middle.ensures in
    let g = moved c.args.rows.now c.args.variable _ _ (neg_ℤ m) (c.args.splits - 1) (walked.Closed c.in-Closed.low c.in-Closed.left) (low_code m s) (subst (Goes _ _) c.in-Closed.is c.in_ok-low.ensures.goes) in
    let rows = c.in_ok-low.ensures.rows in
    let n = ap (λ (x : LinearSystem). x.variables) rows in
    let counted = g.evidence.counted in (
      omega (arith, c.decreases, c.if-splits-eq0.false, counted),
      (
        omega (arith, variable_within c.args.rows.now c.args.variable h, n),
        (
          subst (λ (x : LinearSystem). HasUnitRows x.variables x.rows) (sym rows) c.requires.bounded,
          (
            none_after c.walk_half.new.pending.items c.args.pending.now.items c.args.next c.in_ok-low.ensures.pending c.requires.none,
            subst (λ (z : ℤ). unsigned_abs (z +ℤ pos 1) < 2 ^ 100) (sym (same_cast m s)) (upper_small c.args.rows.now c.args.variable m (c.args.splits - 1) c.in-Closed.left c.in-Closed.low h c.middle-middle.ensures g),
          ),
        ),
      ),
    )

pub walk_halves-returns-in-Closed-clause-goes : goal.walk_halves-returns-in-Closed-clause-goes
walk_halves-returns-in-Closed-clause-goes t c =
    let h : IsHard c.args.rows.now c.args.variable = record { limits = c.variables-variables.ensures.limits; bounded = c.requires.bounded; apart = c.requires.apart; hard = c.requires.hard; narrow = c.requires.narrow } in
    let m = c.middle-middle.result in
    let s = hard_small c.args.rows.now c.args.variable m h c.middle-middle.ensures in
    let g = moved c.args.rows.now c.args.variable _ _ (neg_ℤ m) (c.args.splits - 1) (walked.Closed c.in-Closed.low c.in-Closed.left) (low_code m s) (subst (Goes _ _) c.in-Closed.is c.in_ok-low.ensures.goes) in
    let rows = c.in_ok-low.ensures.rows in
    let done : IsLowerDone (node_of c.args.rows.now []) c.args.variable m c.args.splits c.in-Closed.low c.in-Closed.left = lower_done c.args.rows.now c.args.variable m c.args.splits c.in-Closed.left c.in-Closed.low h c.middle-middle.ensures (omega (arith, c.if-splits-eq0.false)) g in
    let there = subst (λ (x : LinearSystem). IsLowerDone (node_of x []) c.args.variable (to_z w128 (of_z w128 m)) c.args.splits c.in-Closed.low c.in-Closed.left) (sym rows) (subst (λ (z : ℤ). IsLowerDone (node_of c.args.rows.now []) c.args.variable z c.args.splits c.in-Closed.low c.in-Closed.left) (sym (same_cast m s)) done) in
    if_ok c.walk_upper.result _ (Goes (node_of c.args.rows.now []) c.args.splits)
    (λ w f. subst (λ (x : LinearSystem). Goes (node_of x []) c.args.splits w) rows (f c.args.splits there))
    c.walk_upper.ensures.goes

pub walk_halves-returns-in-Found-clause-goes : goal.walk_halves-returns-in-Found-clause-goes
walk_halves-returns-in-Found-clause-goes t c =
    let h : IsHard c.args.rows.now c.args.variable = record { limits = c.variables-variables.ensures.limits; bounded = c.requires.bounded; apart = c.requires.apart; hard = c.requires.hard; narrow = c.requires.narrow } in
    let m = c.middle-middle.result in
    let s = hard_small c.args.rows.now c.args.variable m h c.middle-middle.ensures in
    let g = moved c.args.rows.now c.args.variable _ _ (neg_ℤ m) (c.args.splits - 1) (walked.Found c.in-Found.point) (low_code m s) (subst (Goes _ _) c.in-Found.is c.in_ok-low.ensures.goes) in
    goes_lower_point (node_of c.args.rows.now []) c.args.splits (c.args.splits - 1) c.args.variable m c.in-Found.point (hard_kind c.args.rows.now c.args.variable m h c.middle-middle.ensures) (omega (arith, c.if-splits-eq0.false)) g

pub walk_halves-returns-in_ok-tree-in-Unfinished-clause-goes : goal.walk_halves-returns-in_ok-tree-in-Unfinished-clause-goes
walk_halves-returns-in_ok-tree-in-Unfinished-clause-goes t c =
    let h : IsHard c.args.rows.now c.args.variable = record { limits = c.variables-variables.ensures.limits; bounded = c.requires.bounded; apart = c.requires.apart; hard = c.requires.hard; narrow = c.requires.narrow } in
    let m = c.middle-middle.result in
    let s = hard_small c.args.rows.now c.args.variable m h c.middle-middle.ensures in
    let g = moved c.args.rows.now c.args.variable _ _ (neg_ℤ m) (c.args.splits - 1) (walked.Unfinished c.in-Unfinished.low) (low_code m s) (subst (Goes _ _) c.in-Unfinished.is c.in_ok-low.ensures.goes) in
    goes_lower_unfinished (node_of c.args.rows.now []) c.args.splits (c.args.splits - 1) c.args.variable m c.in-Unfinished.low c.in_ok-tree-in-Unfinished.tree (hard_kind c.args.rows.now c.args.variable m h c.middle-middle.ensures) (omega (arith, c.if-splits-eq0.false)) g
    (c.in_ok-tree-in-Unfinished.ensures ∙ ap (λ (z : ℤ). tree.Halve c.args.variable z c.in-Unfinished.low tree.Open) (same_cast m s))

pub walk_upper-returns-in_ok-proof-in-Closed-clause-goes : goal.walk_upper-returns-in_ok-proof-in-Closed-clause-goes
walk_upper-returns-in_ok-proof-in-Closed-clause-goes t c = λ splits d.
    goes_upper_closed (node_of c.args.rows.now []) splits c.args.variable c.args.middle.now c.args.low c.in-Closed.high c.in_ok-proof-in-Closed.proof c.args.left c.in-Closed.rest d
    (moved c.args.rows.now c.args.variable _ _ (c.args.middle.now +ℤ pos 1) c.args.left (walked.Closed c.in-Closed.high c.in-Closed.rest) (next_cast c.args.middle.now c.requires.small) (subst (Goes _ _) c.in-Closed.is c.in_ok-high.ensures.goes))
    c.in_ok-proof-in-Closed.ensures

pub walk_upper-returns-in-Found-clause-goes : goal.walk_upper-returns-in-Found-clause-goes
walk_upper-returns-in-Found-clause-goes t c = λ splits d.
    goes_upper_point (node_of c.args.rows.now []) splits c.args.variable c.args.middle.now c.args.low c.args.left c.in-Found.point d
    (moved c.args.rows.now c.args.variable _ _ (c.args.middle.now +ℤ pos 1) c.args.left (walked.Found c.in-Found.point) (next_cast c.args.middle.now c.requires.small) (subst (Goes _ _) c.in-Found.is c.in_ok-high.ensures.goes))

pub walk_upper-returns-in_ok-tree-in-Unfinished-clause-goes : goal.walk_upper-returns-in_ok-tree-in-Unfinished-clause-goes
walk_upper-returns-in_ok-tree-in-Unfinished-clause-goes t c = λ splits d.
    goes_upper_unfinished (node_of c.args.rows.now []) splits c.args.variable c.args.middle.now c.args.low c.in_ok-low-in-Unfinished.low c.in-Unfinished.high c.in_ok-tree-in-Unfinished.tree c.args.left d
    (moved c.args.rows.now c.args.variable _ _ (c.args.middle.now +ℤ pos 1) c.args.left (walked.Unfinished c.in-Unfinished.high) (next_cast c.args.middle.now c.requires.small) (subst (Goes _ _) c.in-Unfinished.is c.in_ok-high.ensures.goes))
    c.in_ok-low-in-Unfinished.ensures c.in_ok-tree-in-Unfinished.ensures
