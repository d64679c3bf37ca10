use Rattle.std.proofs.Common.{◌≡◌, sym, ap, ◌∙◌, subst, ℕ, ◌<◌, ◌^◌, arith, List, map, length, true, ℤ, Some, unsigned_abs}
use Rattle.std.specs.List.{slice_get, remove, list_all, All}
use Rattle.rx_linear.specs.declared.row.Row.{Row}
use Rattle.rx_linear.specs.Cells.{Stacked}
use Rattle.rx_linear.specs.Systems.{FitsSystem}
use Rattle.rx_proof.specs.declared.query.Query.{Query, out-Query}
use Rattle.rx_proof.specs.declared.proof.Proof.{Proof}
use Rattle.rx_proof.specs.declared.open.Open.{Entered}
use Rattle.rx_proof.specs.Queries.{has_variables, each_has_variables}
use Rattle.std.proofs.lemmas.List.{length-map}
use Rattle.rx_proof.specs.Acceptance.{accepted, can_halve}
use Rattle.rx_proof.specs.Room.{depth, weight, open_weight, total, greatest_of}
use Rattle.rx_proof.specs.Open.{disjunctions, node_of}
use Rattle.rx_proof.proofs.Opens.{disjunctions_entered, size_entered}
use Rattle.rx_proof.proofs.Weights.{weight_is, open_weight-append, open_weight-remove, weight_at, depth_close, depth_halve, depth_case, depth_at, has_variables_out, each-append, each-remove, all_at}
use Rattle.rx_proof.proofs.Nodes.{nodes, nodes_halve, nodes_case, nodes_at, joined_longer, joined_at_most, close_value, halve_value, none_value, some_value, unequal, halvable, low_code, high_code, low_small, halves_value, cut_back}
use Rattle.rx_proof.proofs.accepting.+accept.Goals as goal

pub accept-closes-requires : goal.accept-closes-requires
accept-closes-requires t c =
    let d = ap depth c.in-Close.is ∙ depth_close c.in-Close.steps in
    omega (arith, c.requires.room, d, ap length c.as_slice.ensures)

pub accept-accept_halves-requires : goal.accept-accept_halves-requires
accept-accept_halves-requires t c =
    let n = ap nodes c.in-Halve.is ∙ nodes_halve c.in-Halve.variable c.in-Halve.middle c.in-Halve.low c.in-Halve.high in
    let d = ap depth c.in-Halve.is ∙ depth_halve c.in-Halve.variable c.in-Halve.middle c.in-Halve.low c.in-Halve.high in
    let low = ap nodes c.get.ensures in
    let high = ap nodes c.get-in-Halve.ensures in
    let low_depth = ap depth c.get.ensures in
    let high_depth = ap depth c.get-in-Halve.ensures in
    (omega (arith, c.decreases, n, low, high), (omega (arith, c.requires.room, d, low_depth, high_depth), (c.requires.small, c.requires.even)))

pub accept-find-requires : goal.accept-find-requires
accept-find-requires t c = omega (arith, c.requires.room, c.requires.small)

pub accept-accept_branches-requires : goal.accept-accept_branches-requires
accept-accept_branches-requires t c =
    let n = ap nodes c.in-Case.is ∙ nodes_case c.in-Case.place c.in-Case.proofs in
    let d = ap depth c.in-Case.is ∙ depth_case c.in-Case.place c.in-Case.proofs in
    let proofs_nodes = ap (λ (ps : List Proof). total (map nodes ps)) c.as_slice-in-Some.ensures in
    let proofs_depth = ap (λ (ps : List Proof). greatest_of (map depth ps)) c.as_slice-in-Some.ensures in
    let branches_weight = ap (λ (bs : List Query). total (map weight bs)) c.as_slice-in-Some-2.ensures in
    let found : slice_get (disjunctions c.args.chain.now) c.in-Case.place ≡ Some c.in-Some.branches.now = c.in-Some.ensures in
    let w = open_weight-remove (disjunctions c.args.chain.now) c.in-Case.place c.in-Some.branches.now found in
    let even = each-remove (disjunctions c.args.chain.now) c.in-Case.place c.in-Some.branches.now c.args.stack.now.variables found c.requires.even in (
      omega (arith, c.decreases, n, proofs_nodes),
      (
        omega (arith, c.requires.room, d, proofs_depth, branches_weight, w),
        (
          c.requires.small,
          (
            even.1,
            ap (list_all (λ branch. has_variables branch c.args.stack.now.variables)) c.as_slice-in-Some-2.ensures ∙ even.0,
          ),
        ),
      ),
    )

pub accept-returns-in-Close-clause-value : goal.accept-returns-in-Close-clause-value
accept-returns-in-Close-clause-value t c =
    close_value c.args.proof.now c.in-Close.steps c.as_slice.result.now (node_of c.args.stack.now c.args.chain.now) c.closes.result c.in-Close.is c.as_slice.ensures c.closes.ensures.value

pub accept-returns-in-Halve-clause-value : goal.accept-returns-in-Halve-clause-value
accept-returns-in-Halve-clause-value t c =
    halve_value c.args.proof.now c.in-Halve.variable c.in-Halve.middle c.in-Halve.low c.in-Halve.high c.get.result.now c.get-in-Halve.result.now (node_of c.args.stack.now c.args.chain.now) c.accept_halves.result c.in-Halve.is c.get.ensures c.get-in-Halve.ensures c.accept_halves.ensures.value

pub accept-returns-in-None-clause-value : goal.accept-returns-in-None-clause-value
accept-returns-in-None-clause-value t c = none_value c.args.proof.now c.in-Case.place c.in-Case.proofs (node_of c.args.stack.now c.args.chain.now) c.in-Case.is c.in-None.ensures

pub accept-returns-in-Some-clause-value : goal.accept-returns-in-Some-clause-value
accept-returns-in-Some-clause-value t c =
    some_value c.args.proof.now c.in-Case.place c.in-Case.proofs c.as_slice-in-Some.result.now c.in-Some.branches.now c.as_slice-in-Some-2.result.now (node_of c.args.stack.now c.args.chain.now) c.accept_branches.result
    c.in-Case.is c.as_slice-in-Some.ensures c.as_slice-in-Some-2.ensures c.in-Some.ensures c.accept_branches.ensures.value

pub accept_branch-join_all-requires-clause-room : goal.accept_branch-join_all-requires-clause-room
accept_branch-join_all-requires-clause-room t c = omega (arith, c.requires.room, weight_is c.args.branch.now, ap length c.rows.ensures.value)

pub accept_branch-join_all-requires-clause-fit : goal.accept_branch-join_all-requires-clause-fit
accept_branch-join_all-requires-clause-fit t c =
    let same = (has_variables_out c.args.branch.now c.args.stack.now.variables c.requires.branch_even).0 in
    let given : All (FitsSystem c.args.stack.now.variables) (out-Query c.args.branch.now).system.rows =
    subst (λ (n : ℕ). All (FitsSystem n) (out-Query c.args.branch.now).system.rows) same c.rows.ensures.limits.1 in
    subst (λ (rs : List Row). All (FitsSystem c.args.stack.now.variables) rs) (sym c.rows.ensures.value) given

pub accept_branch-accept-accepted-requires : goal.accept_branch-accept-accepted-requires
accept_branch-accept-accepted-requires t c =
    let rows = ap (λ (s : Stacked). length s.rows) c.join_all.ensures in
    let most = joined_at_most c.args.stack.now.rows c.rows.result.now in
    let limit = ap (λ (s : Stacked). s.limit) c.join_all.ensures in
    let variables = ap (λ (s : Stacked). s.variables) c.join_all.ensures in
    let own = ap length c.rows.ensures.value in
    let s = size_entered c.args.chain c.args.place c.as_slice.result in
    let more = ap length c.as_slice.ensures in
    let w = ap open_weight (disjunctions_entered c.args.chain c.args.place c.as_slice.result) ∙ open_weight-append (remove (disjunctions c.args.chain.now) c.args.place) c.as_slice.result.now in
    let below = ap open_weight c.as_slice.ensures in
    let branch = weight_is c.args.branch.now in
    let out = (has_variables_out c.args.branch.now c.args.stack.now.variables c.requires.branch_even).1 in
    let even : each_has_variables (remove (disjunctions c.args.chain.now) c.args.place) c.args.stack.now.variables ≡ true = c.requires.even in (
      omega (arith, c.decreases),
      (
        omega (arith, c.requires.room, rows, most, limit, own, s, more, w, below, branch),
        (
          omega (arith, c.requires.small, limit),
          ap (each_has_variables (disjunctions (Entered c.args.chain c.args.place c.as_slice.result))) variables
              ∙ ap (λ (ds : List (List Query)). each_has_variables ds c.args.stack.now.variables) (disjunctions_entered c.args.chain c.args.place c.as_slice.result)
              ∙ each-append (remove (disjunctions c.args.chain.now) c.args.place) c.as_slice.result.now c.args.stack.now.variables even (ap (λ (ds : List (List Query)). each_has_variables ds c.args.stack.now.variables) c.as_slice.ensures ∙ out),
        ),
      ),
    )

pub accept_branch-truncate-requires : goal.accept_branch-truncate-requires
accept_branch-truncate-requires t c =
    let rows = ap (λ (s : Stacked). length s.rows) (c.accept-accepted.ensures.kept ∙ c.join_all.ensures) in
    omega (arith, rows, c.len-count.ensures.value, joined_longer c.args.stack.now.rows c.rows.result.now)

pub accept_branch-returns-clause-kept : goal.accept_branch-returns-clause-kept
accept_branch-returns-clause-kept t c =
    cut_back c.args.stack.now c.join_all.new.self c.accept-accepted.new.stack c.truncate.new.self c.rows.result.now c.len-count.result c.join_all.ensures c.accept-accepted.ensures.kept c.len-count.ensures.value c.truncate.ensures

pub accept_branches-returns-then-proofs-branches-clause-value :
    goal.accept_branches-returns-then-proofs-branches-clause-value
accept_branches-returns-then-proofs-branches-clause-value t c =
    unequal (node_of c.args.stack.now c.args.chain.now) c.args.place (map accepted c.args.proofs.now) c.args.branches.now (λ e. c.if-proofs-branches.true (omega (arith, e, length-map c.args.proofs.now accepted)))

pub accept_branches-accept_branch-requires : goal.accept_branches-accept_branch-requires
accept_branches-accept_branch-requires t c =
    let rows = ap (λ (s : Stacked). length s.rows) c.loop-i.invariant.kept in
    let limit = ap (λ (s : Stacked). s.limit) c.loop-i.invariant.kept in
    let variables = ap (λ (s : Stacked). s.variables) c.loop-i.invariant.kept in
    let there : c.loop-i.i < length c.args.branches.now = omega (arith, c.loop-i-test.true, c.if-proofs-branches.false) in
    let n = ap nodes c.index-proofs-i.is in
    let d = ap depth c.index-proofs-i.is in
    let w = ap weight c.index-branches-i.is in
    let n_at = nodes_at c.args.proofs.now c.loop-i.i c.index-proofs-i.result c.loop-i-test.true in
    let d_at = depth_at c.args.proofs.now c.loop-i.i c.index-proofs-i.result c.loop-i-test.true in
    let w_at = weight_at c.args.branches.now c.loop-i.i c.index-branches-i.result there in
    let even : each_has_variables (remove (disjunctions c.args.chain.now) c.args.place) c.args.stack.now.variables ≡ true = c.requires.even in
    let branch = all_at (λ b. has_variables b c.args.stack.now.variables) c.args.branches.now c.loop-i.i c.index-branches-i.result there c.requires.branches_even in (
      omega (arith, c.decreases, n, n_at),
      (
        omega (arith, c.requires.room, rows, limit, d, d_at, w, w_at),
        (
          omega (arith, c.requires.small, limit),
          (
            ap (each_has_variables (remove (disjunctions c.args.chain.now) c.args.place)) variables ∙ even,
            ap (has_variables c.index-branches-i.result) variables ∙ ap (λ (b : Query). has_variables b c.args.stack.now.variables) c.index-branches-i.is ∙ branch,
          ),
        ),
      ),
    )

pub accept_halves-accept_half-requires : goal.accept_halves-accept_half-requires
accept_halves-accept_half-requires t c =
    let v : c.variables.result ≡ c.args.stack.now.variables = c.variables.ensures.value in
    let h = halvable c.variables.result c.args.variable c.args.middle.now (sym c.can_halve.ensures ∙ c.if-not-can_halve.false) in (
      omega (arith, c.decreases),
      (
        omega (arith, h.within, v),
        (
          omega arith,
          (
            low_small c.args.middle.now _ h.small (low_code c.args.middle.now h.small),
            (omega (arith, c.requires.room), (c.requires.small, c.requires.even)),
          ),
        ),
      ),
    )

pub accept_halves-accept_half-requires-2 : goal.accept_halves-accept_half-requires-2
accept_halves-accept_half-requires-2 t c =
    let v : c.variables.result ≡ c.args.stack.now.variables = c.variables.ensures.value in
    let h = halvable c.variables.result c.args.variable c.args.middle.now (sym c.can_halve.ensures ∙ c.if-not-can_halve.false) in
    let rows = ap (λ (s : Stacked). length s.rows) c.accept_half.ensures.kept in
    let limit = ap (λ (s : Stacked). s.limit) c.accept_half.ensures.kept in
    let variables = ap (λ (s : Stacked). s.variables) c.accept_half.ensures.kept in (
      omega (arith, c.decreases),
      (
        omega (arith, h.within, v, variables),
        (
          omega arith,
          (
            subst (λ (z : ℤ). unsigned_abs z < 2 ^ 100) (sym (high_code c.args.middle.now h.small)) h.next_small,
            (omega (arith, c.requires.room, rows, limit), (omega (arith, c.requires.small, limit), ap (each_has_variables (disjunctions c.args.chain.now)) variables ∙ c.requires.even)),
          ),
        ),
      ),
    )

pub accept_halves-returns-clause-value : goal.accept_halves-returns-clause-value
accept_halves-returns-clause-value t c =
    let v : c.variables.result ≡ c.args.stack.now.variables = c.variables.ensures.value in
    let passed = sym c.can_halve.ensures ∙ c.if-not-can_halve.false in
    let h = halvable c.variables.result c.args.variable c.args.middle.now passed in
    halves_value c.args.variable c.args.middle.now _ _ c.args.low.now c.args.high.now c.args.stack.now c.accept_half.new.stack c.args.chain.now c.accept_half.result c.accept_half-2.result
    (ap (λ (n : ℕ). can_halve n c.args.variable c.args.middle.now) (sym v) ∙ passed)
    (low_code c.args.middle.now h.small) (high_code c.args.middle.now h.small) c.accept_half.ensures.kept c.accept_half.ensures.value c.if-not-accept_half.false c.accept_half-2.ensures.value
