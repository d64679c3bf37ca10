use Rattle.std.proofs.Common.{◌≡◌, sym, ap, ◌∙◌, subst, ℕ, ◌+◌, ◌<◌, List, [], ◌∷◌, Bool, true, false, cond, pos, int_lt}
use Rattle.std.proofs.lemmas.List.Elements.{All-contains}
use Rattle.rx_linear.specs.declared.row.Row.{Row}
use Rattle.rx_linear.specs.Systems.{FitsSystem}
use Rattle.rx_linear.specs.Joining.{joined}
use Rattle.rx_linear.specs.Units.{coefficient}
use Rattle.rx_shadow.specs.declared.known.Known.{Known}
use Rattle.rx_shadow.specs.declared.known.Derived.{Derived}
use Rattle.rx_shadow.specs.Known.{rows_of}
use Rattle.rx_shadow.specs.Simple.{within_limits, paired}
use Rattle.rx_shadow.proofs.Joins.{Joining, joining_none, joining_skip, joining_step, joining_fails, joining_end, room_after, continues_then, new_with, pairs_of_each}
use Rattle.rx_shadow.proofs.known.Derived.join_pairs_of.Goals as goal
use Rattle.rx_shadow.proofs.known.Derived.join_pairs_of.Goals.{then-is_negative+in_ok-join_pair+else-not-branch, else-is_negative}

fits_now : (n m : ℕ) (k : Known) → m ≡ n → FitsSystem n k.row → FitsSystem m k.row
fits_now n m k e f = subst (λ (j : ℕ). FitsSystem j k.row) (sym e) f

given_with : (x : ℕ) (first : Row) (k : Known) (b : Bool) → int_lt (coefficient x k.row) (pos 0) ≡ b → new_with x first k ≡ cond b (paired x first k.row ∷ []) []
given_with x first k b e = ap (λ (t : Bool). cond t (paired x first k.row ∷ []) []) e

pub loop-second-init : goal.loop-second-init
loop-second-init c = joining_none (new_with c.args.variable c.args.first.now.row) c.args.leaving.now c.args.self.now c.requires.fits c.requires.room

pub join_pair-requires-clause-room : goal.join_pair-requires-clause-room
join_pair-requires-clause-room c = room_after c.args.self.now c.loop-second.self c.requires.room c.loop-second.invariant.continues

pub join_pair-requires-clause-fits : goal.join_pair-requires-clause-fits
join_pair-requires-clause-fits c = c.loop-second.invariant.continues.fits

pub join_pair-requires-clause-variable : goal.join_pair-requires-clause-variable
join_pair-requires-clause-variable c = subst (λ (n : ℕ). c.args.variable < n) (sym c.loop-second.invariant.continues.same_variables) c.requires.variable

pub join_pair-requires-clause-first_fits : goal.join_pair-requires-clause-first_fits
join_pair-requires-clause-first_fits c = fits_now _ _ c.args.first.now c.loop-second.invariant.continues.same_variables (All-contains (λ k. FitsSystem c.args.self.now.variables k.row) c.args.leaving.now c.args.first.now c.requires.leaving_fit c.requires.first_leaves)

pub join_pair-requires-clause-second_fits : goal.join_pair-requires-clause-second_fits
join_pair-requires-clause-second_fits c = fits_now _ _ c.second-item.result c.loop-second.invariant.continues.same_variables (All-contains (λ k. FitsSystem c.args.self.now.variables k.row) c.args.leaving.now c.second-item.result c.requires.leaving_fit (c.loop-second.second-index, c.loop-second-test.true, sym c.second-item.is))

pub returns-then-not-branch-clause-reached : goal.returns-then-not-branch-clause-reached
returns-then-not-branch-clause-reached c =
    ap (λ (rows : List Row). within_limits (joined (rows_of c.args.self.now.known.items) rows)) (sym (pairs_of_each c.args.variable c.args.first.now.row c.args.leaving.now))
    ∙ joining_fails (new_with c.args.variable c.args.first.now.row) c.args.leaving.now c.loop-second.second-index c.second-item.result c.args.self.now c.loop-second.self c.join_pair.new.self (paired c.args.variable c.args.first.now.row c.second-item.result.row ∷ []) c.in_ok-join_pair.field-0 c.loop-second.invariant c.loop-second-test.true c.second-item.is
    (given_with c.args.variable c.args.first.now.row c.second-item.result true (ap (λ (r : Row). int_lt (coefficient c.args.variable r) (pos 0)) (sym c.row.ensures) ∙ sym c.is_negative.ensures ∙ c.if-is_negative.true)) c.if-not-branch.true c.in_ok-join_pair.ensures.reached

pub returns-then-not-branch-clause-continues : goal.returns-then-not-branch-clause-continues
returns-then-not-branch-clause-continues c = continues_then c.args.self.now c.loop-second.self c.join_pair.new.self c.loop-second.invariant.continues c.in_ok-join_pair.ensures.continues

pub returns-then-not-branch-clause-derived : goal.returns-then-not-branch-clause-derived
returns-then-not-branch-clause-derived c = λ given d.
    c.in_ok-join_pair.ensures.derived given c.args.leaving.now c.requires.first_leaves (c.loop-second.second-index, c.loop-second-test.true, sym c.second-item.is) (c.loop-second.invariant.derived given d)

pub loop-second-preserved : goal.loop-second-preserved
loop-second-preserved c =
    let f : Known → List Row = new_with c.args.variable c.args.first.now.row in
    elim c.if-is_negative.branch [
      | then-is_negative+in_ok-join_pair+else-not-branch w ↦
          subst (λ (next : Derived). Joining f c.args.leaving.now (c.loop-second.second-index + 1) c.args.self.now next) (sym w.self-is)
          (joining_step f c.args.leaving.now c.loop-second.second-index c.second-item.result c.args.self.now c.loop-second.self w.join_pair.new.self (paired c.args.variable c.args.first.now.row c.second-item.result.row ∷ []) w.in_ok-join_pair.field-0 c.loop-second.invariant c.loop-second-test.true c.second-item.is
          (given_with c.args.variable c.args.first.now.row c.second-item.result true (ap (λ (r : Row). int_lt (coefficient c.args.variable r) (pos 0)) (sym c.row.ensures) ∙ sym c.is_negative.ensures ∙ w.if-is_negative.true)) w.if-not-branch.false w.in_ok-join_pair.ensures.reached w.in_ok-join_pair.ensures.continues
          (λ given d. w.in_ok-join_pair.ensures.derived given c.args.leaving.now c.requires.first_leaves (c.loop-second.second-index, c.loop-second-test.true, sym c.second-item.is) d))
      | else-is_negative w ↦
          subst (λ (next : Derived). Joining f c.args.leaving.now (c.loop-second.second-index + 1) c.args.self.now next) (sym w.self-is)
          (joining_skip f c.args.leaving.now c.loop-second.second-index c.second-item.result c.args.self.now c.loop-second.self c.loop-second.invariant c.loop-second-test.true c.second-item.is
          (given_with c.args.variable c.args.first.now.row c.second-item.result false (ap (λ (r : Row). int_lt (coefficient c.args.variable r) (pos 0)) (sym c.row.ensures) ∙ sym c.is_negative.ensures ∙ w.if-is_negative.false)))
    ]

pub returns-clause-reached : goal.returns-clause-reached
returns-clause-reached c =
    joining_end (new_with c.args.variable c.args.first.now.row) c.args.leaving.now c.loop-second.second-index c.args.self.now c.loop-second.self c.loop-second.invariant c.loop-second-test.false
    ∙ ap (joined (rows_of c.args.self.now.known.items)) (pairs_of_each c.args.variable c.args.first.now.row c.args.leaving.now)

pub returns-clause-continues : goal.returns-clause-continues
returns-clause-continues c = c.loop-second.invariant.continues

pub returns-clause-derived : goal.returns-clause-derived
returns-clause-derived c = c.loop-second.invariant.derived
