use Rattle.std.proofs.Common.{◌≡◌, sym, ap, ◌∙◌, subst, ℕ, ◌+◌, ◌<◌, List, [], map, Bool, true, false, cond, pos, int_lt}
use Rattle.rx_linear.specs.declared.row.Row.{Row}
use Rattle.rx_linear.specs.Joining.{joined}
use Rattle.rx_linear.specs.Units.{coefficient}
use Rattle.rx_shadow.specs.declared.known.Known.{Known}
use Rattle.rx_shadow.specs.declared.known.Derived.{Derived}
use Rattle.rx_shadow.specs.Known.{rows_of, AllFit}
use Rattle.rx_shadow.specs.Simple.{within_limits, paired, negatives}
use Rattle.rx_shadow.proofs.Joins.{Joining, joining_none, joining_skip, joining_step, joining_fails, joining_end, room_after, continues_then, new_pairs, pairs_each}
use Rattle.rx_shadow.proofs.known.Derived.join_pairs.Goals as goal
use Rattle.rx_shadow.proofs.known.Derived.join_pairs.Goals.{then-is_positive+in_ok-join_pairs_of+else-not-branch, else-is_positive}

given_pairs : (x : ℕ) (leaving : List Known) (k : Known) (b : Bool) → int_lt (pos 0) (coefficient x k.row) ≡ b → new_pairs x leaving k ≡ cond b (map (paired x k.row) (negatives x (rows_of leaving))) []
given_pairs x leaving k b e = ap (λ (t : Bool). cond t (map (paired x k.row) (negatives x (rows_of leaving))) []) e

pub loop-first-init : goal.loop-first-init
loop-first-init c = joining_none (new_pairs c.args.variable c.args.leaving.now) c.args.leaving.now c.args.self.now c.requires.fits c.requires.room

pub join_pairs_of-requires-clause-room : goal.join_pairs_of-requires-clause-room
join_pairs_of-requires-clause-room c = room_after c.args.self.now c.loop-first.self c.requires.room c.loop-first.invariant.continues

pub join_pairs_of-requires-clause-fits : goal.join_pairs_of-requires-clause-fits
join_pairs_of-requires-clause-fits c = c.loop-first.invariant.continues.fits

pub join_pairs_of-requires-clause-variable : goal.join_pairs_of-requires-clause-variable
join_pairs_of-requires-clause-variable c = subst (λ (n : ℕ). c.args.variable < n) (sym c.loop-first.invariant.continues.same_variables) c.requires.variable

pub join_pairs_of-requires-clause-leaving_fit : goal.join_pairs_of-requires-clause-leaving_fit
join_pairs_of-requires-clause-leaving_fit c = subst (λ (n : ℕ). AllFit n c.args.leaving.now) (sym c.loop-first.invariant.continues.same_variables) c.requires.leaving_fit

pub returns-then-not-branch-clause-reached : goal.returns-then-not-branch-clause-reached
returns-then-not-branch-clause-reached c =
    ap (λ (rows : List Row). within_limits (joined (rows_of c.args.self.now.known.items) rows)) (sym (pairs_each c.args.variable c.args.leaving.now c.args.leaving.now))
    ∙ joining_fails (new_pairs c.args.variable c.args.leaving.now) c.args.leaving.now c.loop-first.first-index c.first-item.result c.args.self.now c.loop-first.self c.join_pairs_of.new.self (map (paired c.args.variable c.first-item.result.row) (negatives c.args.variable (rows_of c.args.leaving.now))) c.in_ok-join_pairs_of.field-0 c.loop-first.invariant c.loop-first-test.true c.first-item.is
    (given_pairs c.args.variable c.args.leaving.now c.first-item.result true (ap (λ (r : Row). int_lt (pos 0) (coefficient c.args.variable r)) (sym c.row.ensures) ∙ sym c.is_positive.ensures ∙ c.if-is_positive.true)) c.if-not-branch.true c.in_ok-join_pairs_of.ensures.reached

pub returns-then-not-branch-clause-continues : goal.returns-then-not-branch-clause-continues
returns-then-not-branch-clause-continues c = continues_then c.args.self.now c.loop-first.self c.join_pairs_of.new.self c.loop-first.invariant.continues c.in_ok-join_pairs_of.ensures.continues

pub returns-then-not-branch-clause-derived : goal.returns-then-not-branch-clause-derived
returns-then-not-branch-clause-derived c = λ given d.
    c.in_ok-join_pairs_of.ensures.derived given (c.loop-first.invariant.derived given d)

pub loop-first-preserved : goal.loop-first-preserved
loop-first-preserved c =
    let f : Known → List Row = new_pairs c.args.variable c.args.leaving.now in
    elim c.if-is_positive.branch [
      | then-is_positive+in_ok-join_pairs_of+else-not-branch w ↦
          subst (λ (next : Derived). Joining f c.args.leaving.now (c.loop-first.first-index + 1) c.args.self.now next) (sym w.self-is)
          (joining_step f c.args.leaving.now c.loop-first.first-index c.first-item.result c.args.self.now c.loop-first.self w.join_pairs_of.new.self (map (paired c.args.variable c.first-item.result.row) (negatives c.args.variable (rows_of c.args.leaving.now))) w.in_ok-join_pairs_of.field-0 c.loop-first.invariant c.loop-first-test.true c.first-item.is
          (given_pairs c.args.variable c.args.leaving.now c.first-item.result true (ap (λ (r : Row). int_lt (pos 0) (coefficient c.args.variable r)) (sym c.row.ensures) ∙ sym c.is_positive.ensures ∙ w.if-is_positive.true)) w.if-not-branch.false w.in_ok-join_pairs_of.ensures.reached w.in_ok-join_pairs_of.ensures.continues
          (λ given d. w.in_ok-join_pairs_of.ensures.derived given d))
      | else-is_positive w ↦
          subst (λ (next : Derived). Joining f c.args.leaving.now (c.loop-first.first-index + 1) c.args.self.now next) (sym w.self-is)
          (joining_skip f c.args.leaving.now c.loop-first.first-index c.first-item.result c.args.self.now c.loop-first.self c.loop-first.invariant c.loop-first-test.true c.first-item.is
          (given_pairs c.args.variable c.args.leaving.now c.first-item.result false (ap (λ (r : Row). int_lt (pos 0) (coefficient c.args.variable r)) (sym c.row.ensures) ∙ sym c.is_positive.ensures ∙ w.if-is_positive.false)))
    ]

pub returns-clause-reached : goal.returns-clause-reached
returns-clause-reached c =
    joining_end (new_pairs c.args.variable c.args.leaving.now) c.args.leaving.now c.loop-first.first-index c.args.self.now c.loop-first.self c.loop-first.invariant c.loop-first-test.false
    ∙ ap (joined (rows_of c.args.self.now.known.items)) (pairs_each c.args.variable c.args.leaving.now c.args.leaving.now)

pub returns-clause-continues : goal.returns-clause-continues
returns-clause-continues c = c.loop-first.invariant.continues

pub returns-clause-derived : goal.returns-clause-derived
returns-clause-derived c = c.loop-first.invariant.derived
