use Rattle.std.proofs.Common.{◌≡◌, sym, ap, ◌∙◌, subst, ℕ, ◌<◌, List, [], ◌∷◌}
use Rattle.std.proofs.lemmas.List.Elements.{All-contains}
use Rattle.rx_linear.specs.declared.row.Row.{Row}
use Rattle.rx_linear.specs.Systems.{FitsSystem}
use Rattle.rx_linear.specs.Joining.{joined}
use Rattle.rx_linear.specs.Units.{at_least, at_most}
use Rattle.rx_shadow.specs.declared.known.Known.{Known}
use Rattle.rx_shadow.specs.Known.{rows_of}
use Rattle.rx_shadow.specs.Simple.{within_limits, at_value}
use Rattle.rx_shadow.proofs.Joins.{joining_none, joining_step, joining_fails, joining_end, room_after, continues_then, new_value, values_each}
use Rattle.rx_shadow.proofs.known.Derived.join_values.Goals as goal

fits_now : (n m : ℕ) (k : Known) → m ≡ n → FitsSystem n k.row → FitsSystem m k.row
fits_now n m k e f = subst (λ (j : ℕ). FitsSystem j k.row) (sym e) f

pub loop-row-init : goal.loop-row-init
loop-row-init c = joining_none (new_value c.args.self.now.variables c.args.variable c.args.low.now.row.least) c.args.leaving.now c.args.self.now c.requires.fits c.requires.room

pub join_value-requires-clause-room : goal.join_value-requires-clause-room
join_value-requires-clause-room c = room_after c.args.self.now c.loop-row.self c.requires.room c.loop-row.invariant.continues

pub join_value-requires-clause-fits : goal.join_value-requires-clause-fits
join_value-requires-clause-fits c = c.loop-row.invariant.continues.fits

pub join_value-requires-clause-variable : goal.join_value-requires-clause-variable
join_value-requires-clause-variable c = subst (λ (n : ℕ). c.args.variable < n) (sym c.loop-row.invariant.continues.same_variables) c.requires.variable

pub join_value-requires-clause-low_fits : goal.join_value-requires-clause-low_fits
join_value-requires-clause-low_fits c = fits_now _ _ c.args.low.now c.loop-row.invariant.continues.same_variables (All-contains (λ k. FitsSystem c.args.self.now.variables k.row) c.args.leaving.now c.args.low.now c.requires.leaving_fit c.requires.low_leaves)

pub join_value-requires-clause-high_fits : goal.join_value-requires-clause-high_fits
join_value-requires-clause-high_fits c = fits_now _ _ c.args.high.now c.loop-row.invariant.continues.same_variables (All-contains (λ k. FitsSystem c.args.self.now.variables k.row) c.args.leaving.now c.args.high.now c.requires.leaving_fit c.requires.high_leaves)

pub join_value-requires-clause-row_fits : goal.join_value-requires-clause-row_fits
join_value-requires-clause-row_fits c = fits_now _ _ c.row-item.result c.loop-row.invariant.continues.same_variables (All-contains (λ k. FitsSystem c.args.self.now.variables k.row) c.args.leaving.now c.row-item.result c.requires.leaving_fit (c.loop-row.row-index, c.loop-row-test.true, sym c.row-item.is))

pub join_value-requires-clause-low_bound : goal.join_value-requires-clause-low_bound
join_value-requires-clause-low_bound c = c.requires.low_bound ∙ ap (λ (n : ℕ). at_least n c.args.variable c.args.low.now.row.least) (sym c.loop-row.invariant.continues.same_variables)

pub join_value-requires-clause-high_bound : goal.join_value-requires-clause-high_bound
join_value-requires-clause-high_bound c = c.requires.high_bound ∙ ap (λ (n : ℕ). at_most n c.args.variable c.args.low.now.row.least) (sym c.loop-row.invariant.continues.same_variables)

pub returns-then-not-branch-clause-reached : goal.returns-then-not-branch-clause-reached
returns-then-not-branch-clause-reached c =
    ap (λ (rows : List Row). within_limits (joined (rows_of c.args.self.now.known.items) rows)) (sym (values_each c.args.self.now.variables c.args.variable c.args.low.now.row.least c.args.leaving.now))
    ∙ joining_fails (new_value c.args.self.now.variables c.args.variable c.args.low.now.row.least) c.args.leaving.now c.loop-row.row-index c.row-item.result c.args.self.now c.loop-row.self c.join_value.new.self (at_value c.loop-row.self.variables c.args.variable c.args.low.now.row.least c.row-item.result.row ∷ []) c.in_ok-join_value.field-0 c.loop-row.invariant c.loop-row-test.true c.row-item.is
    (ap (λ (n : ℕ). at_value n c.args.variable c.args.low.now.row.least c.row-item.result.row ∷ []) (sym c.loop-row.invariant.continues.same_variables)) c.if-not-branch.true c.in_ok-join_value.ensures.reached

pub returns-then-not-branch-clause-continues : goal.returns-then-not-branch-clause-continues
returns-then-not-branch-clause-continues c = continues_then c.args.self.now c.loop-row.self c.join_value.new.self c.loop-row.invariant.continues c.in_ok-join_value.ensures.continues

pub returns-then-not-branch-clause-derived : goal.returns-then-not-branch-clause-derived
returns-then-not-branch-clause-derived c = λ given d.
    c.in_ok-join_value.ensures.derived given c.args.leaving.now c.requires.low_leaves c.requires.high_leaves (c.loop-row.row-index, c.loop-row-test.true, sym c.row-item.is) (c.loop-row.invariant.derived given d)

pub loop-row-preserved : goal.loop-row-preserved
loop-row-preserved c =
    joining_step (new_value c.args.self.now.variables c.args.variable c.args.low.now.row.least) c.args.leaving.now c.loop-row.row-index c.row-item.result c.args.self.now c.loop-row.self c.join_value.new.self (at_value c.loop-row.self.variables c.args.variable c.args.low.now.row.least c.row-item.result.row ∷ []) c.in_ok-join_value.field-0 c.loop-row.invariant c.loop-row-test.true c.row-item.is
    (ap (λ (n : ℕ). at_value n c.args.variable c.args.low.now.row.least c.row-item.result.row ∷ []) (sym c.loop-row.invariant.continues.same_variables)) c.if-not-branch.false c.in_ok-join_value.ensures.reached c.in_ok-join_value.ensures.continues
    (λ given d. c.in_ok-join_value.ensures.derived given c.args.leaving.now c.requires.low_leaves c.requires.high_leaves (c.loop-row.row-index, c.loop-row-test.true, sym c.row-item.is) d)

pub returns-clause-reached : goal.returns-clause-reached
returns-clause-reached c =
    joining_end (new_value c.args.self.now.variables c.args.variable c.args.low.now.row.least) c.args.leaving.now c.loop-row.row-index c.args.self.now c.loop-row.self c.loop-row.invariant c.loop-row-test.false
    ∙ ap (joined (rows_of c.args.self.now.known.items)) (values_each c.args.self.now.variables c.args.variable c.args.low.now.row.least c.args.leaving.now)

pub returns-clause-continues : goal.returns-clause-continues
returns-clause-continues c = c.loop-row.invariant.continues

pub returns-clause-derived : goal.returns-clause-derived
returns-clause-derived c = c.loop-row.invariant.derived
