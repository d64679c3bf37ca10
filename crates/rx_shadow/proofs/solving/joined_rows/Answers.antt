use Rattle.std.proofs.Common.{◌≡◌, sym, ap, subst, ◌∙◌, ◌+◌, ◌++◌, ◌∷◌, [], List, not, ◌||◌, length, rules}
use Rattle.std.specs.List.{list_any}
use Rattle.rx_linear.specs.declared.row.Row.{Row}
use Rattle.rx_linear.specs.Systems.{FitsSystem}
use Rattle.rx_linear.specs.Joining.{is_true, same_row}
use Rattle.rx_shadow.specs.declared.known.Known.{Known}
use Rattle.rx_shadow.specs.Known.{rows_of}
use Rattle.rx_shadow.proofs.Initial.{Joined, joined_none, joined_same, joined_push, joined_whole}
use Rattle.rx_shadow.proofs.solving.joined_rows.Goals as goal
use Rattle.rx_shadow.proofs.solving.joined_rows.Goals.{then-is_new+in_ok-push, else-is_new}

pub loop-row-init : goal.loop-row-init
loop-row-init c = subst (Joined c.args.variables c.args.rows.now 0) (sym c.new-known.ensures.items) (joined_none c.args.variables c.args.rows.now)

pub loop-row-preserved : goal.loop-row-preserved
loop-row-preserved c =
    let e : c.is_new.result ≡ not (is_true c.in_ok-last.last || list_any (same_row c.in_ok-last.last) (rows_of c.loop-row.known.items)) =
    c.is_new.ensures ∙ ap (λ (ks : List Known). not (is_true c.in_ok-last.last || list_any (same_row c.in_ok-last.last) (rows_of ks))) c.deref.ensures.value in
    let fits : FitsSystem c.args.variables c.row-item.result = search rules in
    elim c.if-is_new.branch [
      | then-is_new+in_ok-push w ↦
          let number : w.len-number.result ≡ length c.loop-row.known.items = search rules in
          let more : c.if-is_new.known.items ≡ c.loop-row.known.items ++ record { row = c.in_ok-last.last; number = w.len-number.result } ∷ [] = ap (λ v. v.items) w.known-is ∙ w.in_ok-push.ensures.items ∙ ap (λ (r : Row). c.loop-row.known.items ++ record { row = r; number = w.len-number.result } ∷ []) w.new.ensures in
          joined_push c.args.variables c.args.rows.now c.loop-row.row-index w.len-number.result c.row-item.result c.in_ok-last.last c.loop-row.known.items c.if-is_new.known.items c.loop-row.invariant c.loop-row-test.true c.row-item.is fits c.in_ok-last.ensures.value (sym e ∙ w.if-is_new.true) number more
      | else-is_new w ↦
          subst (λ v. Joined c.args.variables c.args.rows.now (c.loop-row.row-index + 1) v.items) (sym w.known-is)
          (joined_same c.args.variables c.args.rows.now c.loop-row.row-index c.row-item.result c.in_ok-last.last c.loop-row.known.items c.loop-row.invariant c.loop-row-test.true c.row-item.is c.in_ok-last.ensures.value (sym e ∙ w.if-is_new.false))
    ]

pub returns-clause-rows : goal.returns-clause-rows
returns-clause-rows c = joined_whole c.args.variables c.args.rows.now c.loop-row.row-index c.loop-row.known.items c.loop-row-test.false c.loop-row.invariant

pub returns-clause-fit : goal.returns-clause-fit
returns-clause-fit c = c.loop-row.invariant.fit

pub returns-clause-numbered : goal.returns-clause-numbered
returns-clause-numbered c = c.loop-row.invariant.numbered
