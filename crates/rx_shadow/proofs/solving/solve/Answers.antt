use Rattle.std.proofs.Common.{◌≡◌, sym, ap, subst, ◌∙◌, ℕ, List, [], length, rules}
use Rattle.rx_linear.specs.declared.row.Row.{Row}
use Rattle.rx_linear.specs.Joining.{joined}
use Rattle.rx_shadow.specs.declared.known.Known.{Known}
use Rattle.rx_shadow.specs.declared.known.Derived.{Derived}
use Rattle.rx_shadow.specs.Bounds.{narrowest, HasUnitRows}
use Rattle.rx_shadow.specs.Simple.{outcome, outcome_in}
use Rattle.rx_shadow.specs.Known.{rows_of}
use Rattle.std.specs.Result.{IfOk}
use Rattle.rx_shadow.specs.Solving.{IsFound, IsSolved, IfClosed, HasNoPoint}
use Rattle.rx_shadow.proofs.Bounded.{bounded_below, bounded_above}
use Rattle.rx_shadow.proofs.Initial.{if_ok, derived_none}
use Rattle.rx_shadow.proofs.Rounds.{solved_from, closed_excludes}
use Rattle.rx_shadow.proofs.solving.solve.Goals as goal

rows_are : (c : goal.After-search) → rows_of c.in_ok-known.known.items ≡ joined [] c.args.system.now.rows
rows_are c = c.in_ok-known.ensures.rows ∙ ap (joined []) c.rows.ensures.value

abbrev start : goal.After-search → Derived
start c = record { variables = c.variables-variables.result; known = c.in_ok-known.known; given = c.len.result; steps = c.new.result }

solved_is : (c : goal.After-search) → IfOk c.search.result (λ solved. IsSolved c.args.system.now (outcome c.args.system.now.variables (joined [] c.args.system.now.rows)) solved)
solved_is c =
    let system = c.args.system.now in
    let narrow = c.narrowest-narrow.result in
    let n : c.variables-variables.result ≡ system.variables = c.variables-variables.ensures.value in
    let rows = rows_are c in
    let count : c.len.result ≡ length c.in_ok-known.known.items = search rules in
    let narrow_is : narrow ≡ narrowest system.variables (joined [] system.rows) =
    c.narrowest-narrow.ensures
    ∙ ap (λ (ks : List Known). narrowest c.variables-variables.result (rows_of ks)) c.deref.ensures.value
    ∙ ap (narrowest c.variables-variables.result) rows
    ∙ ap (λ (m : ℕ). narrowest m (joined [] system.rows)) n in
    if_ok c.search.result
    (λ solved. IsFound c.variables-variables.result narrow (start c) (outcome_in c.variables-variables.result c.variables-variables.result (rows_of c.in_ok-known.known.items)) solved)
    (λ solved. IsSolved system (outcome system.variables (joined [] system.rows)) solved)
    (λ solved f.
    solved_from system (start c) narrow (outcome system.variables (joined [] system.rows)) solved c.variables-variables.ensures.limits.0 n rows c.new.ensures.items
    (derived_none (joined [] system.rows) c.in_ok-known.known.items c.len.result c.new.result.items rows count c.new.ensures.items c.in_ok-known.ensures.numbered)
    narrow_is
    (subst (λ (rs : List Row). IsFound system.variables narrow (start c) (outcome system.variables rs) solved) rows
    (subst (λ (m : ℕ). IsFound m narrow (start c) (outcome_in m m (rows_of c.in_ok-known.known.items)) solved) n f)))
    c.search.ensures

pub returns-clause-solved : goal.returns-clause-solved
returns-clause-solved c = solved_is c

pub returns-clause-closed : goal.returns-clause-closed
returns-clause-closed c =
    if_ok c.search.result
    (λ solved. IsSolved c.args.system.now (outcome c.args.system.now.variables (joined [] c.args.system.now.rows)) solved)
    (λ solved. IfClosed solved (HasNoPoint c.args.system.now))
    (λ solved s. closed_excludes c.args.system.now (outcome c.args.system.now.variables (joined [] c.args.system.now.rows)) solved s)
    (solved_is c)

unit_rows : (c : goal.After-new) → HasUnitRows c.variables-variables.result (rows_of c.in_ok-known.known.items)
unit_rows c =
    subst (λ (m : ℕ). HasUnitRows m (rows_of c.in_ok-known.known.items)) (sym c.variables-variables.ensures.value)
    (subst (HasUnitRows c.args.system.now.variables) (sym (c.in_ok-known.ensures.rows ∙ ap (joined []) c.rows.ensures.value)) c.requires)

pub search-requires-clause-lower : goal.search-requires-clause-lower
search-requires-clause-lower c = bounded_below c.variables-variables.result (rows_of c.in_ok-known.known.items) (unit_rows c)

pub search-requires-clause-upper : goal.search-requires-clause-upper
search-requires-clause-upper c = bounded_above c.variables-variables.result (rows_of c.in_ok-known.known.items) (unit_rows c)
