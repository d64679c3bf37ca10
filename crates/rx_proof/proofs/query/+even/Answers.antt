use Rattle.std.proofs.Common.{sym, ap, ◌∙◌, List}
use Rattle.std.specs.List.{list_all}
use Rattle.std.proofs.lemmas.List.{drop_all}
use Rattle.rx_proof.specs.declared.query.Query.{Query}
use Rattle.rx_proof.specs.Queries.{has_variables, each_has_variables}
use Rattle.rx_proof.proofs.Weights.{is_uneven, is_uneven_below, is_even, each_false}
use Rattle.rx_proof.proofs.query.+even.Goals as goal

pub has_variables-returns-then-variables : goal.has_variables-returns-then-variables
has_variables-returns-then-variables t c = is_uneven c.args.query.now c.args.variables c.variables.result c.variables.ensures.value c.if-variables.true

pub has_variables-returns-then-not-all_have_variables :
    goal.has_variables-returns-then-not-all_have_variables
has_variables-returns-then-not-all_have_variables t c =
    let tested = c.all_have_variables.ensures ∙ ap (list_all (λ b. has_variables b c.args.variables)) c.as_slice.ensures in
    let none = each_false c.as_slice-branches-items.result.now c.loop-branches.branches-index c.args.variables c.branches-item.result c.all_have_variables.result c.loop-branches-test.true c.branches-item.is tested c.if-not-all_have_variables.true c.loop-branches.invariant in
    is_uneven_below c.args.query.now c.args.variables c.variables.result c.variables.ensures.value c.if-variables.false
    (ap (λ (ds : List (List Query)). each_has_variables ds c.args.variables) (sym c.as_slice-branches-items.ensures) ∙ none)

pub has_variables-returns : goal.has_variables-returns
has_variables-returns t c =
    let done = ap (λ (ds : List (List Query)). each_has_variables ds c.args.variables) (drop_all c.loop-branches.branches-index c.as_slice-branches-items.result.now c.loop-branches-test.false) in
    is_even c.args.query.now c.args.variables c.variables.result c.variables.ensures.value c.if-variables.false
    (ap (λ (ds : List (List Query)). each_has_variables ds c.args.variables) (sym c.as_slice-branches-items.ensures) ∙ sym c.loop-branches.invariant ∙ done)
