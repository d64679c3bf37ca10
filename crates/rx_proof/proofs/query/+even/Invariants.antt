use Rattle.std.proofs.Common.{◌≡◌, drop}
use Rattle.std.specs.List.{list_all}
use Rattle.rx_proof.specs.Queries.{has_variables, each_has_variables}
use Rattle.rx_proof.proofs.query.+even.Given as goal

abbrev pub invariant-has_variables-loop-branches : goal.invariant-has_variables-loop-branches
invariant-has_variables-loop-branches l = each_has_variables (drop l.branches-index l.branches-items) l.variables ≡ each_has_variables l.branches-items l.variables

abbrev pub invariant-all_have_variables-loop-branch : goal.invariant-all_have_variables-loop-branch
invariant-all_have_variables-loop-branch l = list_all (λ b. has_variables b l.variables) (drop l.branch-index l.branches) ≡ list_all (λ b. has_variables b l.variables) l.branches
