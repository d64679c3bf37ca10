-- What a point of a query is.
--   satisfied        a point satisfies a query
--   has_variables    a query and all queries in it are over that many variables
--   IsEven           all systems in a query, at every depth, have the same number of variables
use Rattle.std.specs.Prelude.{◌≡◌, List, ℕ, Bool, true, ◌&&◌, ◌==◌, ℤ}
use Rattle.std.specs.List.{list_all, list_any}
use Rattle.rx_linear.specs.Joining.{all_hold}
use Rattle.rx_proof.specs.declared.query.Query.{Query, out-Query}
use Rattle.rx_proof.specs.declared.query.Query.TheOpen.{Query-F}
use Rattle.rx_proof.specs.declared.query.Query.TheFolds.{fold-Query}

-- one level, with each branch's answer at a point in its place: all rows hold, and in each disjunction one branch does
abbrev pub satisfied_step : Query-F (List ℤ → Bool) → List ℤ → Bool
satisfied_step level point = all_hold point level.system.rows && list_all (λ branches. list_any (λ branch. branch point) branches) level.either

-- whether the point satisfies the query
unfoldable pub satisfied : Query → List ℤ → Bool
satisfied = fold-Query (List ℤ → Bool) satisfied_step

-- whether the point satisfies one branch of each disjunction
abbrev pub each_satisfied : List (List Query) → List ℤ → Bool
each_satisfied either point = list_all (λ branches. list_any (λ branch. satisfied branch point) branches) either

-- one level, with each branch's answer in its place: the system and each branch are over n variables
abbrev pub has_variables_step : Query-F (ℕ → Bool) → ℕ → Bool
has_variables_step level n = (level.system.variables == n) && list_all (λ branches. list_all (λ branch. branch n) branches) level.either

-- whether the query, and each query in it, is over n variables
unfoldable pub has_variables : Query → ℕ → Bool
has_variables = fold-Query (ℕ → Bool) has_variables_step

-- whether each branch is over n variables
abbrev pub each_has_variables : List (List Query) → ℕ → Bool
each_has_variables either n = list_all (λ branches. list_all (λ branch. has_variables branch n) branches) either

-- all systems in the query, at every depth, have the same number of variables
abbrev pub IsEven : Query → Type 0
IsEven query = has_variables query (out-Query query).system.variables ≡ true
