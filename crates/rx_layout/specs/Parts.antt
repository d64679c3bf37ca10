-- The rows and disjunctions of a fact, over a number of variables.
--   row_of, false_row a sum that is at least 0, and 0 >= 1
--   joined            the parts of two
--   all_of, one_of    the parts of all of some facts, and of one of them
--   parts_of          those of a fact
--   query_of          the query that has these parts
use Rattle.std.specs.Prelude.{List, [], ◌∷◌, ◌++◌, map, ℕ, ◌-◌, length, replicate, ℤ, pos, neg_ℤ}
use Rattle.rx_linear.specs.declared.row.Row.{Row}
use Rattle.rx_proof.specs.declared.query.Query.{Query}
use Rattle.rx_proof.specs.declared.query.Query.TheViews.{roll-Query}
use Rattle.rx_forms.specs.declared.linear.Linear.{Linear}
use Rattle.rx_forms.specs.declared.linear.Form.{Form}
use Rattle.rx_forms.specs.declared.linear.Form.TheOpen.{Form-F}
use Rattle.rx_forms.specs.declared.linear.Form.TheFolds.{fold-Form}
use Rattle.rx_layout.specs.declared.parts.Parts.{Parts}

abbrev pub nothing : Parts
nothing = record { rows = []; either = [] }

-- coefficients 0 for the variables behind the last one
abbrev pub padded : ℕ → List ℤ → List ℤ
padded n cs = cs ++ replicate (n - length cs) (pos 0)

-- the sum is at least 0
abbrev pub row_of : ℕ → Linear → Row
row_of n form = record { coefficients = padded n form.coefficients; least = neg_ℤ form.constant }

abbrev pub false_row : ℕ → Row
false_row n = record { coefficients = replicate n (pos 0); least = pos 1 }

abbrev pub query_of : ℕ → Parts → Query
query_of n parts = roll-Query (record { system = record { variables = n; rows = parts.rows }; either = parts.either })

-- rows behind rows, and disjunctions behind disjunctions
abbrev pub joined : Parts → Parts → Parts
joined p q = record { rows = p.rows ++ q.rows; either = p.either ++ q.either }

abbrev pub all_of : List Parts → Parts
all_of [] = nothing
all_of (p ∷ ps) = joined p (all_of ps)

-- a disjunction with one branch is that branch, one without branches is a false row
abbrev pub one_of : ℕ → List Parts → Parts
one_of n [] = record { rows = false_row n ∷ []; either = [] }
one_of n (p ∷ []) = p
one_of n (p ∷ q ∷ ps) = record { rows = []; either = map (query_of n) (p ∷ q ∷ ps) ∷ [] }

-- one level of a fact, with the parts of each fact in it in its place
abbrev pub parts_step : ℕ → Form-F Parts → Parts
parts_step n (Form-F.AtLeast form) = record { rows = row_of n form ∷ []; either = [] }
parts_step n (Form-F.All parts) = all_of parts
parts_step n (Form-F.Any parts) = one_of n parts

unfoldable pub parts_of : ℕ → Form → Parts
parts_of n = fold-Form Parts (parts_step n)
