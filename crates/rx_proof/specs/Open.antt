-- The open disjunctions of a node, as the check keeps them: a query's own, or another list without one and with more at its end.
--   disjunctions    the list
--   size            at least the length of the list, and of each list that it was made of
--   node_of         the node of a stack of rows and such a list
use Rattle.std.specs.Prelude.{◌+◌, List, ◌++◌, ℕ, length}
use Rattle.std.specs.List.{remove}
use Rattle.rx_linear.specs.Cells.{Stacked}
use Rattle.rx_proof.specs.declared.query.Query.{Query}
use Rattle.rx_proof.specs.declared.open.Open.{Open}
use Rattle.rx_proof.specs.declared.open.Open.TheOpen.{Open-F}
use Rattle.rx_proof.specs.declared.open.Open.TheFolds.{fold-Open}
use Rattle.rx_proof.specs.Acceptance.{Node}

abbrev pub disjunctions_step : Open-F (List (List Query)) → List (List Query)
disjunctions_step (Open-F.Own list) = list.now
disjunctions_step (Open-F.Entered inner i more) = remove inner.now i ++ more.now

abbrev pub disjunctions : Open → List (List Query)
disjunctions = fold-Open (List (List Query)) disjunctions_step

abbrev pub size_step : Open-F ℕ → ℕ
size_step (Open-F.Own list) = length list.now
size_step (Open-F.Entered inner i more) = inner.now + length more.now

abbrev pub size : Open → ℕ
size = fold-Open ℕ size_step

abbrev pub node_of : Stacked → Open → Node
node_of stack chain = record { variables = stack.variables; rows = stack.rows; either = disjunctions chain }
