-- The links of a message in order of text, with the targets that they name.
--   gathered_from f n xs        the lists that items mean, one after the other; item i is f (n + i)
--   stop_at count i             the field at place i of `count` fields, or null behind the last one
--   node_ways, field_ways       the links of a node
--   links_of start fields       the links of the start and of the fields, in order of text; UnknownName at a target that is no field
use Rattle.std.specs.Prelude.{ℕ, ◌+◌, List, [], ◌∷◌, ◌++◌, length, Option, Some, None, Result, Ok, nat_lt, if◌then◌else◌}
use Rattle.rx_syntax.specs.declared.token.Place.{Place}
use Rattle.rx_syntax.specs.declared.tree.ThenTree.{ThenTree}
use Rattle.rx_syntax.specs.declared.tree.FieldTree.{FieldTree}
use Rattle.rx_syntax.specs.declared.rule.Rule.TheVariants as rule
use Rattle.rx_judge.specs.Meaning.{Meaning, ◌>>=◌, refused, each_from}
use Rattle.rx_judge.specs.Table.{Entry, found}
use Rattle.rx_links.specs.Positions.{positions}
use Rattle.rx_links.specs.declared.links.Stop.{Stop}
use Rattle.rx_links.specs.declared.links.Stop.TheVariants.{Start, At, Null}
use Rattle.rx_links.specs.declared.links.Way.{Way}

abbrev pub gathered_from : {A B R : Type 0} → (ℕ → A → Result (List B) R) → ℕ → List A → Result (List B) R
gathered_from f n [] = Ok []
gathered_from f n (x ∷ xs) = do
  ys ← f n x
  zs ← gathered_from f (n + 1) xs
  Ok (ys ++ zs)

abbrev pub stop_at : ℕ → ℕ → Stop
stop_at count i = if nat_lt i count then At i else Null

-- the field of a name that is written at the place; UnknownName where there is none
abbrev pub field_at : Place → List ℕ → Option ℕ → Meaning Stop
field_at p w None = refused rule.UnknownName p w
field_at p w (Some i) = Ok (At i)

abbrev pub target_of : List (Entry ℕ) → Place → Option (List ℕ) → Meaning Stop
target_of table p None = Ok Null
target_of table p (Some w) = field_at p w (found table [] w)

-- the link of clause k of a node
abbrev pub then_way : List (Entry ℕ) → Stop → ℕ → ThenTree → Meaning Way
then_way table source k t = do
  target ← target_of table t.place t.target
  Ok (record { source = source; clause = Some k; target = target })

-- A node without clauses has one link to the next node.
abbrev pub node_ways : List (Entry ℕ) → Stop → Stop → List ThenTree → Meaning (List Way)
node_ways table source next [] = Ok (record { source = source; clause = None; target = next } ∷ [])
node_ways table source next (t ∷ ts) = each_from (then_way table source) 0 (t ∷ ts)

abbrev pub field_ways : List (Entry ℕ) → ℕ → ℕ → FieldTree → Meaning (List Way)
field_ways table count i f = node_ways table (At i) (stop_at count (i + 1)) f.thens.items

abbrev pub links_by : List (Entry ℕ) → ℕ → List ThenTree → List FieldTree → Meaning (List Way)
links_by table count start fields = do
  ws ← node_ways table Start (stop_at count 0) start
  vs ← gathered_from (field_ways table count) 0 fields
  Ok (ws ++ vs)

abbrev pub links_of : List ThenTree → List FieldTree → Meaning (List Way)
links_of start fields = links_by (positions fields) (length fields) start fields
