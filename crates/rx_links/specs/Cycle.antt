-- The refusal of links that lead back to their source.
--   node_number, ends_of            the nodes of a message as numbers, and a link between them
--   AreWithin count links           the fields that links name are among the first `count`
--   no_cycle name start fields ws   Cycle at the target of the first link that leads back
--   StandsWithoutCycle              then the message that has these links has no cycle
use Rattle.std.specs.Prelude.{◌≡◌, ℕ, ◌+◌, ◌<◌, List, [], Option, Some, None, Ok, Err, map, slice_get}
use Rattle.rx_syntax.specs.declared.token.Place.{Place}
use Rattle.rx_syntax.specs.declared.tree.Named.{Named}
use Rattle.rx_syntax.specs.declared.tree.ThenTree.{ThenTree}
use Rattle.rx_syntax.specs.declared.tree.FieldTree.{FieldTree}
use Rattle.rx_cycle.specs.declared.ends.Ends.{Ends}
use Rattle.rx_cycle.specs.Graph.{first_returning}
use Rattle.rx_graph.specs.declared.message.Node.{Node}
use Rattle.rx_graph.specs.declared.message.Node.TheVariants as node
use Rattle.rx_graph.specs.Graph.{Arrow, Graph}
use Rattle.rx_graph.specs.Cycles.{IsLink, HasNoCycle}
use Rattle.rx_judge.specs.Meaning.{Meaning}
use Rattle.rx_syntax.specs.declared.rule.Refusal.{Refusal}
use Rattle.rx_syntax.specs.declared.rule.Rule.TheVariants as rule
use Rattle.rx_links.specs.declared.links.Stop.{Stop}
use Rattle.rx_links.specs.declared.links.Stop.TheVariants.{Start, At, Null}
use Rattle.rx_links.specs.declared.links.Way.{Way}

-- the start is 0, null is 1, and the fields follow
abbrev pub node_number : Stop → ℕ
node_number Start = 0
node_number Null = 1
node_number (At i) = i + 2

abbrev pub ends_of : Way → Ends
ends_of w = record { source = node_number w.source; target = node_number w.target }

abbrev pub IsStop : ℕ → Stop → Type 0
IsStop count (At i) = i < count
IsStop count s = Unit {0}

pub record AreWithin (count : ℕ) (ways : List Way) : Type 0 where
  pub source : (k : ℕ) (w : Way) → slice_get ways k ≡ Some w → IsStop count w.source
  pub target : (k : ℕ) (w : Way) → slice_get ways k ≡ Some w → IsStop count w.target

-- ---- what is told of a link

abbrev pub clauses_in : Option FieldTree → List ThenTree
clauses_in None = []
clauses_in (Some f) = f.thens.items

abbrev pub clauses_of : List ThenTree → List FieldTree → Stop → List ThenTree
clauses_of start fields Start = start
clauses_of start fields (At i) = clauses_in (slice_get fields i)
clauses_of start fields Null = []

abbrev pub clause_of : List ThenTree → Option ℕ → Option ThenTree
clause_of thens None = None
clause_of thens (Some k) = slice_get thens k

abbrev pub cycle_at : Place → List ℕ → Refusal
cycle_at p w = record { rule = rule.Cycle; place = p; word = Some w }

abbrev pub told_of_field : Named → Option FieldTree → Refusal
told_of_field name None = cycle_at name.place name.word
told_of_field name (Some f) = cycle_at f.name.place f.name.word

-- the declared name of a field, or the message's for what is none
abbrev pub told_by_field : Named → List FieldTree → Stop → Refusal
told_by_field name fields (At i) = told_of_field name (slice_get fields i)
told_by_field name fields s = cycle_at name.place name.word

-- the name as the clause writes it
abbrev pub told_by_clause : Named → List FieldTree → Stop → Place → Option (List ℕ) → Refusal
told_by_clause name fields target p (Some w) = cycle_at p w
told_by_clause name fields target p None = told_by_field name fields target

abbrev pub told_at : Named → List FieldTree → Stop → Option ThenTree → Refusal
told_at name fields target None = told_by_field name fields target
told_at name fields target (Some t) = told_by_clause name fields target t.place t.target

-- the link's target, as its clause names it or else as it is declared
abbrev pub told_of_way : Named → List ThenTree → List FieldTree → Way → Refusal
told_of_way name start fields w = told_at name fields w.target (clause_of (clauses_of start fields w.source) w.clause)

abbrev pub told : Named → List ThenTree → List FieldTree → Option Way → Refusal
told name start fields None = cycle_at name.place name.word
told name start fields (Some w) = told_of_way name start fields w

abbrev pub unless_returning : Named → List ThenTree → List FieldTree → List Way → Option ℕ → Meaning (Unit {0})
unless_returning name start fields ways None = Ok tt
unless_returning name start fields ways (Some i) = Err (told name start fields (slice_get ways i))

abbrev pub no_cycle : Named → List ThenTree → List FieldTree → List Way → Meaning (Unit {0})
no_cycle name start fields ways = unless_returning name start fields ways (first_returning (map ends_of ways))

-- ---- messages without a cycle

abbrev pub node_of : Stop → Node
node_of Start = node.Start
node_of (At i) = node.At i
node_of Null = node.Null

-- the links of the message have the ends of these, one for one
abbrev pub HasEnds : Graph → List Way → Type 0
HasEnds m ways = (i : ℕ) (link : Arrow) → IsLink m i link → (w : Way) × (slice_get ways i ≡ Some w) × (link.source ≡ node_of w.source) × (link.target ≡ node_of w.target)

-- where no link leads back, the message has no cycle
abbrev pub StandsWithoutCycle : Type 0
StandsWithoutCycle = (name : Named) (start : List ThenTree) (fields : List FieldTree) (ways : List Way) (m : Graph) → no_cycle name start fields ways ≡ Ok tt → HasEnds m ways → HasNoCycle m
