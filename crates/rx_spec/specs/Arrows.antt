-- The links of a message, with the conditions and aspects of its text.
--   both c d                  both conditions, as far as they are written
--   place_of_way name m w     where its target is named
--   arrow_of_way name m ps w  link w of message m, where ps is what is written of it
use Rattle.std.specs.Prelude.{ℕ, true, List, [], Option, Some, None, slice_get}
use Rattle.std.specs.Option.{option_or}
use Rattle.rx_syntax.specs.declared.token.Place.{Place}
use Rattle.rx_syntax.specs.declared.tree.Named.{Named}
use Rattle.rx_syntax.specs.declared.tree.FieldTree.{FieldTree}
use Rattle.rx_syntax.specs.declared.tree.ThenTree.{ThenTree}
use Rattle.rx_syntax.specs.declared.tree.MessageTree.{MessageTree}
use Rattle.rx_types.specs.declared.expr.Operator.TheVariants as op
use Rattle.rx_types.specs.Tree.{Tree, Truth, Binary}
use Rattle.rx_graph.specs.Graph.{Arrow}
use Rattle.rx_links.specs.Cycle.{node_of, clauses_of, clause_of, told_by_field}
use Rattle.rx_links.specs.declared.links.Stop.{Stop}
use Rattle.rx_links.specs.declared.links.Stop.TheVariants as stop
use Rattle.rx_links.specs.declared.links.Way.{Way}
use Rattle.rx_elab.specs.Parts.{Parts, FieldParts, MessageParts, no_parts}

-- what is written of one field
abbrev pub own_in : Option FieldParts → Parts
own_in None = no_parts
own_in (Some f) = f.own

-- what is written of a node: a field has its own parts, the start and null have none
abbrev pub own_parts : MessageParts → Stop → Parts
own_parts ps (stop.At i) = own_in (slice_get ps.fields i)
own_parts ps s = no_parts

abbrev pub thens_in : Option FieldParts → List Parts
thens_in None = []
thens_in (Some f) = f.thens

-- what is written of the links of a node
abbrev pub thens_of : MessageParts → Stop → List Parts
thens_of ps stop.Start = ps.start
thens_of ps (stop.At i) = thens_in (slice_get ps.fields i)
thens_of ps stop.Null = []

abbrev pub parts_or_none : Option Parts → Parts
parts_or_none None = no_parts
parts_or_none (Some p) = p

abbrev pub clause_in : List Parts → Option ℕ → Parts
clause_in thens None = no_parts
clause_in thens (Some k) = parts_or_none (slice_get thens k)

-- what is written of a link
abbrev pub clause_parts : MessageParts → Way → Parts
clause_parts ps w = clause_in (thens_of ps w.source) w.clause

-- both conditions; one that is not written is true
abbrev pub both : Option Tree → Option Tree → Tree
both None None = Truth true
both None (Some d) = d
both (Some c) None = c
both (Some c) (Some d) = Binary op.And c d

-- where the clause of a link names its target, or where that is declared, if the link has no clause
abbrev pub place_at : Named → List FieldTree → Stop → Option ThenTree → Place
place_at name fields target None = (told_by_field name fields target).place
place_at name fields target (Some t) = t.place

abbrev pub place_of_way : Named → MessageTree → Way → Place
place_of_way name m w = place_at name m.fields.items w.target (clause_of (clauses_of m.start.items m.fields.items w.source) w.clause)

-- The condition of its source and its own, and its own aspects or else those of its target.
abbrev pub arrow_of_way : Named → MessageTree → MessageParts → Way → Arrow
arrow_of_way name m ps w =
    record {
      source = node_of w.source;
      target = node_of w.target;
      condition = both (own_parts ps w.source).condition (clause_parts ps w).condition;
      first = option_or (clause_parts ps w).first (own_parts ps w.target).first;
      size = option_or (clause_parts ps w).size (own_parts ps w.target).size;
      place = place_of_way name m w;
    }
