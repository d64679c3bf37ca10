-- Messages as plain data, by which a proof tells two of them apart.
--   node_code, field_code, arrow_code, graph_code    the codes of nodes, fields, links and messages
use Rattle.std.specs.Prelude.{◌≡◌, refl, ℕ, Bool, List, Option, Some, None}
use Rattle.std.specs.Coded.{Coded, code_by, coded_ℕ, coded_bool, coded_list, coded_option, coded×}
use Rattle.rx_syntax.specs.declared.token.Place.{Place}
use Rattle.rx_types.specs.declared.scalar.FieldType.{FieldType}
use Rattle.rx_types.specs.Tree.{Tree}
use Rattle.rx_types.specs.Codes.{tree_code, field_type_code}
use Rattle.rx_graph.specs.declared.message.Node.{Node}
use Rattle.rx_graph.specs.declared.message.Node.TheVariants.{Start, At, Null}
use Rattle.rx_graph.specs.declared.message.Field.{Field}
use Rattle.rx_graph.specs.Graph.{Arrow, Graph}

-- a node as plain data: Start is nothing, null no field, another its field
abbrev pub end_of : Node → Option (Option ℕ)
end_of Start = None
end_of Null = Some None
end_of (At f) = Some (Some f)

-- the node of plain data
abbrev pub node_by : Option (Option ℕ) → Node
node_by None = Start
node_by (Some None) = Null
node_by (Some (Some f)) = At f

-- a node is the one of its plain data
pub node_back : (n : Node) → node_by (end_of n) ≡ n
node_back Start = refl
node_back Null = refl
node_back (At f) = refl

-- the code of nodes
abbrev pub node_code : Coded Node
node_code = code_by (Option (Option ℕ)) (coded_option (coded_option coded_ℕ)) end_of node_by node_back

-- the code of fields: name, what it holds, and the field that it lies on
abbrev pub field_code : Coded Field
field_code =
    code_by (List ℕ × (FieldType × Option ℕ)) (coded× (coded_list coded_ℕ) (coded× field_type_code (coded_option coded_ℕ)))
    (λ f. (f.name, (f.kind, f.overlay))) (λ p. record { name = p.0; kind = p.1.0; overlay = p.1.1 }) (λ _. refl)

-- the code of places in a text
abbrev pub place_code : Coded Place
place_code = code_by (ℕ × ℕ) (coded× coded_ℕ coded_ℕ) (λ p. (p.line, p.column)) (λ p. record { line = p.0; column = p.1 }) (λ _. refl)

-- the code of links: both ends, the condition, first bit and size where they are given, and the place
abbrev pub arrow_code : Coded Arrow
arrow_code =
    code_by ((Node × Node) × (Tree × (Option Tree × (Option Tree × Place))))
    (coded× (coded× node_code node_code) (coded× tree_code (coded× (coded_option tree_code) (coded× (coded_option tree_code) place_code))))
    (λ l. ((l.source, l.target), (l.condition, (l.first, (l.size, l.place)))))
    (λ p. record { source = p.0.0; target = p.0.1; condition = p.1.0; first = p.1.1.0; size = p.1.1.1.0; place = p.1.1.1.1 })
    (λ _. refl)

-- the code of messages: package, name, fields, links, and the order of bytes
abbrev pub graph_code : Coded Graph
graph_code =
    code_by ((List ℕ × List ℕ) × (List Field × (List Arrow × Bool)))
    (coded× (coded× (coded_list coded_ℕ) (coded_list coded_ℕ)) (coded× (coded_list field_code) (coded× (coded_list arrow_code) coded_bool)))
    (λ m. ((m.«package», m.name), (m.fields, (m.links, m.low_order))))
    (λ p. record { «package» = p.0.0; name = p.0.1; fields = p.1.0; links = p.1.1.0; low_order = p.1.1.1 })
    (λ _. refl)
