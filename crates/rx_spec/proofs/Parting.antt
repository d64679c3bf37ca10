-- A message taken apart: what its graph was made of.
--   IsShaped     what stands of a message's shape
--   IsMade       what stands of a message with this graph
use Rattle.std.proofs.Common.{◌≡◌, sym, refl, subst, ℕ, List, length, map, Ok}
use Rattle.rx_syntax.specs.declared.tree.Named.{Named}
use Rattle.rx_syntax.specs.declared.tree.MessageTree.{MessageTree}
use Rattle.rx_syntax.specs.declared.tree.HeaderTree.{HeaderTree}
use Rattle.rx_graph.specs.declared.message.Field.{Field}
use Rattle.rx_graph.specs.Graph.{Arrow, Graph}
use Rattle.rx_judge.specs.Meaning.{◌>>=◌, each_from}
use Rattle.rx_judge.specs.Names.{Scope}
use Rattle.rx_judge.specs.Scalar.{spelled}
use Rattle.rx_judge.specs.Table.{Entry}
use Rattle.rx_judge.proofs.Meanings.{bind_ok, ok_same}
use Rattle.rx_links.specs.Counts.{counts_stand}
use Rattle.rx_links.specs.Cycle.{no_cycle}
use Rattle.rx_links.specs.Links as links
use Rattle.rx_links.specs.declared.links.Way.{Way}
use Rattle.rx_elab.specs.Fields.{field_held}
use Rattle.rx_elab.specs.Firsts.{layings_of}
use Rattle.rx_elab.specs.Parts.{MessageParts, message_parts}
use Rattle.rx_elab.specs.Types.{Types}
use Rattle.rx_elab.specs.declared.fields.Held.{Held}
use Rattle.rx_elab.specs.declared.layings.Laying.{Laying}
use Rattle.rx_elab.specs.declared.types.KnownType.{KnownType}
use Rattle.rx_spec.specs.Arrows.{arrow_of_way}
use Rattle.rx_spec.specs.Messages.{field_meant, scope_in, links_meant, sized_links, Body, body_shaped, body_of, graph_named, message_made}
use Rattle.rx_spec.specs.Shape.{Shape, shape_of, ways_of, ways_stand, paths_stand, few_stand}
use Rattle.rx_spec.specs.Sizes.{fields_sized}

pub record IsShaped (types : List (Entry KnownType)) (p : List ℕ) (withs : List Named) (name : Named) (m : MessageTree) (held : List Held) (ways : List Way) : Type 0 where
  pub holds : each_from (field_held types p withs) 0 m.fields.items ≡ Ok held
  pub leads : links.links_of m.start.items m.fields.items ≡ Ok ways
  pub acyclic : no_cycle name m.start.items m.fields.items ways ≡ Ok tt
  pub counts : counts_stand name (length m.fields.items) (length ways) ≡ Ok tt
  pub paths : paths_stand name ways ≡ Ok tt
  pub few : few_stand name m ≡ Ok tt

pub record IsMade (t : Types) (h : HeaderTree) (name : Named) (m : MessageTree) (g : Graph) : Type 0 where
  pub held : List Held
  pub ways : List Way
  pub parts : MessageParts
  pub shaped : IsShaped t.types h.name.word h.withs.items name m held ways
  pub fields : each_from (field_meant held (layings_of (scope_in t h held m) m ways)) 0 m.fields.items ≡ Ok g.fields
  pub judged : message_parts (scope_in t h held m) (layings_of (scope_in t h held m) m ways) name.word m ≡ Ok parts
  pub arrows : g.links ≡ map (arrow_of_way name m parts) ways
  pub sized : fields_sized m.low_order held g.links m.fields.items ≡ Ok tt
  pub low : g.low_order ≡ m.low_order

-- ---- the shape

shaped : (types : List (Entry KnownType)) (p : List ℕ) (withs : List Named) (name : Named) (m : MessageTree) (s : Shape) → shape_of types p withs name m ≡ Ok s → IsShaped types p withs name m s.held s.ways
shaped types p withs name m s e =
    let a = bind_ok (each_from (field_held types p withs) 0 m.fields.items) (λ (held : List Held). ways_of name m >>= (λ ways. Ok (record { held = held; ways = ways }))) s e in
    let b = bind_ok (ways_of name m) (λ (ways : List Way). Ok (record { held = a.0; ways = ways })) s a.2 in
    let c = bind_ok (links.links_of m.start.items m.fields.items) (λ (ways : List Way). ways_stand name m ways >>= (λ u. Ok ways)) b.0 b.1 in
    let d = bind_ok (ways_stand name m c.0) (λ u. Ok c.0) b.0 c.2 in
    let is : c.0 ≡ b.0 = ok_same c.0 b.0 d.2 in
    let x = bind_ok (no_cycle name m.start.items m.fields.items c.0) (λ u. counts_stand name (length m.fields.items) (length c.0) >>= (λ v. paths_stand name c.0 >>= (λ w. few_stand name m))) d.0 d.1 in
    let y = bind_ok (counts_stand name (length m.fields.items) (length c.0)) (λ v. paths_stand name c.0 >>= (λ w. few_stand name m)) d.0 x.2 in
    let z = bind_ok (paths_stand name c.0) (λ w. few_stand name m) d.0 y.2 in
    let have : IsShaped types p withs name m a.0 c.0 = record { holds = a.1; leads = c.1; acyclic = x.1; counts = y.1; paths = z.1; few = z.2 } in
    subst (λ (r : Shape). IsShaped types p withs name m r.held r.ways) (ok_same (record { held = a.0; ways = b.0 }) s b.2) (subst (λ (ws : List Way). IsShaped types p withs name m a.0 ws) is have)

-- ---- the message

pub record IsLinked (s : Scope) (ls : List Laying) (name : Named) (m : MessageTree) (shape : Shape) (links : List Arrow) : Type 0 where
  pub parts : MessageParts
  pub judged : message_parts s ls name.word m ≡ Ok parts
  pub arrows : links ≡ map (arrow_of_way name m parts) shape.ways
  pub sized : fields_sized m.low_order shape.held links m.fields.items ≡ Ok tt

linked : (s : Scope) (ls : List Laying) (name : Named) (m : MessageTree) (shape : Shape) (links : List Arrow) → sized_links s ls name m shape ≡ Ok links → IsLinked s ls name m shape links
linked s ls name m shape links e =
    let a = bind_ok (links_meant s ls name m shape.ways) (λ (xs : List Arrow). fields_sized m.low_order shape.held xs m.fields.items >>= (λ u. Ok xs)) links e in
    let b = bind_ok (fields_sized m.low_order shape.held a.0 m.fields.items) (λ u. Ok a.0) links a.2 in
    let c = bind_ok (message_parts s ls name.word m) (λ (ps : MessageParts). Ok (map (arrow_of_way name m ps) shape.ways)) a.0 a.1 in
    let have : IsLinked s ls name m shape a.0 = record { parts = c.0; judged = c.1; arrows = sym (ok_same (map (arrow_of_way name m c.0) shape.ways) a.0 c.2); sized = b.1 } in
    subst (λ (xs : List Arrow). IsLinked s ls name m shape xs) (ok_same a.0 links b.2) have

in_body : (t : Types) (h : HeaderTree) (name : Named) (m : MessageTree) (p w : List ℕ) (b : Body) → body_of t h name m ≡ Ok b → IsMade t h name m (record { «package» = p; name = w; fields = b.fields; links = b.links; low_order = m.low_order })
in_body t h name m p w b e =
    let x = bind_ok (shape_of t.types h.name.word h.withs.items name m) (λ (shape : Shape). body_shaped (scope_in t h shape.held m) name m shape) b e in
    let shape = x.0 in
    let s = scope_in t h shape.held m in
    let ls = layings_of s m shape.ways in
    let y = bind_ok (each_from (field_meant shape.held ls) 0 m.fields.items) (λ (fields : List Field). sized_links s ls name m shape >>= (λ links. Ok (record { fields = fields; links = links }))) b x.2 in
    let z = bind_ok (sized_links s ls name m shape) (λ (links : List Arrow). Ok (record { fields = y.0; links = links })) b y.2 in
    let l = linked s ls name m shape z.0 z.1 in
    let have : IsMade t h name m (record { «package» = p; name = w; fields = y.0; links = z.0; low_order = m.low_order }) =
    record { held = shape.held; ways = shape.ways; parts = l.parts; shaped = shaped t.types h.name.word h.withs.items name m shape x.1; fields = y.1; judged = l.judged; arrows = l.arrows; sized = l.sized; low = refl } in
    subst (λ (c : Body). IsMade t h name m (record { «package» = p; name = w; fields = c.fields; links = c.links; low_order = m.low_order })) {x = record { fields = y.0; links = z.0 }} (ok_same (record { fields = y.0; links = z.0 }) b z.2) have

-- what each message is made of
pub made : (t : Types) (h : HeaderTree) (name : Named) (m : MessageTree) (g : Graph) → message_made t h name m ≡ Ok g → IsMade t h name m g
made t h name m g e =
    let a = bind_ok (body_of t h name m) (λ (b : Body). graph_named h name b m.low_order) g e in
    let b = a.0 in
    let c = bind_ok (spelled h.name) (λ (p : List ℕ). spelled name >>= (λ w. Ok (record { «package» = p; name = w; fields = b.fields; links = b.links; low_order = m.low_order }))) g a.2 in
    let d = bind_ok (spelled name) (λ (w : List ℕ). Ok (record { «package» = c.0; name = w; fields = b.fields; links = b.links; low_order = m.low_order })) g c.2 in
    subst (λ (x : Graph). IsMade t h name m x) (ok_same (record { «package» = c.0; name = d.0; fields = b.fields; links = b.links; low_order = m.low_order }) g d.2) (in_body t h name m c.0 d.0 b a.1)
