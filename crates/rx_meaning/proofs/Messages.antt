-- The messages of packages that are the same are the same.
use Rattle.std.proofs.Common.{◌≡◌, ◌∙◌, ap, refl, ℕ, ◌+◌, Bool, false, List, [], ◌∷◌, ◌++◌, map, Ok}
use Rattle.std.specs.Prelude.{slice_get}
use Rattle.rx_syntax.specs.declared.tree.Named.{Named}
use Rattle.rx_syntax.specs.declared.tree.FieldTree.{FieldTree}
use Rattle.rx_syntax.specs.declared.tree.MessageTree.{MessageTree}
use Rattle.rx_syntax.specs.declared.tree.HeaderTree.{HeaderTree}
use Rattle.rx_syntax.specs.declared.tree.PackageTree.{PackageTree}
use Rattle.rx_syntax.specs.declared.tree.DeclTree.{DeclTree}
use Rattle.rx_syntax.specs.declared.tree.DeclKind.{DeclKind}
use Rattle.rx_syntax.specs.declared.tree.DefTree.{DefTree}
use Rattle.rx_graph.specs.Graph.{Arrow, Graph}
use Rattle.rx_judge.specs.Meaning.{◌>>=◌}
use Rattle.rx_judge.specs.Names.{Scope}
use Rattle.rx_judge.specs.Scalar.{spelled}
use Rattle.rx_judge.specs.Table.{Entry, added}
use Rattle.rx_judge.specs.declared.names.KnownField.{KnownField}
use Rattle.rx_links.specs.declared.links.Way.{Way}
use Rattle.rx_elab.specs.Firsts.{layings_of, overlay_in}
use Rattle.rx_elab.specs.Types.{Types}
use Rattle.rx_elab.specs.declared.fields.Held.{Held}
use Rattle.rx_elab.specs.declared.layings.Laying.{Laying}
use Rattle.rx_spec.specs.Limit.{within_limit}
use Rattle.rx_spec.specs.Messages.{Body, kind_held, known_from, known_fields, type_held, field_meant, scope_in, links_meant, sized_links, body_laid, body_shaped, body_of, graph_named, message_of, null_body, null_message, definition_meant, kind_meant, declaration_meant, package_messages}
use Rattle.rx_spec.specs.Shape.{Shape, shape_of}
use Rattle.rx_spec.specs.Sizes.{fields_sized}
use Rattle.rx_trees.specs.Alike as alike
use Rattle.rx_trees.specs.Alike.{AreSame, IsSameField, IsSameMessage, IsSameHeader, IsSameDef, IsSameKind, IsSameDecl, IsSamePackage}
use Rattle.rx_meaning.proofs.Lists.{bind_same, first_same, each_same, through_same}
use Rattle.rx_meaning.proofs.Firsts.{layings_same}
use Rattle.rx_meaning.proofs.Parts.{message_parts_same}
use Rattle.rx_meaning.proofs.Shapes.{shape_same, sized_same}
use Rattle.rx_meaning.proofs.Arrows.{arrow_same}

-- ---- fields

known_from_same : (i : ℕ) (table : List (Entry KnownField)) (hs : List Held) {fs gs : List FieldTree} → AreSame IsSameField fs gs → known_from i table hs fs ≡ known_from i table hs gs
known_from_same i table [] k = refl
known_from_same i table (h ∷ hs) alike.none = refl
known_from_same i table (h ∷ hs) (alike.next {y = g} {xs = fs} k ks) = ap (λ (n : Named). known_from (i + 1) (added table [] n.word (record { id = i; kind = kind_held h })) hs fs) k.name ∙ known_from_same (i + 1) (added table [] g.name.word (record { id = i; kind = kind_held h })) hs ks

known_same : {fs gs : List FieldTree} (hs : List Held) → AreSame IsSameField fs gs → known_fields hs fs ≡ known_fields hs gs
known_same hs h = known_from_same 0 [] hs h

field_meant_same : {a b : FieldTree} (hs : List Held) (ls : List Laying) (i : ℕ) → IsSameField a b → field_meant hs ls i a ≡ field_meant hs ls i b
field_meant_same hs ls i h = ap (λ n. spelled n >>= (λ w. Ok (record { name = w; kind = type_held (slice_get hs i); overlay = overlay_in ls i }))) h.name

-- ---- messages

scope_same : {g h : HeaderTree} {m n : MessageTree} (t : Types) (hs : List Held) → IsSameHeader g h → IsSameMessage m n → scope_in t g hs m ≡ scope_in t h hs n
scope_same t hs k e = λ i. record { «package» = (k.name i).word; withs = k.withs i; fields = known_same hs e.fields i; literals = t.literals }

module _ (s : Scope) (ls : List Laying) (name : Named) where
  links_meant_same : {m n : MessageTree} (ways : List Way) → IsSameMessage m n → links_meant s ls name m ways ≡ links_meant s ls name n ways
  links_meant_same ways h = λ i. message_parts_same s ls name.word h i >>= (λ ps. Ok (map (λ w. arrow_same name ps w h i) ways))

  fields_sized_same : {m n : MessageTree} (shape : Shape) (links : List Arrow) → IsSameMessage m n → fields_sized m.low_order shape.held links m.fields.items ≡ fields_sized n.low_order shape.held links n.fields.items
  fields_sized_same {m} {n} shape links h = ap (λ b. fields_sized b shape.held links m.fields.items) h.low_order ∙ sized_same n.low_order shape.held links h.fields

  sized_links_same : {m n : MessageTree} (shape : Shape) → IsSameMessage m n → sized_links s ls name m shape ≡ sized_links s ls name n shape
  sized_links_same shape h = λ i. links_meant_same shape.ways h i >>= (λ links. fields_sized_same shape links h i >>= (λ u. Ok links))

  body_laid_same : {m n : MessageTree} (shape : Shape) → IsSameMessage m n → body_laid s ls name m shape ≡ body_laid s ls name n shape
  body_laid_same shape h = λ i. each_same 0 (λ k x y f. field_meant_same shape.held ls k f) h.fields i >>= (λ fields. sized_links_same shape h i >>= (λ links. Ok (record { fields = fields; links = links })))

body_shaped_same : {m n : MessageTree} (s : Scope) (name : Named) (shape : Shape) → IsSameMessage m n → body_shaped s name m shape ≡ body_shaped s name n shape
body_shaped_same {m} {n} s name shape h = ap (λ ls. body_laid s ls name m shape) (layings_same s shape.ways h) ∙ body_laid_same s (layings_of s n shape.ways) name shape h

-- the header's name and its `with` clauses alone tell in its messages
module _ {g h : HeaderTree} (t : Types) (k : IsSameHeader g h) where
  shaped_same : {m n : MessageTree} (name : Named) → IsSameMessage m n → shape_of t.types g.name.word g.withs.items name m ≡ shape_of t.types h.name.word h.withs.items name n
  shaped_same {m} name e = (λ i. shape_of t.types (k.name i).word (k.withs i) name m) ∙ shape_same t.types h.name.word h.withs.items name e

  body_same : {m n : MessageTree} (name : Named) → IsSameMessage m n → body_of t g name m ≡ body_of t h name n
  body_same {m} {n} name e = bind_same (shaped_same name e) (λ shape. ap (λ s. body_shaped s name m shape) (scope_same t shape.held k e) ∙ body_shaped_same (scope_in t h shape.held n) name shape e)

  graph_same : (name : Named) (b : Body) (low : Bool) → graph_named g name b low ≡ graph_named h name b low
  graph_same name b low = ap (λ n. spelled n >>= (λ p. spelled name >>= (λ w. Ok (record { «package» = p; name = w; fields = b.fields; links = b.links; low_order = low })))) k.name

  message_same : {m n : MessageTree} (name : Named) → IsSameMessage m n → message_of t g name m ≡ message_of t h name n
  message_same {m} {n} name e = first_same (within_limit t name) (bind_same (body_same name e) (λ b. ap (λ low. graph_named g name b low) e.low_order ∙ graph_same name b n.low_order))

  null_same : (name : Named) → null_message t g name ≡ null_message t h name
  null_same name = first_same (within_limit t name) (graph_same name (null_body name) false)

  -- ---- packages

  definition_same : {d e : DefTree} (gs : List Graph) (name : Named) → IsSameDef d e → definition_meant t g gs name d ≡ definition_meant t h gs name e
  definition_same gs name (alike.message e) = first_same (λ m. Ok (gs ++ m ∷ [])) (message_same name e)
  definition_same gs name alike.null = first_same (λ m. Ok (gs ++ m ∷ [])) (null_same name)
  definition_same gs name (alike.unsigned e) = refl
  definition_same gs name (alike.range a b c) = refl
  definition_same gs name (alike.enumeration a b) = refl
  definition_same gs name alike.sequence = refl
  definition_same gs name alike.derived = refl

  kind_same : {a b : DeclKind} (gs : List Graph) → IsSameKind a b → kind_meant t g gs a ≡ kind_meant t h gs b
  kind_same gs (alike.defined {n = n} d) = definition_same gs n d
  kind_same gs (alike.refined r) = refl

  declaration_same : {a b : DeclTree} (gs : List Graph) → IsSameDecl a b → declaration_meant t g gs a ≡ declaration_meant t h gs b
  declaration_same gs d = kind_same gs d.kind

pub package_messages_same : {p q : PackageTree} (t : Types) (gs : List Graph) → IsSamePackage p q → package_messages t gs p ≡ package_messages t gs q
package_messages_same t gs h = through_same gs (λ gs x y d. declaration_same t h.header gs d) h.decls
