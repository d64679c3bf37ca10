-- The shape of a message, and the sizes of its fields, are the same in messages that are the same.
use Rattle.std.proofs.Common.{◌≡◌, ap, refl, ℕ, Bool, ◌&&◌, nat_le, List, length, Option, Ok}
use Rattle.std.specs.Prelude.{if◌then◌else◌, slice_get}
use Rattle.rx_syntax.specs.declared.tree.Named.{Named}
use Rattle.rx_syntax.specs.declared.tree.ExprTree.{ExprTree}
use Rattle.rx_syntax.specs.declared.tree.AspectTree.{AspectTree}
use Rattle.rx_syntax.specs.declared.tree.ThenTree.{ThenTree}
use Rattle.rx_syntax.specs.declared.tree.FieldTree.{FieldTree}
use Rattle.rx_syntax.specs.declared.tree.MessageTree.{MessageTree}
use Rattle.rx_syntax.specs.declared.rule.Rule.TheVariants as rule
use Rattle.rx_graph.specs.Graph.{Arrow}
use Rattle.rx_judge.specs.Meaning.{◌>>=◌, refused_at}
use Rattle.rx_judge.specs.Table.{Entry}
use Rattle.rx_links.specs.Counts.{counts_stand}
use Rattle.rx_links.specs.declared.links.Way.{Way}
use Rattle.rx_elab.specs.Fields.{held_as, field_held}
use Rattle.rx_elab.specs.Types.{type_named}
use Rattle.rx_elab.specs.declared.fields.Held.{Held}
use Rattle.rx_elab.specs.declared.types.KnownType.{KnownType}
use Rattle.rx_spec.specs.Shape.{paths_stand, has_few, has_few_if_any, aspect_has_few, then_has_few, field_has_few, message_has_few, few_stand, ways_stand, ways_of, shape_of}
use Rattle.rx_spec.specs.Sizes.{held_sized, fields_sized}
use Rattle.rx_trees.specs.Alike as alike
use Rattle.rx_trees.specs.Alike.{AreSame, IsSameIfAny, IsSameExpr, IsSameAspect, IsSameThen, IsSameField, IsSameMessage}
use Rattle.rx_meaning.proofs.Lists.{each_same, all_same, every_same, length_same}
use Rattle.rx_meaning.proofs.Exprs.{operators_same}
use Rattle.rx_meaning.proofs.Links.{links_of_same, no_cycle_same}

-- ---- operators

few_same : {e f : ExprTree} → IsSameExpr e f → has_few e ≡ has_few f
few_same h = ap (λ n. nat_le n 256) (operators_same h)

few_if_any_same : {o p : Option ExprTree} → IsSameIfAny IsSameExpr o p → has_few_if_any o ≡ has_few_if_any p
few_if_any_same alike.none = refl
few_if_any_same (alike.some h) = few_same h

aspect_few_same : {a b : AspectTree} → IsSameAspect a b → aspect_has_few a ≡ aspect_has_few b
aspect_few_same (alike.first h) = few_same h
aspect_few_same (alike.size h) = few_same h

then_few_same : {a b : ThenTree} → IsSameThen a b → then_has_few a ≡ then_has_few b
then_few_same h = λ i. every_same (λ x y k. aspect_few_same k) h.aspects i && few_if_any_same h.condition i

field_few_same : {a b : FieldTree} → IsSameField a b → field_has_few a ≡ field_has_few b
field_few_same h = λ i. every_same (λ x y k. aspect_few_same k) h.aspects i && few_if_any_same h.condition i && every_same (λ x y k. then_few_same k) h.thens i

message_few_same : {m n : MessageTree} → IsSameMessage m n → message_has_few m ≡ message_has_few n
message_few_same h = λ i. every_same (λ x y k. then_few_same k) h.start i && every_same (λ x y k. field_few_same k) h.fields i

few_stand_same : {m n : MessageTree} (name : Named) → IsSameMessage m n → few_stand name m ≡ few_stand name n
few_stand_same name h = λ i. if message_few_same h i then Ok tt else refused_at rule.TooDeep name

-- ---- links

ways_stand_same : {m n : MessageTree} (name : Named) (ways : List Way) → IsSameMessage m n → ways_stand name m ways ≡ ways_stand name n ways
ways_stand_same name ways h = λ i. no_cycle_same name ways h.start h.fields i >>= (λ u. counts_stand name (length_same h.fields i) (length ways) >>= (λ v. paths_stand name ways >>= (λ w. few_stand_same name h i)))

pub ways_same : {m n : MessageTree} (name : Named) → IsSameMessage m n → ways_of name m ≡ ways_of name n
ways_same name h = λ i. links_of_same h.start h.fields i >>= (λ ways. ways_stand_same name ways h i >>= (λ u. Ok ways))

-- ---- fields

field_held_same : {a b : FieldTree} (types : List (Entry KnownType)) (p : List ℕ) (withs : List Named) (i : ℕ) → IsSameField a b → field_held types p withs i a ≡ field_held types p withs i b
field_held_same types p withs i h = ap (λ k. type_named types p withs k >>= held_as k.name) h.kind

pub shape_same : {m n : MessageTree} (types : List (Entry KnownType)) (p : List ℕ) (withs : List Named) (name : Named) → IsSameMessage m n → shape_of types p withs name m ≡ shape_of types p withs name n
shape_same types p withs name h = λ i. each_same 0 (λ k x y f. field_held_same types p withs k f) h.fields i >>= (λ held. ways_same name h i >>= (λ ways. Ok (record { held = held; ways = ways })))

pub sized_same : {fs gs : List FieldTree} (low : Bool) (hs : List Held) (links : List Arrow) → AreSame IsSameField fs gs → fields_sized low hs links fs ≡ fields_sized low hs links gs
sized_same low hs links h = all_same 0 (λ i x y f. ap (λ n. held_sized low links n i (slice_get hs i)) f.name) h
