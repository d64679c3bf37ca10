-- What is written at the fields and links of a message: their conditions and aspects, in order of text.
--   Parts                      a condition, a First and a Size, each if it is written
--   first_stands               OverlayMixed where its target's overlay is mixed, and FirstForm where a First has neither form, at the aspect's name
--   message_parts s ls owner m    those of the links of the start, and of the fields and their links; links lay their targets so
use Rattle.std.specs.Prelude.{ℕ, Bool, true, false, not, ◌||◌, List, [], Option, Some, None, Ok, codes, map, if◌then◌else◌}
use Rattle.rx_syntax.specs.declared.token.Place.{Place}
use Rattle.rx_syntax.specs.declared.tree.ExprTree.{ExprTree}
use Rattle.rx_syntax.specs.declared.tree.ExprTree.TheVariants as tree
use Rattle.rx_syntax.specs.declared.tree.AspectTree.{AspectTree}
use Rattle.rx_syntax.specs.declared.tree.AspectTree.TheVariants as aspect
use Rattle.rx_syntax.specs.declared.tree.ThenTree.{ThenTree}
use Rattle.rx_syntax.specs.declared.tree.FieldTree.{FieldTree}
use Rattle.rx_syntax.specs.declared.tree.MessageTree.{MessageTree}
use Rattle.rx_syntax.specs.declared.rule.Rule.TheVariants as rule
use Rattle.rx_types.specs.Tree.{Tree, tree_if_any}
use Rattle.rx_judge.specs.Meaning.{Meaning, ◌>>=◌, refused, each_from}
use Rattle.rx_judge.specs.Names.{Scope, Within}
use Rattle.rx_judge.specs.Table.{Entry, found}
use Rattle.rx_judge.specs.Kinds.{is_number, is_truth}
use Rattle.rx_judge.specs.Judged.{judged}
use Rattle.rx_judge.specs.Scalar.{root_place}
use Rattle.rx_judge.specs.declared.names.KnownField.{KnownField}
use Rattle.rx_judge.specs.declared.names.FieldKind.{FieldKind}
use Rattle.rx_judge.specs.declared.names.FieldKind.TheVariants as field_kind
use Rattle.rx_elab.specs.Firsts.{has_first_form, laid, unlaid, is_mixed, is_mixed_name}
use Rattle.rx_elab.specs.Through.{through}
use Rattle.rx_elab.specs.declared.firsts.Written.{Written}
use Rattle.rx_elab.specs.declared.layings.Laying.{Laying}
use Rattle.rx_elab.specs.declared.parts.Parts as code
use Rattle.rx_elab.specs.declared.parts.FieldParts as code_field
use Rattle.rx_elab.specs.declared.parts.MessageParts as code_message

-- the name that is told of a whole expression: that at its root, or that of what it stands in
abbrev pub root_name : List ℕ → ExprTree → List ℕ
root_name owner (tree.Name n) = n.name.word
root_name owner (tree.Attribute n a) = n.name.word
root_name owner (tree.Member n f) = n.name.word
root_name owner e = owner

-- a number, or WrongType at the root
abbrev pub number_judged : Scope → List ℕ → ExprTree → Meaning Tree
number_judged s owner e = do
  x ← judged (Within s) owner e
  if is_number x.about.kind then Ok x.tree else refused rule.WrongType (root_place e) (root_name owner e)

-- a truth value, or WrongType at the root
abbrev pub truth_judged : Scope → List ℕ → ExprTree → Meaning Tree
truth_judged s owner e = do
  x ← judged (Within s) owner e
  if is_truth x.about.kind then Ok x.tree else refused rule.WrongType (root_place e) (root_name owner e)

pub record Parts : Type 0 where
  pub condition : Option Tree
  pub first : Option Tree
  pub size : Option Tree

abbrev pub no_parts : Parts
no_parts = record { condition = None; first = None; size = None }

-- the parts of a field, and those of its links
pub record FieldParts : Type 0 where
  pub own : Parts
  pub thens : List Parts

pub record MessageParts : Type 0 where
  pub start : List Parts
  pub fields : List FieldParts

abbrev pub is_scalar_kind : FieldKind → Bool
is_scalar_kind (field_kind.Scalar k greatest) = true
is_scalar_kind field_kind.Bytes = false

abbrev pub is_scalar_field : Option KnownField → Bool
is_scalar_field None = false
is_scalar_field (Some f) = is_scalar_kind f.kind

-- the target, where it is a field; null is none
abbrev pub target_in : Scope → Option (List ℕ) → Option KnownField
target_in s None = None
target_in s (Some w) = found s.fields [] w

-- the target is laid over this field by some links, and otherwise by others
abbrev pub is_mixed_target : List Laying → Option KnownField → Option ℕ → Bool
is_mixed_target ls (Some f) (Some x) = is_mixed ls f.id x
is_mixed_target ls target over = false

-- the target has a First over this name, which is no field's, at some links, and at others it has not
abbrev pub is_mixed_beside : List Laying → Option KnownField → Option Written → Bool
is_mixed_beside ls (Some f) (Some w) = is_mixed_name ls f.id w
is_mixed_beside ls target w = false

-- a First that lays its target otherwise than another link does is OverlayMixed at its name, whatever its name means, and one in neither form is FirstForm
abbrev pub first_stands : Scope → List Laying → List ℕ → Option KnownField → Place → ExprTree → Meaning (Unit {0})
first_stands s ls owner target p e =
    if is_mixed_target ls target (laid s e) || is_mixed_beside ls target (unlaid s e) then refused rule.OverlayMixed p (codes "First")
    else (if not (has_first_form s owner e) then refused rule.FirstForm p (codes "First") else Ok tt)

abbrev pub first_judged : Scope → List Laying → List ℕ → Option KnownField → Place → ExprTree → Meaning Tree
first_judged s ls owner target p e = do
  u ← first_stands s ls owner target p e
  number_judged s owner e

-- a Size of a scalar is WrongType at its name
abbrev pub size_judged : Scope → List ℕ → Option KnownField → Place → ExprTree → Meaning Tree
size_judged s owner target p e = if is_scalar_field target then refused rule.WrongType p (codes "Size") else number_judged s owner e

abbrev pub with_aspect : Scope → List Laying → List ℕ → Option KnownField → Parts → AspectTree → Meaning Parts
with_aspect s ls owner target parts (aspect.First p e) = first_judged s ls owner target p e >>= (λ x. Ok (record parts { first = Some x }))
with_aspect s ls owner target parts (aspect.Size p e) = size_judged s owner target p e >>= (λ x. Ok (record parts { size = Some x }))

abbrev pub with_condition : Scope → List ℕ → Parts → Option ExprTree → Meaning Parts
with_condition s owner parts None = Ok parts
with_condition s owner parts (Some e) = truth_judged s owner e >>= (λ x. Ok (record parts { condition = Some x }))

-- aspects of this target, and a condition, that are written in what has the owner's name
abbrev pub parts_judged : Scope → List Laying → List ℕ → Option KnownField → List AspectTree → Option ExprTree → Meaning Parts
parts_judged s ls owner target xs c = do
  parts ← through (with_aspect s ls owner target) no_parts xs
  with_condition s owner parts c

abbrev pub then_parts : Scope → List Laying → List ℕ → ℕ → ThenTree → Meaning Parts
then_parts s ls owner i t = parts_judged s ls owner (target_in s t.target) t.aspects.items t.condition

-- a field's own parts come before those of its links
abbrev pub field_parts : Scope → List Laying → ℕ → FieldTree → Meaning FieldParts
field_parts s ls i f = do
  own ← parts_judged s ls f.name.word (target_in s (Some f.name.word)) f.aspects.items f.condition
  thens ← each_from (then_parts s ls f.name.word) 0 f.thens.items
  Ok (record { own = own; thens = thens })

abbrev pub message_parts : Scope → List Laying → List ℕ → MessageTree → Meaning MessageParts
message_parts s ls owner m = do
  start ← each_from (then_parts s ls owner) 0 m.start.items
  fields ← each_from (field_parts s ls) 0 m.fields.items
  Ok (record { start = start; fields = fields })

-- ---- what the code keeps

abbrev pub parts_of : code.Parts → Parts
parts_of p = record { condition = tree_if_any p.condition; first = tree_if_any p.first; size = tree_if_any p.size }

abbrev pub field_parts_of : code_field.FieldParts → FieldParts
field_parts_of p = record { own = parts_of p.own; thens = map parts_of p.thens.items }

abbrev pub message_parts_of : code_message.MessageParts → MessageParts
message_parts_of p = record { start = map parts_of p.start.items; fields = map field_parts_of p.fields.items }
