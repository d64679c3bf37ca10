-- What an expression means: operands from left to right before their operator, and the refusal that comes first.
--   Typed                          an expression, and what is known of it
--   judged names owner e           the meaning of expression e in what has the owner's name
use Rattle.std.specs.Prelude.{ℕ, ◌^◌, ◌-◌, Bool, true, false, not, ◌&&◌, List, Option, Some, None, Ok, codes, if◌then◌else◌, ℤ, pos, neg_ℤ}
use Rattle.rx_syntax.specs.declared.token.Place.{Place}
use Rattle.rx_syntax.specs.declared.tree.Named.{Named}
use Rattle.rx_syntax.specs.declared.tree.NameTree.{NameTree}
use Rattle.rx_syntax.specs.declared.tree.Attr.{Attr}
use Rattle.rx_syntax.specs.declared.tree.Attr.TheVariants as attr
use Rattle.rx_syntax.specs.declared.tree.ExprTree.{ExprTree}
use Rattle.rx_syntax.specs.declared.tree.ExprTree.TheVariants as tree
use Rattle.rx_syntax.specs.declared.rule.Rule.TheVariants as rule
use Rattle.rx_types.specs.declared.interval.Interval.{Interval}
use Rattle.rx_types.specs.declared.expr.Operator as types
use Rattle.rx_types.specs.declared.expr.Operator.TheVariants as op
use Rattle.rx_types.specs.declared.kind.Kind.{Kind}
use Rattle.rx_types.specs.declared.kind.Kind.TheVariants as kind
use Rattle.rx_types.specs.Narrow.{from_to, single, truths, negation, is_short, places_in_bits, lasts_in_bits}
use Rattle.rx_types.specs.Static.{is_static}
use Rattle.rx_types.specs.Tree.{Tree, tree_of, Number, Truth, Field, First, Last, Size, Total, Neg, Not, Binary}
use Rattle.rx_types.specs.Value.{truth_value}
use Rattle.rx_judge.specs.Meaning.{Meaning, ◌>>=◌, refused_at, refused}
use Rattle.rx_judge.specs.Names.{Scope, Names, Nothing, Within, same, thing_of}
use Rattle.rx_judge.specs.Kinds.{operator_of, is_number, is_truth, takes, is_linear, bounds_by, about_both, tree_by}
use Rattle.rx_judge.specs.Low.{are_low}
use Rattle.rx_judge.specs.declared.names.Thing.{Thing}
use Rattle.rx_judge.specs.declared.names.Thing.TheVariants as thing
use Rattle.rx_judge.specs.declared.names.FieldKind.{FieldKind}
use Rattle.rx_judge.specs.declared.names.FieldKind.TheVariants as field_kind
use Rattle.rx_judge.specs.declared.about.About.{About}
use Rattle.rx_judge.specs.declared.judged.Judged.{Judged}

pub record Typed : Type 0 where
  pub tree : Tree
  pub about : About

abbrev pub typed : Judged → Typed
typed j = record { tree = tree_of j.expr; about = j.about }

-- no number alone, and no literal True or False
abbrev pub plain : Tree → Kind → Interval → Typed
plain x k i = record { tree = x; about = record { kind = k; is_static = false; is_literal = false; is_constant = is_static x; interval = i } }

abbrev pub spelled_truth : Bool → Typed
spelled_truth b = record { tree = Truth b; about = record { kind = kind.Truth; is_static = false; is_literal = true; is_constant = false; interval = single (truth_value b) } }

abbrev pub static_number : ℤ → Typed
static_number z = record { tree = Number z; about = record { kind = kind.Number; is_static = true; is_literal = false; is_constant = true; interval = single z } }

-- ---- names

-- a field as a value: a scalar, and no opaque or sequence field (WrongType)
abbrev pub value_of_field : Named → ℕ → FieldKind → Meaning Typed
value_of_field name f (field_kind.Scalar k greatest) = Ok (plain (Field f) k (from_to (pos 0) (pos greatest)))
value_of_field name f field_kind.Bytes = refused_at rule.WrongType name

abbrev pub value_of_thing : Named → Thing → Meaning Typed
value_of_thing name (thing.Field f) = value_of_field name f.id f.kind
value_of_thing name (thing.Literal l) = Ok (plain (Number (pos l.number)) (kind.Of l.kind) (single (pos l.number)))
value_of_thing name (thing.Truth b) = Ok (spelled_truth b)

-- the places of a field; no other name has them (WrongType)
abbrev pub attribute_of_thing : Named → Attr → Thing → Meaning Typed
attribute_of_thing name attr.First (thing.Field f) = Ok (plain (First f.id) kind.Number places_in_bits)
attribute_of_thing name attr.Last (thing.Field f) = Ok (plain (Last f.id) kind.Number lasts_in_bits)
attribute_of_thing name attr.Size (thing.Field f) = Ok (plain (Size f.id) kind.Number places_in_bits)
attribute_of_thing name a x = refused_at rule.WrongType name

-- the message begins at bit 0, and its last bit is one less than its size
abbrev pub attribute_of_message : Named → Attr → Meaning Typed
attribute_of_message name attr.First = Ok (plain (Number (pos 0)) kind.Number (single (pos 0)))
attribute_of_message name attr.Last = Ok (plain (Binary op.Sub Total (Number (pos 1))) kind.Number (from_to (neg_ℤ (pos 1)) (pos (2 ^ 27 - 1))))
attribute_of_message name attr.Size = Ok (plain Total kind.Number places_in_bits)
attribute_of_message name a = refused_at rule.WrongType name

abbrev pub is_alone : Option Named → Bool
is_alone None = true
is_alone (Some q) = false

-- `Message` alone
abbrev pub is_message : NameTree → Bool
is_message n = is_alone n.«package» && same n.name.word (codes "Message")

abbrev pub attribute : Scope → NameTree → Attr → Meaning Typed
attribute s n a = if is_message n then attribute_of_message n.name a else (thing_of s n >>= attribute_of_thing n.name a)

abbrev pub member : Scope → NameTree → Meaning Typed
member s n = thing_of s n >>= (λ x. refused_at rule.WrongType n.name)

-- Where numbers stand alone, each name is refused (NotStatic).
abbrev pub name_as_value : Names → NameTree → Meaning Typed
name_as_value Nothing n = refused_at rule.NotStatic n.name
name_as_value (Within s) n = thing_of s n >>= value_of_thing n.name

abbrev pub name_with_attribute : Names → NameTree → Attr → Meaning Typed
name_with_attribute Nothing n a = refused_at rule.NotStatic n.name
name_with_attribute (Within s) n a = attribute s n a

abbrev pub name_with_member : Names → NameTree → Meaning Typed
name_with_member Nothing n = refused_at rule.NotStatic n.name
name_with_member (Within s) n = member s n

-- ---- operators

abbrev pub number : List ℕ → Place → ℤ → Meaning Typed
number owner p z = if is_short (single z) then Ok (static_number z) else refused rule.TooWide p owner

abbrev pub negative : List ℕ → Place → Typed → Meaning Typed
negative owner p a =
    if is_number a.about.kind
    then Ok (record { tree = Neg a.tree; about = record a.about { interval = negation a.about.interval } })
    else refused rule.WrongType p owner

abbrev pub opposite : List ℕ → Place → Typed → Meaning Typed
opposite owner p a = if is_truth a.about.kind then Ok (plain (Not a.tree) kind.Truth truths) else refused rule.WrongType p owner

-- the value, or TooWide where it is too wide
abbrev pub narrow : {A : Type 0} → List ℕ → Place → Option A → Meaning A
narrow owner p None = refused rule.TooWide p owner
narrow owner p (Some a) = Ok a

-- what is known of an operator's result, if it takes its operands (WrongType), is linear (NotLinear) and narrow (TooWide)
abbrev pub about_by : List ℕ → Option types.Operator → Place → About → About → Meaning About
about_by owner o p l r =
    if not (takes o l r) then refused rule.WrongType p owner
    else (if not (is_linear o l r) then refused rule.NotLinear p owner
    else (narrow owner p (bounds_by o l.interval r.interval) >>= (λ i. Ok (about_both o l r i))))

-- the coefficients of the linear form are low (TooWide)
abbrev pub lowness : List ℕ → Place → Tree → Meaning (Unit {0})
lowness owner p x = if are_low x then Ok tt else refused rule.TooWide p owner

abbrev pub joined : List ℕ → Option types.Operator → Place → Typed → Typed → Meaning Typed
joined owner o p l r = do
  a ← about_by owner o p l.about r.about
  u ← lowness owner p (tree_by o a.interval.low l.tree r.tree)
  Ok (record { tree = tree_by o a.interval.low l.tree r.tree; about = a })

-- ---- expressions

abbrev pub judged : Names → List ℕ → ExprTree → Meaning Typed
judged names owner (tree.Number z p) = number owner p z
judged names owner (tree.Name n) = name_as_value names n
judged names owner (tree.Attribute n a) = name_with_attribute names n a
judged names owner (tree.Member n f) = name_with_member names n
judged names owner (tree.Neg' p q e) = do
  a ← judged names owner e
  negative owner p a
judged names owner (tree.Not' p q e) = do
  a ← judged names owner e
  opposite owner p a
judged names owner (tree.Binary' o p q a s b) = do
  l ← judged names owner a
  r ← judged names owner b
  joined owner (operator_of o) p l r
