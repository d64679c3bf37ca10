-- The first pass: names that are declared twice, and names of packages that stand for nothing.
--   package_stands asked i p      package i stands, which was fetched under name i of those that were asked for
use Rattle.std.specs.Prelude.{ℕ, Bool, true, false, ◌||◌, List, [], ◌∷◌, ◌++◌, take, Option, Some, None, Result, Ok, codes, slice_get, if◌then◌else◌}
use Rattle.std.specs.List.{list_any}
use Rattle.rx_syntax.specs.declared.token.Place.{Place}
use Rattle.rx_syntax.specs.declared.tree.Named.{Named}
use Rattle.rx_syntax.specs.declared.tree.HeaderTree.{HeaderTree}
use Rattle.rx_syntax.specs.declared.tree.PackageTree.{PackageTree}
use Rattle.rx_syntax.specs.declared.tree.DeclTree.{DeclTree}
use Rattle.rx_syntax.specs.declared.tree.DeclKind.{DeclKind}
use Rattle.rx_syntax.specs.declared.tree.DeclKind.TheVariants as decl
use Rattle.rx_syntax.specs.declared.tree.DefTree.{DefTree}
use Rattle.rx_syntax.specs.declared.tree.DefTree.TheVariants as def
use Rattle.rx_syntax.specs.declared.tree.LiteralTree.{LiteralTree}
use Rattle.rx_syntax.specs.declared.tree.EnumAspect.{EnumAspect}
use Rattle.rx_syntax.specs.declared.tree.EnumAspect.TheVariants as enum_aspect
use Rattle.rx_syntax.specs.declared.tree.MessageTree.{MessageTree}
use Rattle.rx_syntax.specs.declared.tree.FieldTree.{FieldTree}
use Rattle.rx_syntax.specs.declared.tree.ThenTree.{ThenTree}
use Rattle.rx_syntax.specs.declared.tree.AspectTree.{AspectTree}
use Rattle.rx_syntax.specs.declared.tree.AspectTree.TheVariants as aspect
use Rattle.rx_syntax.specs.declared.rule.Rule.TheVariants as rule
use Rattle.rx_judge.specs.Meaning.{Meaning, ◌>>=◌, refused, refused_at, all_stand_from}
use Rattle.rx_elab.specs.Through.{through}
use Rattle.rx_elab.specs.declared.stand.Seen.{Seen}
use Rattle.rx_elab.specs.declared.stand.Declared.{Declared}
use Rattle.rx_judge.specs.Names.{same}
use Rattle.rx_judge.specs.Table.{Entry, entry, has, added}

-- names that are known already
abbrev pub Known : Type 0
Known = List (Entry (Unit {0}))

abbrev pub knowing : List ℕ → Known → Known
knowing w known = added known [] w tt

-- a name that is known already is NameClash, and else it is known from here on
abbrev pub fresh : Known → Named → Meaning Known
fresh known name = if has known [] name.word then refused_at rule.NameClash name else Ok (knowing name.word known)

-- ---- enumerations

abbrev pub enum_aspect_name : EnumAspect → List ℕ
enum_aspect_name (enum_aspect.Size p e) = codes "Size"
enum_aspect_name (enum_aspect.AlwaysValid p b) = codes "Always_Valid"

abbrev pub enum_aspect_place : EnumAspect → Place
enum_aspect_place (enum_aspect.Size p e) = p
enum_aspect_place (enum_aspect.AlwaysValid p b) = p

abbrev pub same_enum_aspect : EnumAspect → EnumAspect → Bool
same_enum_aspect (enum_aspect.Size p e) (enum_aspect.Size q f) = true
same_enum_aspect (enum_aspect.AlwaysValid p b) (enum_aspect.AlwaysValid q c) = true
same_enum_aspect a b = false

-- an aspect whose name an earlier one has is NameClash
abbrev pub enum_aspect_stands : List EnumAspect → ℕ → EnumAspect → Meaning (Unit {0})
enum_aspect_stands xs k a = if list_any (λ b. same_enum_aspect a b) (take k xs) then refused rule.NameClash (enum_aspect_place a) (enum_aspect_name a) else Ok tt

abbrev pub literal_fresh : Known → LiteralTree → Meaning Known
literal_fresh known l = fresh known l.name

-- an enumeration, whose literals differ from those of the package so far, and those that are known after it
abbrev pub enumeration_stands : Known → List LiteralTree → List EnumAspect → Meaning Known
enumeration_stands known ls xs = do
  after ← through literal_fresh known ls
  u ← all_stand_from (enum_aspect_stands xs) 0 xs
  Ok after

-- ---- messages

abbrev pub aspect_name : AspectTree → List ℕ
aspect_name (aspect.First p e) = codes "First"
aspect_name (aspect.Size p e) = codes "Size"

abbrev pub aspect_place : AspectTree → Place
aspect_place (aspect.First p e) = p
aspect_place (aspect.Size p e) = p

abbrev pub same_aspect : AspectTree → AspectTree → Bool
same_aspect (aspect.First p e) (aspect.First q f) = true
same_aspect (aspect.Size p e) (aspect.Size q f) = true
same_aspect a b = false

-- an aspect of a field or of a link to it
abbrev pub has_aspect : Known → List ℕ → AspectTree → Bool
has_aspect known field a = has known (aspect_name a) field

abbrev pub with_aspects : Known → List ℕ → List AspectTree → Known
with_aspects known field [] = known
with_aspects known field (a ∷ as') = with_aspects (added known (aspect_name a) field tt) field as'

-- what is written elsewhere of the same field has the aspect; null is no field
abbrev pub is_claimed : Known → Option (List ℕ) → AspectTree → Bool
is_claimed known None a = false
is_claimed known (Some field) a = has_aspect known field a

abbrev pub claimed : Known → Option (List ℕ) → List AspectTree → Known
claimed known None xs = known
claimed known (Some field) xs = with_aspects known field xs

-- an aspect is NameClash that stands earlier in its list, or elsewhere at what belongs to the same field
abbrev pub aspect_stands : Known → Option (List ℕ) → List AspectTree → ℕ → AspectTree → Meaning (Unit {0})
aspect_stands known field xs k a = if list_any (λ b. same_aspect a b) (take k xs) || is_claimed known field a then refused rule.NameClash (aspect_place a) (aspect_name a) else Ok tt

abbrev pub aspects_stand : Known → Option (List ℕ) → List AspectTree → Meaning (Unit {0})
aspects_stand known field xs = all_stand_from (aspect_stands known field xs) 0 xs

-- a link, whose aspects are none of those at its target
abbrev pub then_stands : Seen → ThenTree → Meaning Seen
then_stands s t = do
  u ← aspects_stand s.owned t.target t.aspects.items
  Ok (record s { linked = claimed s.linked t.target t.aspects.items })

-- a field, whose name is new and whose aspects are none of those at earlier links to it
abbrev pub field_stands : Seen → FieldTree → Meaning Seen
field_stands s f = do
  fields ← fresh s.fields f.name
  u ← aspects_stand s.linked (Some f.name.word) f.aspects.items
  through then_stands (record { fields = fields; owned = with_aspects s.owned f.name.word f.aspects.items; linked = s.linked }) f.thens.items

-- no field may be named Message
abbrev pub no_fields : Seen
no_fields = record { fields = knowing (codes "Message") []; owned = []; linked = [] }

abbrev pub message_stands : MessageTree → Meaning Seen
message_stands m = do
  s ← through then_stands no_fields m.start.items
  through field_stands s m.fields.items

-- ---- packages

abbrev pub definition_stands : Known → DefTree → Meaning Known
definition_stands literals (def.Enumeration ls xs) = enumeration_stands literals ls.items xs.items
definition_stands literals (def.Message m) = message_stands m >>= (λ s. Ok literals)
definition_stands literals other = Ok literals

abbrev pub kind_stands : Declared → DeclKind → Meaning Declared
kind_stands k (decl.Refine r) = Ok k
kind_stands k (decl.Defined name d) = do
  types ← fresh k.types name
  literals ← definition_stands k.literals d
  Ok (record { types = types; literals = literals })

abbrev pub declaration_stands : Declared → DeclTree → Meaning Declared
declaration_stands k d = kind_stands k d.kind

-- the types and literals that each package has
abbrev pub built_in : Declared
built_in = record {
  types = knowing (codes "Opaque") (knowing (codes "Boolean") []);
  literals = knowing (codes "False") (knowing (codes "True") []);
}

-- the package of a `with` clause is one of those that were fetched
abbrev pub with_stands : List (List ℕ) → Named → Meaning (Unit {0})
with_stands asked w = if list_any (λ a. same a w.word) asked then Ok tt else refused_at rule.UnknownName w

-- a name that has to be this one, without its case
abbrev pub is_named : Named → Option (List ℕ) → Meaning (Unit {0})
is_named name None = refused_at rule.UnknownName name
is_named name (Some w) = if same w name.word then Ok tt else refused_at rule.UnknownName name

abbrev pub withs_stand : List (List ℕ) → List Named → Meaning (Unit {0})
withs_stand asked ws = all_stand_from (λ k w. with_stands asked w) 0 ws

-- the packages that it names, and then its own name
abbrev pub header_stands : List (List ℕ) → ℕ → HeaderTree → Meaning (Unit {0})
header_stands asked i h = withs_stand asked h.withs.items >>= (λ u. is_named h.name (slice_get asked i))

-- the declarations, and then the end name
abbrev pub body_stands : PackageTree → Meaning (Unit {0})
body_stands p = through declaration_stands built_in p.decls.items >>= (λ k. is_named p.end_name (Some p.header.name.word))

abbrev pub package_stands : List (List ℕ) → ℕ → PackageTree → Meaning (Unit {0})
package_stands asked i p = header_stands asked i p.header >>= (λ u. body_stands p)
