-- Packages that are the same stand alike in the first pass.
use Rattle.std.proofs.Common.{◌≡◌, ◌∙◌, ap, refl, ℕ, Bool, ◌||◌, List, Option, Some, None, Ok}
use Rattle.std.specs.Prelude.{slice_get, if◌then◌else◌}
use Rattle.rx_syntax.specs.declared.token.Place.{Place}
use Rattle.rx_syntax.specs.declared.tree.Named.{Named}
use Rattle.rx_syntax.specs.declared.tree.HeaderTree.{HeaderTree}
use Rattle.rx_syntax.specs.declared.tree.PackageTree.{PackageTree}
use Rattle.rx_syntax.specs.declared.tree.DeclTree.{DeclTree}
use Rattle.rx_syntax.specs.declared.tree.DeclKind.{DeclKind}
use Rattle.rx_syntax.specs.declared.tree.DefTree.{DefTree}
use Rattle.rx_syntax.specs.declared.tree.LiteralTree.{LiteralTree}
use Rattle.rx_syntax.specs.declared.tree.EnumAspect.{EnumAspect}
use Rattle.rx_syntax.specs.declared.tree.MessageTree.{MessageTree}
use Rattle.rx_syntax.specs.declared.tree.FieldTree.{FieldTree}
use Rattle.rx_syntax.specs.declared.tree.ThenTree.{ThenTree}
use Rattle.rx_syntax.specs.declared.tree.AspectTree.{AspectTree}
use Rattle.rx_syntax.specs.declared.rule.Rule.TheVariants as rule
use Rattle.rx_judge.specs.Meaning.{Meaning, refused}
use Rattle.rx_judge.specs.Table.{added, has}
use Rattle.rx_elab.specs.Through.{through}
use Rattle.rx_elab.specs.Stand.{Known, fresh, enum_aspect_name, enum_aspect_place, same_enum_aspect, enum_aspect_stands, literal_fresh, enumeration_stands, aspect_name, aspect_place, same_aspect, with_aspects, is_claimed, claimed, aspect_stands, aspects_stand, then_stands, field_stands, no_fields, message_stands, definition_stands, kind_stands, declaration_stands, built_in, is_named, withs_stand, header_stands, body_stands, package_stands}
use Rattle.rx_elab.specs.declared.stand.Seen.{Seen}
use Rattle.rx_elab.specs.declared.stand.Declared.{Declared}
use Rattle.rx_trees.specs.Alike as alike
use Rattle.rx_trees.specs.Alike.{AreSame, IsSameThen, IsSameField, IsSameAspect, IsSameMessage, IsSameLiteral, IsSameEnumAspect, IsSameDef, IsSameKind, IsSameDecl, IsSameHeader, IsSamePackage}
use Rattle.rx_meaning.proofs.Lists.{ap_two, same_after, bind_same, first_same, all_same, through_same, any_same, take_same}

-- a second aspect of a name is refused at its place
abbrev twice : Bool → Place → List ℕ → Meaning (Unit {0})
twice b p w = if b then refused rule.NameClash p w else Ok tt

twice_same : {b c : Bool} {p q : Place} {v w : List ℕ} → b ≡ c → p ≡ q → v ≡ w → twice b p v ≡ twice c q w
twice_same {c = c} {p = p} {v = v} e h k = ap (λ (b : Bool). twice b p v) e ∙ ap_two (λ p w. twice c p w) h k

-- ---- enumerations

enum_aspect_name_same : {a b : EnumAspect} → IsSameEnumAspect a b → enum_aspect_name a ≡ enum_aspect_name b
enum_aspect_name_same (alike.size h) = refl
enum_aspect_name_same alike.always = refl

enum_aspect_place_same : {a b : EnumAspect} → IsSameEnumAspect a b → enum_aspect_place a ≡ enum_aspect_place b
enum_aspect_place_same (alike.size h) = refl
enum_aspect_place_same alike.always = refl

same_enum_aspect_same : {a b c d : EnumAspect} → IsSameEnumAspect a b → IsSameEnumAspect c d → same_enum_aspect a c ≡ same_enum_aspect b d
same_enum_aspect_same (alike.size h) (alike.size k) = refl
same_enum_aspect_same (alike.size h) alike.always = refl
same_enum_aspect_same alike.always (alike.size k) = refl
same_enum_aspect_same alike.always alike.always = refl

enum_aspect_stands_same : {xs ys : List EnumAspect} (k : ℕ) {a b : EnumAspect} → AreSame IsSameEnumAspect xs ys → IsSameEnumAspect a b → enum_aspect_stands xs k a ≡ enum_aspect_stands ys k b
enum_aspect_stands_same k ss h = twice_same (any_same (λ x y e. same_enum_aspect_same h e) (take_same k ss)) (enum_aspect_place_same h) (enum_aspect_name_same h)

literal_fresh_same : (known : Known) {l m : LiteralTree} → IsSameLiteral l m → literal_fresh known l ≡ literal_fresh known m
literal_fresh_same known s = ap (fresh known) s.name

enumeration_stands_same : (known : Known) {ls ms : List LiteralTree} {xs ys : List EnumAspect} → AreSame IsSameLiteral ls ms → AreSame IsSameEnumAspect xs ys → enumeration_stands known ls xs ≡ enumeration_stands known ms ys
enumeration_stands_same known a b = bind_same (through_same known (λ k x y h. literal_fresh_same k h) a) (λ after. first_same (λ u. Ok after) (all_same 0 (λ k x y h. enum_aspect_stands_same k b h) b))

-- ---- aspects of fields and links

aspect_name_same : {a b : AspectTree} → IsSameAspect a b → aspect_name a ≡ aspect_name b
aspect_name_same (alike.first h) = refl
aspect_name_same (alike.size h) = refl

aspect_place_same : {a b : AspectTree} → IsSameAspect a b → aspect_place a ≡ aspect_place b
aspect_place_same (alike.first h) = refl
aspect_place_same (alike.size h) = refl

same_aspect_same : {a b c d : AspectTree} → IsSameAspect a b → IsSameAspect c d → same_aspect a c ≡ same_aspect b d
same_aspect_same (alike.first h) (alike.first k) = refl
same_aspect_same (alike.first h) (alike.size k) = refl
same_aspect_same (alike.size h) (alike.first k) = refl
same_aspect_same (alike.size h) (alike.size k) = refl

with_aspects_same : (known : Known) (field : List ℕ) {xs ys : List AspectTree} → AreSame IsSameAspect xs ys → with_aspects known field xs ≡ with_aspects known field ys
with_aspects_same known field alike.none = refl
with_aspects_same known field (alike.next {y = b} {xs = xs} s ss) = ap (λ (n : List ℕ). with_aspects (added known n field tt) field xs) (aspect_name_same s) ∙ with_aspects_same (added known (aspect_name b) field tt) field ss

is_claimed_same : (known : Known) (field : Option (List ℕ)) {a b : AspectTree} → IsSameAspect a b → is_claimed known field a ≡ is_claimed known field b
is_claimed_same known None h = refl
is_claimed_same known (Some field) h = ap (λ (n : List ℕ). has known n field) (aspect_name_same h)

claimed_same : (known : Known) (field : Option (List ℕ)) {xs ys : List AspectTree} → AreSame IsSameAspect xs ys → claimed known field xs ≡ claimed known field ys
claimed_same known None ss = refl
claimed_same known (Some field) ss = with_aspects_same known field ss

aspect_stands_same : (known : Known) (field : Option (List ℕ)) (k : ℕ) {xs ys : List AspectTree} {a b : AspectTree} → AreSame IsSameAspect xs ys → IsSameAspect a b → aspect_stands known field xs k a ≡ aspect_stands known field ys k b
aspect_stands_same known field k ss h = twice_same (ap_two (λ c d. c || d) (any_same (λ x y e. same_aspect_same h e) (take_same k ss)) (is_claimed_same known field h)) (aspect_place_same h) (aspect_name_same h)

aspects_stand_same : (known : Known) (field : Option (List ℕ)) {xs ys : List AspectTree} → AreSame IsSameAspect xs ys → aspects_stand known field xs ≡ aspects_stand known field ys
aspects_stand_same known field ss = all_same 0 (λ k x y h. aspect_stands_same known field k ss h) ss

-- ---- messages

then_stands_same : (s : Seen) {t u : ThenTree} → IsSameThen t u → then_stands s t ≡ then_stands s u
then_stands_same s {t} {u} h =
    let stands = ap (λ (o : Option (List ℕ)). aspects_stand s.owned o t.aspects.items) h.target ∙ aspects_stand_same s.owned u.target h.aspects in
    let after = ap (λ (o : Option (List ℕ)). claimed s.linked o t.aspects.items) h.target ∙ claimed_same s.linked u.target h.aspects in
    bind_same stands (λ v. ap (λ (k : Known). Ok (record s { linked = k })) after)

field_stands_same : (s : Seen) {f g : FieldTree} → IsSameField f g → field_stands s f ≡ field_stands s g
field_stands_same s {f} {g} h =
    let stands = ap (λ (n : Named). aspects_stand s.linked (Some n.word) f.aspects.items) h.name ∙ aspects_stand_same s.linked (Some g.name.word) h.aspects in
    let after = ap (λ (n : Named). with_aspects s.owned n.word f.aspects.items) h.name ∙ with_aspects_same s.owned g.name.word h.aspects in
    bind_same (ap (fresh s.fields) h.name) (λ fields. bind_same stands (λ v.
    ap (λ (k : Known). through then_stands (record { fields = fields; owned = k; linked = s.linked }) f.thens.items) after
    ∙ through_same _ (λ t x y k. then_stands_same t k) h.thens))

message_stands_same : {m n : MessageTree} → IsSameMessage m n → message_stands m ≡ message_stands n
message_stands_same h = bind_same (through_same no_fields (λ s x y k. then_stands_same s k) h.start) (λ s. through_same s (λ t x y k. field_stands_same t k) h.fields)

-- ---- packages

definition_stands_same : (literals : Known) {d e : DefTree} → IsSameDef d e → definition_stands literals d ≡ definition_stands literals e
definition_stands_same literals (alike.unsigned h) = refl
definition_stands_same literals (alike.range h k l) = refl
definition_stands_same literals (alike.enumeration a b) = enumeration_stands_same literals a b
definition_stands_same literals alike.sequence = refl
definition_stands_same literals alike.derived = refl
definition_stands_same literals alike.null = refl
definition_stands_same literals (alike.message h) = first_same (λ s. Ok literals) (message_stands_same h)

kind_stands_same : (k : Declared) {a b : DeclKind} → IsSameKind a b → kind_stands k a ≡ kind_stands k b
kind_stands_same k (alike.refined h) = refl
kind_stands_same k (alike.defined {n = n} h) = same_after (fresh k.types n) (λ types. first_same (λ literals. Ok (record { types = types; literals = literals })) (definition_stands_same k.literals h))

declaration_stands_same : (k : Declared) {a b : DeclTree} → IsSameDecl a b → declaration_stands k a ≡ declaration_stands k b
declaration_stands_same k h = kind_stands_same k h.kind

header_stands_same : (asked : List (List ℕ)) (i : ℕ) {a b : HeaderTree} → IsSameHeader a b → header_stands asked i a ≡ header_stands asked i b
header_stands_same asked i h = bind_same (ap (withs_stand asked) h.withs) (λ u. ap (λ (n : Named). is_named n (slice_get asked i)) h.name)

body_stands_same : {p q : PackageTree} → IsSamePackage p q → body_stands p ≡ body_stands q
body_stands_same h = bind_same (through_same built_in (λ k x y e. declaration_stands_same k e) h.decls) (λ k. ap_two (λ (e n : Named). is_named e (Some n.word)) h.end_name h.header.name)

pub package_stands_same : (asked : List (List ℕ)) (i : ℕ) {p q : PackageTree} → IsSamePackage p q → package_stands asked i p ≡ package_stands asked i q
package_stands_same asked i h = bind_same (header_stands_same asked i h.header) (λ u. body_stands_same h)
