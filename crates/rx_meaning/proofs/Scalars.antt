-- Definitions that are the same define one scalar type.
use Rattle.std.proofs.Common.{◌≡◌, ap, refl, ℕ, ◌-◌, ◌^◌, List, ℤ, nat_abs, Option, Some, Ok}
use Rattle.std.specs.Prelude.{slice_get, if◌then◌else◌}
use Rattle.rx_syntax.specs.declared.token.Place.{Place}
use Rattle.rx_syntax.specs.declared.tree.Named.{Named}
use Rattle.rx_syntax.specs.declared.tree.ExprTree.{ExprTree}
use Rattle.rx_syntax.specs.declared.tree.LiteralTree.{LiteralTree}
use Rattle.rx_syntax.specs.declared.tree.EnumAspect.{EnumAspect}
use Rattle.rx_syntax.specs.declared.tree.DefTree.{DefTree}
use Rattle.rx_syntax.specs.declared.rule.Rule.TheVariants as rule
use Rattle.rx_types.specs.Domain.{Integer, Enumeration}
use Rattle.rx_judge.specs.Meaning.{◌>>=◌, refused, refused_at, each_from}
use Rattle.rx_judge.specs.Names.{Nothing}
use Rattle.rx_judge.specs.Kinds.{is_number}
use Rattle.rx_judge.specs.Scalar.{spelled, static_value, is_size, unsigned, is_range, range, number_or_place, number_of_literal, numbers_of, size_of_aspect, size_of_aspects, first_some, always_valid, given, number_at, literal_at, are_literals, enumeration, definition}
use Rattle.rx_trees.specs.Alike as alike
use Rattle.rx_trees.specs.Alike.{AreSame, IsSameIfAny, IsSameExpr, IsSameLiteral, IsSameEnumAspect, IsSameDef}
use Rattle.rx_meaning.proofs.Lists.{same_after, bind_same, first_same, each_same}
use Rattle.rx_meaning.proofs.Exprs.{judged_same, root_place_same}

-- ---- integers

pub static_value_same : (owner : List ℕ) {e f : ExprTree} → IsSameExpr e f → static_value owner e ≡ static_value owner f
static_value_same owner h = bind_same (judged_same Nothing owner h) (λ x. ap (λ (p : Place). if is_number x.about.kind then Ok x.about.interval.low else refused rule.WrongType p owner) (root_place_same h))

unsigned_same : (name : Named) {e f : ExprTree} → IsSameExpr e f → unsigned name e ≡ unsigned name f
unsigned_same name h = first_same (λ n. if is_size n then Ok (Integer 0 (2 ^ nat_abs n - 1) (nat_abs n)) else refused_at rule.BadRange name) (static_value_same name.word h)

range_same : (name : Named) {a b c d e f : ExprTree} → IsSameExpr a b → IsSameExpr c d → IsSameExpr e f → range name a c e ≡ range name b d f
range_same name h k l = bind_same (static_value_same name.word h) (λ x. bind_same (static_value_same name.word k) (λ y. first_same (λ n. if is_range x y n then Ok (Integer (nat_abs x) (nat_abs y) (nat_abs n)) else refused_at rule.BadRange name) (static_value_same name.word l)))

-- ---- literals

number_or_place_same : (owner : List ℕ) (i : ℕ) {o p : Option ExprTree} → IsSameIfAny IsSameExpr o p → number_or_place owner i o ≡ number_or_place owner i p
number_or_place_same owner i alike.none = refl
number_or_place_same owner i (alike.some h) = static_value_same owner h

number_of_literal_same : (owner : List ℕ) (i : ℕ) {l m : LiteralTree} → IsSameLiteral l m → number_of_literal owner i l ≡ number_of_literal owner i m
number_of_literal_same owner i s = number_or_place_same owner i s.number

numbers_same : (owner : List ℕ) {ls ms : List LiteralTree} → AreSame IsSameLiteral ls ms → numbers_of owner ls ≡ numbers_of owner ms
numbers_same owner ss = each_same 0 (λ i x y h. number_of_literal_same owner i h) ss

literal_at_same : (zs : List ℤ) (i : ℕ) {l m : LiteralTree} → IsSameLiteral l m → literal_at zs i l ≡ literal_at zs i m
literal_at_same zs i s = first_same (λ w. Ok (record { name = w; number = number_at (slice_get zs i) })) (ap spelled s.name)

-- ---- aspects

size_of_aspect_same : (owner : List ℕ) {a b : EnumAspect} → IsSameEnumAspect a b → size_of_aspect owner a ≡ size_of_aspect owner b
size_of_aspect_same owner (alike.size h) = first_same (λ z. Ok (Some z)) (static_value_same owner h)
size_of_aspect_same owner alike.always = refl

size_of_aspects_same : (owner : List ℕ) {xs ys : List EnumAspect} → AreSame IsSameEnumAspect xs ys → size_of_aspects owner xs ≡ size_of_aspects owner ys
size_of_aspects_same owner ss = each_same 0 (λ i x y h. size_of_aspect_same owner h) ss

always_valid_same : {xs ys : List EnumAspect} → AreSame IsSameEnumAspect xs ys → always_valid xs ≡ always_valid ys
always_valid_same alike.none = refl
always_valid_same (alike.next (alike.size h) ss) = always_valid_same ss
always_valid_same (alike.next alike.always ss) = refl

-- ---- definitions

-- the literals with these numbers, where they are those of the size
measured_same : (name : Named) (zs : List ℤ) (n : ℤ) {ls ms : List LiteralTree} {xs ys : List EnumAspect} → AreSame IsSameLiteral ls ms → AreSame IsSameEnumAspect xs ys
    → (if are_literals n zs then (each_from (literal_at zs) 0 ls >>= (λ literals. Ok (Enumeration literals (nat_abs n) (always_valid xs)))) else refused_at rule.BadRange name)
    ≡ (if are_literals n zs then (each_from (literal_at zs) 0 ms >>= (λ literals. Ok (Enumeration literals (nat_abs n) (always_valid ys)))) else refused_at rule.BadRange name)
measured_same name zs n a b = ap (λ m. if are_literals n zs then m else refused_at rule.BadRange name) (bind_same (each_same 0 (λ i x y h. literal_at_same zs i h) a) (λ literals. ap (λ v. Ok (Enumeration literals (nat_abs n) v)) (always_valid_same b)))

enumeration_same : (name : Named) {ls ms : List LiteralTree} {xs ys : List EnumAspect} → AreSame IsSameLiteral ls ms → AreSame IsSameEnumAspect xs ys → enumeration name ls xs ≡ enumeration name ms ys
enumeration_same name a b = bind_same (numbers_same name.word a) (λ zs. bind_same (size_of_aspects_same name.word b) (λ sizes. same_after (given name (first_some sizes)) (λ n. measured_same name zs n a b)))

pub definition_same : (name : Named) {d e : DefTree} → IsSameDef d e → definition name d ≡ definition name e
definition_same name (alike.unsigned h) = first_same (λ s. Ok (Some s)) (unsigned_same name h)
definition_same name (alike.range h k l) = first_same (λ s. Ok (Some s)) (range_same name h k l)
definition_same name (alike.enumeration a b) = first_same (λ s. Ok (Some s)) (enumeration_same name a b)
definition_same name alike.sequence = refl
definition_same name alike.derived = refl
definition_same name alike.null = refl
definition_same name (alike.message h) = refl
