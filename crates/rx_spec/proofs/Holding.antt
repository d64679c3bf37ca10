-- The fields of a message: each has the type that was found for it.
--   IsHeld domains h       what a field holds is a type of these
--   IsFieldAt              field i of the message is that of the text
--   fields_stand           the names of the fields fit the message
--   fields_elaborated      the fields are elaborated
use Rattle.std.proofs.Common.{◌≡◌, ◌∙◌, ap, sym, refl, subst, ℕ, suc, ◌+◌, ◌%◌, ◌^◌, ◌<◌, ◌⊎◌, inl, inr, Bool, true, false, ◌||◌, List, [], ◌∷◌, length, Option, Some, None, Ok, arith}
use Rattle.std.specs.Prelude.{◌==◌, nat_lt, slice_get}
use Rattle.std.specs.List.{AllByRecursion}
use Rattle.std.specs.Option.{option_or}
use Rattle.std.proofs.lemmas.Bool.{ltb-true}
use Rattle.std.proofs.lemmas.Bool.Decides.{Decides-eqb}
use Rattle.std.proofs.lemmas.Option.{same_Some, slice_get_within}
use Rattle.rx_syntax.specs.declared.tree.Named.{Named}
use Rattle.rx_syntax.specs.declared.tree.FieldTree.{FieldTree}
use Rattle.rx_syntax.specs.declared.tree.HeaderTree.{HeaderTree}
use Rattle.rx_syntax.specs.declared.tree.MessageTree.{MessageTree}
use Rattle.rx_types.specs.declared.kind.Kind.{Kind}
use Rattle.rx_types.specs.declared.scalar.FieldType.{FieldType}
use Rattle.rx_types.specs.declared.scalar.FieldType.TheVariants as field_type
use Rattle.rx_types.specs.Domain.{Domain}
use Rattle.rx_graph.specs.declared.message.Field.{Field}
use Rattle.rx_graph.specs.Elaborated.{FitsOrder, IsFieldType, IsElaboratedField}
use Rattle.rx_graph.specs.Graph.{Arrow, Graph, scalar_of, type_of, overlay_of, kind_in, kind_of_field, kind_of, limit_of, greatest_if_any}
use Rattle.rx_judge.specs.Meaning.{each_from}
use Rattle.rx_judge.specs.Names.{known}
use Rattle.rx_judge.specs.Scalar.{spelled}
use Rattle.rx_judge.specs.Sound.{IsListed, FitScope}
use Rattle.rx_judge.specs.Table.{Entry, found, added}
use Rattle.rx_syntax.specs.declared.rule.Refusal.{Refusal}
use Rattle.rx_syntax.specs.declared.rule.Rule.TheVariants as rule
use Rattle.rx_judge.specs.declared.names.KnownField.{KnownField}
use Rattle.rx_judge.proofs.Meanings.{bind_ok, ok_same, if_ok, err_differs}
use Rattle.rx_elab.specs.Fields.{held_as, field_held}
use Rattle.rx_elab.specs.Firsts.{overlay_in}
use Rattle.rx_elab.specs.Types.{Types, own_type, is_visible_in, type_in, type_named}
use Rattle.rx_elab.specs.declared.fields.Held.{Held}
use Rattle.rx_elab.specs.declared.fields.Held.TheVariants as holds
use Rattle.rx_elab.specs.declared.layings.Laying.{Laying}
use Rattle.rx_elab.specs.declared.types.KnownScalar.{KnownScalar}
use Rattle.rx_elab.specs.declared.types.KnownType.{KnownType}
use Rattle.rx_elab.specs.declared.types.KnownType.TheVariants as known_type
use Rattle.rx_spec.specs.Messages.{kind_held, known_from, known_fields, type_held, field_meant, scope_in}
use Rattle.rx_spec.specs.Sizes.{is_in_order, held_sized, field_sized, fields_sized}
use Rattle.rx_spec.proofs.Domains.{IsTypeOf, IsKnown, domains_of, HasLow, Lists}
use Rattle.rx_spec.proofs.Proper.{spelled_same, greatest_has_64}
use Rattle.rx_spec.proofs.Standing.{FieldsStand}
use Rattle.rx_spec.proofs.Steps.{taken, get_within, each_length, each_at, stands_at, all_added, all_found}

-- ---- types of fields

module _ (domains : List Domain) where
  abbrev pub IsHeld : Held → Type 0
  IsHeld (holds.Scalar s) = IsTypeOf domains s
  IsHeld holds.Opaque = Unit {0}

  abbrev AreKnown : List (Entry KnownType) → Type 0
  AreKnown table = AllByRecursion (λ e. IsKnown domains e.thing) table

  known_ok : (name : Named) (o : Option KnownType) (k : KnownType) → known name o ≡ Ok k → o ≡ Some k
  known_ok name None k h = absurd (err_differs _ k h)
  known_ok name (Some x) k h = ap (λ y. Some y) (ok_same x k h)

  either_known : (o p : Option KnownType) (k : KnownType) → (o ≡ Some k → IsKnown domains k) → (p ≡ Some k → IsKnown domains k) → option_or o p ≡ Some k → IsKnown domains k
  either_known None p k f g h = g h
  either_known (Some x) p k f g h = f h

  type_known : (table : List (Entry KnownType)) (p : List ℕ) (withs : List Named) (q : Option Named) (name : Named) (k : KnownType) → AreKnown table → type_in table p withs q name ≡ Ok k → IsKnown domains k
  type_known table p withs None name k t h =
      let here = λ (v : List ℕ). all_found (IsKnown domains) table v name.word k t in
      either_known (found table p name.word) (found table [] name.word) k (here p) (here []) (known_ok name (own_type table p name.word) k h)
  type_known table p withs (Some q) name k t h =
      let r : Refusal = record { rule = rule.UnknownName; place = q.place; word = Some q.word } in
      let seen = taken (is_visible_in p withs q.word) (known name (found table q.word name.word)) k r h in
      all_found (IsKnown domains) table q.word name.word k t (known_ok name (found table q.word name.word) k seen.1)

  held_known : (name : Named) (k : KnownType) (h : Held) → IsKnown domains k → held_as name k ≡ Ok h → IsHeld h
  held_known name (known_type.Scalar s) h t e = subst (λ (x : Held). IsHeld x) (ok_same (holds.Scalar s) h e) t
  held_known name known_type.Opaque h t e = subst (λ (x : Held). IsHeld x) (ok_same holds.Opaque h e) tt
  held_known name known_type.Other h t e = absurd (err_differs _ h e)

  field_known : (table : List (Entry KnownType)) (p : List ℕ) (withs : List Named) (i : ℕ) (f : FieldTree) (h : Held) → AreKnown table → field_held table p withs i f ≡ Ok h → IsHeld h
  field_known table p withs i f h t e =
      let k = bind_ok (type_named table p withs f.kind) (held_as f.kind.name) h e in
      held_known f.kind.name k.0 h (type_known table p withs f.kind.«package» f.kind.name k.0 t k.1) k.2

-- field i is that of the text, with what it holds
pub record IsFieldAt (held : List Held) (ls : List Laying) (fs : List FieldTree) (i : ℕ) (x : Field) : Type 0 where
  pub tree : FieldTree
  pub hold : Held
  pub text : slice_get fs i ≡ Some tree
  pub holding : slice_get held i ≡ Some hold
  pub name : tree.name.word ≡ x.name
  pub kind : type_held (Some hold) ≡ x.kind
  pub overlay : overlay_in ls i ≡ x.overlay

module _ (held : List Held) (ls : List Laying) (fs : List FieldTree) (fields : List Field) where
  meant_at : (i : ℕ) (f : FieldTree) (x : Field) (h : Held) → slice_get fs i ≡ Some f → slice_get held i ≡ Some h → field_meant held ls i f ≡ Ok x → IsFieldAt held ls fs i x
  meant_at i f x h t g e =
      let w = bind_ok (spelled f.name) (λ (v : List ℕ). Ok (record { name = v; kind = type_held (slice_get held i); overlay = overlay_in ls i })) x e in
      let same : record { name = w.0; kind = type_held (slice_get held i); overlay = overlay_in ls i } ≡ x = ok_same _ x w.2 in
      record {
        tree = f;
        hold = h;
        text = t;
        holding = g;
        name = spelled_same f.name w.0 w.1 ∙ ap (λ (y : Field). y.name) same;
        kind = ap type_held (sym g) ∙ ap (λ (y : Field). y.kind) same;
        overlay = ap (λ (y : Field). y.overlay) same;
      }

  pub field_at : (i : ℕ) (x : Field) → length held ≡ length fs → each_from (field_meant held ls) 0 fs ≡ Ok fields → slice_get fields i ≡ Some x → IsFieldAt held ls fs i x
  field_at i x n e g =
      let within = slice_get_within fields i x g in
      let count = each_length (field_meant held ls) 0 fs fields e in
      let f = get_within fs i (omega arith) in
      let h = get_within held i (omega arith) in
      let y = each_at (field_meant held ls) 0 fs fields i i f.0 e f.1 (omega arith) in
      let same : y.0 ≡ x = same_Some y.0 x (sym y.1 ∙ g) in
      meant_at i f.0 x h.0 f.1 h.1 (y.2 ∙ ap (λ z. Ok z) same)

-- ---- types of a message's fields

abbrev domain_held : List Domain → Held → Option Domain
domain_held domains (holds.Scalar s) = slice_get domains s.id
domain_held domains holds.Opaque = None

abbrev domain_by : List Domain → FieldType → Option Domain
domain_by domains k = elim k [ field_type.Scalar t ↦ slice_get domains t | field_type.Opaque ↦ None | field_type.Sequence t ↦ None ]

abbrev kind_by : List Domain → FieldType → Option Kind
kind_by domains k = elim k [ field_type.Scalar t ↦ kind_in t (slice_get domains t) | field_type.Opaque ↦ None | field_type.Sequence t ↦ None ]

domain_of_held : (domains : List Domain) (h : Held) → domain_by domains (type_held (Some h)) ≡ domain_held domains h
domain_of_held domains (holds.Scalar s) = refl
domain_of_held domains holds.Opaque = refl

module _ (domains : List Domain) (g : Graph) where
  type_at : (i : ℕ) (x : Field) (h : Held) → slice_get g.fields i ≡ Some x → type_held (Some h) ≡ x.kind → type_of domains g i ≡ domain_held domains h
  type_at i x h e k = ap (λ o. scalar_of domains o) e ∙ ap (domain_by domains) (sym k) ∙ domain_of_held domains h

  scalar_kind : (i : ℕ) (x : Field) (s : KnownScalar) → slice_get g.fields i ≡ Some x → type_held (Some (holds.Scalar s)) ≡ x.kind → IsTypeOf domains s → kind_of domains g i ≡ Some s.kind
  scalar_kind i x s e k t = ap (λ o. kind_of_field domains o) e ∙ ap (kind_by domains) (sym k) ∙ ap (kind_in s.id) t.is ∙ t.kind

  scalar_limit : (i : ℕ) (x : Field) (s : KnownScalar) → slice_get g.fields i ≡ Some x → type_held (Some (holds.Scalar s)) ≡ x.kind → IsTypeOf domains s → limit_of domains g i ≡ s.greatest
  scalar_limit i x s e k t = ap greatest_if_any (type_at i x (holds.Scalar s) e k ∙ t.is) ∙ t.greatest

  listed : (i : ℕ) (x : Field) (h : Held) → slice_get g.fields i ≡ Some x → type_held (Some h) ≡ x.kind → IsHeld domains h → IsListed (kind_of domains g) (limit_of domains g) i (kind_held h)
  listed i x (holds.Scalar s) e k t = (scalar_kind i x s e k t, scalar_limit i x s e k t, subst (λ n. n < 2 ^ 64) t.greatest (greatest_has_64 t.domain t.proper))
  listed i x holds.Opaque e k t = tt

  -- ---- names of a message's fields

  abbrev Fits : KnownField → Type 0
  Fits f = (f.id < length g.fields) × IsListed (kind_of domains g) (limit_of domains g) f.id f.kind

  known_fit : (i : ℕ) (table : List (Entry KnownField)) (hs : List Held) (ts : List FieldTree) → ((j k : ℕ) (h : Held) → slice_get hs k ≡ Some h → j ≡ i + k → Fits (record { id = j; kind = kind_held h })) → AllByRecursion (λ e. Fits e.thing) table → AllByRecursion (λ e. Fits e.thing) (known_from i table hs ts)
  known_fit i table [] ts f t = t
  known_fit i table (h ∷ hs) [] f t = t
  known_fit i table (h ∷ hs) (x ∷ ts) f t =
      let one : KnownField = record { id = i; kind = kind_held h } in
      known_fit (i + 1) (added table [] x.name.word one) hs ts (λ j k y e n. f j (suc k) y e (omega arith)) (all_added Fits table [] x.name.word one t (f i 0 h refl (omega arith)))

-- ---- sizes in low order

or_cases : (a b : Bool) → (a || b) ≡ true → (a ≡ true) ⊎ (b ≡ true)
or_cases true b e = inl refl
or_cases false b e = inr e

fits_order : (low : Bool) (size : ℕ) → is_in_order low size ≡ true → FitsOrder low size
fits_order true size e k = elim (or_cases (nat_lt size 8) (size % 8 == 0) e) [ inl b ↦ inl (ltb-true size 8 b) | inr b ↦ inr ((Decides-eqb (size % 8) 0).0 b) ]
fits_order false size e k = absurd (cc)

is_field_type : (domains : List Domain) (g : Graph) (low : Bool) (links : List Arrow) (name : Named) (i : ℕ) (x : Held) → IsHeld domains x → held_sized low links name i (Some x) ≡ Ok tt → g.low_order ≡ low → IsFieldType domains g (type_held (Some x))
is_field_type domains g low links name i (holds.Scalar s) d e k =
    let r : Refusal = record { rule = rule.OrderSize; place = name.place; word = Some name.word } in
    let order = if_ok (is_in_order low s.size) tt tt r e in
    (d.domain, d.is, d.proper, subst (λ n. FitsOrder g.low_order n) (sym d.size) (subst (λ b. FitsOrder b s.size) (sym k) (fits_order low s.size order.0)))
is_field_type domains g low links name i holds.Opaque d e k = tt

-- ---- a message with its fields

abbrev AreHeld : Types → HeaderTree → List Held → MessageTree → Type 0
AreHeld t h held m = each_from (field_held t.types h.name.word h.withs.items) 0 m.fields.items ≡ Ok held

abbrev AreMeant : List Held → List Laying → MessageTree → Graph → Type 0
AreMeant held ls m g = each_from (field_meant held ls) 0 m.fields.items ≡ Ok g.fields

module _ (t : Types) (h : HeaderTree) (held : List Held) (ls : List Laying) (m : MessageTree) (g : Graph) (l : Lists t) (e : AreHeld t h held m) (f : AreMeant held ls m g) where
  abbrev Domains : List Domain
  Domains = domains_of t.scalars

  held_count : length held ≡ length m.fields.items
  held_count = each_length (field_held t.types h.name.word h.withs.items) 0 m.fields.items held e

  count : length g.fields ≡ length m.fields.items
  count = each_length (field_meant held ls) 0 m.fields.items g.fields f

  holds_known : (i : ℕ) (x : Held) → slice_get held i ≡ Some x → IsHeld Domains x
  holds_known i x s =
      let within = slice_get_within held i x s in
      let tree = get_within m.fields.items i (omega (arith, held_count)) in
      let y = each_at (field_held t.types h.name.word h.withs.items) 0 m.fields.items held i i tree.0 e tree.1 (omega arith) in
      let same : y.0 ≡ x = same_Some y.0 x (sym y.1 ∙ s) in
      subst (λ (z : Held). IsHeld Domains z) same (field_known Domains t.types h.name.word h.withs.items i tree.0 y.0 l.types y.2)

  -- the field that holds this
  field_of : (i : ℕ) (x : Held) → slice_get held i ≡ Some x → (y : Field) × (slice_get g.fields i ≡ Some y) × (type_held (Some x) ≡ y.kind)
  field_of i x s =
      let within = slice_get_within held i x s in
      let y = get_within g.fields i (omega (arith, held_count, count)) in
      let at = field_at held ls m.fields.items g.fields i y.0 held_count f y.1 in
      let same : at.hold ≡ x = same_Some at.hold x (sym at.holding ∙ s) in
      (y.0, y.1, ap (λ z. type_held (Some z)) (sym same) ∙ at.kind)

  overlay_at : (i : ℕ) → i < length g.fields → overlay_of (slice_get g.fields i) ≡ overlay_in ls i
  overlay_at i within =
      let y = get_within g.fields i within in
      ap overlay_of y.1 ∙ sym (field_at held ls m.fields.items g.fields i y.0 held_count f y.1).overlay

  fits_at : (j k : ℕ) (x : Held) → slice_get held k ≡ Some x → j ≡ 0 + k → Fits Domains g (record { id = j; kind = kind_held x })
  fits_at j k x s n =
      let same : k ≡ j = omega arith in
      let at : slice_get held j ≡ Some x = ap (λ z. slice_get held z) (sym same) ∙ s in
      let y = field_of j x at in
      (slice_get_within g.fields j y.0 y.1, listed Domains g j y.0 x y.1 y.2 (holds_known j x at))

  scope_fits : FitScope (kind_of Domains g) (limit_of Domains g) (length g.fields) (scope_in t h held m)
  scope_fits =
      record {
        fields = λ w k s. all_found (Fits Domains g) (known_fields held m.fields.items) [] w k (known_fit Domains g 0 [] held m.fields.items fits_at tt) s;
        literals = λ p w k s. all_found HasLow t.literals p w k l.literals s;
      }

  type_of_scalar : (i : ℕ) (s : KnownScalar) → slice_get held i ≡ Some (holds.Scalar s) → (d : Domain) × (type_of Domains g i ≡ Some d)
  type_of_scalar i s k =
      let y = field_of i (holds.Scalar s) k in
      let d = holds_known i (holds.Scalar s) k in
      (d.domain, type_at Domains g i y.0 (holds.Scalar s) y.1 y.2 ∙ d.is)

  type_of_bytes : (i : ℕ) → slice_get held i ≡ Some holds.Opaque → type_of Domains g i ≡ None
  type_of_bytes i k = let y = field_of i holds.Opaque k in type_at Domains g i y.0 holds.Opaque y.1 y.2

  -- the fields of the text have their types in the message
  pub fields_stand : FieldsStand Domains t h held ls m g
  fields_stand =
      record {
        count = count;
        held_count = held_count;
        scope = scope_fits;
        scalar = type_of_scalar;
        opaque = type_of_bytes;
        overlay = overlay_at;
      }

  -- the fields are elaborated, where they have their sizes and lie over fields of the message
  pub fields_elaborated : ((j y : ℕ) → overlay_in ls j ≡ Some y → y < length g.fields) → (links : List Arrow) (u : Unit {0}) → fields_sized m.low_order held links m.fields.items ≡ Ok u → g.low_order ≡ m.low_order → (i : ℕ) (x : Field) → slice_get g.fields i ≡ Some x → IsElaboratedField Domains g x
  fields_elaborated below links u sized low i x s =
      let at = field_at held ls m.fields.items g.fields i x held_count f s in
      let stands = stands_at (field_sized m.low_order held links) 0 m.fields.items u i i at.tree sized at.text (omega arith) in
      let is_sized : held_sized m.low_order links at.tree.name i (Some at.hold) ≡ Ok tt = ap (λ o. held_sized m.low_order links at.tree.name i o) (sym at.holding) ∙ stands in
      record {
        kind = subst (λ k. IsFieldType Domains g k) at.kind (is_field_type Domains g m.low_order links at.tree.name i at.hold (holds_known i at.hold at.holding) is_sized low);
        overlay = λ y k. below i y (at.overlay ∙ k);
      }
