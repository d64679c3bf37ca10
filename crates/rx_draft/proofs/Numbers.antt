-- The numbers of a proper scalar type are below 2 to its size.
use Rattle.std.proofs.Common.{◌≡◌, ℕ, zero, suc, ◌^◌, ◌<◌, Bool, true, false, List, [], ◌∷◌, length, Option, Some, None, refl, sym, ap, ◌∙◌, subst, arith}
use Rattle.std.specs.Prelude.{slice_index_or, slice_get}
use Rattle.std.specs.List.{AllByRecursion}
use Rattle.rx_types.specs.declared.scalar.FieldType.{FieldType}
use Rattle.rx_types.specs.declared.scalar.FieldType.TheVariants as holds
use Rattle.rx_types.specs.declared.scalar.Literal.{Literal}
use Rattle.rx_types.specs.Domain.{Domain, Integer, Enumeration, IsLiteral, IsNumberOf, IsProper, size_of}
use Rattle.rx_graph.specs.declared.message.Field.{Field}
use Rattle.rx_graph.specs.Elaborated.{IsElaborated, IsFieldType}
use Rattle.rx_graph.specs.Graph.{Graph, scalar_of, type_of}

literal_below : (n : ℕ) (literals : List Literal) (k : ℕ) (d : Literal) → AllByRecursion (λ l. l.number < n) literals → k < length literals → (slice_index_or literals k d).number < n
literal_below n [] k d h lt = absurd (omega (arith, lt))
literal_below n (l ∷ ls) zero d h lt = h.0
literal_below n (l ∷ ls) (suc k) d h lt = literal_below n ls k d h.1 (omega (arith, lt))

of_literals : (literals : List Literal) (size : ℕ) (always_valid : Bool) (n : ℕ) → AllByRecursion (λ l. l.number < 2 ^ size) literals → IsLiteral literals size always_valid n → n < 2 ^ size
of_literals literals size true n all h = h
of_literals literals size false n all h =
    let e = ap (λ l. l.number) h.1.2 in
    let f = h.2 in
    let low = literal_below (2 ^ size) literals h.1.0 h.0 all h.1.1 in
    omega (arith, e, f, low)

pub number_below : (t : Domain) (n : ℕ) → IsProper t → IsNumberOf t n → n < 2 ^ size_of t
number_below (Integer first last size) n proper h = omega (arith, proper.3, h.1)
number_below (Enumeration literals size always_valid) n proper h = of_literals literals size always_valid n proper.2.below h

none_some : (t : Domain) → None ≡ Some t → ⊥
none_some t h = cc

some_same : (a b : Domain) → Some a ≡ Some b → a ≡ b
some_same a b h = cc

proper_kind : (domains : List Domain) (m : Graph) (name : List ℕ) (overlay : Option ℕ) (kind : FieldType) (t : Domain) → IsFieldType domains m kind → scalar_of domains (Some (record { name = name; kind = kind; overlay = overlay })) ≡ Some t → IsProper t
proper_kind domains m name overlay (holds.Scalar id) t h e = subst IsProper (some_same h.0 t (sym h.1 ∙ e)) h.2
proper_kind domains m name overlay holds.Opaque t h e = absurd (none_some t e)
proper_kind domains m name overlay (holds.Sequence id) t h e = absurd (none_some t e)

proper_field : (domains : List Domain) (m : Graph) → IsElaborated domains m → (f : ℕ) (t : Domain) (given : Option Field) → slice_get m.fields f ≡ given → scalar_of domains given ≡ Some t → IsProper t
proper_field domains m el f t None is e = absurd (none_some t e)
proper_field domains m el f t (Some field) is e = proper_kind domains m field.name field.overlay field.kind t (el.fields f field is).kind e

pub proper_type : (domains : List Domain) (m : Graph) → IsElaborated domains m → (f : ℕ) (t : Domain) → type_of domains m f ≡ Some t → IsProper t
proper_type domains m el f t e = proper_field domains m el f t (slice_get m.fields f) refl e
