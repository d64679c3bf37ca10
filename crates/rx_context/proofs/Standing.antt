-- What a plan has of a message for which it stands.
use Rattle.std.proofs.Common.{◌≡◌, ℕ, ◌<◌, Bool, List, Option, Some, None, refl, sym, ap, ◌∙◌, subst, arith}
use Rattle.std.specs.Prelude.{slice_get, pos}
use Rattle.std.proofs.lemmas.Int.{ints}
use Rattle.rx_types.specs.declared.scalar.FieldType.{FieldType}
use Rattle.rx_types.specs.declared.scalar.FieldType.TheVariants as holds
use Rattle.rx_types.specs.Domain.{Domain, Integer, Enumeration, size_of, IsProper}
use Rattle.rx_types.specs.Environment.{Environment}
use Rattle.rx_types.specs.Narrow.{StaysWithin}
use Rattle.rx_types.specs.Tree.{Tree}
use Rattle.rx_graph.specs.declared.message.Node.{Node}
use Rattle.rx_graph.specs.declared.message.Node.TheVariants.{Start, At, Null}
use Rattle.rx_graph.specs.declared.message.Field.{Field}
use Rattle.rx_graph.specs.Graph.{Arrow, Graph, graph_of, type_of, limit_of, scalar_of}
use Rattle.rx_graph.specs.Cycles.{IsLink}
use Rattle.rx_graph.specs.Paths.{size_of_target}
use Rattle.rx_graph.specs.Elaborated.{FitsOrder, IsAspect, IsFieldType, IsTarget, IsElaborated}
use Rattle.rx_context.specs.Plan.{Planned, kept_type, span_at, IsInSpan, StandsFor, IsNarrowIfAny, HasValues}
use Rattle.rx_model.specs.Order.{number_in}
use Rattle.rx_context.specs.Reading.{IsReadable, IsRead, IsRefused}

-- ---- links

pub in_span : (domains : List Domain) (m : Graph) (p : Planned) → StandsFor domains m p → (at : Node) (k : ℕ) (a : Arrow) → IsLink (graph_of p.message) k a → a.source ≡ at → IsInSpan k (span_at p at)
in_span domains m p s at k a is source =
    subst (λ n. IsInSpan k (span_at p n)) source (s.spans k a (subst (λ g. IsLink g k a) s.graph is))

pub narrow_if : (domains : List Domain) (m : Graph) (x : Option Tree) → IsAspect domains m x → IsNarrowIfAny (limit_of domains m) x
narrow_if domains m None h = tt
narrow_if domains m (Some x) h = h.0.narrow

pub has_values : (domains : List Domain) (m : Graph) (p : Planned) (e : Environment) → StandsFor domains m p → StaysWithin (limit_of domains m) e → (i : ℕ) (a : Arrow) → IsLink (graph_of p.message) i a → HasValues a e
has_values domains m p e s w i a is =
    let link = s.elaborated.links i a (subst (λ g. IsLink g i a) s.graph is) in
    (limit_of domains m, record { condition = link.condition.narrow; first = narrow_if domains m a.first link.first; size = narrow_if domains m a.size link.size }, w)

is_null : (domains : List Domain) (m : Graph) (node : Node) → IsTarget domains m node → ((f : ℕ) → node ≡ At f → ⊥) → node ≡ Null
is_null domains m Start h apart = absurd h
is_null domains m (At f) h apart = absurd (apart f refl)
is_null domains m Null h apart = refl

-- a link that leads to no field leads to null
pub leads_to_null : (domains : List Domain) (m : Graph) (p : Planned) → StandsFor domains m p → (i : ℕ) (a : Arrow) → IsLink (graph_of p.message) i a → ((f : ℕ) → a.target ≡ At f → ⊥) → a.target ≡ Null
leads_to_null domains m p s i a is apart =
    is_null domains m a.target (s.elaborated.links i a (subst (λ g. IsLink g i a) s.graph is)).target apart

-- ---- types

none_some : {X : Type 0} (x : X) → None ≡ Some x → ⊥
none_some x h = cc

some_same : {X : Type 0} (x y : X) → Some x ≡ Some y → x ≡ y
some_same x y h = cc

-- a size in bits, and one that the byte order takes
pub record IsOrdered (low : Bool) (size : ℕ) : Type 0 where
  pub some : 0 < size
  pub few : size < 64
  pub order : FitsOrder low size

ordered_size : (t : Domain) (low : Bool) → IsProper t → FitsOrder low (size_of t) → IsOrdered low (size_of t)
ordered_size (Integer first last size) low h o = record { some = h.0; few = h.1; order = o }
ordered_size (Enumeration literals size always_valid) low h o = record { some = h.0; few = h.1; order = o }

ordered_kind : (domains : List Domain) (m : Graph) (name : List ℕ) (overlay : Option ℕ) (kind : FieldType) (t : Domain) → IsFieldType domains m kind → scalar_of domains (Some (record { name = name; kind = kind; overlay = overlay })) ≡ Some t → IsOrdered m.low_order (size_of t)
ordered_kind domains m name overlay (holds.Scalar id) t h e =
    let same : h.0 ≡ t = some_same h.0 t (sym h.1 ∙ e) in
    subst (λ d. IsOrdered m.low_order (size_of d)) same (ordered_size h.0 m.low_order h.2 h.3)
ordered_kind domains m name overlay holds.Opaque t h e = absurd (none_some t e)
ordered_kind domains m name overlay (holds.Sequence id) t h e = absurd (none_some t e)

ordered_field : (domains : List Domain) (m : Graph) → IsElaborated domains m → (f : ℕ) (t : Domain) (given : Option Field) → slice_get m.fields f ≡ given → scalar_of domains given ≡ Some t → IsOrdered m.low_order (size_of t)
ordered_field domains m el f t None is e = absurd (none_some t e)
ordered_field domains m el f t (Some field) is e = ordered_kind domains m field.name field.overlay field.kind t (el.fields f field is).kind e

pub ordered_type : (domains : List Domain) (m : Graph) → IsElaborated domains m → (f : ℕ) (t : Domain) → type_of domains m f ≡ Some t → IsOrdered m.low_order (size_of t)
ordered_type domains m el f t e = ordered_field domains m el f t (slice_get m.fields f) refl e

readable_by : (given : Option Domain) (low : Bool) (link : Arrow) (e : Environment) (size : ℕ) → ((t : Domain) → given ≡ Some t → IsOrdered low (size_of t)) → size_of_target given link e ≡ pos size → IsReadable given low size
readable_by None low link e size h is = tt
readable_by (Some t) low link e size h is =
    let o = h t refl in
    let same : size_of t ≡ size = omega (arith, ints, is) in
    (sym same, subst (λ n. 0 < n) same o.some, subst (λ n. n < 64) same o.few, subst (λ n. FitsOrder low n) same o.order)

-- a field that a link places has the size that is read
pub readable : (domains : List Domain) (m : Graph) (p : Planned) → StandsFor domains m p → (link : Arrow) (e : Environment) (f size : ℕ) → size_of_target (type_of domains m f) link e ≡ pos size → IsReadable (kept_type p f) p.message.low_order size
readable domains m p s link e f size is =
    let low : p.message.low_order ≡ m.low_order = ap (λ (g : Graph). g.low_order) s.graph in
    subst (λ b. IsReadable (kept_type p f) b size) (sym low) (subst (λ o. IsReadable o m.low_order size) (sym (s.types f)) (readable_by (type_of domains m f) m.low_order link e size (ordered_type domains m s.elaborated f) is))

-- what is read by what the plan keeps is read by the message
pub read_as : (domains : List Domain) (m : Graph) (p : Planned) → StandsFor domains m p → (bytes : List ℕ) (f first size n : ℕ) → IsRead (kept_type p f) (number_in p.message.low_order bytes first size) n → IsRead (type_of domains m f) (number_in m.low_order bytes first size) n
read_as domains m p s bytes f first size n h =
    subst (λ (g : Graph). IsRead (type_of domains m f) (number_in g.low_order bytes first size) n) s.graph (subst (λ o. IsRead o (number_in p.message.low_order bytes first size) n) (s.types f) h)

pub refused_as : (domains : List Domain) (m : Graph) (p : Planned) → StandsFor domains m p → (bytes : List ℕ) (f first size : ℕ) → IsRefused (kept_type p f) (number_in p.message.low_order bytes first size) → IsRefused (type_of domains m f) (number_in m.low_order bytes first size)
refused_as domains m p s bytes f first size h =
    subst (λ (g : Graph). IsRefused (type_of domains m f) (number_in g.low_order bytes first size)) s.graph (subst (λ o. IsRefused o (number_in p.message.low_order bytes first size)) (s.types f) h)
