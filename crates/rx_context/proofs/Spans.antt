-- What is kept of a message: where its links stand, and the types of its fields.
use Rattle.std.proofs.Common.{◌≡◌, ℕ, zero, suc, ◌+◌, ◌<◌, ◌≤◌, List, [], ◌∷◌, ◌++◌, length, get_or, Option, Some, refl, sym, ap, ◌∙◌, subst, inl, inr, arith}
use Rattle.std.specs.Prelude.{slice_get}
use Rattle.std.proofs.lemmas.Bool.{cases_lt}
use Rattle.std.proofs.lemmas.Option.{slice_get_past}
use Rattle.rx_types.specs.declared.scalar.ScalarType.{ScalarType}
use Rattle.rx_types.specs.Domain.{Domain}
use Rattle.rx_graph.specs.declared.message.Field.{Field}
use Rattle.rx_graph.specs.declared.message.Link.{Link}
use Rattle.rx_graph.specs.declared.message.Node.{Node}
use Rattle.rx_graph.specs.declared.message.Node.TheVariants.{Start, At, Null}
use Rattle.rx_graph.specs.Elaborated.{IsSource, IsElaborated}
use Rattle.rx_graph.specs.Graph.{Arrow, Graph, arrows, graph_of, scalar_of, type_of}
use Rattle.rx_context.specs.declared.kept.Span.{Span}
use Rattle.rx_context.specs.Plan.{Planned, domain_if_any, kind_if_any, KeepsTypes, span_or_none, slot_of, IsInSpan, IsSpanOf, AreSpans, MayBePlanned, StandsFor}
use Rattle.rx_context.proofs.Arrows.{same_arrow, arrow_within}

-- ---- one element more

pub get-front : {X : Type 0} (xs : List X) (y : X) (k : ℕ) → k < length xs → slice_get (xs ++ y ∷ []) k ≡ slice_get xs k
get-front [] y k h = absurd (omega (arith, h))
get-front (x ∷ xs) y zero h = refl
get-front (x ∷ xs) y (suc k) h = get-front xs y k (omega (arith, h))

pub get-last : {X : Type 0} (xs : List X) (y : X) (k : ℕ) → k ≡ length xs → slice_get (xs ++ y ∷ []) k ≡ Some y
get-last [] y zero h = refl
get-last [] y (suc k) h = absurd (omega (arith, h))
get-last (x ∷ xs) y zero h = absurd (omega (arith, h))
get-last (x ∷ xs) y (suc k) h = get-last xs y k (omega (arith, h))

-- ---- the span of a node

-- the first n links of the node stand in the span
pub record AreIn (links : List Arrow) (node : Node) (n : ℕ) (span : Span) : Type 0 where
  pub all : (k : ℕ) (link : Arrow) → k < n → slice_get links k ≡ Some link → link.source ≡ node → IsInSpan k span
  pub from : span.from ≤ n
  pub end : span.end ≤ n
  pub none : span.end ≡ 0 → (k : ℕ) (link : Arrow) → k < n → slice_get links k ≡ Some link → link.source ≡ node → ⊥

module _ (links : List Link) (node : Node) (i : ℕ) (link : Link) (is : link ≡ get_or links i link) (span : Span) (in_front : AreIn (arrows links) node i span) where
  last_source : (k : ℕ) (a : Arrow) → k ≡ i → slice_get (arrows links) k ≡ Some a → a.source ≡ node → link.source ≡ node
  last_source k a e at source =
      ap (λ (x : Arrow). x.source) (same_arrow links i link a is (subst (λ n. slice_get (arrows links) n ≡ Some a) e at)) ∙ source

  pub skips : (link.source ≡ node → ⊥) → AreIn (arrows links) node (i + 1) span
  skips apart =
      record {
        all = λ k a lt at source. elim (cases_lt k i) [ inl l ↦ in_front.all k a l at source | inr l ↦ absurd (apart (last_source k a (omega (arith, lt, l)) at source)) ];
        from = omega (arith, in_front.from);
        end = omega (arith, in_front.end);
        none = λ empty k a lt at source. elim (cases_lt k i) [ inl l ↦ in_front.none empty k a l at source | inr l ↦ apart (last_source k a (omega (arith, lt, l)) at source) ];
      }

  abbrev from_to : ℕ → Span
  from_to first = record { from = first; end = i + 1 }

  starts : span.end ≡ 0 → AreIn (arrows links) node (i + 1) (from_to i)
  starts empty =
      record {
        all = λ k a lt at source. elim (cases_lt k i) [ inl l ↦ absurd (in_front.none empty k a l at source) | inr l ↦ record { from = l; before = lt } ];
        from = omega arith;
        end = omega arith;
        none = λ h. absurd (omega (arith, h));
      }

  goes_on : 0 < span.end → AreIn (arrows links) node (i + 1) (from_to span.from)
  goes_on some =
      record {
        all = λ k a lt at source. elim (cases_lt k i) [ inl l ↦ record { from = (in_front.all k a l at source).from; before = lt } | inr l ↦ record { from = omega (arith, l, in_front.from); before = lt } ];
        from = omega (arith, in_front.from);
        end = omega arith;
        none = λ h. absurd (omega (arith, h));
      }

  widens_by : (end : ℕ) (new : Span) → span.end ≡ end → (span.end ≡ 0 → new ≡ from_to i) → (0 < span.end → new ≡ from_to span.from) → AreIn (arrows links) node (i + 1) new
  widens_by zero new e first more = subst (λ s. AreIn (arrows links) node (i + 1) s) (sym (first e)) (starts e)
  widens_by (suc n) new e first more =
      let some : 0 < span.end = omega (arith, e) in
      subst (λ s. AreIn (arrows links) node (i + 1) s) (sym (more some)) (goes_on some)

  pub widens : (new : Span) → (span.end ≡ 0 → new ≡ from_to i) → (0 < span.end → new ≡ from_to span.from) → AreIn (arrows links) node (i + 1) new
  widens new first more = widens_by span.end new refl first more

pub are_in_all : (links : List Link) (node : Node) (n : ℕ) (span : Span) → length links ≤ n → AreIn (arrows links) node n span → IsSpanOf (arrows links) node span
are_in_all links node n span le h i link is source =
    let lt = arrow_within links i link is in
    h.all i link (omega (arith, le, lt)) is source

-- ---- the spans of all nodes

pub span_kept : (links : List Arrow) (node : Node) (spans : List Span) (span : Span) (k : ℕ) → k < length spans → IsSpanOf links node (span_or_none (slice_get spans k)) → IsSpanOf links node (span_or_none (slice_get (spans ++ span ∷ []) k))
span_kept links node spans span k lt h =
    subst (λ o. IsSpanOf links node (span_or_none o)) (sym (get-front spans span k lt)) h

pub span_added : (links : List Arrow) (node : Node) (spans : List Span) (span : Span) (k : ℕ) → k ≡ length spans → IsSpanOf links node span → IsSpanOf links node (span_or_none (slice_get (spans ++ span ∷ []) k))
span_added links node spans span k e h =
    subst (λ o. IsSpanOf links node (span_or_none o)) (sym (get-last spans span k e)) h

pub span_more : (links : List Arrow) (spans : List Span) (span : Span) (i : ℕ) → length spans ≡ i + 1 → IsSpanOf links (At i) span → ((f : ℕ) → f < i → IsSpanOf links (At f) (span_or_none (slice_get spans (f + 1)))) → (f : ℕ) → f < i + 1 → IsSpanOf links (At f) (span_or_none (slice_get (spans ++ span ∷ []) (f + 1)))
span_more links spans span i count new h f lt =
    elim (cases_lt f i) [
      | inl l ↦ span_kept links (At f) spans span (f + 1) (omega (arith, count, l)) (h f l)
      | inr l ↦ (let e : f ≡ i = omega (arith, lt, l) in span_added links (At f) spans span (f + 1) (omega (arith, count, e)) (subst (λ n. IsSpanOf links (At n) span) (sym e) new))
    ]

by_source : (domains : List Domain) (m : Graph) (spans : List Span) (n : ℕ) → length m.fields ≤ n → IsSpanOf m.links Start (span_or_none (slice_get spans 0)) → ((f : ℕ) → f < n → IsSpanOf m.links (At f) (span_or_none (slice_get spans (f + 1)))) → (node : Node) → IsSource domains m node → IsSpanOf m.links node (span_or_none (slice_get spans (slot_of node)))
by_source domains m spans n le start fields Start h = start
by_source domains m spans n le start fields (At f) h = fields f (omega (arith, h, le))
by_source domains m spans n le start fields Null h = absurd h

pub are_spans : (domains : List Domain) (m : Graph) (spans : List Span) (n : ℕ) → IsElaborated domains m → length m.fields ≤ n → IsSpanOf m.links Start (span_or_none (slice_get spans 0)) → ((f : ℕ) → f < n → IsSpanOf m.links (At f) (span_or_none (slice_get spans (f + 1)))) → AreSpans m.links spans
are_spans domains m spans n el le start fields i link is =
    by_source domains m spans n le start fields link.source (el.links i link is).source i link is refl

-- ---- the types of the fields

pub kinds_more : (domains : List Domain) (m : Graph) (kinds : List (Option ScalarType)) (kind : Option ScalarType) (field : Field) (i : ℕ) → length kinds ≡ i → slice_get m.fields i ≡ Some field → domain_if_any kind ≡ scalar_of domains (Some field) → ((f : ℕ) → f < i → kind_if_any (slice_get kinds f) ≡ type_of domains m f) → (f : ℕ) → f < i + 1 → kind_if_any (slice_get (kinds ++ kind ∷ []) f) ≡ type_of domains m f
kinds_more domains m kinds kind field i count is typed h f lt =
    elim (cases_lt f i) [
      | inl l ↦ ap kind_if_any (get-front kinds kind f (omega (arith, count, l))) ∙ h f l
      | inr l ↦ (let e : f ≡ i = omega (arith, lt, l) in
          ap kind_if_any (get-last kinds kind f (omega (arith, count, e))) ∙ typed ∙ ap (scalar_of domains) (sym (ap (λ n. slice_get m.fields n) e ∙ is)))
    ]

pub kinds_all : (domains : List Domain) (m : Graph) (kinds : List (Option ScalarType)) (i : ℕ) → length kinds ≡ i → length m.fields ≤ i → ((f : ℕ) → f < i → kind_if_any (slice_get kinds f) ≡ type_of domains m f) → KeepsTypes domains m kinds
kinds_all domains m kinds i count le h f =
    elim (cases_lt f i) [
      | inl l ↦ h f l
      | inr l ↦ ap kind_if_any (slice_get_past kinds f (omega (arith, count, l))) ∙ ap (scalar_of domains) (sym (slice_get_past m.fields f (omega (arith, le, l))))
    ]

-- ---- the plan

pub stands_for : (domains : List Domain) (m : Graph) (p : Planned) → MayBePlanned domains m → graph_of p.message ≡ m → KeepsTypes domains m p.kinds → AreSpans m.links p.spans → StandsFor domains m p
stands_for domains m p may graph types spans =
    record { elaborated = may.elaborated; exclusive = may.exclusive; grid = may.grid; overlays = may.overlays; graph = graph; types = types; spans = spans }
