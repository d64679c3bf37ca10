-- A field that is put behind those that were put before.
use Rattle.std.proofs.Common.{◌≡◌, ℕ, ◌+◌, ◌-◌, ◌*◌, ◌/◌, ◌%◌, ◌^◌, ◌<◌, ◌≤◌, Bool, true, List, [], ◌∷◌, ◌++◌, length, take, drop, slice_range, Option, Some, None, IsSome, IsTrue, ◌↔◌, refl, sym, ap, ◌∙◌, subst, inl, inr, arith}
use Rattle.std.specs.Prelude.{ℤ, pos, ◌+ℤ◌, ◌*ℤ◌, ◌≤ℤ◌, nat_abs, slice_get}
use Rattle.std.specs.Int.{int_max}
use Rattle.std.specs.List.{AllByRecursion}
use Rattle.std.proofs.lemmas.Int.{ints, clamps}
use Rattle.std.proofs.lemmas.List.{take-take}
use Rattle.std.proofs.lemmas.Slice.{between_is}
use Rattle.rx_model.specs.Bits.{place_bits, number, ordered}
use Rattle.rx_model.specs.Order.{number_in}
use Rattle.rx_bits.specs.Outside.{SameOutside}
use Rattle.rx_bits.proofs.Places.{same_place}
use Rattle.rx_types.specs.Domain.{Domain, size_of}
use Rattle.rx_types.specs.Environment.{Placed, Environment, in_message, AreDistinct}
use Rattle.rx_graph.specs.declared.message.Node.{Node}
use Rattle.rx_graph.specs.declared.message.Node.TheVariants.{Start, At}
use Rattle.rx_graph.specs.Checks.{IsMultipleOf8, IsNumbered, number_of, covered, size_to}
use Rattle.rx_graph.specs.Fits.{Content, Number, Bytes, content_at, contents_of, by_buffer}
use Rattle.rx_graph.specs.Graph.{Arrow, Graph, type_of, overlay_of}
use Rattle.rx_graph.specs.Paths.{first_of, size_of_target, Leads, IsReadBy}
use Rattle.rx_graph.proofs.Bounded.{few_fields}
use Rattle.rx_graph.proofs.Distinct.{distinct}
use Rattle.rx_graph.proofs.Unique.{leads_on}
use Rattle.rx_context.specs.Plan.{Planned}
use Rattle.rx_context.specs.Reading.{IsRead}
use Rattle.rx_context.proofs.Placing as placing
use Rattle.rx_context.proofs.Standing.{IsOrdered, ordered_type}
use Rattle.rx_draft.specs.Drafts.{Drafted, drafted, StandsForSound, IsUnderway, IsOnPath, IsDraft, end_node}
use Rattle.rx_draft.specs.Puts.{HasValue, HasPut}
use Rattle.rx_draft.specs.Steps.{LiesAt}
use Rattle.rx_draft.proofs.Ends.{end_node-push}
use Rattle.rx_draft.proofs.Settled.{whole}
use Rattle.rx_draft.proofs.Taking.{some_domain}

-- over another field nothing changes; else the bits of the place alone
abbrev pub Change : Option ℕ → ℕ → ℕ → List ℕ → List ℕ → Type 0
Change (Some x) first size old new = new ≡ old
Change None first size old new = SameOutside first size old new × (take (first / 8) new ≡ take (first / 8) old)

pub change_by : (o : Option ℕ) (over : Bool) → (IsTrue over ↔ IsSome o) → (first size : ℕ) (old new : List ℕ) → (IsTrue over → new ≡ old) → SameOutside first size old new → take (first / 8) new ≡ take (first / 8) old → Change o first size old new
change_by (Some x) over is first size old new same others before = same (is.1 refl)
change_by None over is first size old new same others before = (others, before)

all_append : (P : Placed → Type 0) (xs : List Placed) (y : Placed) → AllByRecursion P xs → P y → AllByRecursion P (xs ++ y ∷ [])
all_append P [] y h k = (k, tt)
all_append P (x ∷ xs) y h k = (h.0, all_append P xs y h.1 k)

-- ---- places that lie before a place

pub record LiesBefore (first : ℤ) (p : Placed) : Type 0 where
  pub begins : pos 0 ≤ℤ p.first
  pub long : pos 0 ≤ℤ p.size
  pub ends : (p.first +ℤ p.size) ≤ℤ first

-- the fields of a path end where the next field begins, or before
covers : (ps : List Placed) (c : ℤ) → covered ps ≤ℤ c → AllByRecursion (λ p. (p.first +ℤ p.size) ≤ℤ c) ps
covers [] c h = tt
covers (p ∷ ps) c h = (omega (arith, ints, clamps), covers ps c (omega (arith, ints, clamps)))

module _ (domains : List Domain) (m : Graph) where
  lies : (total : ℕ) (first : ℤ) (before : List Placed) (at : Node) (path : List ℕ) (fields : List Placed) (end : Node) → Leads domains m total before at path fields end → AllByRecursion (λ p. (p.first +ℤ p.size) ≤ℤ first) fields → AllByRecursion (LiesBefore first) fields
  lies total first before at [] [] end h k = tt
  lies total first before at [] (p ∷ fields) end h k = absurd h
  lies total first before at (i ∷ path) [] end h k = absurd h
  lies total first before at (i ∷ path) (p ∷ fields) end h k =
      (record { begins = h.3.within.begins; long = h.3.within.long; ends = k.0 }, lies total first (before ++ p ∷ []) (At p.field) path fields end h.4 k.1)

  -- the fields of a path lie within the message
  pub lie : (total : ℕ) (before : List Placed) (at : Node) (path : List ℕ) (fields : List Placed) (end : Node) → Leads domains m total before at path fields end → AllByRecursion (LiesBefore (pos (total * 8))) fields
  lie total before at [] [] end h = tt
  lie total before at [] (p ∷ fields) end h = absurd h
  lie total before at (i ∷ path) [] end h = absurd h
  lie total before at (i ∷ path) (p ∷ fields) end h =
      (record { begins = h.3.within.begins; long = h.3.within.long; ends = h.3.within.ends }, lie total (before ++ p ∷ []) (At p.field) path fields end h.4)

  module _ (old new : List ℕ) (first size : ℕ) (long : length new ≡ length old) (inside : first + size ≤ 8 * length old) (others : SameOutside first size old new) (front : take (first / 8) new ≡ take (first / 8) old) where
    number_stays : (p : Placed) → LiesBefore (pos first) p → number_in m.low_order new (nat_abs p.first) (nat_abs p.size) ≡ number_in m.low_order old (nat_abs p.first) (nat_abs p.size)
    number_stays p b =
        let f = whole p.first b.begins in
        let s = whole p.size b.long in
        let e : nat_abs p.first + nat_abs p.size ≤ first = let ends = b.ends in omega (arith, ints) in
        ap (λ l. number (ordered m.low_order l)) (same_place new old (nat_abs p.first) (nat_abs p.size) (omega (arith, e, inside, long)) (omega (arith, e, inside)) (λ i low high. others i (inl (omega (arith, low, high, e)))))

    range_stays : (a b : ℕ) → b ≤ first / 8 → slice_range new a b ≡ slice_range old a b
    range_stays a b h =
        between_is new a b ∙ ap (drop a) (sym (take-take b (first / 8) new h) ∙ ap (take b) front ∙ take-take b (first / 8) old h) ∙ sym (between_is old a b)

    content_stays : (t : Option Domain) (p : Placed) → LiesBefore (pos first) p → content_at m.low_order t new p ≡ content_at m.low_order t old p
    content_stays (Some t) p b = ap Number (number_stays p b)
    content_stays None p b =
        let f = whole p.first b.begins in
        let s = whole p.size b.long in
        let z = whole (p.first +ℤ p.size) (omega (arith, ints, b.begins, b.long)) in
        let e : nat_abs (p.first +ℤ p.size) ≤ first = let ends = b.ends in omega (arith, ints) in
        ap Bytes (range_stays (nat_abs p.first / 8) (nat_abs (p.first +ℤ p.size) / 8) (omega (arith, e)))

    reads_stay : (ps : List Placed) → AllByRecursion (LiesBefore (pos first)) ps → AllByRecursion (IsReadBy domains m (by_buffer m.low_order old)) ps → AllByRecursion (IsReadBy domains m (by_buffer m.low_order new)) ps
    reads_stay [] b r = tt
    reads_stay (p ∷ ps) b r = (λ t is. r.0 t is ∙ sym (number_stays p b.0), reads_stay ps b.1 r.1)

    contents_stay : (ps : List Placed) → AllByRecursion (LiesBefore (pos first)) ps → contents_of domains m new ps ≡ contents_of domains m old ps
    contents_stay [] b = refl
    contents_stay (q ∷ ps) b =
        ap (λ x. record { field = q.field; content = x } ∷ contents_of domains m new ps) (content_stays (type_of domains m q.field) q b.0)
        ∙ ap (λ l. record { field = q.field; content = content_at m.low_order (type_of domains m q.field) old q } ∷ l) (contents_stay ps b.1)

  contents_append : (bytes : List ℕ) (ps : List Placed) (p : Placed) → contents_of domains m bytes (ps ++ p ∷ []) ≡ contents_of domains m bytes ps ++ record { field = p.field; content = content_at m.low_order (type_of domains m p.field) bytes p } ∷ []
  contents_append bytes [] p = refl
  contents_append bytes (q ∷ ps) p = ap (λ l. record { field = q.field; content = content_at m.low_order (type_of domains m q.field) bytes q } ∷ l) (contents_append bytes ps p)

-- ---- one field more

abbrev pub at_place : ℕ → ℕ → ℕ → ℕ → Placed
at_place f first size number = record { field = f; first = pos first; size = pos size; number = number }

-- the content was written at the place of the next field
pub record IsWritten (domains : List Domain) (m : Graph) (old new : List ℕ) (e : Environment) (f first size number : ℕ) (c : Content) : Type 0 where
  pub at : LiesAt domains m e f first size
  pub change : Change (overlay_of (slice_get m.fields f)) first size old new
  pub others : SameOutside first size old new
  pub read : IsRead (type_of domains m f) (number_in m.low_order new first size) number
  pub content : content_at m.low_order (type_of domains m f) new (at_place f first size number) ≡ c

abbrev pub more : Environment → ℕ → ℕ → ℕ → ℕ → Environment
more e f first size number = in_message e.total (e.fields ++ at_place f first size number ∷ [])

aligned : (n : ℕ) → IsMultipleOf8 (pos n) → n % 8 ≡ 0
aligned n h = let k = h.0 in let g = h.1 in omega (arith, ints)

module _ (p : Planned) (old : List ℕ) (e : Environment) (d : IsDraft (drafted old p e)) (domains : List Domain) (m : Graph) (s : StandsForSound domains m p) where
  on : IsOnPath domains m e
  on = d.underway.on domains m s

  pub few : length e.fields ≤ 128
  few = few_fields domains m s.stands.elaborated e.total on.0 e.fields (end_node e.fields) on.1.leads

  -- the size of a scalar that is the next
  pub has_order : (f first size : ℕ) → LiesAt domains m e f first size → (t : Domain) → type_of domains m f ≡ Some t → (size ≡ size_of t) × IsOrdered m.low_order size
  has_order f first size l t typed =
      let same : size_to domains m l.0 e f ≡ pos (size_of t) = ap (λ o. size_of_target o l.0 e) typed in
      let is : size ≡ size_of t = let a = l.3 in omega (arith, ints, a, same) in
      (is, subst (IsOrdered m.low_order) (sym is) (ordered_type domains m s.stands.elaborated f t typed))

  -- a field of bytes begins and ends on whole bytes
  pub on_bytes : (f first size : ℕ) → LiesAt domains m e f first size → type_of domains m f ≡ None → (first % 8 ≡ 0) × (size % 8 ≡ 0)
  on_bytes f first size l none =
      let t = l.1 in
      let numbered : IsNumbered m (end_node e.fields) (number_of m.links (end_node e.fields) t.index) t.index l.0 = record { is = t.is; source = t.source; number = refl } in
      let grid = s.stands.grid (end_node e.fields) (number_of m.links (end_node e.fields) t.index) e.total on.0 e.fields t.index l.0 on.1 numbered t.taken f t.target none in
      (aligned first (subst IsMultipleOf8 l.2 grid.0), aligned size (subst IsMultipleOf8 l.3 grid.1))

  module _ (new : List ℕ) (long : length new ≡ length old) (f first size number : ℕ) (c : Content) (w : IsWritten domains m old new e f first size number c) where
    abbrev link : Arrow
    link = w.at.0

    inside : first + size ≤ 8 * length old
    inside = let a = w.at.4 in omega (arith, a, d.room)

    all_before : overlay_of (slice_get m.fields f) ≡ None → AllByRecursion (LiesBefore (pos first)) e.fields
    all_before alone =
        let t = w.at.1 in
        let numbered : IsNumbered m (end_node e.fields) (number_of m.links (end_node e.fields) t.index) t.index link = record { is = t.is; source = t.source; number = refl } in
        let begins : first_of link e ≡ covered e.fields = (s.holds.cover (end_node e.fields) (number_of m.links (end_node e.fields) t.index) e.total on.0 e.fields t.index link on.1 numbered t.taken).0 f t.target alone in
        let here : pos first ≡ covered e.fields = sym w.at.2 ∙ begins in
        lies domains m e.total (pos first) [] Start on.0 e.fields (end_node e.fields) on.1.leads (covers e.fields (pos first) (omega (arith, ints, here)))

    read_by : (o : Option ℕ) → overlay_of (slice_get m.fields f) ≡ o → Change o first size old new → AllByRecursion (IsReadBy domains m (by_buffer m.low_order new)) e.fields
    read_by (Some x) is same = subst (λ b. AllByRecursion (IsReadBy domains m (by_buffer m.low_order b)) e.fields) (sym same) (d.reads domains m s)
    read_by None is h = reads_stay domains m old new first size long inside h.0 h.1 e.fields (all_before is) (d.reads domains m s)

    held_by : (o : Option ℕ) → overlay_of (slice_get m.fields f) ≡ o → Change o first size old new → contents_of domains m new e.fields ≡ contents_of domains m old e.fields
    held_by (Some x) is same = ap (λ b. contents_of domains m b e.fields) same
    held_by None is h = contents_stay domains m old new first size long inside h.0 h.1 e.fields (all_before is)

    are_read : AllByRecursion (IsReadBy domains m (by_buffer m.low_order new)) e.fields
    are_read = read_by (overlay_of (slice_get m.fields f)) refl w.change

    pub goes_on : IsOnPath domains m (more e f first size number)
    goes_on =
        let t = w.at.1 in
        let places = placing.places domains m new e (end_node e.fields) f link t first size w.at.2 w.at.3 w.at.4 s.stands.elaborated are_read number w.read in
        let step : Leads domains m e.total e.fields (end_node e.fields) (t.index ∷ []) (at_place f first size number ∷ []) (At f) = (link, t.is, t.source, places, refl) in
        let leads = leads_on domains m e.total [] Start on.0 e.fields (end_node e.fields) (t.index ∷ []) (at_place f first size number ∷ []) (At f) on.1.leads step in (
          on.0 ++ t.index ∷ [],
          record {
            short = on.1.short;
            leads = subst (λ n. Leads domains m e.total [] Start (on.0 ++ t.index ∷ []) (e.fields ++ at_place f first size number ∷ []) n) (sym (end_node-push e.fields (at_place f first size number))) leads;
          },
        )

    pub reads_on : AllByRecursion (IsReadBy domains m (by_buffer m.low_order new)) (more e f first size number).fields
    reads_on =
        let t = w.at.1 in
        all_append (IsReadBy domains m (by_buffer m.low_order new)) e.fields (at_place f first size number) are_read (placing.is_read domains m new e (end_node e.fields) f link t first size w.at.2 w.at.3 w.at.4 number w.read)

    pub distinct_more : AreDistinct (more e f first size number).fields
    distinct_more = distinct domains m e.total s.stands.elaborated.acyclic [] Start goes_on.0 (more e f first size number).fields (end_node (more e f first size number).fields) goes_on.1.leads

    pub has_put : HasPut domains m (drafted old p e) (drafted new p (more e f first size number)) f c
    has_put =
        record {
          place = at_place f first size number;
          field = refl;
          fields = refl;
          others = w.others;
          values = contents_append domains m new e.fields (at_place f first size number) ∙ ap (λ l. l ++ record { field = f; content = content_at m.low_order (type_of domains m f) new (at_place f first size number) } ∷ []) (held_by (overlay_of (slice_get m.fields f)) refl w.change)
              ∙ ap (λ x. contents_of domains m old e.fields ++ record { field = f; content = x } ∷ []) w.content;
        }

-- a draft with one field more
pub draft_more :
    (p : Planned) (old new : List ℕ) (e : Environment) (f first size number : ℕ) (c : Content) → IsDraft (drafted old p e) → length new ≡ length old
    → ((domains : List Domain) (m : Graph) → StandsForSound domains m p → IsWritten domains m old new e f first size number c) → IsDraft (drafted new p (more e f first size number))
draft_more p old new e f first size number c d long w =
    record {
      underway = record { plan = d.underway.plan; on = λ domains m s. goes_on p old e d domains m s new long f first size number c (w domains m s) };
      room = let r = d.room in omega (arith, r, long);
      reads = λ domains m s. reads_on p old e d domains m s new long f first size number c (w domains m s);
    }

-- ---- what is written

scalar_content : (low : Bool) (o : Option Domain) (t : Domain) (bytes : List ℕ) (f first size n : ℕ) → o ≡ Some t → number_in low bytes first size ≡ n → content_at low o bytes (at_place f first size n) ≡ Number n
scalar_content low o t bytes f first size n typed same = ap (λ k. content_at low k bytes (at_place f first size n)) typed ∙ ap Number same

pub number_written :
    (domains : List Domain) (m : Graph) (old new : List ℕ) (e : Environment) (f first size n : ℕ) (over low : Bool) → LiesAt domains m e f first size → IsSome (type_of domains m f) → HasValue domains m e f (Number n) → IsTrue over ↔ IsSome (overlay_of (slice_get m.fields f))
    → (IsTrue over → new ≡ old) → low ≡ m.low_order → number_in low new first size ≡ n → SameOutside first size old new → take (first / 8) new ≡ take (first / 8) old → IsWritten domains m old new e f first size n (Number n)
number_written domains m old new e f first size n over low l scalar value is same order here others before =
    let t = some_domain (type_of domains m f) scalar in
    let there : number_in m.low_order new first size ≡ n = ap (λ b. number_in b new first size) (sym order) ∙ here in
    record {
      at = l;
      change = change_by (overlay_of (slice_get m.fields f)) over is first size old new same others before;
      others = others;
      read = subst (λ k. IsRead k (number_in m.low_order new first size) n) (sym t.1) (sym there, value t.0 n t.1 refl);
      content = scalar_content m.low_order (type_of domains m f) t.0 new f first size n t.1 there;
    }

pub bytes_written :
    (p : Planned) (old new : List ℕ) (e : Environment) (d : IsDraft (drafted old p e)) (domains : List Domain) (m : Graph) (s : StandsForSound domains m p) (f first size : ℕ) (b : List ℕ) (over : Bool) → (l : LiesAt domains m e f first size) → type_of domains m f ≡ None → size ≡ 8 * length b
    → IsTrue over ↔ IsSome (overlay_of (slice_get m.fields f)) → (IsTrue over → new ≡ old) → slice_range new (first / 8) (first / 8 + length b) ≡ b → SameOutside (8 * (first / 8)) (8 * length b) old new → take (first / 8) new ≡ take (first / 8) old
    → IsWritten domains m old new e f first size 0 (Bytes b)
bytes_written p old new e d domains m s f first size b over l none long is same here others before =
    let fits = on_bytes p old e d domains m s f first size l none in
    let begin : 8 * (first / 8) ≡ first = let g = fits.0 in omega (arith, g) in
    let end : (first + size) / 8 ≡ first / 8 + length b = let g = fits.0 in omega (arith, g, long) in
    let out : SameOutside first size old new = subst (λ k. SameOutside first k old new) (sym long) (subst (λ k. SameOutside k (8 * length b) old new) begin others) in
    record {
      at = l;
      change = change_by (overlay_of (slice_get m.fields f)) over is first size old new same out before;
      others = out;
      read = subst (λ k. IsRead k (number_in m.low_order new first size) 0) (sym none) refl;
      content = ap (λ k. content_at m.low_order k new (at_place f first size 0)) none ∙ ap (λ k. Bytes (slice_range new (first / 8) k)) end ∙ ap Bytes here;
    }
