-- A draft that is done reads as what was put.
use Rattle.std.proofs.Common.{◌≡◌, ℕ, ◌+◌, ◌-◌, ◌*◌, ◌/◌, ◌%◌, ◌^◌, ◌<◌, ◌≤◌, ◌↔◌, Bool, true, false, List, [], ◌∷◌, ◌++◌, length, take, drop, length-take-le, length-drop, append_assoc, append-nil, Option, Some, None, IsSome, refl, sym, ap, ◌∙◌, subst, inl, inr, arith}
use Rattle.std.specs.Prelude.{ℤ, pos, ◌+ℤ◌, nat_abs, slice_get, slice_range, if◌then◌else◌, ◌==◌}
use Rattle.std.specs.List.{AllByRecursion, IsDistinct}
use Rattle.std.proofs.lemmas.Int.{ints}
use Rattle.std.proofs.lemmas.Bool.Decides.{Decides-eqb}
use Rattle.std.proofs.lemmas.List.{take-take, get_or-take}
use Rattle.std.proofs.lemmas.Slice.{between_is}
use Rattle.rx_model.specs.Bits.{place_bits, number, ordered}
use Rattle.rx_model.specs.Order.{number_in}
use Rattle.rx_bits.proofs.Places.{same_place}
use Rattle.rx_types.specs.Domain.{Domain}
use Rattle.rx_types.specs.Environment.{Placed, place_of, IsAmong, fields_of, AreDistinct}
use Rattle.rx_graph.specs.declared.message.Node.TheVariants.{Start}
use Rattle.rx_graph.specs.Checks.{IsMultipleOf8}
use Rattle.rx_graph.specs.Fits.{Content, Number, Bytes, Assigned, content_of, content_at, content_bits, contents_of, by_buffer, IsContent, Agrees, AllAgree, Fits, Reads, ReadsAs}
use Rattle.rx_graph.specs.Graph.{Graph, type_of, overlay_of}
use Rattle.rx_graph.specs.Paths.{IsWhole, IsReadBy}
use Rattle.rx_graph.proofs.Distinct.{distinct}
use Rattle.rx_context.proofs.Within.{field_of_place}
use Rattle.rx_draft.specs.Drafts.{Drafted, StandsForSound, IsDraft, IsOnPath, end_node, environment_of}
use Rattle.rx_draft.specs.Puts.{IsDone}
use Rattle.rx_draft.proofs.Overlays.{content_among, settled_at}
use Rattle.rx_draft.proofs.Settled.{whole, Settled, AllSettled, settled, bits_at}

clash : true ≡ false → ⊥
clash e = cc

some_content : (a b : Content) → Some a ≡ Some b → a ≡ b
some_content a b e = cc

-- ---- the first bytes of a buffer

place_front : (bytes : List ℕ) (total first n : ℕ) → total ≤ length bytes → first + n ≤ total * 8 → place_bits first n (take total bytes) ≡ place_bits first n bytes
place_front bytes total first n room h =
    let long : length (take total bytes) ≡ total = length-take-le total bytes room in
    same_place (take total bytes) bytes first n (omega (arith, h, long)) (omega (arith, h, room)) (λ i low high. ap (λ b. b / 2 ^ (7 - i % 8) % 2) (get_or-take total bytes (i / 8) 0 (omega (arith, h, high))))

range_front : (bytes : List ℕ) (total a b : ℕ) → b ≤ total → slice_range (take total bytes) a b ≡ slice_range bytes a b
range_front bytes total a b h = between_is (take total bytes) a b ∙ ap (drop a) (take-take b total bytes h) ∙ sym (between_is bytes a b)

module _ (domains : List Domain) (m : Graph) (bytes : List ℕ) (total : ℕ) (room : total ≤ length bytes) where
  number_front : (before : List Placed) (p : Placed) → Settled domains m total before p → number_in m.low_order (take total bytes) (nat_abs p.first) (nat_abs p.size) ≡ number_in m.low_order bytes (nat_abs p.first) (nat_abs p.size)
  number_front before p s =
      let f = whole p.first s.begins in
      let z = whole p.size s.long in
      let e : nat_abs p.first + nat_abs p.size ≤ total * 8 = let ends = s.ends in omega (arith, ints) in
      ap (λ l. number (ordered m.low_order l)) (place_front bytes total (nat_abs p.first) (nat_abs p.size) room e)

  content_front : (before : List Placed) (p : Placed) (t : Option Domain) → Settled domains m total before p → content_at m.low_order t (take total bytes) p ≡ content_at m.low_order t bytes p
  content_front before p (Some t) s = ap Number (number_front before p s)
  content_front before p None s =
      let z = whole (p.first +ℤ p.size) (let a = s.begins in let b = s.long in omega (arith, ints)) in
      let e : nat_abs (p.first +ℤ p.size) ≤ total * 8 = let ends = s.ends in omega (arith, ints) in
      ap Bytes (range_front bytes total (nat_abs p.first / 8) (nat_abs (p.first +ℤ p.size) / 8) (omega (arith, e)))

  reads_front : (before ps : List Placed) → AllSettled domains m total before ps → AllByRecursion (IsReadBy domains m (by_buffer m.low_order bytes)) ps → AllByRecursion (IsReadBy domains m (by_buffer m.low_order (take total bytes))) ps
  reads_front before [] s r = tt
  reads_front before (p ∷ ps) s r = (λ t is. r.0 t is ∙ sym (number_front before p s.0), reads_front (before ++ p ∷ []) ps s.1 r.1)

  -- ---- a valuation that gives each field what stands at its place

  abbrev pub Holds : List Assigned → Placed → Type 0
  Holds values p = content_of p.field values ≡ Some (content_at m.low_order (type_of domains m p.field) bytes p)

  holds_front : (values : List Assigned) (before ps : List Placed) → AllSettled domains m total before ps → AllByRecursion (Holds values) ps → AllByRecursion (λ p. content_of p.field values ≡ Some (content_at m.low_order (type_of domains m p.field) (take total bytes) p)) ps
  holds_front values before [] s h = tt
  holds_front values before (p ∷ ps) s h = (h.0 ∙ ap Some (sym (content_front before p (type_of domains m p.field) s.0)), holds_front values (before ++ p ∷ []) ps s.1 h.1)

  holds_if : (values : List Assigned) (b : Bool) (q : Placed) (x : ℕ) (ps : List Placed) → (b ≡ true → q.field ≡ x) → Holds values q → (b ≡ false → content_of x values ≡ Some (content_at m.low_order (type_of domains m x) bytes (place_of x ps))) → content_of x values ≡ Some (content_at m.low_order (type_of domains m x) bytes (if b then q else place_of x ps))
  holds_if values true q x ps same h rest = subst (λ f. content_of f values ≡ Some (content_at m.low_order (type_of domains m f) bytes q)) (same refl) h
  holds_if values false q x ps same h rest = rest refl

  rest_of : (b : Bool) (q : Placed) (x : ℕ) (ps : List Placed) → (q.field ≡ x → b ≡ true) → b ≡ false → IsAmong x (q ∷ ps) → IsAmong x ps
  rest_of b q x ps back is (inl e) = absurd (clash (sym (back e) ∙ is))
  rest_of b q x ps back is (inr k) = k

  pub holds_at : (values : List Assigned) (x : ℕ) (ps : List Placed) → AllByRecursion (Holds values) ps → IsAmong x ps → content_of x values ≡ Some (content_at m.low_order (type_of domains m x) bytes (place_of x ps))
  holds_at values x [] h among = absurd among
  holds_at values x (q ∷ ps) h among =
      holds_if values (q.field == x) q x ps (Decides-eqb q.field x).0 h.0 (λ is. holds_at values x ps h.1 (rest_of (q.field == x) q x ps (Decides-eqb q.field x).1 is among))

  -- ---- its bytes are as long as their fields

  part_long : (a e : ℕ) → e ≤ length bytes → length (slice_range bytes a e) ≡ e - a
  part_long a e h = ap length (between_is bytes a e) ∙ length-drop a (take e bytes) ∙ ap (λ n. n - a) (length-take-le e bytes h)

  aligned : (n : ℕ) → IsMultipleOf8 (pos n) → n % 8 ≡ 0
  aligned n h = let k = h.0 in let e = h.1 in omega (arith, ints)

  given_at : (before : List Placed) (p : Placed) (t : Option Domain) → type_of domains m p.field ≡ t → Settled domains m total before p → IsReadBy domains m (by_buffer m.low_order bytes) p → (given : Option Content) → given ≡ Some (content_at m.low_order t bytes p) → IsContent t p given
  given_at before p (Some t) typed s r given h = h ∙ ap (λ n. Some (Number n)) (sym (r t typed))
  given_at before p None typed s r given h =
      let f = whole p.first s.begins in
      let z = whole p.size s.long in
      let first = nat_abs p.first in
      let size = nat_abs p.size in
      let end : nat_abs (p.first +ℤ p.size) ≡ first + size = ap (λ y. nat_abs (y +ℤ p.size)) f ∙ ap (λ y. nat_abs (pos first +ℤ y)) z in
      let first_fits : first % 8 ≡ 0 = aligned first (subst IsMultipleOf8 f (s.grid typed).0) in
      let size_fits : size % 8 ≡ 0 = aligned size (subst IsMultipleOf8 z (s.grid typed).1) in
      let within : first + size ≤ total * 8 = let e = s.ends in omega (arith, ints) in
      let n : length (slice_range bytes (first / 8) (nat_abs (p.first +ℤ p.size) / 8)) ≡ size / 8 = ap (λ x. length (slice_range bytes (first / 8) (x / 8))) end ∙ part_long (first / 8) ((first + size) / 8) (omega (arith, within, room)) ∙ omega (arith, first_fits, size_fits) in
      let whole_bytes : 8 * length (slice_range bytes (first / 8) (nat_abs (p.first +ℤ p.size) / 8)) ≡ size = omega (arith, n, size_fits) in
      (slice_range bytes (first / 8) (nat_abs (p.first +ℤ p.size) / 8), h, ap pos whole_bytes ∙ sym z)

  pub all_given : (values : List Assigned) (before ps : List Placed) → AllSettled domains m total before ps → AllByRecursion (IsReadBy domains m (by_buffer m.low_order bytes)) ps → AllByRecursion (Holds values) ps → AllByRecursion (λ p. IsContent (type_of domains m p.field) p (content_of p.field values)) ps
  all_given values before [] s r h = tt
  all_given values before (p ∷ ps) s r h = (given_at before p (type_of domains m p.field) refl s.0 r.0 (content_of p.field values) h.0, all_given values (before ++ p ∷ []) ps s.1 r.1 h.1)

  -- ---- and its overlays have the bits of their fields

  settled_more : (front before : List Placed) (p : Placed) → AllSettled domains m total front before → Settled domains m total (front ++ before) p → AllSettled domains m total front (before ++ p ∷ [])
  settled_more front [] p s h = (subst (λ l. Settled domains m total l p) (append-nil front) h, tt)
  settled_more front (q ∷ before) p s h = (s.0, settled_more (front ++ q ∷ []) before p s.1 (subst (λ l. Settled domains m total l p) (sym (append_assoc front (q ∷ []) before)) h))

  holds_more : (values : List Assigned) (ps : List Placed) (p : Placed) → AllByRecursion (Holds values) ps → Holds values p → AllByRecursion (Holds values) (ps ++ p ∷ [])
  holds_more values [] p h k = (k, tt)
  holds_more values (q ∷ ps) p h k = (h.0, holds_more values ps p h.1 k)

  module _ (s : (p : Placed) (before : List Placed) → Settled domains m total before p → content_bits m.low_order (type_of domains m p.field) (content_at m.low_order (type_of domains m p.field) bytes p) ≡ place_bits (nat_abs p.first) (nat_abs p.size) bytes) where
    agrees_one : (values : List Assigned) (before : List Placed) (p : Placed) → AllSettled domains m total [] before → AllByRecursion (Holds values) before → Settled domains m total before p → Holds values p → Agrees domains m values before p
    agrees_one values before p all held here h x a b over among given_a given_b =
        let q = place_of x before in
        let at = settled_at domains m total [] x before all among in
        let a_is : a ≡ content_at m.low_order (type_of domains m p.field) bytes p = some_content a _ (sym given_a ∙ h) in
        let b_is : b ≡ content_at m.low_order (type_of domains m x) bytes q = some_content b _ (sym given_b ∙ holds_at values x before held among) in
        let there = subst (λ g. content_bits m.low_order (type_of domains m g) (content_at m.low_order (type_of domains m g) bytes q) ≡ place_bits (nat_abs q.first) (nat_abs q.size) bytes) (field_of_place x before) (s q at.0 at.1) in
        let lies = here.over x over in
        ap (content_bits m.low_order (type_of domains m p.field)) a_is ∙ s p before here ∙ ap (λ z. place_bits (nat_abs z) (nat_abs p.size) bytes) lies.first ∙ ap (λ z. place_bits (nat_abs q.first) (nat_abs z) bytes) lies.size
        ∙ sym (ap (content_bits m.low_order (type_of domains m x)) b_is ∙ there)

    all_agree : (values : List Assigned) (before ps : List Placed) → AllSettled domains m total [] before → AllByRecursion (Holds values) before → AllSettled domains m total before ps → AllByRecursion (Holds values) ps → AllAgree domains m values before ps
    all_agree values before [] all held rest h = tt
    all_agree values before (p ∷ ps) all held rest h =
        (agrees_one values before p all held rest.0 h.0, all_agree values (before ++ p ∷ []) ps (settled_more [] before p all rest.0) (holds_more values before p held h.0) rest.1 h.1)

-- ---- drafts

module _ (d : Drafted) (h : IsDraft d) (domains : List Domain) (m : Graph) (s : StandsForSound domains m d.plan) where
  on : IsOnPath domains m (environment_of d)
  on = h.underway.on domains m s

  pub all_settled : AllSettled domains m d.total [] d.fields
  all_settled = settled domains m s.stands.elaborated s.holds d.total on.1.short [] [] Start refl on.0 d.fields (end_node d.fields) on.1.leads

  -- what a valuation gives the fields that were put
  pub contents_held : (values : List Assigned) → AllByRecursion (Holds domains m d.bytes d.total h.room values) d.fields → AllByRecursion (λ p. IsContent (type_of domains m p.field) p (content_of p.field values)) d.fields
  contents_held values held = all_given domains m d.bytes d.total h.room values [] d.fields all_settled (h.reads domains m s) held

  pub agree_held : (values : List Assigned) → AllByRecursion (Holds domains m d.bytes d.total h.room values) d.fields → AllAgree domains m values [] d.fields
  agree_held values held =
      all_agree domains m d.bytes d.total h.room (λ p before k. bits_at domains m s.stands.elaborated d.total before p k d.bytes h.room) values [] d.fields tt tt all_settled held

  module _ (done : IsDone domains m (environment_of d)) where
    path : List ℕ
    path = on.0 ++ done.0.0 ∷ []

    is_whole : IsWhole domains m d.total path d.fields
    unfolding path
    is_whole = record { front = on.0; last = done.0.0; node = end_node d.fields; is = refl; partial = on.1; ends = done.0.1; exact = done.1 }

    long : length (take d.total d.bytes) ≡ d.total
    long = length-take-le d.total d.bytes h.room

    whole_front : IsWhole domains m (length (take d.total d.bytes)) path d.fields
    whole_front = subst (λ n. IsWhole domains m n path d.fields) (sym long) is_whole

    pub reads_done : Reads domains m (take d.total d.bytes) d.fields
    reads_done = (path, whole_front, reads_front domains m d.bytes d.total h.room [] d.fields all_settled (h.reads domains m s))

    pub reads_as : (values : List Assigned) → AllByRecursion (Holds domains m d.bytes d.total h.room values) d.fields → ((f : ℕ) → IsSome (content_of f values) ↔ IsAmong f d.fields) → ReadsAs domains m (take d.total d.bytes) values
    reads_as values held named =
        record {
          path = path;
          fields = d.fields;
          fits = record { whole = whole_front; named = named; contents = contents_held values held; agree = agree_held values held };
          contents = holds_front domains m d.bytes d.total h.room values [] d.fields all_settled held;
        }

-- ---- the valuation that was put

head_if : (b : Bool) (x y : Option Content) → b ≡ true → (if b then x else y) ≡ x
head_if true x y is = refl
head_if false x y is = absurd (clash (sym is))

rest_if : (b : Bool) (x y : Option Content) → b ≡ false → (if b then x else y) ≡ y
rest_if true x y is = absurd (clash is)
rest_if false x y is = refl

module _ (domains : List Domain) (m : Graph) (bytes : List ℕ) (total : ℕ) (room : total ≤ length bytes) where
  behind : (a : Assigned) (rest : List Assigned) (ps : List Placed) → AllByRecursion (λ g. a.field == g ≡ false) (fields_of ps) → AllByRecursion (Holds domains m bytes total room rest) ps → AllByRecursion (Holds domains m bytes total room (a ∷ rest)) ps
  behind a rest [] apart h = tt
  behind a rest (q ∷ ps) apart h = (rest_if (a.field == q.field) (Some a.content) (content_of q.field rest) apart.0 ∙ h.0, behind a rest ps apart.1 h.1)

  pub put_holds : (ps : List Placed) → AreDistinct ps → AllByRecursion (Holds domains m bytes total room (contents_of domains m bytes ps)) ps
  unfolding IsDistinct
  put_holds [] apart = tt
  put_holds (p ∷ ps) apart =
      let c = content_at m.low_order (type_of domains m p.field) bytes p in
      (head_if (p.field == p.field) (Some c) (content_of p.field (contents_of domains m bytes ps)) ((Decides-eqb p.field p.field).1 refl), behind (record { field = p.field; content = c }) (contents_of domains m bytes ps) ps apart.0 (put_holds ps apart.1))

  among_if : (b : Bool) (f : ℕ) (p : Placed) (ps : List Placed) (c : Content) (y : Option Content) → (b ≡ true → p.field ≡ f) → (IsSome y → IsAmong f ps) → IsSome (if b then Some c else y) → IsAmong f (p ∷ ps)
  among_if true f p ps c y same rest h = inl (same refl)
  among_if false f p ps c y same rest h = inr (rest h)

  put_among : (f : ℕ) (ps : List Placed) → IsSome (content_of f (contents_of domains m bytes ps)) → IsAmong f ps
  put_among f [] h = absurd (clash (sym h))
  put_among f (p ∷ ps) h = among_if (p.field == f) f p ps (content_at m.low_order (type_of domains m p.field) bytes p) (content_of f (contents_of domains m bytes ps)) (Decides-eqb p.field f).0 (put_among f ps) h

  pub put_named : (ps : List Placed) (f : ℕ) → IsSome (content_of f (contents_of domains m bytes ps)) ↔ IsAmong f ps
  put_named ps f = (put_among f ps, λ among. subst (λ o. IsSome o) (sym (content_among domains m bytes f ps among)) refl)

-- a draft that is done reads as the valuation that was put
pub reads_as_put : (d : Drafted) → IsDraft d → (domains : List Domain) (m : Graph) → StandsForSound domains m d.plan → IsDone domains m (environment_of d) → ReadsAs domains m (take d.total d.bytes) (contents_of domains m d.bytes d.fields)
reads_as_put d h domains m s done =
    let o = h.underway.on domains m s in
    reads_as d h domains m s done (contents_of domains m d.bytes d.fields)
    (put_holds domains m d.bytes d.total h.room d.fields (distinct domains m d.total s.stands.elaborated.acyclic [] Start o.0 d.fields (end_node d.fields) o.1.leads))
    (put_named domains m d.bytes d.total h.room d.fields)
