-- Buffers that read as one valuation are one buffer.
use Rattle.std.proofs.Common.{◌≡◌, ℕ, ◌+◌, ◌-◌, ◌*◌, ◌<◌, ◌≤◌, ◌^◌, List, [], ◌∷◌, ◌++◌, length, drop, get_or, Option, Some, None, ◌⊎◌, inl, inr, refl, sym, ap, ◌∙◌, subst, append_assoc, append-nil, arith}
use Rattle.std.specs.Prelude.{pos, ◌+ℤ◌, ◌<ℤ◌, nat_abs, slice_get}
use Rattle.std.specs.Int.{int_max}
use Rattle.std.specs.List.{AllByRecursion}
use Rattle.std.proofs.lemmas.Bool.{cases_lt}
use Rattle.std.proofs.lemmas.Int.{ints, clamps}
use Rattle.std.proofs.lemmas.List.{get_or-take, get_or-drop, ext_get_or}
use Rattle.rx_model.specs.Bits.{bits, bit_at, place_bits}
use Rattle.rx_model.proofs.BitLemmas.{get_or-bits, length-bits}
use Rattle.rx_types.specs.Domain.{Domain}
use Rattle.rx_types.specs.Environment.{Placed, in_message}
use Rattle.rx_graph.specs.declared.message.Node.{Node}
use Rattle.rx_graph.specs.declared.message.Node.TheVariants.{Start, At}
use Rattle.rx_graph.specs.Checks.{IsNumbered, number_of, covered}
use Rattle.rx_graph.specs.Cycles.{IsLink}
use Rattle.rx_graph.specs.Elaborated.{IsSound}
use Rattle.rx_graph.specs.Fits.{Content, Assigned, content_of, content_at, content_bits, Fits, ReadsAs}
use Rattle.rx_graph.specs.Graph.{Arrow, Graph, type_of, overlay_of}
use Rattle.rx_graph.specs.Paths.{Places, Leads, IsWhole, Exclusive}
use Rattle.rx_graph.proofs.Covered.{covered_more, not_negative, one_more}
use Rattle.rx_graph.proofs.Lengths.{length_fits}
use Rattle.rx_graph.proofs.OneFit.{one_fit}
use Rattle.rx_graph.proofs.Unique.{leads_on}
use Rattle.rx_draft.proofs.SameBytes.{same_bytes}
use Rattle.rx_draft.proofs.Settled.{whole, AllSettled, settled, bits_at}
use Rattle.rx_serial.specs.Laws.{AreBytes, HasOneBuffer}

some_content : (a b : Content) → Some a ≡ Some b → a ≡ b
some_content a b e = cc

-- ---- one bit

bit_of_place : (first n : ℕ) (b : List ℕ) (i : ℕ) → first ≤ i → i < first + n → get_or (place_bits first n b) (i - first) 0 ≡ bit_at b i
bit_of_place first n b i low high =
    let at : first + (i - first) ≡ i = omega (arith, low) in
    get_or-take n (drop first (bits b)) (i - first) 0 (omega (arith, low, high)) ∙ get_or-drop first (bits b) (i - first) 0 ∙ ap (λ k. get_or (bits b) k 0) at ∙ get_or-bits b i

same_bit : (first n : ℕ) (b c : List ℕ) (i : ℕ) → first ≤ i → i < first + n → place_bits first n b ≡ place_bits first n c → bit_at b i ≡ bit_at c i
same_bit first n b c i low high same =
    sym (bit_of_place first n b i low high) ∙ ap (λ l. get_or l (i - first) 0) same ∙ bit_of_place first n c i low high

-- bit i lies in the field
abbrev HasBit : ℕ → Placed → Type 0
HasBit i p = (nat_abs p.first ≤ i) × (i < nat_abs p.first + nat_abs p.size)

-- it lies in one of the fields
abbrev IsIn : ℕ → List Placed → Type 0
IsIn i [] = ⊥
IsIn i (p ∷ ps) = HasBit i p ⊎ IsIn i ps

in_front : (i : ℕ) (ps qs : List Placed) → IsIn i ps → IsIn i (ps ++ qs)
in_front i [] qs h = absurd h
in_front i (p ∷ ps) qs (inl h) = inl h
in_front i (p ∷ ps) qs (inr h) = inr (in_front i ps qs h)

in_back : (i : ℕ) (ps : List Placed) (q : Placed) → HasBit i q → IsIn i (ps ++ q ∷ [])
in_back i [] q h = inl h
in_back i (p ∷ ps) q h = inr (in_back i ps q h)

module _ (domains : List Domain) (m : Graph) (sound : IsSound domains m) (total : ℕ) (short : total < 2 ^ 24) where
  -- ---- every bit lies in a field

  abbrev Covers : List Placed → Type 0
  Covers ps = (i : ℕ) → pos i <ℤ covered ps → IsIn i ps

  module _ (path : List ℕ) (before : List Placed) (at : Node) (lead : Leads domains m total [] Start path before at) (k : ℕ) (link : Arrow) (p : Placed) (is : IsLink m k link) (source : link.source ≡ at) (h : Places domains m link (in_message total before) p) where
    -- a bit behind what was covered lies in the new field
    new_bit : (o : Option ℕ) → overlay_of (slice_get m.fields p.field) ≡ o → (n j : ℕ) → covered before ≡ pos n → n ≤ j → pos j <ℤ int_max (p.first +ℤ p.size) (covered before) → IsIn j (before ++ p ∷ [])
    new_bit None over n j e l low =
        let numbered : IsNumbered m at (number_of m.links at k) k link = record { is = is; source = source; number = refl } in
        let first : p.first ≡ covered before = ap (λ x. x.first) h.place ∙ (sound.holds.cover at (number_of m.links at k) total path before k link (record { short = short; leads = lead }) numbered h.taken).0 p.field h.target over in
        let f = whole p.first h.within.begins in
        let s = whole p.size h.within.long in
        let b : pos (nat_abs p.first) ≡ pos n = sym f ∙ first ∙ e in
        in_back j before p (omega (arith, ints, b, l), omega (arith, ints, clamps, b, l))
    new_bit (Some x) over n j e l low =
        let same = one_more domains m sound.elaborated sound.holds total short (Some x) path before at lead k link p is source h over in
        absurd (omega (arith, ints, clamps, l))

    here : Covers before → Covers (before ++ p ∷ [])
    here c j low =
        let e = whole (covered before) (not_negative before) in
        let now : pos j <ℤ int_max (p.first +ℤ p.size) (covered before) = subst (λ z. pos j <ℤ z) (covered_more before p) low in
        elim (cases_lt j (nat_abs (covered before))) [
          | inl l ↦ in_front j before (p ∷ []) (c j (omega (arith, ints, l)))
          | inr l ↦ new_bit (overlay_of (slice_get m.fields p.field)) refl (nat_abs (covered before)) j e l now
        ]

  tiles : (path : List ℕ) (before : List Placed) (at : Node) → Leads domains m total [] Start path before at → Covers before → (rest : List ℕ) (more : List Placed) (end : Node) → Leads domains m total before at rest more end → Covers (before ++ more)
  tiles path before at lead c [] [] end h i low = in_front i before [] (c i (let e = ap covered (append-nil before) in omega (arith, ints, low, e)))
  tiles path before at lead c [] (p ∷ more) end h i low = absurd h
  tiles path before at lead c (k ∷ rest) [] end h i low = absurd h
  tiles path before at lead c (k ∷ rest) (p ∷ more) end h i low =
      let step : Leads domains m total before at (k ∷ []) (p ∷ []) (At p.field) = (h.0, h.1, h.2, h.3, refl) in
      let lead' = leads_on domains m total [] Start path before at (k ∷ []) (p ∷ []) (At p.field) lead step in
      let this : Covers (before ++ p ∷ []) = here path before at lead k h.0 p h.1 h.2 h.3 c in
      subst (IsIn i) (append_assoc before (p ∷ []) more) (tiles (path ++ k ∷ []) (before ++ p ∷ []) (At p.field) lead' this rest more end h.4 i (let e = ap covered (append_assoc before (p ∷ []) more) in omega (arith, ints, low, e)))

  all_covered : (path : List ℕ) (fields : List Placed) (w : IsWhole domains m total path fields) → (i : ℕ) → i < total * 8 → IsIn i fields
  all_covered path fields w i low =
      let numbered : IsNumbered m w.node (number_of m.links w.node w.last) w.last w.ends.link = record { is = w.ends.is; source = w.ends.source; number = refl } in
      let end = (sound.holds.cover w.node (number_of m.links w.node w.last) total w.front fields w.last w.ends.link w.partial numbered w.ends.taken).1 w.ends.target in
      let all : pos (total * 8) ≡ covered fields = sym w.exact ∙ end in
      tiles [] [] Start refl (λ j l. absurd (omega (arith, ints, l))) w.front fields w.node w.partial.leads i (let z : pos i <ℤ pos (total * 8) = omega (arith, ints, low) in subst (λ x. pos i <ℤ x) all z)

  -- ---- the bits of a field are those of its content

  abbrev HasContent : List ℕ → List Assigned → Placed → Type 0
  HasContent b values p = content_of p.field values ≡ Some (content_at m.low_order (type_of domains m p.field) b p)

  module _ (b c : List ℕ) (room : total ≤ length b) (other : total ≤ length c) (values : List Assigned) where
    same_at : (before fields : List Placed) → AllSettled domains m total before fields → AllByRecursion (HasContent b values) fields → AllByRecursion (HasContent c values) fields → (i : ℕ) → IsIn i fields → bit_at b i ≡ bit_at c i
    same_at before [] s h k i here = absurd here
    same_at before (p ∷ fields) s h k i (inl here) =
        let content = some_content _ _ (sym h.0 ∙ k.0) in
        same_bit (nat_abs p.first) (nat_abs p.size) b c i here.0 here.1 (sym (bits_at domains m sound.elaborated total before p s.0 b room) ∙ ap (content_bits m.low_order (type_of domains m p.field)) content ∙ bits_at domains m sound.elaborated total before p s.0 c other)
    same_at before (p ∷ fields) s h k i (inr there) = same_at (before ++ p ∷ []) fields s.1 h.1 k.1 i there

  module _ (exclusive : Exclusive domains m) (b c : List ℕ) (values : List Assigned) (long : length b ≡ total) (same : length c ≡ total) (r : ReadsAs domains m b values) (s : ReadsAs domains m c values) where
    same_bits : (i : ℕ) → i < total * 8 → bit_at b i ≡ bit_at c i
    same_bits i low =
        let f : Fits domains m values total r.path r.fields = subst (λ n. Fits domains m values n r.path r.fields) long r.fits in
        let g : Fits domains m values total s.path s.fields = subst (λ n. Fits domains m values n s.path s.fields) same s.fits in
        let fields : r.fields ≡ s.fields = (one_fit domains m values exclusive total r.path s.path r.fields s.fields f g).1 in
        let w = f.whole in
        let all = settled domains m sound.elaborated sound.holds total short [] [] Start refl w.front r.fields w.node w.partial.leads in
        same_at b c (omega (arith, long)) (omega (arith, same)) values [] r.fields all r.contents (subst (AllByRecursion (HasContent c values)) (sym fields) s.contents) i (all_covered r.path r.fields w i low)

    same_buffer : AreBytes b → AreBytes c → b ≡ c
    same_buffer x y =
        let lb : length (bits b) ≡ 8 * total = length-bits b ∙ ap (λ n. 8 * n) long in
        let lc : length (bits c) ≡ 8 * total = length-bits c ∙ ap (λ n. 8 * n) same in
        same_bytes b c x y (ext_get_or 0 (bits b) (bits c) (lb ∙ sym lc) (λ i low. get_or-bits b i ∙ same_bits i (omega (arith, low, lb)) ∙ sym (get_or-bits c i)))

pub one_buffer : (domains : List Domain) (m : Graph) → IsSound domains m → Exclusive domains m → HasOneBuffer domains m
one_buffer domains m sound exclusive values b c ascending x y r s =
    let one = length_fits domains m sound values ascending (length b) r.path r.fields r.fits in
    let two = length_fits domains m sound values ascending (length c) s.path s.fields s.fits in
    same_buffer domains m sound (length b) r.fits.whole.partial.short exclusive b c values refl (sym two ∙ one) r s x y
