-- What each field of a partial path has: it lies within the message, a scalar is as long as its type, bytes lie on
-- whole bytes, and an overlay lies over its field. And the bits of its content are those of its place.
use Rattle.std.proofs.Common.{◌≡◌, ℕ, ◌+◌, ◌*◌, ◌/◌, ◌%◌, ◌<◌, ◌≤◌, ◌^◌, List, [], ◌∷◌, ◌++◌, length, Option, Some, None, refl, sym, ap, ◌∙◌, subst, arith}
use Rattle.std.specs.Prelude.{ℤ, pos, negsuc, ◌+ℤ◌, ◌*ℤ◌, ◌≤ℤ◌, nat_abs, slice_get, slice_range}
use Rattle.std.specs.List.{AllByRecursion}
use Rattle.std.proofs.lemmas.Int.{ints}
use Rattle.rx_model.specs.Bits.{bits, number, place_bits, ordered}
use Rattle.rx_model.specs.Order.{number_in, number_bits}
use Rattle.rx_model.proofs.BitLemmas.{length-place_bits}
use Rattle.rx_types.specs.Domain.{Domain, size_of}
use Rattle.rx_types.specs.Environment.{Placed, in_message, place_of, end_of}
use Rattle.rx_graph.specs.declared.message.Node.{Node}
use Rattle.rx_graph.specs.declared.message.Node.TheVariants.{Start, At}
use Rattle.rx_graph.specs.Checks.{IsMultipleOf8, IsNumbered, number_of, AllHold}
use Rattle.rx_graph.specs.Elaborated.{IsElaborated, FitsOrder}
use Rattle.rx_graph.specs.Fits.{content_at, content_bits}
use Rattle.rx_graph.specs.Graph.{Graph, type_of, overlay_of}
use Rattle.rx_graph.specs.Paths.{value_or, first_of, size_of_target, Leads}
use Rattle.rx_graph.proofs.Facts.{laid_over_overlay}
use Rattle.rx_graph.proofs.Unique.{leads_on}
use Rattle.rx_context.proofs.Standing.{ordered_type}
use Rattle.rx_draft.proofs.ContentBits.{ordered_twice, length_ordered, number_bits-number, place_bits-bits, bits_range}

pub whole : (z : ℤ) → pos 0 ≤ℤ z → z ≡ pos (nat_abs z)
whole (pos n) h = refl
whole (negsuc n) h = absurd (omega (arith, ints, h))

-- the overlay lies where the field lies over which it is laid
pub record LiesOver (before : List Placed) (x : ℕ) (p : Placed) : Type 0 where
  pub first : p.first ≡ (place_of x before).first
  pub size : p.size ≡ (place_of x before).size

pub record Settled (domains : List Domain) (m : Graph) (total : ℕ) (before : List Placed) (p : Placed) : Type 0 where
  pub begins : pos 0 ≤ℤ p.first
  pub long : pos 0 ≤ℤ p.size
  pub ends : (p.first +ℤ p.size) ≤ℤ pos (total * 8)
  pub scalar : (t : Domain) → type_of domains m p.field ≡ Some t → p.size ≡ pos (size_of t)
  pub grid : type_of domains m p.field ≡ None → IsMultipleOf8 p.first × IsMultipleOf8 p.size
  pub over : (x : ℕ) → overlay_of (slice_get m.fields p.field) ≡ Some x → LiesOver before x p

module _ (domains : List Domain) (m : Graph) where
  abbrev pub AllSettled : ℕ → List Placed → List Placed → Type 0
  AllSettled total before [] = Unit {0}
  AllSettled total before (p ∷ ps) = Settled domains m total before p × AllSettled total (before ++ p ∷ []) ps

  module _ (el : IsElaborated domains m) (holds : AllHold domains m) (total : ℕ) (short : total < 2 ^ 24) where
    pub settled : (front : List ℕ) (before : List Placed) (at : Node) → Leads domains m total [] Start front before at → (path : List ℕ) (fields : List Placed) (end : Node) → Leads domains m total before at path fields end → AllSettled total before fields
    settled front before at lead [] [] end h = tt
    settled front before at lead [] (p ∷ fields) end h = absurd h
    settled front before at lead (i ∷ path) [] end h = absurd h
    settled front before at lead (i ∷ path) (p ∷ fields) end h =
        let e = in_message total before in
        let step : Leads domains m total before at (i ∷ []) (p ∷ []) (At p.field) = (h.0, h.1, h.2, h.3, refl) in
        let next = leads_on domains m total [] Start front before at (i ∷ []) (p ∷ []) (At p.field) lead step in
        let numbered : IsNumbered m at (number_of m.links at i) i h.0 = record { is = h.1; source = h.2; number = refl } in
        let first : p.first ≡ first_of h.0 e = ap (λ (x : Placed). x.first) h.3.place in
        let size : p.size ≡ size_of_target (type_of domains m p.field) h.0 e = ap (λ (x : Placed). x.size) h.3.place in (
          record {
            begins = h.3.within.begins;
            long = h.3.within.long;
            ends = h.3.within.ends;
            scalar = λ t typed. size ∙ ap (λ o. size_of_target o h.0 e) typed;
            grid = λ none.
                let g = holds.grid at (number_of m.links at i) total front before i h.0 (record { short = short; leads = lead }) numbered h.3.taken p.field h.3.target none in
                (subst (λ z. IsMultipleOf8 z) (sym first) g.0, subst (λ z. IsMultipleOf8 z) (sym size) g.1);
            over = λ x is.
                record {
                  first = first ∙ ap (λ o. value_or o e (end_of before)) (laid_over_overlay domains m el i h.0 p.field x h.1 h.3.target is);
                  size = size ∙ holds.overlay at (number_of m.links at i) total front before i h.0 (record { short = short; leads = lead }) numbered h.3.taken p.field x h.3.target is;
                };
          },
          settled (front ++ i ∷ []) (before ++ p ∷ []) (At p.field) next path fields end h.4,
        )

  -- ---- the bits of a content

  aligned : (n : ℕ) → IsMultipleOf8 (pos n) → n % 8 ≡ 0
  aligned n h = let k = h.0 in let e = h.1 in omega (arith, ints)

  bits_by : (el : IsElaborated domains m) (total : ℕ) (before : List Placed) (p : Placed) → Settled domains m total before p → (bytes : List ℕ) → total ≤ length bytes → (t : Option Domain) → type_of domains m p.field ≡ t → content_bits m.low_order t (content_at m.low_order t bytes p) ≡ place_bits (nat_abs p.first) (nat_abs p.size) bytes
  bits_by el total before p s bytes room (Some t) typed =
      let f = whole p.first s.begins in
      let z = whole p.size s.long in
      let first = nat_abs p.first in
      let size = nat_abs p.size in
      let is : size ≡ size_of t = let e = sym z ∙ s.scalar t typed in omega (arith, ints, e) in
      let inside : first + size ≤ 8 * length bytes = let e = s.ends in omega (arith, ints, e, f, z, room) in
      let place = place_bits first size bytes in
      let long : length place ≡ size = length-place_bits first size bytes inside in
      let order = subst (λ n. FitsOrder m.low_order n) (sym (long ∙ is)) (ordered_type domains m el p.field t typed).order in
      let same = number_bits-number (ordered m.low_order place) size (sym (length_ordered m.low_order place ∙ long)) (place_bits-bits m.low_order first size bytes) in
      ap (λ n. ordered m.low_order (number_bits n (number_in m.low_order bytes first size))) (sym is) ∙ ap (ordered m.low_order) same ∙ ordered_twice m.low_order place order
  bits_by el total before p s bytes room None typed =
      let f = whole p.first s.begins in
      let z = whole p.size s.long in
      let first = nat_abs p.first in
      let size = nat_abs p.size in
      let first_fits : first % 8 ≡ 0 = aligned first (subst IsMultipleOf8 f (s.grid typed).0) in
      let size_fits : size % 8 ≡ 0 = aligned size (subst IsMultipleOf8 z (s.grid typed).1) in
      let end : nat_abs (p.first +ℤ p.size) ≡ first + size = ap (λ y. nat_abs (y +ℤ p.size)) f ∙ ap (λ y. nat_abs (pos first +ℤ y)) z in
      let bytes_end : nat_abs (p.first +ℤ p.size) / 8 ≡ first / 8 + size / 8 = ap (λ n. n / 8) end ∙ omega (arith, first_fits, size_fits) in
      let first_is : 8 * (first / 8) ≡ first = omega (arith, first_fits) in
      let size_is : 8 * (size / 8) ≡ size = omega (arith, size_fits) in
      ap (λ n. bits (slice_range bytes (first / 8) n)) bytes_end ∙ bits_range bytes (first / 8) (size / 8) ∙ ap (λ n. place_bits n (8 * (size / 8)) bytes) first_is ∙ ap (λ n. place_bits first n bytes) size_is

  pub bits_at : (el : IsElaborated domains m) (total : ℕ) (before : List Placed) (p : Placed) → Settled domains m total before p → (bytes : List ℕ) → total ≤ length bytes → content_bits m.low_order (type_of domains m p.field) (content_at m.low_order (type_of domains m p.field) bytes p) ≡ place_bits (nat_abs p.first) (nat_abs p.size) bytes
  bits_at el total before p s bytes room = bits_by el total before p s bytes room (type_of domains m p.field) refl
