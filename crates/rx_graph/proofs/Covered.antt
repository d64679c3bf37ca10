-- The fields that are no overlays lie one behind the other, so that their sizes add up to where the last one ends.
use Rattle.std.proofs.Common.{◌≡◌, ℕ, ◌*◌, ◌<◌, ◌^◌, Bool, true, false, List, [], ◌∷◌, ◌++◌, Option, Some, None, refl, sym, ap, ◌∙◌, append_assoc, append-nil, arith}
use Rattle.std.specs.Prelude.{ℤ, pos, ◌+ℤ◌, ◌≤ℤ◌, slice_get, if◌then◌else◌, ◌==◌}
use Rattle.std.specs.Int.{int_max}
use Rattle.std.proofs.lemmas.Int.{ints, clamps}
use Rattle.rx_types.specs.Domain.{Domain}
use Rattle.rx_types.specs.Environment.{Placed, place_of, end_of, in_message}
use Rattle.rx_graph.specs.declared.message.Node.{Node}
use Rattle.rx_graph.specs.declared.message.Node.TheVariants.{Start, At}
use Rattle.rx_graph.specs.Graph.{Arrow, Graph, overlay_of, type_of}
use Rattle.rx_graph.specs.Paths.{value_or, first_of, size_of_target, Places, Leads, IsWhole}
use Rattle.rx_graph.specs.Elaborated.{IsElaborated}
use Rattle.rx_graph.specs.Laws.{size_if, own_sizes}
use Rattle.rx_graph.proofs.Facts.{laid_over_overlay}
use Rattle.rx_graph.specs.Checks.{IsNumbered, number_of, covered, AllHold}
use Rattle.rx_graph.proofs.Unique.{leads_on}
use Rattle.rx_graph.specs.Cycles.{IsLink}

swap : (a b c : ℤ) → int_max a (int_max b c) ≡ int_max b (int_max a c)
swap a b c = omega (arith, ints, clamps)

pub covered_more : (ps : List Placed) (p : Placed) → covered (ps ++ p ∷ []) ≡ int_max (p.first +ℤ p.size) (covered ps)
covered_more [] p = refl
covered_more (q ∷ ps) p =
    let rest = covered_more ps p in
    ap (λ z. int_max (q.first +ℤ q.size) z) rest ∙ swap (q.first +ℤ q.size) (p.first +ℤ p.size) (covered ps)

covers_if : (b : Bool) (p q : Placed) (c : ℤ) → (q.first +ℤ q.size) ≤ℤ c → ((if b then p else q).first +ℤ (if b then p else q).size) ≤ℤ int_max (p.first +ℤ p.size) c
covers_if true p q c h = omega (arith, ints, clamps)
covers_if false p q c h = omega (arith, ints, clamps)

-- the fields end at or before what is covered
covers : (ps : List Placed) (f : ℕ) → ((place_of f ps).first +ℤ (place_of f ps).size) ≤ℤ covered ps
covers [] f = omega (arith, ints)
covers (p ∷ ps) f = covers_if (p.field == f) p (place_of f ps) (covered ps) (covers ps f)

pub not_negative : (ps : List Placed) → pos 0 ≤ℤ covered ps
not_negative [] = omega (arith, ints)
not_negative (p ∷ ps) = let rest = not_negative ps in omega (arith, ints, clamps)

module _ (domains : List Domain) (m : Graph) where
  own_more : (ps : List Placed) (p : Placed) → own_sizes m (ps ++ p ∷ []) ≡ own_sizes m ps +ℤ size_if (overlay_of (slice_get m.fields p.field)) p.size
  own_more [] p = omega (arith, ints)
  own_more (q ∷ ps) p = let rest = own_more ps p in omega (arith, ints, rest)

  module _ (el : IsElaborated domains m) (holds : AllHold domains m) (total : ℕ) (short : total < 2 ^ 24) where
    -- one more field
    pub one_more : (o : Option ℕ) (path : List ℕ) (before : List Placed) (at : Node) → Leads domains m total [] Start path before at → (i : ℕ) (link : Arrow) (p : Placed) → IsLink m i link → link.source ≡ at → Places domains m link (in_message total before) p → overlay_of (slice_get m.fields p.field) ≡ o → int_max (p.first +ℤ p.size) (covered before) ≡ covered before +ℤ size_if o p.size
    one_more None path before at lead i link p is source h o =
        let numbered : IsNumbered m at (number_of m.links at i) i link = record { is = is; source = source; number = refl } in
        let first = (holds.cover at (number_of m.links at i) total path before i link (record { short = short; leads = lead }) numbered h.taken).0 p.field h.target o in
        let placed : p.first ≡ first_of link (in_message total before) = ap (λ x. x.first) h.place in
        let here : p.first ≡ covered before = placed ∙ first in
        let long = h.within.long in
        omega (arith, ints, clamps)
    one_more (Some x) path before at lead i link p is source h o =
        let numbered : IsNumbered m at (number_of m.links at i) i link = record { is = is; source = source; number = refl } in
        let size = holds.overlay at (number_of m.links at i) total path before i link (record { short = short; leads = lead }) numbered h.taken p.field x h.target o in
        let placed : p.size ≡ size_of_target (type_of domains m p.field) link (in_message total before) = ap (λ x. x.size) h.place in
        let same : p.size ≡ (place_of x before).size = placed ∙ size in
        let first : p.first ≡ (place_of x before).first = ap (λ y. y.first) h.place ∙ ap (λ o. value_or o (in_message total before) (end_of before)) (laid_over_overlay domains m el i link p.field x is h.target o) in
        let ends = covers before x in
        let ends' : (p.first +ℤ p.size) ≤ℤ covered before = omega (arith, ints) in
        omega (arith, ints, clamps)

    pub own_covered : (path : List ℕ) (before : List Placed) (at : Node) → Leads domains m total [] Start path before at → own_sizes m before ≡ covered before → (rest : List ℕ) (more : List Placed) (end : Node) → Leads domains m total before at rest more end → own_sizes m (before ++ more) ≡ covered (before ++ more)
    own_covered path before at lead so_far [] [] end h = ap (own_sizes m) (append-nil before) ∙ so_far ∙ ap covered (sym (append-nil before))
    own_covered path before at lead so_far [] (p ∷ more) end h = absurd h
    own_covered path before at lead so_far (i ∷ rest) [] end h = absurd h
    own_covered path before at lead so_far (i ∷ rest) (p ∷ more) end h =
        let step : Leads domains m total before at (i ∷ []) (p ∷ []) (At p.field) = (h.0, h.1, h.2, h.3, refl) in
        let lead' = leads_on domains m total [] Start path before at (i ∷ []) (p ∷ []) (At p.field) lead step in
        let now : own_sizes m (before ++ p ∷ []) ≡ covered (before ++ p ∷ []) =
        own_more before p ∙ ap (λ z. z +ℤ size_if (overlay_of (slice_get m.fields p.field)) p.size) so_far ∙ sym (one_more (overlay_of (slice_get m.fields p.field)) path before at lead i h.0 p h.1 h.2 h.3 refl) ∙ sym (covered_more before p) in
        let all = own_covered (path ++ i ∷ []) (before ++ p ∷ []) (At p.field) lead' now rest more end h.4 in
        ap (own_sizes m) (sym (append_assoc before (p ∷ []) more)) ∙ all ∙ ap covered (append_assoc before (p ∷ []) more)

  -- so the length of a message is the sum of those sizes
  pub length_is : IsElaborated domains m → AllHold domains m → (total : ℕ) (path : List ℕ) (fields : List Placed) → IsWhole domains m total path fields → own_sizes m fields ≡ pos (total * 8)
  length_is el holds total path fields w =
      let own = own_covered el holds total w.partial.short [] [] Start refl refl w.front fields w.node w.partial.leads in
      let numbered : IsNumbered m w.node (number_of m.links w.node w.last) w.last w.ends.link = record { is = w.ends.is; source = w.ends.source; number = refl } in
      let end = (holds.cover w.node (number_of m.links w.node w.last) total w.front fields w.last w.ends.link w.partial numbered w.ends.taken).1 w.ends.target in
      own ∙ sym end ∙ w.exact
