-- Where the fields of a path lie: within the buffer, and bytes on whole bytes.
use Rattle.std.proofs.Common.{◌≡◌, ℕ, ◌+◌, ◌-◌, ◌*◌, ◌/◌, ◌%◌, ◌<◌, ◌≤◌, ◌^◌, Bool, true, false, List, [], ◌∷◌, ◌++◌, length, Some, None, refl, sym, ap, ◌∙◌, subst, arith, length-drop}
use Rattle.std.specs.Prelude.{ℤ, pos, ◌+ℤ◌, ◌*ℤ◌, ◌≤ℤ◌, nat_abs, slice_range, if◌then◌else◌, ◌==◌}
use Rattle.std.specs.List.{AllByRecursion}
use Rattle.std.proofs.lemmas.Int.{ints}
use Rattle.std.proofs.lemmas.List.{length-take}
use Rattle.std.proofs.lemmas.Bool.Decides.{Decides-eqb}
use Rattle.rx_model.specs.Order.{number_in}
use Rattle.rx_types.specs.Domain.{Domain}
use Rattle.rx_types.specs.Environment.{Placed, place_of, IsAmong}
use Rattle.rx_graph.specs.declared.message.Node.{Node}
use Rattle.rx_graph.specs.declared.message.Node.TheVariants.{Start, At}
use Rattle.rx_graph.specs.Checks.{IsMultipleOf8, HasGrid, number_of}
use Rattle.rx_graph.specs.Graph.{Graph, type_of}
use Rattle.rx_graph.specs.Paths.{Leads}
use Rattle.rx_graph.proofs.Unique.{leads_on}
use Rattle.rx_context.specs.Plan.{StandsFor}
use Rattle.rx_context.specs.Contexts.{Reading, IsReading}
use Rattle.rx_context.proofs.Placing.{among_read}

clash : true ≡ false → ⊥
clash e = cc

-- the field ends in a message of so many bits, and if it holds bytes, it lies on whole bytes
pub record Lies (domains : List Domain) (m : Graph) (bits : ℕ) (p : Placed) : Type 0 where
  pub ends : (p.first +ℤ p.size) ≤ℤ pos bits
  pub grid : type_of domains m p.field ≡ None → IsMultipleOf8 p.first × IsMultipleOf8 p.size

module _ (domains : List Domain) (m : Graph) (grid : (node : Node) (n : ℕ) → HasGrid domains m node n) (total : ℕ) (short : total < 2 ^ 24) where
  all_lie : (front : List ℕ) (before : List Placed) (at : Node) → Leads domains m total [] Start front before at → (path : List ℕ) (fields : List Placed) (end : Node) → Leads domains m total before at path fields end → AllByRecursion (Lies domains m (total * 8)) fields
  all_lie front before at lead [] [] end h = tt
  all_lie front before at lead [] (p ∷ fields) end h = absurd h
  all_lie front before at lead (i ∷ path) [] end h = absurd h
  all_lie front before at lead (i ∷ path) (p ∷ fields) end h =
      let step : Leads domains m total before at (i ∷ []) (p ∷ []) (At p.field) = (h.0, h.1, h.2, h.3, refl) in
      let next = leads_on domains m total [] Start front before at (i ∷ []) (p ∷ []) (At p.field) lead step in
      let on : type_of domains m p.field ≡ None → IsMultipleOf8 p.first × IsMultipleOf8 p.size =
      λ none. (let g = grid at (number_of m.links at i) total front before i h.0 (record { short = short; leads = lead }) (record { is = h.1; source = h.2; number = refl }) h.3.taken p.field h.3.target none in
      (subst (λ z. IsMultipleOf8 z) (sym (ap (λ (x : Placed). x.first) h.3.place)) g.0, subst (λ z. IsMultipleOf8 z) (sym (ap (λ (x : Placed). x.size) h.3.place)) g.1)) in
      (record { ends = h.3.within.ends; grid = on }, all_lie (front ++ i ∷ []) (before ++ p ∷ []) (At p.field) next path fields end h.4)

nowhere : (domains : List Domain) (m : Graph) (bits f : ℕ) → Lies domains m bits (place_of f [])
nowhere domains m bits f = record { ends = omega (arith, ints); grid = λ none. ((pos 0, refl), (pos 0, refl)) }

lies_if : (domains : List Domain) (m : Graph) (bits : ℕ) (b : Bool) (p q : Placed) → Lies domains m bits p → Lies domains m bits q → Lies domains m bits (if b then p else q)
lies_if domains m bits true p q h k = h
lies_if domains m bits false p q h k = k

place_lies : (domains : List Domain) (m : Graph) (bits : ℕ) (fields : List Placed) → AllByRecursion (Lies domains m bits) fields → (f : ℕ) → Lies domains m bits (place_of f fields)
place_lies domains m bits [] h f = nowhere domains m bits f
place_lies domains m bits (p ∷ ps) h f = lies_if domains m bits (p.field == f) p (place_of f ps) h.0 (place_lies domains m bits ps h.1 f)

field_if : (b : Bool) (p q : Placed) (f : ℕ) → (b ≡ true → p.field ≡ f) → q.field ≡ f → (if b then p else q).field ≡ f
field_if true p q f same e = same refl
field_if false p q f same e = e

pub field_of_place : (f : ℕ) (fields : List Placed) → (place_of f fields).field ≡ f
field_of_place f [] = refl
field_of_place f (p ∷ ps) = field_if (p.field == f) p (place_of f ps) f (Decides-eqb p.field f).0 (field_of_place f ps)

-- ---- what a reading has

pub lies : (domains : List Domain) (m : Graph) (r : Reading) → IsReading r → StandsFor domains m r.plan → (f : ℕ) → Lies domains m (length r.bytes * 8) (place_of f r.fields)
lies domains m r h s f =
    let w = h.reads domains m s in
    place_lies domains m (length r.bytes * 8) r.fields (all_lie domains m s.grid (length r.bytes) w.1.partial.short [] [] Start refl w.1.front r.fields w.1.node w.1.partial.leads) f

pub ends_within : (r : Reading) → IsReading r → (f first size : ℕ) → pos first ≡ (place_of f r.fields).first → pos size ≡ (place_of f r.fields).size → first + size ≤ length r.bytes * 8
ends_within r h f first size e g =
    let l = (lies h.plan.0 h.plan.1 r h h.plan.2 f).ends in
    omega (arith, ints, l, e, g)

pub short : (r : Reading) → IsReading r → length r.bytes < 2 ^ 24
short r h = (h.reads h.plan.0 h.plan.1 h.plan.2).1.partial.short

part_length : (xs : List ℕ) (a b : ℕ) → b ≤ length xs → length (slice_range xs a b) ≡ b - a
part_length xs a b h = simp (length-take, length-drop) (omega (arith, h))

pub part_short : (r : Reading) → IsReading r → (a b : ℕ) → b ≤ length r.bytes → length (slice_range r.bytes a b) < 2 ^ 24
part_short r h a b le = omega (arith, part_length r.bytes a b le, short r h)

on_bytes : (first size : ℕ) (j k : ℤ) → pos first ≡ j *ℤ pos 8 → pos size ≡ k *ℤ pos 8 → 8 * ((first + size) / 8 - first / 8) ≡ size
on_bytes first size j k e g =
    let first8 : first % 8 ≡ 0 = omega (arith, ints, e) in
    let size8 : size % 8 ≡ 0 = omega (arith, ints, g) in
    omega (arith, first8, size8)

-- the bytes of a field have its Size
pub part_size : (domains : List Domain) (m : Graph) (r : Reading) → IsReading r → StandsFor domains m r.plan → (f first size : ℕ) → type_of domains m f ≡ None → pos first ≡ (place_of f r.fields).first → pos size ≡ (place_of f r.fields).size → 8 * length (slice_range r.bytes (first / 8) ((first + size) / 8)) ≡ size
part_size domains m r h s f first size none e g =
    let l = lies domains m r h s f in
    let k = l.grid (ap (λ x. type_of domains m x) (field_of_place f r.fields) ∙ none) in
    let ends = ends_within r h f first size e g in
    ap (λ n. 8 * n) (part_length r.bytes (first / 8) ((first + size) / 8) (omega (arith, ends))) ∙ on_bytes first size k.0.0 k.1.0 (e ∙ k.0.1) (g ∙ k.1.1)

-- a scalar has the number of its bits
pub number_read : (domains : List Domain) (m : Graph) (r : Reading) → IsReading r → StandsFor domains m r.plan → (f : ℕ) (t : Domain) → type_of domains m f ≡ Some t → IsAmong f r.fields → (place_of f r.fields).number ≡ number_in m.low_order r.bytes (nat_abs (place_of f r.fields).first) (nat_abs (place_of f r.fields).size)
number_read domains m r h s f t typed among = among_read domains m r.bytes r.fields (h.reads domains m s).2 f t typed among
