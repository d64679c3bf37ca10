-- The First and the Size of a link's target at a point that solves their divisions, and their quotients by 8.
use Rattle.std.proofs.Common.{◌≡◌, refl, ap, ◌∙◌, ℕ, ◌+◌, ◌*◌, arith, List, true, get_or, ℤ, pos, negsuc, neg_ℤ, ◌+ℤ◌, ◌-ℤ◌, ◌*ℤ◌, ◌≤ℤ◌, Option, Some, None, ◌⊎◌, inl, inr}
use Rattle.std.specs.Int.{int_div_euclid}
use Rattle.std.proofs.lemmas.Int.{ints}
use Rattle.rx_linear.proofs.Joining.{and_true}
use Rattle.rx_types.specs.declared.interval.Interval.{Interval}
use Rattle.rx_types.specs.Tree.{Tree}
use Rattle.rx_types.specs.Domain.{Domain, size_of}
use Rattle.rx_types.specs.Environment.{Placed, Environment, in_message, end_of, bits_of}
use Rattle.rx_types.specs.Narrow.{IsIn, StaysWithin}
use Rattle.rx_types.proofs.Within.{quotient_up, value_in}
use Rattle.rx_graph.specs.declared.message.Node.{Node}
use Rattle.rx_graph.specs.declared.message.Node.TheVariants.{At}
use Rattle.rx_graph.specs.Graph.{Arrow, Graph, type_of}
use Rattle.rx_graph.specs.Paths.{first_of, size_of_target, value_or}
use Rattle.rx_forms.specs.declared.linear.Linear.{Linear}
use Rattle.rx_forms.specs.Linear.{at, term, minus, meets, not_below_zero}
use Rattle.rx_forms.specs.Normal.{Formed, bits, divisions_in}
use Rattle.rx_forms.specs.Points.{Represents, SolvesAny, Matches}
use Rattle.rx_forms.specs.Steps.{Step, first_form, size_form, size_aspect, end_form, first_division, size_division, target_field, divisions_in_any}
use Rattle.rx_forms.specs.Links.{IsNumericIfAny, IsNarrowIfAny}
use Rattle.rx_forms.proofs.Sums.{at_minus, at_term, at_constant}
use Rattle.rx_forms.proofs.Quotients.{to_le}
use Rattle.rx_forms.proofs.Matching.{value_if_any, end_matches, bits_value}
use Rattle.rx_layout.specs.Goals.{IsNoMultipleOf8}
use Rattle.rx_layout.specs.QueryOf.{unit_rows, interval_or, rest_interval, no_multiple, grid_formula}
use Rattle.rx_layout.proofs.Formulas.{first_meets, second_meets, is_broken}

-- ---- aspects that count

pub numeric_aspect : (type : Option Domain) (x : Option Tree) → IsNumericIfAny x → IsNumericIfAny (size_aspect type x)
numeric_aspect (Some t) x h = tt
numeric_aspect None x h = h

pub narrow_aspect : (limit : ℕ → ℕ) (type : Option Domain) (x : Option Tree) → IsNarrowIfAny limit x → IsNarrowIfAny limit (size_aspect type x)
narrow_aspect limit (Some t) x h = tt
narrow_aspect limit None x h = h

pub type_at : (domains : List Domain) (m : Graph) (target : Node) (f : ℕ) → target ≡ At f → type_of domains m (target_field target) ≡ type_of domains m f
type_at domains m target f h = ap (λ (n : Node). type_of domains m (target_field n)) h

-- ---- values

module _ (limit : ℕ → ℕ) (point : List ℤ) (gs : List Formed) (fields : List Placed) (total : ℕ) (r : Represents point gs (in_message total fields)) (match : Matches point gs fields) (link : Arrow) (n : ℕ) where
  abbrev step : Step
  step = record { before = gs; scalar = 0; division = n; link = link; field = target_field link.target }

  abbrev e : Environment
  e = in_message total fields

  pub first_value : IsNumericIfAny link.first → SolvesAny point (n + divisions_in link.condition) link.first e → at (first_form step) point ≡ first_of link e
  first_value nf fs = value_if_any limit point gs e r link.first (first_division step) (end_form gs) (end_of fields) nf fs (end_matches point gs fields match)

  pub size_value : (type : Option Domain) → IsNumericIfAny link.size → at (first_form step) point ≡ first_of link e → SolvesAny point (n + divisions_in link.condition + divisions_in_any link.first) (size_aspect type link.size) e
      → at (size_form type step) point ≡ size_of_target type link e
  size_value (Some t) ns f s = at_constant (pos (size_of t)) point
  size_value None ns f s =
      value_if_any limit point gs e r link.size (size_division step) (minus bits (first_form step)) (bits_of e -ℤ first_of link e) ns s
      (at_minus bits (first_form step) point ∙ ap (λ (z : ℤ). z -ℤ at (first_form step) point) (bits_value point e.total r.total) ∙ ap (λ (z : ℤ). bits_of e -ℤ z) f)

-- ---- quotients by 8

-- an aspect's value lies in its interval, and so does what stands for it
pub value_within : (limit : ℕ → ℕ) (e : Environment) (w : StaysWithin limit e) (x : Option Tree) (otherwise : Interval) (z : ℤ) → IsNarrowIfAny limit x → IsIn z otherwise → IsIn (value_or x e z) (interval_or limit x otherwise)
value_within limit e w None otherwise z nr h = h
value_within limit e w (Some x) otherwise z nr h = value_in limit e w x nr

quotient_within : (z : ℤ) (i : Interval) → IsIn z i → (int_div_euclid i.low (pos 8) ≤ℤ int_div_euclid z (pos 8)) × (int_div_euclid z (pos 8) ≤ℤ int_div_euclid i.high (pos 8))
quotient_within z i h = (quotient_up i.low z 7 h.above, quotient_up z i.high 7 h.below)

units_hold : (point : List ℤ) (q : ℕ) (i : Interval) (v : ℤ) → get_or point q (pos 0) ≡ v → int_div_euclid i.low (pos 8) ≤ℤ v → v ≤ℤ int_div_euclid i.high (pos 8) → not_below_zero point (unit_rows q i) ≡ true
units_hold point q i v e a b =
    let low = int_div_euclid i.low (pos 8) in
    let high = int_div_euclid i.high (pos 8) in
    let el = at_term (pos 1) q (neg_ℤ low) point in
    let eh = at_term (negsuc 0) q high point in
    and_true (to_le (pos 0) (at (term (pos 1) q (neg_ℤ low)) point) (lower low v (get_or point q (pos 0)) (at (term (pos 1) q (neg_ℤ low)) point) el e a))
    (and_true (to_le (pos 0) (at (term (negsuc 0) q high) point) (upper high v (get_or point q (pos 0)) (at (term (negsuc 0) q high) point) eh e b)) refl)
  where
    lower : (low v x y : ℤ) → y ≡ pos 1 *ℤ x +ℤ neg_ℤ low → x ≡ v → low ≤ℤ v → pos 0 ≤ℤ y
    lower low v x y p q h = omega (arith, ints, p, q, h)

    upper : (high v x y : ℤ) → y ≡ negsuc 0 *ℤ x +ℤ high → x ≡ v → v ≤ℤ high → pos 0 ≤ℤ y
    upper high v x y p q h = omega (arith, ints, p, q, h)

-- the unit rows of the quotient of a number that lies in the interval
pub quotient_units : (point : List ℤ) (q : ℕ) (i : Interval) (z : ℤ) → get_or point q (pos 0) ≡ int_div_euclid z (pos 8) → IsIn z i → not_below_zero point (unit_rows q i) ≡ true
quotient_units point q i z e h = let b = quotient_within z i h in units_hold point q i (int_div_euclid z (pos 8)) e b.0 b.1

-- The Size that is the rest of the message is a multiple of 8 where First is, so its quotient need not be known.
abbrev pub size_quotient : Option Tree → ℤ → ℤ
size_quotient None z = pos 0
size_quotient (Some x) z = int_div_euclid z (pos 8)

pub size_units : (limit : ℕ → ℕ) (e : Environment) (w : StaysWithin limit e) (point : List ℤ) (q : ℕ) (x : Option Tree) (z : ℤ) → IsNarrowIfAny limit x → get_or point q (pos 0) ≡ size_quotient x (value_or x e z) → not_below_zero point (unit_rows q (interval_or limit x rest_interval)) ≡ true
size_units limit e w point q None z nr h = units_hold point q rest_interval (pos 0) h (omega (arith, ints)) (omega (arith, ints))
size_units limit e w point q (Some x) z nr h = quotient_units point q _ _ h (value_in limit e w x nr)

module _ (point : List ℤ) where
  rest_broken : (total : ℕ) (x y : ℤ) → y ≡ pos (total * 8) -ℤ x → IsNoMultipleOf8 y → IsNoMultipleOf8 x
  rest_broken total x y e n h = n (pos total -ℤ h.0, other total x y h.0 e h.1)
    where
      other : (t : ℕ) (x y k : ℤ) → y ≡ pos (t * 8) -ℤ x → x ≡ k *ℤ pos 8 → y ≡ (pos t -ℤ k) *ℤ pos 8
      other t x y k e f = omega (arith, ints, e, f)

  pub is_off_grid : (e : Environment) (aspect : Option Tree) (f g : Linear) (q : ℕ) (x : ℤ) → at f point ≡ x → at g point ≡ value_or aspect e (bits_of e -ℤ x) → get_or point q (pos 0) ≡ int_div_euclid x (pos 8) → get_or point (q + 1) (pos 0) ≡ size_quotient aspect (value_or aspect e (bits_of e -ℤ x))
      → IsNoMultipleOf8 x ⊎ IsNoMultipleOf8 (value_or aspect e (bits_of e -ℤ x)) → meets (grid_formula f g q) point ≡ true
  is_off_grid e aspect f g q x p r k j (inl n) = first_meets point (no_multiple f q) (no_multiple g (q + 1)) (is_broken point f q x p k n)
  is_off_grid e None f g q x p r k j (inr n) = first_meets point (no_multiple f q) (no_multiple g (q + 1)) (is_broken point f q x p k (rest_broken e.total x (bits_of e -ℤ x) refl n))
  is_off_grid e (Some t) f g q x p r k j (inr n) = second_meets point (no_multiple f q) (no_multiple g (q + 1)) (is_broken point g (q + 1) _ r j n)
