-- Sums that have the numbers of a path's fields.
use Rattle.std.proofs.Common.{◌≡◌, refl, sym, ap, ◌∙◌, ℕ, ◌*◌, arith, List, [], ◌∷◌, ◌++◌, Bool, true, false, ◌||◌, if◌then◌else◌, ◌==◌, get_or, ℤ, pos, ◌+ℤ◌, ◌-ℤ◌, Option, Some, None, ◌⊎◌, inl, inr}
use Rattle.std.proofs.lemmas.Int.{ints}
use Rattle.std.proofs.lemmas.Bool.Decides.{Decides-eqb}
use Rattle.rx_types.specs.Tree.{Tree}
use Rattle.rx_types.specs.Domain.{Domain, size_of}
use Rattle.rx_types.specs.Environment.{Environment, Placed, place_of, end_of, bits_of, in_message, IsAmong}
use Rattle.rx_types.specs.Narrow.{StaysWithin}
use Rattle.rx_graph.specs.Paths.{value_or, first_of, size_of_target, HasNumber}
use Rattle.rx_forms.specs.declared.linear.Linear.{Linear}
use Rattle.rx_forms.specs.Linear.{at, plus, minus, not_below_zero}
use Rattle.rx_forms.specs.Normal.{Formed, formed_of, bits}
use Rattle.rx_forms.specs.Points.{HasPlace, Represents, SolvesAny, Matches}
use Rattle.rx_forms.specs.Steps.{Step, end_form, form_or, size_aspect, size_division, first_form, size_form, number_form, divisions_any, is_among}
use Rattle.rx_forms.specs.Links.{IsNumericIfAny, IsNarrowIfAny}
use Rattle.rx_forms.proofs.Sums.{at_plus, at_minus, at_term, at_variable, at_constant}
use Rattle.rx_forms.proofs.Values.{linear_value}
use Rattle.rx_forms.proofs.Quotients.{solves_number, rows_of_number}

module _ (point : List ℤ) where
  pub end_is : (f g : Linear) (x y : ℤ) → at f point ≡ x → at g point ≡ y → at (plus f g) point ≡ x +ℤ y
  end_is f g x y p q = at_plus f g point ∙ ap (λ (z : ℤ). z +ℤ at g point) p ∙ ap (λ (z : ℤ). x +ℤ z) q

  if_place : (b c : Bool) (g g' : Formed) (p p' : Placed) → b ≡ c → HasPlace point g p → HasPlace point g' p' → HasPlace point (if b then g else g') (if c then p else p')
  if_place true true g g' p p' e h k = h
  if_place true false g g' p p' e h k = absurd (cc)
  if_place false true g g' p p' e h k = absurd (cc)
  if_place false false g g' p p' e h k = k

  no_place : (f : ℕ) → HasPlace point (formed_of f []) (place_of f [])
  no_place f = record { first = at_constant (pos 0) point; size = at_constant (pos 0) point; end = at_constant (pos 0) point; number = at_constant (pos 0) point }

  places_match : (gs : List Formed) (ps : List Placed) → Matches point gs ps → (f : ℕ) → HasPlace point (formed_of f gs) (place_of f ps)
  places_match [] [] h f = no_place f
  places_match [] (p ∷ ps) h f = absurd h
  places_match (g ∷ gs) [] h f = absurd h
  places_match (g ∷ gs) (p ∷ ps) h f = if_place (g.field == f) (p.field == f) g (formed_of f gs) p (place_of f ps) (ap (λ (n : ℕ). n == f) h.0) h.1 (places_match gs ps h.2 f)

  pub represents : (total : ℕ) (gs : List Formed) (ps : List Placed) → get_or point 0 (pos 0) ≡ pos total → Matches point gs ps → Represents point gs (in_message total ps)
  represents total gs ps t h = record { total = t; places = places_match gs ps h }

  pub end_matches : (gs : List Formed) (ps : List Placed) → Matches point gs ps → at (end_form gs) point ≡ end_of ps
  end_matches [] [] h = at_constant (pos 0) point
  end_matches [] (p ∷ ps) h = absurd h
  end_matches (g ∷ gs) [] h = absurd h
  end_matches (g ∷ []) (p ∷ []) h = h.1.end
  end_matches (g ∷ []) (p ∷ q ∷ ps) h = absurd h.2
  end_matches (g ∷ k ∷ gs) (p ∷ []) h = absurd h.2
  end_matches (g ∷ k ∷ gs) (p ∷ q ∷ ps) h = end_matches (k ∷ gs) (q ∷ ps) h.2

  pub matches_on : (gs : List Formed) (ps : List Placed) (g : Formed) (p : Placed) → Matches point gs ps → g.field ≡ p.field → HasPlace point g p → Matches point (gs ++ g ∷ []) (ps ++ p ∷ [])
  matches_on [] [] g p h e k = (e, k, tt)
  matches_on [] (q ∷ ps) g p h e k = absurd h
  matches_on (k1 ∷ gs) [] g p h e k = absurd h
  matches_on (k1 ∷ gs) (q ∷ ps) g p h e k = (h.0, h.1, matches_on gs ps g p h.2 e k)

  among_by : (b : Bool) (g : Formed) (p : Placed) (x : ℕ) (more : Bool) (P : Type 0) → (g.field == x) ≡ b → g.field ≡ p.field → (b || more) ≡ true → (more ≡ true → P) → (p.field ≡ x) ⊎ P
  among_by true g p x more P e same t rest = inl (sym same ∙ (Decides-eqb g.field x).0 e)
  among_by false g p x more P e same t rest = inr (rest t)

  -- the field stands among the forms exactly where it stands among the fields
  pub among_forms : (x : ℕ) (gs : List Formed) (ps : List Placed) → Matches point gs ps → is_among x gs ≡ true → IsAmong x ps
  among_forms x [] [] h t = absurd (cc)
  among_forms x [] (p ∷ ps) h t = absurd h
  among_forms x (g ∷ gs) [] h t = absurd h
  among_forms x (g ∷ gs) (p ∷ ps) h t = among_by (g.field == x) g p x (is_among x gs) (IsAmong x ps) refl h.0 t (λ r. among_forms x gs ps h.2 r)

  or_left : (b c : Bool) → b ≡ true → (b || c) ≡ true
  or_left b c h = ap (λ (t : Bool). t || c) h

  or_right : (b c : Bool) → c ≡ true → (b || c) ≡ true
  or_right true c h = refl
  or_right false c h = h

  pub among_back : (x : ℕ) (gs : List Formed) (ps : List Placed) → Matches point gs ps → IsAmong x ps → is_among x gs ≡ true
  among_back x [] [] h t = absurd t
  among_back x [] (p ∷ ps) h t = absurd h
  among_back x (g ∷ gs) [] h t = absurd h
  among_back x (g ∷ gs) (p ∷ ps) h (inl e) = or_left (g.field == x) (is_among x gs) ((Decides-eqb g.field x).1 (h.0 ∙ e))
  among_back x (g ∷ gs) (p ∷ ps) h (inr r) = or_right (g.field == x) (is_among x gs) (among_back x gs ps h.2 r)

  pub bits_value : (total : ℕ) → get_or point 0 (pos 0) ≡ pos total → at bits point ≡ pos (total * 8)
  bits_value total t = let a = at_term (pos 8) 0 (pos 0) point in omega (arith, ints)

module _ (limit : ℕ → ℕ) (point : List ℤ) (fields : List Formed) (e : Environment) (r : Represents point fields e) where
  pub value_if_any : (x : Option Tree) (n : ℕ) (otherwise : Linear) (z : ℤ) → IsNumericIfAny x → SolvesAny point n x e → at otherwise point ≡ z → at (form_or x fields n otherwise) point ≡ value_or x e z
  value_if_any None n otherwise z h s k = k
  value_if_any (Some x) n otherwise z h s k = linear_value point fields e r n x h s

  pub solves_any : (x : Option Tree) (n : ℕ) → IsNumericIfAny x → not_below_zero point (divisions_any limit fields n x) ≡ true → SolvesAny point n x e
  solves_any None n h s = tt
  solves_any (Some x) n h s = solves_number limit point fields e r n x h s

  pub rows_of_any : StaysWithin limit e → (x : Option Tree) (n : ℕ) → IsNumericIfAny x → IsNarrowIfAny limit x → SolvesAny point n x e → not_below_zero point (divisions_any limit fields n x) ≡ true
  rows_of_any w None n h c s = refl
  rows_of_any w (Some x) n h c s = rows_of_number limit point fields e r w n x h c s

-- ---- the Size that counts

pub numeric_aspect : (type : Option Domain) (x : Option Tree) → IsNumericIfAny x → IsNumericIfAny (size_aspect type x)
numeric_aspect (Some t) x h = tt
numeric_aspect None x h = h

pub narrow_aspect : (limit : ℕ → ℕ) (type : Option Domain) (x : Option Tree) → IsNarrowIfAny limit x → IsNarrowIfAny limit (size_aspect type x)
narrow_aspect limit (Some t) x h = tt
narrow_aspect limit None x h = h

-- the sum of a Size has its value, where that of the First has its own
pub size_value : (limit : ℕ → ℕ) (point : List ℤ) (type : Option Domain) (step : Step) (e : Environment) → Represents point step.before e → IsNumericIfAny step.link.size → at (first_form step) point ≡ first_of step.link e → SolvesAny point (size_division step) (size_aspect type step.link.size) e → at (size_form type step) point ≡ size_of_target type step.link e
size_value limit point (Some t) step e r h f s = at_constant (pos (size_of t)) point
size_value limit point None step e r h f s =
    value_if_any limit point step.before e r step.link.size (size_division step) (minus bits (first_form step)) (bits_of e -ℤ first_of step.link e) h s
    (at_minus bits (first_form step) point ∙ ap (λ (z : ℤ). z -ℤ at (first_form step) point) (bits_value point e.total r.total) ∙ ap (λ (z : ℤ). bits_of e -ℤ z) f)

-- the sum of a number has it, where the point has that of a scalar
pub number_value : (point : List ℤ) (type : Option Domain) (step : Step) (n : ℕ) → HasNumber type n → ((t : Domain) → type ≡ Some t → get_or point step.scalar (pos 0) ≡ pos n) → at (number_form type step) point ≡ pos n
number_value point (Some t) step n h c = at_variable step.scalar point ∙ c t refl
number_value point None step n h c = at_constant (pos 0) point ∙ ap (λ (k : ℕ). pos k) (sym h)
