-- A field that is read at its place, and one over it.
use Rattle.std.proofs.Common.{◌≡◌, ℕ, ◌+◌, ◌*◌, ◌≤◌, Bool, true, false, List, [], ◌∷◌, Option, Some, None, refl, sym, ap, ◌∙◌, subst, inl, inr, arith}
use Rattle.std.specs.Prelude.{pos, if◌then◌else◌, ◌==◌}
use Rattle.std.specs.List.{AllByRecursion}
use Rattle.std.proofs.lemmas.Int.{ints}
use Rattle.std.proofs.lemmas.Bool.Decides.{Decides-eqb}
use Rattle.rx_model.specs.Order.{number_in}
use Rattle.rx_types.specs.Domain.{Domain, IsNumberOf}
use Rattle.rx_types.specs.declared.stuck.Reason.TheVariants.{Short, Value}
use Rattle.rx_types.specs.Environment.{Placed, Environment, place_of, end_of, IsAmong}
use Rattle.rx_graph.specs.declared.message.Node.{Node}
use Rattle.rx_graph.specs.Graph.{Arrow, Graph, type_of}
use Rattle.rx_graph.specs.Checks.{size_to}
use Rattle.rx_graph.specs.Paths.{value_or, first_of, HasNumber, LiesWithin, Places, IsReadBy}
use Rattle.rx_graph.specs.Elaborated.{IsElaborated}
use Rattle.rx_graph.specs.Fits.{by_buffer}
use Rattle.rx_graph.specs.Stuck.{IsReason, Tries}
use Rattle.rx_graph.proofs.Facts.{laid_over_overlay}
use Rattle.rx_context.specs.Reading.{IsRead, IsRefused}
use Rattle.rx_context.specs.Steps.{Takes}

abbrev pub at_place : ℕ → ℕ → ℕ → ℕ → Placed
at_place f first size number = record { field = f; first = pos first; size = pos size; number = number }

clash : true ≡ false → ⊥
clash e = cc

none_some : {X : Type 0} (x : X) → None ≡ Some x → ⊥
none_some x h = cc

some_same : {X : Type 0} (x y : X) → Some x ≡ Some y → x ≡ y
some_same x y h = cc

has_number : (t : Option Domain) (bits n : ℕ) → IsRead t bits n → HasNumber t n
has_number None bits n h = h
has_number (Some t) bits n h = h.1

is_bits : (t : Option Domain) (bits n : ℕ) (s : Domain) → IsRead t bits n → t ≡ Some s → n ≡ bits
is_bits None bits n s h e = absurd (none_some s e)
is_bits (Some t) bits n s h e = h.0

module _ (domains : List Domain) (m : Graph) (bytes : List ℕ) where
  abbrev pub IsReadHere : Placed → Type 0
  IsReadHere p = IsReadBy domains m (by_buffer m.low_order bytes) p

  among_if : (b : Bool) (p : Placed) (ps : List Placed) (x : ℕ) (t : Domain) → (b ≡ true → p.field ≡ x) → (p.field ≡ x → b ≡ true) → IsReadHere p → type_of domains m x ≡ Some t → (IsAmong x ps → (place_of x ps).number ≡ by_buffer m.low_order bytes x (place_of x ps).first (place_of x ps).size) → IsAmong x (p ∷ ps)
      → (if b then p else place_of x ps).number ≡ by_buffer m.low_order bytes x (if b then p else place_of x ps).first (if b then p else place_of x ps).size
  among_if true p ps x t same back r typed rest h = r t (ap (λ f. type_of domains m f) (same refl) ∙ typed)
  among_if false p ps x t same back r typed rest (inl e) = absurd (clash (sym (back e)))
  among_if false p ps x t same back r typed rest (inr h) = rest h

  -- a scalar among fields that were read has the number of its bits
  pub among_read : (fields : List Placed) → AllByRecursion (IsReadBy domains m (by_buffer m.low_order bytes)) fields → (x : ℕ) (t : Domain) → type_of domains m x ≡ Some t → IsAmong x fields → (place_of x fields).number ≡ by_buffer m.low_order bytes x (place_of x fields).first (place_of x fields).size
  among_read [] r x t typed h = absurd h
  among_read (p ∷ ps) r x t typed h =
      among_if (p.field == x) p ps x t (Decides-eqb p.field x).0 (Decides-eqb p.field x).1 r.0 typed (among_read ps r.1 x t typed) h

  module _ (e : Environment) (at : Node) (f : ℕ) (link : Arrow) (takes : Takes m e at f link) (first size : ℕ) (first_is : first_of link e ≡ pos first) (size_is : size_to domains m link e f ≡ pos size) (ends : first + size ≤ e.total * 8) where
    lies : LiesWithin e (pos first) (pos size)
    lies = record { begins = omega (arith, ints); long = omega (arith, ints); ends = omega (arith, ints, ends) }

    -- the field that the link places, with the number of its bits
    pub places : IsElaborated domains m → AllByRecursion (IsReadBy domains m (by_buffer m.low_order bytes)) e.fields → (number : ℕ) → IsRead (type_of domains m f) (number_in m.low_order bytes first size) number → Places domains m link e (at_place f first size number)
    places el reads number read =
        record {
          target = takes.target;
          taken = takes.taken;
          place = ap (λ z. let q : Placed = record { field = f; first = z; size = pos size; number = number } in q) (sym first_is) ∙ ap (λ z. let q : Placed = record { field = f; first = first_of link e; size = z; number = number } in q) (sym size_is);
          within = lies;
          number = has_number (type_of domains m f) (number_in m.low_order bytes first size) number read;
          agrees = λ x s u over scalar scalar' among same.
              is_bits (type_of domains m f) (number_in m.low_order bytes first size) number s read scalar ∙ ap (λ z. by_buffer m.low_order bytes x z (pos size)) (sym first_is ∙ ap (λ o. value_or o e (end_of e.fields)) (laid_over_overlay domains m el takes.index link f x takes.is takes.target over)) ∙ ap (λ z. by_buffer m.low_order bytes x (place_of x e.fields).first z) (sym same) ∙ sym (among_read e.fields reads x u scalar' among);
        }

    pub is_read : (number : ℕ) → IsRead (type_of domains m f) (number_in m.low_order bytes first size) number → IsReadHere (at_place f first size number)
    is_read number read s typed = is_bits (type_of domains m f) (number_in m.low_order bytes first size) number s read typed

    tries : Tries domains m (by_buffer m.low_order bytes) e at f link
    tries = record { index = takes.index; is = takes.is; source = takes.source; target = takes.target; taken = takes.taken }

    refused_by : (t : Option Domain) → type_of domains m f ≡ t → IsRefused t (number_in m.low_order bytes first size) → IsReason domains m (by_buffer m.low_order bytes) e at Value (Some f)
    refused_by None typed h = absurd h
    refused_by (Some t) typed h =
        let within : LiesWithin e (first_of link e) (size_to domains m link e f) =
        subst (λ z. LiesWithin e z (size_to domains m link e f)) (sym first_is) (subst (λ z. LiesWithin e (pos first) z) (sym size_is) lies) in
        let same : number_in m.low_order bytes first size ≡ by_buffer m.low_order bytes f (first_of link e) (size_to domains m link e f) =
        ap (λ z. by_buffer m.low_order bytes f z (pos size)) (sym first_is) ∙ ap (λ z. by_buffer m.low_order bytes f (first_of link e) z) (sym size_is) in
        (f, link, refl, tries, within, t, typed, λ k. h (subst (λ n. IsNumberOf t n) (sym same) k))

    -- a scalar whose number is not in its type is a reason to stop
    pub refused : IsRefused (type_of domains m f) (number_in m.low_order bytes first size) → IsReason domains m (by_buffer m.low_order bytes) e at Value (Some f)
    refused h = refused_by (type_of domains m f) refl h

  -- a field that does not lie in the buffer is a reason to stop
  pub too_short : (e : Environment) (at : Node) (f : ℕ) (link : Arrow) → Takes m e at f link → (LiesWithin e (first_of link e) (size_to domains m link e f) → ⊥) → IsReason domains m (by_buffer m.low_order bytes) e at Short (Some f)
  too_short e at f link takes out =
      (f, link, refl, record { index = takes.index; is = takes.is; source = takes.source; target = takes.target; taken = takes.taken }, out)
