-- A length and numbers of the types place the fields of a path.
use Rattle.std.proofs.Common.{◌≡◌, refl, sym, ap, subst, ◌∙◌, ℕ, List, [], ◌∷◌, ◌++◌, map, ℤ, pos, Option, Some, None}
use Rattle.rx_types.specs.Domain.{Domain}
use Rattle.rx_types.specs.Environment.{Placed, in_message}
use Rattle.rx_graph.specs.Graph.{Arrow, Graph, type_of}
use Rattle.rx_graph.specs.Paths.{HasNumber, placed_by}
use Rattle.rx_forms.specs.Steps.{target_field, links_on, into_fields}
use Rattle.rx_forms.specs.Points.{numbers_of, number_if}
use Rattle.rx_forms.specs.Placing.{NumberThen, AreNumbersFor, ArePlaced}
use Rattle.rx_forms.specs.Laws.{NumbersPlaceFields}

module _ (domains : List Domain) (m : Graph) (total : ℕ) where
  -- behind the fields before, the links place fields with these numbers
  abbrev Places : List Placed → List Arrow → List ℕ → Type 0
  Places before links numbers = (fields : List Placed) × ArePlaced domains m total before links fields × (numbers_of domains m fields ≡ map (λ n. pos n) numbers)

  place_first : (before : List Placed) (link : Arrow) (links : List Arrow) (type : Option Domain) (numbers : List ℕ) → type_of domains m (target_field link.target) ≡ type
      → NumberThen type numbers (λ rest. AreNumbersFor domains m links rest) → ((p : Placed) (rest : List ℕ) → AreNumbersFor domains m links rest → Places (before ++ p ∷ []) links rest) → Places before (link ∷ links) numbers
  place_first before link links None numbers e h on =
      let p = placed_by domains m link (in_message total before) (target_field link.target) 0 in
      let rest = on p numbers h in (
        p ∷ rest.0,
        (refl, subst (λ (o : Option Domain). HasNumber o 0) (sym e) refl, rest.1),
        ap (λ (o : Option Domain). number_if o 0 ++ numbers_of domains m rest.0) e ∙ rest.2,
      )
  place_first before link links (Some t) [] e h on = absurd h
  place_first before link links (Some t) (n ∷ numbers) e h on =
      let p = placed_by domains m link (in_message total before) (target_field link.target) n in
      let rest = on p numbers h.1 in (
        p ∷ rest.0,
        (refl, subst (λ (o : Option Domain). HasNumber o n) (sym e) h.0, rest.1),
        ap (λ (o : Option Domain). number_if o n ++ numbers_of domains m rest.0) e ∙ ap (λ (zs : List ℤ). pos n ∷ zs) rest.2,
      )

  place_all : (links : List Arrow) (before : List Placed) (numbers : List ℕ) → AreNumbersFor domains m links numbers → Places before links numbers
  place_all [] before [] h = ([], tt, refl)
  place_all [] before (n ∷ numbers) h = absurd h
  place_all (link ∷ links) before numbers h =
      place_first before link links (type_of domains m (target_field link.target)) numbers refl h (λ p rest k. place_all links (before ++ p ∷ []) rest k)

pub numbers_place : (domains : List Domain) (m : Graph) → NumbersPlaceFields domains m
numbers_place domains m total path numbers h = place_all domains m total (into_fields (links_on domains m path)) [] numbers h
