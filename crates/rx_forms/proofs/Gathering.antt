-- What is gathered link by link is what the steps of a path have.
use Rattle.std.proofs.Common.{◌≡◌, refl, sym, ap, ◌∙◌, ℕ, ◌+◌, ◌≤◌, arith, List, [], ◌∷◌, ◌++◌, map, Bool, true, false, ◌&&◌, nat_le, append_assoc, append-nil}
use Rattle.std.specs.List.{flat_map}
use Rattle.std.proofs.lemmas.List.Folds.{list_all-append}
use Rattle.rx_types.specs.Domain.{Domain}
use Rattle.rx_graph.specs.Graph.{Arrow, Graph, type_of, limit_of}
use Rattle.rx_forms.specs.Normal.{divisions_in}
use Rattle.rx_forms.specs.Limits.{is_kept, met, all_kept}
use Rattle.rx_forms.specs.Steps.{Step, first_form, size_form, condition_form, division_forms, next_division, steps_from, formed_after, division_after, target_field, met_at, past, conditions_from, rows_from, met_from}
use Rattle.rx_forms.specs.Fronts

pub le_back : (a b : ℕ) → a ≤ b → nat_le b 190 ≡ true → nat_le a 190 ≡ true
le_back a b h e = grind (arith, h, e)

pub joins : (p q a b w : Bool) → (q ≡ true → p ≡ true) → (p ≡ true → w ≡ (q && b)) → ((p && a) && w) ≡ (q && (a && b))
joins true q true b w f g = g refl
joins true true false b w f g = refl
joins true false false b w f g = refl
joins false true a b w f g = absurd (clash (f refl))
  where
    clash : false ≡ true → ⊥
    clash h = cc
joins false false a b w f g = refl

module _ (domains : List Domain) (m : Graph) where
  abbrev step_of : Fronts.Front → Arrow → Step
  step_of = Fronts.step_at

  abbrev steps_on : Fronts.Front → List Arrow → List Step
  steps_on front links = steps_from domains m front.fields front.scalar front.division links

  pub fields_after : (front : Fronts.Front) (links : List Arrow) → (Fronts.after_links domains m front links).fields ≡ formed_after domains m front.fields front.scalar front.division links
  fields_after front [] = refl
  fields_after front (link ∷ links) = fields_after (Fronts.after_link domains m front link) links

  pub division_is : (front : Fronts.Front) (links : List Arrow) → (Fronts.after_links domains m front links).division ≡ division_after domains m front.division links
  division_is front [] = refl
  division_is front (link ∷ links) = division_is (Fronts.after_link domains m front link) links

  pub rows_after : (front : Fronts.Front) (links : List Arrow) → (Fronts.after_links domains m front links).rows ≡ front.rows ++ flat_map (λ step. division_forms (limit_of domains m) (type_of domains m step.field) step) (steps_on front links)
  rows_after front [] = sym (append-nil front.rows)
  rows_after front (link ∷ links) = rows_after (Fronts.after_link domains m front link) links ∙ append_assoc front.rows _ _

  pub firsts_after : (front : Fronts.Front) (links : List Arrow) → (Fronts.after_links domains m front links).firsts ≡ front.firsts ++ map first_form (steps_on front links)
  firsts_after front [] = sym (append-nil front.firsts)
  firsts_after front (link ∷ links) = firsts_after (Fronts.after_link domains m front link) links ∙ append_assoc front.firsts _ _

  pub sizes_after : (front : Fronts.Front) (links : List Arrow) → (Fronts.after_links domains m front links).sizes ≡ front.sizes ++ map (λ step. size_form (type_of domains m step.field) step) (steps_on front links)
  sizes_after front [] = sym (append-nil front.sizes)
  sizes_after front (link ∷ links) = sizes_after (Fronts.after_link domains m front link) links ∙ append_assoc front.sizes _ _

  pub conditions_after : (front : Fronts.Front) (links : List Arrow) → (Fronts.after_links domains m front links).conditions ≡ front.conditions ++ map condition_form (steps_on front links)
  conditions_after front [] = sym (append-nil front.conditions)
  conditions_after front (link ∷ links) = conditions_after (Fronts.after_link domains m front link) links ∙ append_assoc front.conditions _ _

  next_above : (step : Step) → step.division ≤ next_division domains m step
  next_above step = omega arith

  pub division_above : (d : ℕ) (links : List Arrow) → d ≤ division_after domains m d links
  division_above d [] = omega arith
  division_above d (link ∷ links) =
      let step : Step = record { before = []; scalar = 0; division = d; link = link; field = target_field link.target } in
      let a = next_above step in
      let b = division_above (next_division domains m step) links in
      omega (arith, a, b)

  -- the links stay within the limit where the last variable and all sums do
  pub within_links : (front : Fronts.Front) (links : List Arrow) → nat_le front.division 190 ≡ true
      → Fronts.links_within domains m front links ≡ (nat_le (division_after domains m front.division links) 190 && all_kept (flat_map (λ step. met_at (type_of domains m step.field) step) (steps_on front links)))
  within_links front [] h = sym (ap (λ (t : Bool). t && true) h)
  within_links front (link ∷ links) h =
      let step = Fronts.step_at front link in
      let next = next_division domains m step in
      let end = division_after domains m next links in
      joins (nat_le next 190) (nat_le end 190) (all_kept (met_at (type_of domains m step.field) step)) (all_kept (flat_map (λ s. met_at (type_of domains m s.field) s) (steps_on (Fronts.after_link domains m front link) links)))
      (Fronts.links_within domains m (Fronts.after_link domains m front link) links)
      (le_back next end (division_above next links)) (within_links (Fronts.after_link domains m front link) links)
      ∙ ap (λ (t : Bool). nat_le end 190 && t) (sym (list_all-append is_kept (met_at (type_of domains m step.field) step) _))

  -- ---- conditions at the end

  pub ends_division : (front : Fronts.Front) (links : List Arrow) → (Fronts.after_ends domains m front links).division ≡ past front.division links
  ends_division front [] = refl
  ends_division front (link ∷ links) = ends_division (Fronts.after_end domains m front link) links

  pub ends_rows : (front : Fronts.Front) (links : List Arrow) → (Fronts.after_ends domains m front links).rows ≡ front.rows ++ rows_from (limit_of domains m) front.fields front.division links
  ends_rows front [] = sym (append-nil front.rows)
  ends_rows front (link ∷ links) = ends_rows (Fronts.after_end domains m front link) links ∙ append_assoc front.rows _ _

  pub ends_conditions : (front : Fronts.Front) (links : List Arrow) → (Fronts.after_ends domains m front links).conditions ≡ front.conditions ++ conditions_from front.fields front.division links
  ends_conditions front [] = sym (append-nil front.conditions)
  ends_conditions front (link ∷ links) = ends_conditions (Fronts.after_end domains m front link) links ∙ append_assoc front.conditions _ _

  pub ends_firsts : (front : Fronts.Front) (links : List Arrow) → (Fronts.after_ends domains m front links).firsts ≡ front.firsts
  ends_firsts front [] = refl
  ends_firsts front (link ∷ links) = ends_firsts (Fronts.after_end domains m front link) links

  pub ends_sizes : (front : Fronts.Front) (links : List Arrow) → (Fronts.after_ends domains m front links).sizes ≡ front.sizes
  ends_sizes front [] = refl
  ends_sizes front (link ∷ links) = ends_sizes (Fronts.after_end domains m front link) links

  pub past_above : (n : ℕ) (links : List Arrow) → n ≤ past n links
  past_above n [] = omega arith
  past_above n (link ∷ links) = let b = past_above (n + divisions_in link.condition) links in omega (arith, b)

  pub within_ends : (front : Fronts.Front) (links : List Arrow) → nat_le front.division 190 ≡ true
      → Fronts.ends_within domains m front links ≡ (nat_le (past front.division links) 190 && all_kept (met_from front.fields front.division links))
  within_ends front [] h = sym (ap (λ (t : Bool). t && true) h)
  within_ends front (link ∷ links) h =
      let next = front.division + divisions_in link.condition in
      let end = past next links in
      joins (nat_le next 190) (nat_le end 190) (all_kept (met front.fields front.division link.condition)) (all_kept (met_from front.fields next links))
      (Fronts.ends_within domains m (Fronts.after_end domains m front link) links)
      (le_back next end (past_above next links)) (within_ends (Fronts.after_end domains m front link) links)
      ∙ ap (λ (t : Bool). nat_le end 190 && t) (sym (list_all-append is_kept (met front.fields front.division link.condition) _))
