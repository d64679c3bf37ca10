-- The facts of a path and of what is asked at its end hold where the rows of its links do, and what is asked.
use Rattle.std.proofs.Common.{◌≡◌, refl, sym, ◌∙◌, ℕ, ◌<◌, ◌^◌, arith, List, [], ◌∷◌, ◌++◌, map, true, get_or, ℤ, pos}
use Rattle.std.specs.List.{AllByRecursion}
use Rattle.rx_linear.proofs.Joining.{both, and_true}
use Rattle.rx_types.specs.Domain.{Domain}
use Rattle.rx_graph.specs.Graph.{Graph, type_of, limit_of}
use Rattle.rx_forms.specs.declared.linear.Linear.{Linear}
use Rattle.rx_forms.specs.declared.linear.Form.{Form}
use Rattle.rx_forms.specs.Linear.{meets, not_below_zero}
use Rattle.rx_forms.specs.Steps
use Rattle.rx_forms.specs.Steps.{Step, type_form_any, place_forms, condition_form, division_forms}
use Rattle.rx_layout.specs.Types.{type_form, between}
use Rattle.rx_layout.specs.QueryOf
use Rattle.rx_layout.specs.QueryOf.{rows, length_form}
use Rattle.rx_layout.proofs.Lists.{meet_all, meets_all, meets_rows, split, join}
use Rattle.rx_layout.proofs.Domains.{between_meets, meets_between}

-- ---- the length

length_value : (point : List ℤ) → meets length_form point ≡ true → (n : ℕ) × (get_or point 0 (pos 0) ≡ pos n) × (n < 2 ^ 24)
length_value point h = let b = between_meets 0 16777215 0 point (sym (meets_all (between 0 16777215 0) point) ∙ h) in (b.0, b.1, omega (arith, b.3))

length_back : (point : List ℤ) (n : ℕ) → get_or point 0 (pos 0) ≡ pos n → n < 2 ^ 24 → meets length_form point ≡ true
length_back point n e short = meets_all (between 0 16777215 0) point ∙ meets_between 0 16777215 0 point n e (omega arith) (omega (arith, short))

-- ---- the rows of a path

module _ (domains : List Domain) (m : Graph) (point : List ℤ) where
  abbrev pub Holds : Step → Type 0
  Holds = Steps.HoldsAt domains m (limit_of domains m) type_form point

  -- one kind of rows after another, for all steps
  all_hold : (steps : List Step)
      → meet_all point (map (λ s. type_form_any type_form (type_of domains m s.field) s) steps) ≡ true
      → meet_all point (map (λ s. rows (place_forms (type_of domains m s.field) s)) steps) ≡ true
      → meet_all point (map (λ s. Steps.overlay_form domains m s) steps) ≡ true
      → meet_all point (map condition_form steps) ≡ true
      → meet_all point (map (λ s. rows (division_forms (limit_of domains m) (type_of domains m s.field) s)) steps) ≡ true
      → AllByRecursion Holds steps
  all_hold [] t p o c d = tt
  all_hold (s ∷ steps) t p o c d =
      let t1 = both {a = meets (type_form_any type_form (type_of domains m s.field) s) point} t in
      let p1 = both {a = meets (rows (place_forms (type_of domains m s.field) s)) point} p in
      let o1 = both {a = meets (Steps.overlay_form domains m s) point} o in
      let c1 = both {a = meets (condition_form s) point} c in
      let d1 = both {a = meets (rows (division_forms (limit_of domains m) (type_of domains m s.field) s)) point} d in (
        record {
          divided = sym (meets_rows point (division_forms (limit_of domains m) (type_of domains m s.field) s)) ∙ d1.0;
          taken = c1.0;
          placed = sym (meets_rows point (place_forms (type_of domains m s.field) s)) ∙ p1.0;
          typed = t1.0;
          overlaid = o1.0;
        },
        all_hold steps t1.1 p1.1 o1.1 c1.1 d1.1,
      )

  pub path_points : (steps : List Step) (asked : List Form) (divided : List Linear) → meet_all point (QueryOf.path_forms domains m steps asked divided) ≡ true
      → ((n : ℕ) × (get_or point 0 (pos 0) ≡ pos n) × (n < 2 ^ 24)) × AllByRecursion Holds steps × (meet_all point asked ≡ true) × (not_below_zero point divided ≡ true)
  path_points steps asked divided h =
      let types = map (λ s. type_form_any type_form (type_of domains m s.field) s) steps in
      let places = map (λ s. rows (place_forms (type_of domains m s.field) s)) steps in
      let overlays = map (λ s. Steps.overlay_form domains m s) steps in
      let conditions = map condition_form steps in
      let quotients = map (λ s. rows (division_forms (limit_of domains m) (type_of domains m s.field) s)) steps in
      let last = rows divided ∷ [] in
      let h1 = split point types (length_form ∷ (places ++ (overlays ++ (conditions ++ (asked ++ (quotients ++ last)))))) h in
      let h2 = both {a = meets length_form point} h1.1 in
      let h3 = split point places (overlays ++ (conditions ++ (asked ++ (quotients ++ last)))) h2.1 in
      let h4 = split point overlays (conditions ++ (asked ++ (quotients ++ last))) h3.1 in
      let h5 = split point conditions (asked ++ (quotients ++ last)) h4.1 in
      let h6 = split point asked (quotients ++ last) h5.1 in
      let h7 = split point quotients last h6.1 in
      (length_value point h2.0, all_hold steps h1.0 h3.0 h4.0 h5.0 h7.0, h6.0, sym (meets_rows point divided) ∙ (both {a = meets (rows divided) point} h7.1).0)

  hold_all : (steps : List Step) → AllByRecursion Holds steps
      → (meet_all point (map (λ s. type_form_any type_form (type_of domains m s.field) s) steps) ≡ true)
      × (meet_all point (map (λ s. rows (place_forms (type_of domains m s.field) s)) steps) ≡ true)
      × (meet_all point (map (λ s. Steps.overlay_form domains m s) steps) ≡ true)
      × (meet_all point (map condition_form steps) ≡ true)
      × (meet_all point (map (λ s. rows (division_forms (limit_of domains m) (type_of domains m s.field) s)) steps) ≡ true)
  hold_all [] h = (refl, refl, refl, refl, refl)
  hold_all (s ∷ steps) h =
      let r = hold_all steps h.1 in (
        and_true h.0.typed r.0,
        and_true (meets_rows point (place_forms (type_of domains m s.field) s) ∙ h.0.placed) r.1,
        and_true h.0.overlaid r.2,
        and_true h.0.taken r.3,
        and_true (meets_rows point (division_forms (limit_of domains m) (type_of domains m s.field) s) ∙ h.0.divided) r.4,
      )

  pub points_path : (steps : List Step) (asked : List Form) (divided : List Linear) (n : ℕ) → get_or point 0 (pos 0) ≡ pos n → n < 2 ^ 24 → AllByRecursion Holds steps → meet_all point asked ≡ true → not_below_zero point divided ≡ true
      → meet_all point (QueryOf.path_forms domains m steps asked divided) ≡ true
  points_path steps asked divided n e short h g d =
      let types = map (λ s. type_form_any type_form (type_of domains m s.field) s) steps in
      let places = map (λ s. rows (place_forms (type_of domains m s.field) s)) steps in
      let overlays = map (λ s. Steps.overlay_form domains m s) steps in
      let conditions = map condition_form steps in
      let quotients = map (λ s. rows (division_forms (limit_of domains m) (type_of domains m s.field) s)) steps in
      let last = rows divided ∷ [] in
      let a = hold_all steps h in
      join point types (length_form ∷ (places ++ (overlays ++ (conditions ++ (asked ++ (quotients ++ last)))))) a.0
      (and_true (length_back point n e short)
      (join point places (overlays ++ (conditions ++ (asked ++ (quotients ++ last)))) a.1
      (join point overlays (conditions ++ (asked ++ (quotients ++ last))) a.2
      (join point conditions (asked ++ (quotients ++ last)) a.3
      (join point asked (quotients ++ last) g
      (join point quotients last a.4 (and_true (meets_rows point divided ∙ d) refl)))))))
