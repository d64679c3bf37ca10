-- A fact that holds the rows of all divisions at once has the same parts as one that holds them step by step.
use Rattle.std.proofs.Common.{◌≡◌, refl, sym, ap, ◌∙◌, ℕ, List, [], ◌∷◌, ◌++◌, map, append_assoc, append-nil}
use Rattle.std.specs.List.{flat_map}
use Rattle.std.proofs.lemmas.List.{map-append}
use Rattle.rx_linear.specs.declared.row.Row.{Row}
use Rattle.rx_proof.specs.declared.query.Query.{Query}
use Rattle.rx_forms.specs.declared.linear.Linear.{Linear}
use Rattle.rx_forms.specs.declared.linear.Form.{Form, AtLeast, All}
use Rattle.rx_forms.specs.Steps.{Step}
use Rattle.rx_layout.specs.declared.parts.Parts.{Parts}
use Rattle.rx_layout.specs.Parts.{row_of, nothing, joined, all_of, parts_of}
use Rattle.rx_layout.specs.QueryOf.{rows}
use Rattle.rx_layout.proofs.Gathered.{parts_at_least, parts_all}

abbrev parts_with : List Row → List (List Query) → Parts
parts_with rows either = record { rows = rows; either = either }

module _ (n : ℕ) where
  pub all_append : (ps qs : List Parts) → all_of (ps ++ qs) ≡ joined (all_of ps) (all_of qs)
  all_append [] qs = refl
  all_append (p ∷ ps) qs =
      ap (λ x. joined p x) (all_append ps qs)
      ∙ ap (λ x. parts_with x (p.either ++ ((all_of ps).either ++ (all_of qs).either))) (sym (append_assoc p.rows (all_of ps).rows (all_of qs).rows))
      ∙ ap (λ x. parts_with ((p.rows ++ (all_of ps).rows) ++ (all_of qs).rows) x) (sym (append_assoc p.either (all_of ps).either (all_of qs).either))

  each_row : (fs : List Linear) → all_of (map (parts_of n) (map (λ f. AtLeast f) fs)) ≡ record { rows = map (row_of n) fs; either = [] }
  each_row [] = refl
  each_row (f ∷ fs) = ap (λ x. joined x (all_of (map (parts_of n) (map (λ f. AtLeast f) fs)))) (parts_at_least n f) ∙ ap (λ x. joined (record { rows = row_of n f ∷ []; either = [] }) x) (each_row fs)

  rows_parts : (fs : List Linear) → parts_of n (rows fs) ≡ record { rows = map (row_of n) fs; either = [] }
  rows_parts fs = parts_all n (map (λ f. AtLeast f) fs) ∙ each_row fs

  only_rows : (fs : List Linear) → all_of (parts_of n (rows fs) ∷ []) ≡ record { rows = map (row_of n) fs; either = [] }
  only_rows fs = ap (λ x. joined x (all_of [])) (rows_parts fs) ∙ ap (λ x. parts_with x []) (append-nil (map (row_of n) fs))

  steps_rows : (ds : Step → List Linear) (steps : List Step) (more : List Linear)
      → all_of (map (parts_of n) (map (λ s. rows (ds s)) steps ++ rows more ∷ [])) ≡ record { rows = map (row_of n) (flat_map ds steps ++ more); either = [] }
  steps_rows ds [] more = only_rows more
  steps_rows ds (s ∷ steps) more =
      ap (λ x. joined x (all_of (map (parts_of n) (map (λ s. rows (ds s)) steps ++ rows more ∷ [])))) (rows_parts (ds s))
      ∙ ap (λ x. joined (record { rows = map (row_of n) (ds s); either = [] }) x) (steps_rows ds steps more)
      ∙ ap (λ x. parts_with x []) (sym (map-append (row_of n) (ds s) (flat_map ds steps ++ more)) ∙ ap (λ x. map (row_of n) x) (sym (append_assoc (ds s) (flat_map ds steps) more)))

  -- the rows of all divisions stand last
  pub flat_parts : (front : List Form) (ds : Step → List Linear) (steps : List Step) (more : List Linear)
      → parts_of n (All (front ++ rows (flat_map ds steps ++ more) ∷ [])) ≡ parts_of n (All (front ++ (map (λ s. rows (ds s)) steps ++ rows more ∷ [])))
  flat_parts front ds steps more =
      let last = map (λ s. rows (ds s)) steps ++ rows more ∷ [] in
      let flat = rows (flat_map ds steps ++ more) ∷ [] in
      parts_all n (front ++ flat)
      ∙ ap all_of (map-append (parts_of n) front flat)
      ∙ all_append (map (parts_of n) front) (map (parts_of n) flat)
      ∙ ap (λ x. joined (all_of (map (parts_of n) front)) x) (only_rows (flat_map ds steps ++ more) ∙ sym (steps_rows ds steps more))
      ∙ sym (all_append (map (parts_of n) front) (map (parts_of n) last))
      ∙ ap all_of (sym (map-append (parts_of n) front last))
      ∙ sym (parts_all n (front ++ last))

  -- rows one by one, and all in one fact
  one_by_one : (fs gs : List Linear) → all_of (map (parts_of n) (map (λ f. AtLeast f) fs ++ map (λ f. AtLeast f) gs)) ≡ all_of (map (parts_of n) (rows (fs ++ gs) ∷ []))
  one_by_one fs gs = ap (λ x. all_of (map (parts_of n) x)) (sym (map-append (λ f. AtLeast f) fs gs)) ∙ each_row (fs ++ gs) ∙ sym (only_rows (fs ++ gs))

  -- what stands behind the same facts
  behind_same : (front xs ys : List Form) → all_of (map (parts_of n) xs) ≡ all_of (map (parts_of n) ys) → all_of (map (parts_of n) (front ++ xs)) ≡ all_of (map (parts_of n) (front ++ ys))
  behind_same front xs ys e =
      ap all_of (map-append (parts_of n) front xs)
      ∙ all_append (map (parts_of n) front) (map (parts_of n) xs)
      ∙ ap (λ x. joined (all_of (map (parts_of n) front)) x) e
      ∙ sym (all_append (map (parts_of n) front) (map (parts_of n) ys))
      ∙ ap all_of (sym (map-append (parts_of n) front ys))

  -- the facts of a path and those that are asked, then the rows of both
  pub four_parts : (facts asked : List Form) (fs gs : List Linear)
      → all_of (map (parts_of n) (facts ++ (asked ++ (map (λ f. AtLeast f) fs ++ map (λ f. AtLeast f) gs)))) ≡ parts_of n (All (facts ++ (asked ++ rows (fs ++ gs) ∷ [])))
  four_parts facts asked fs gs =
      behind_same facts (asked ++ (map (λ f. AtLeast f) fs ++ map (λ f. AtLeast f) gs)) (asked ++ rows (fs ++ gs) ∷ [])
      (behind_same asked (map (λ f. AtLeast f) fs ++ map (λ f. AtLeast f) gs) (rows (fs ++ gs) ∷ []) (one_by_one fs gs))
      ∙ sym (parts_all n (facts ++ (asked ++ rows (fs ++ gs) ∷ [])))

  -- facts added behind others
  added : (xs ys : List Form) (p q : Parts) → p ≡ all_of (map (parts_of n) xs) → q ≡ joined p (all_of (map (parts_of n) ys)) → q ≡ all_of (map (parts_of n) (xs ++ ys))
  added xs ys p q e h =
      h ∙ ap (λ x. joined x (all_of (map (parts_of n) ys))) e ∙ sym (all_append (map (parts_of n) xs) (map (parts_of n) ys)) ∙ ap all_of (sym (map-append (parts_of n) xs ys))

  pub four_added : (one two three four : List Form) (p a b c d : Parts) → p ≡ nothing → a ≡ joined p (all_of (map (parts_of n) one)) → b ≡ joined a (all_of (map (parts_of n) two)) → c ≡ joined b (all_of (map (parts_of n) three))
      → d ≡ joined c (all_of (map (parts_of n) four)) → d ≡ all_of (map (parts_of n) (one ++ (two ++ (three ++ four))))
  four_added one two three four p a b c d e f g h k =
      added ((one ++ two) ++ three) four c d (added (one ++ two) three b c (added one two a b (added [] one p a e f) g) h) k
      ∙ ap (λ x. all_of (map (parts_of n) x)) (append_assoc (one ++ two) three four ∙ append_assoc one two (three ++ four))
