-- The walk through packages goes one way: it ends at one package, for one reason, or it goes through all of them.
use Rattle.std.proofs.Common.{◌≡◌, ℕ, ◌<◌, ◌≤◌, inl, inr, List, length, refl, sym, ap, ◌∙◌, subst, arith, Some}
use Rattle.std.specs.Prelude.{slice_get}
use Rattle.std.proofs.lemmas.Bool.{cases_lt}
use Rattle.std.proofs.lemmas.Option.{slice_get_within}
use Rattle.rx_io.specs.Shelf.{Texts}
use Rattle.rx_syntax.specs.declared.tree.PackageTree.{PackageTree}
use Rattle.rx_trees.specs.Laws.{OneTree}
use Rattle.rx_closure.specs.Closure.{package_limit, withs_of, added, IsStep, passes, reads, Walked, begins, goes_on, IsClosure}
use Rattle.rx_program.proofs.OneText.{Met, nothing, too_long, refused, read, IsMet, met_same}

-- what was met at package `k` of the list lets the walk go on, with this list
abbrev GoesOn : ℕ → List (List ℕ) → List (List ℕ) → Met → Type 0
GoesOn k names more nothing = (0 < k) × (more ≡ names)
GoesOn k names more too_long = ⊥
GoesOn k names more (refused refusal) = ⊥
GoesOn k names more (read withs place) = (length (added names withs) ≤ package_limit) × (more ≡ added names withs)

-- what was met at package `k` of the list ends the walk
abbrev Ends : ℕ → List (List ℕ) → Met → Type 0
Ends k names nothing = k ≡ 0
Ends k names too_long = Unit {0}
Ends k names (refused refusal) = Unit {0}
Ends k names (read withs place) = package_limit < length (added names withs)

-- a step, by what was met
record Stepped (texts : Texts) (k : ℕ) (names more : List (List ℕ)) : Type 0 where
  name : List ℕ
  there : slice_get names k ≡ Some name
  met : Met
  is : IsMet texts name met
  on : GoesOn k names more met

stepped : {texts : Texts} {k : ℕ} {names more : List (List ℕ)} → IsStep texts k names more → Stepped texts k names more
stepped (passes {name = name} after there has) = record { name = name; there = there; met = nothing; is = has; on = (after, refl) }
stepped (reads {name = name} {tree = tree} there has few) =
    record { name = name; there = there; met = read (withs_of tree) tree.header.name.place; is = (tree, has, refl, refl); on = (few, refl) }

one_of : (names : List (List ℕ)) (k : ℕ) (a b : List ℕ) → slice_get names k ≡ Some a → slice_get names k ≡ Some b → a ≡ b
one_of names k a b one two = (let both : Some a ≡ Some b = sym one ∙ two in cc)

more_same : (k : ℕ) (names more other : List (List ℕ)) (m : Met) → GoesOn k names more m → GoesOn k names other m → more ≡ other
more_same k names more other nothing on on' = on.1 ∙ sym on'.1
more_same k names more other too_long on on' = absurd on
more_same k names more other (refused refusal) on on' = absurd on
more_same k names more other (read withs place) on on' = on.1 ∙ sym on'.1

not_both : (k : ℕ) (names more : List (List ℕ)) (m : Met) → GoesOn k names more m → Ends k names m → ⊥
not_both k names more nothing on ends = (let after = on.0 in absurd (omega arith))
not_both k names more too_long on ends = absurd on
not_both k names more (refused refusal) on ends = absurd on
not_both k names more (read withs place) on ends = (let few = on.0 in absurd (omega arith))

-- where a walk ends before it has gone through all packages
pub record Stopped (texts : Texts) (first : List ℕ) : Type 0 where
  pub at : ℕ
  pub names : List (List ℕ)
  pub walked : Walked texts first at names
  pub name : List ℕ
  pub there : slice_get names at ≡ Some name
  pub met : Met
  pub is : IsMet texts name met
  pub ends : Ends at names met

-- two ends of one walk
pub record Same {texts : Texts} {first : List ℕ} (s t : Stopped texts first) : Type 0 where
  pub names : s.name ≡ t.name
  pub mets : s.met ≡ t.met

-- nothing stands behind the last package of the list
past_the_end : (names : List (List ℕ)) (name : List ℕ) → slice_get names (length names) ≡ Some name → ⊥
past_the_end names name there = (let within = slice_get_within names (length names) name there in absurd (omega arith))

module _ (one_tree : OneTree) where
  step_same : (texts : Texts) (k : ℕ) (names more other : List (List ℕ)) → IsStep texts k names more → IsStep texts k names other → more ≡ other
  step_same texts k names more other one two =
      let s = stepped one in
      let t = stepped two in
      let name : s.name ≡ t.name = one_of names k s.name t.name s.there t.there in
      let met = met_same one_tree texts t.name s.met t.met (subst (λ (n : List ℕ). IsMet texts n s.met) name s.is) t.is in
      more_same k names more other t.met (subst (GoesOn k names more) met s.on) t.on

  -- after so many packages the list is one
  walked_same : {texts : Texts} {first : List ℕ} {k j : ℕ} {names others : List (List ℕ)} → Walked texts first k names → Walked texts first j others → k ≡ j → names ≡ others
  walked_same begins begins e = refl
  walked_same begins (goes_on w s) e = absurd (omega arith)
  walked_same (goes_on w s) begins e = absurd (omega arith)
  walked_same {texts = texts} (goes_on {k = k} {names = names} {more = more} w s) (goes_on {k = j} {names = others} {more = more'} w' s') e =
      let same : k ≡ j = omega arith in
      let lists : names ≡ others = walked_same w w' same in
      let here : IsStep texts k others more' = subst (λ i. IsStep texts i others more') (sym same) s' in
      step_same texts k names more more' s (subst (λ (l : List (List ℕ)). IsStep texts k l more') (sym lists) here)

  -- a walk has gone on from each package before
  went_on : {texts : Texts} {first : List ℕ} {k : ℕ} {names : List (List ℕ)} → Walked texts first k names → (j : ℕ) → j < k → (others : List (List ℕ)) → Walked texts first j others
      → (more : List (List ℕ)) × IsStep texts j others more
  went_on begins j before others w' = absurd (omega arith)
  went_on {texts = texts} {first = first} (goes_on {k = k} {names = names} {more = more} w s) j before others w' =
      elim (cases_lt j k) [ inl earlier ↦ went_on w j earlier others w' | inr later ↦ last (let same : j ≡ k = omega arith in same) ]
    where
      last : j ≡ k → (more : List (List ℕ)) × IsStep texts j others more
      last same =
          let lists : names ≡ others = walked_same w w' (sym same) in
          let here : IsStep texts k others more = subst (λ (l : List (List ℕ)). IsStep texts k l more) lists s in
          (more, subst (λ i. IsStep texts i others more) (sym same) here)

  no_step : (texts : Texts) (first : List ℕ) (s : Stopped texts first) (more : List (List ℕ)) → IsStep texts s.at s.names more → ⊥
  no_step texts first s more step =
      let t = stepped step in
      let name : t.name ≡ s.name = one_of s.names s.at t.name s.name t.there s.there in
      let met = met_same one_tree texts s.name t.met s.met (subst (λ (n : List ℕ). IsMet texts n t.met) name t.is) s.is in
      not_both s.at s.names more s.met (subst (GoesOn s.at s.names more) met t.on) s.ends

  not_past : (texts : Texts) (first : List ℕ) (s : Stopped texts first) (k : ℕ) (names : List (List ℕ)) → Walked texts first k names → s.at < k → ⊥
  not_past texts first s k names walked past = (let on = went_on walked s.at past s.names s.walked in no_step texts first s on.0 on.1)

  pub one_stop : (texts : Texts) (first : List ℕ) (s t : Stopped texts first) → Same s t
  one_stop texts first s t =
      elim (cases_lt s.at t.at) [
        | inl before ↦ absurd (not_past texts first s t.at t.names t.walked before)
        | inr after ↦ elim (cases_lt t.at s.at) [ inl before ↦ absurd (not_past texts first t s.at s.names s.walked before) | inr other ↦ here (let same : s.at ≡ t.at = omega arith in same) ]
      ]
    where
      here : s.at ≡ t.at → Same s t
      here same =
          let lists : s.names ≡ t.names = walked_same s.walked t.walked same in
          let there : slice_get t.names t.at ≡ Some s.name = ap (λ i. slice_get t.names i) (sym same) ∙ ap (λ (l : List (List ℕ)). slice_get l s.at) (sym lists) ∙ s.there in
          let name : s.name ≡ t.name = one_of t.names t.at s.name t.name there t.there in
          record { names = name; mets = met_same one_tree texts t.name s.met t.met (subst (λ (n : List ℕ). IsMet texts n s.met) name s.is) t.is }

  -- a walk that has gone through all packages does not go on
  no_more : (texts : Texts) (first : List ℕ) (names others : List (List ℕ)) (k : ℕ) → Walked texts first (length names) names → Walked texts first k others → length names < k → ⊥
  no_more texts first names others k walked walked' past =
      let on = went_on walked' (length names) past names walked in
      let t = stepped on.1 in
      past_the_end names t.name t.there

  -- a walk that has gone through all packages does not end before
  pub stopped_not_closed : {texts : Texts} {first : List ℕ} {asked : List (List ℕ)} {trees : List PackageTree} → Stopped texts first → IsClosure texts first asked trees → ⊥
  stopped_not_closed {texts = texts} {first = first} s closed =
      elim (cases_lt s.at (length closed.names)) [
        | inl before ↦ not_past texts first s (length closed.names) closed.names closed.walked before
        | inr after ↦ elim (cases_lt (length closed.names) s.at) [ inl before ↦ no_more texts first closed.names s.names s.at closed.walked s.walked before | inr other ↦ here (let same : s.at ≡ length closed.names = omega arith in same) ]
      ]
    where
      here : s.at ≡ length closed.names → ⊥
      here same =
          let lists : s.names ≡ closed.names = walked_same s.walked closed.walked same in
          past_the_end closed.names s.name (ap (λ i. slice_get closed.names i) (sym same) ∙ ap (λ (l : List (List ℕ)). slice_get l s.at) (sym lists) ∙ s.there)

  -- a walk goes through all packages of one list
  pub list_same : {texts : Texts} {first : List ℕ} (names others : List (List ℕ)) → Walked texts first (length names) names → Walked texts first (length others) others → names ≡ others
  list_same {texts = texts} {first = first} names others walked walked' =
      elim (cases_lt (length names) (length others)) [
        | inl before ↦ absurd (no_more texts first names others (length others) walked walked' before)
        | inr after ↦ elim (cases_lt (length others) (length names)) [ inl before ↦ absurd (no_more texts first others names (length names) walked' walked before) | inr other ↦ walked_same walked walked' (omega arith) ]
      ]
