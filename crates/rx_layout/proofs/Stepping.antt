-- The facts of fields that were gathered are those of the steps of the path.
use Rattle.std.proofs.Common.{◌≡◌, refl, sym, ap, ◌∙◌, ℕ, zero, suc, ◌+◌, arith, List, [], ◌∷◌, ◌++◌, map, length, replicate, pos, ℤ, Bool, append_assoc, append-nil, Option, Some, None, slice_get}
use Rattle.std.proofs.lemmas.List.{length-append}
use Rattle.rx_types.specs.Domain.{Domain}
use Rattle.rx_graph.specs.Graph.{Arrow, Graph, type_of, overlay_of}
use Rattle.rx_forms.specs.declared.linear.Linear.{Linear}
use Rattle.rx_forms.specs.declared.field.FieldForms.{FieldForms}
use Rattle.rx_forms.specs.Linear.{term, constant, minus}
use Rattle.rx_forms.specs.Normal.{Formed, formed_of, bits}
use Rattle.rx_forms.specs.Steps
use Rattle.rx_forms.specs.Steps.{Step, number_form, type_form_any, same_form, is_among, place_forms, target_field}
use Rattle.rx_forms.specs.Code.{number_by, formed, formed_all}
use Rattle.rx_layout.specs.Types.{type_form}
use Rattle.rx_layout.specs.Laid
use Rattle.rx_layout.specs.Laid.{typed, placed}
use Rattle.rx_layout.specs.QueryOf.{rows}

-- ---- variables

zeros_length : (j : ℕ) → length (replicate j (pos 0)) ≡ j
zeros_length zero = refl
zeros_length (suc j) = let e = zeros_length j in omega (arith, e)

pub term_length : (v : ℕ) (k : ℤ) → length (replicate v (pos 0) ++ k ∷ []) ≡ v + 1
term_length v k = let a = length-append (replicate v (pos 0)) (k ∷ []) in let e = zeros_length v in omega (arith, a, e)

abbrev width : Linear → ℕ
width f = length f.coefficients

same_variable : (v w : ℕ) → term (pos 1) v (pos 0) ≡ term (pos 1) w (pos 0) → v ≡ w
same_variable v w h =
    let e : length (replicate v (pos 0) ++ pos 1 ∷ []) ≡ length (replicate w (pos 0) ++ pos 1 ∷ []) = ap width h in
    let a = term_length v (pos 1) in
    let b = term_length w (pos 1) in
    omega (arith, a, b, e)

no_variable : (w : ℕ) → constant (pos 0) ≡ term (pos 1) w (pos 0) → ⊥
no_variable w h =
    let e : 0 ≡ length (replicate w (pos 0) ++ pos 1 ∷ []) = ap width h in
    let b = term_length w (pos 1) in
    omega (arith, b, e)

typed_step : (type : Option Domain) (v : Option ℕ) (s : Step) → number_by v ≡ number_form type s → typed type v ≡ type_form_any type_form type s
typed_step None v s h = refl
typed_step (Some t) None s h = absurd (no_variable s.scalar h)
typed_step (Some t) (Some v) s h = ap (λ x. type_form t x) (same_variable v s.scalar h)

laid_step : (type below : Option Domain) (there : Bool) (v : Option ℕ) (s : Step) (g : Linear) → number_by v ≡ number_form type s → same_form type below there (number_by v) g ≡ same_form type below there (term (pos 1) s.scalar (pos 0)) g
laid_step None below there v s g h = refl
laid_step (Some t) below there v s g h = ap (λ x. same_form (Some t) below there x g) h

-- ---- lists

first_same : (x y : Formed) (xs ys : List Formed) → x ∷ xs ≡ y ∷ ys → x ≡ y
first_same x y xs ys h = cc

rest_same : (x y : Formed) (xs ys : List Formed) → x ∷ xs ≡ y ∷ ys → xs ≡ ys
rest_same x y xs ys h = cc

nothing_same : (y : Formed) (ys : List Formed) → [] ≡ y ∷ ys → ⊥
nothing_same y ys h = cc

nothing_more : (y : Formed) (ys : List Formed) → y ∷ ys ≡ [] → ⊥
nothing_more y ys h = cc

formed_append : (xs ys : List FieldForms) → formed_all (xs ++ ys) ≡ formed_all xs ++ formed_all ys
formed_append [] ys = refl
formed_append (x ∷ xs) ys = ap (λ zs. formed x ∷ zs) (formed_append xs ys)

module _ (domains : List Domain) (m : Graph) where
  pub formed_steps : (before : List Formed) (scalar division : ℕ) (links : List Arrow) → Steps.formed_after domains m before scalar division links ≡ before ++ map (Steps.formed_at domains m) (Steps.steps_from domains m before scalar division links)
  formed_steps before scalar division [] = sym (append-nil before)
  formed_steps before scalar division (link ∷ links) =
      let step : Step = record { before = before; scalar = scalar; division = division; link = link; field = target_field link.target } in
      formed_steps (before ++ Steps.formed_at domains m step ∷ []) (Steps.next_scalar domains m step) (Steps.next_division domains m step) links
      ∙ append_assoc before (Steps.formed_at domains m step ∷ []) _

  typed_same : (f : FieldForms) (s : Step) → formed f ≡ Steps.formed_at domains m s → Laid.typed_field domains m f ≡ type_form_any type_form (type_of domains m s.field) s
  typed_same f s h =
      ap (λ (x : ℕ). typed (type_of domains m x) f.variable) (ap (λ (x : Formed). x.field) h)
      ∙ typed_step (type_of domains m s.field) f.variable s (ap (λ (x : Formed). x.number) h)

  pub types_same : (fs : List FieldForms) (steps : List Step) → formed_all fs ≡ map (Steps.formed_at domains m) steps → map (Laid.typed_field domains m) fs ≡ map (λ s. type_form_any type_form (type_of domains m s.field) s) steps
  types_same [] [] h = refl
  types_same [] (s ∷ steps) h = absurd (nothing_same (Steps.formed_at domains m s) (map (Steps.formed_at domains m) steps) h)
  types_same (f ∷ fs) [] h = absurd (nothing_more (formed f) (formed_all fs) h)
  types_same (f ∷ fs) (s ∷ steps) h =
      let a = typed_same f s (first_same (formed f) (Steps.formed_at domains m s) (formed_all fs) (map (Steps.formed_at domains m) steps) h) in
      let b = types_same fs steps (rest_same (formed f) (Steps.formed_at domains m s) (formed_all fs) (map (Steps.formed_at domains m) steps) h) in
      ap (λ x. x ∷ map (Laid.typed_field domains m) fs) a ∙ ap (λ xs. type_form_any type_form (type_of domains m s.field) s ∷ xs) b

  placed_same : (f : FieldForms) (s : Step) → formed f ≡ Steps.formed_at domains m s → placed f ≡ rows (place_forms (type_of domains m s.field) s)
  placed_same f s h = ap (λ (x : Formed). rows (x.first ∷ x.size ∷ minus (minus bits x.first) x.size ∷ [])) h

  pub places_same : (fs : List FieldForms) (steps : List Step) → formed_all fs ≡ map (Steps.formed_at domains m) steps → map placed fs ≡ map (λ s. rows (place_forms (type_of domains m s.field) s)) steps
  places_same [] [] h = refl
  places_same [] (s ∷ steps) h = absurd (nothing_same (Steps.formed_at domains m s) (map (Steps.formed_at domains m) steps) h)
  places_same (f ∷ fs) [] h = absurd (nothing_more (formed f) (formed_all fs) h)
  places_same (f ∷ fs) (s ∷ steps) h =
      let a = placed_same f s (first_same (formed f) (Steps.formed_at domains m s) (formed_all fs) (map (Steps.formed_at domains m) steps) h) in
      let b = places_same fs steps (rest_same (formed f) (Steps.formed_at domains m s) (formed_all fs) (map (Steps.formed_at domains m) steps) h) in
      ap (λ x. x ∷ map placed fs) a ∙ ap (λ xs. rows (place_forms (type_of domains m s.field) s) ∷ xs) b

  over_same : (o : Option ℕ) (before : List FieldForms) (f : FieldForms) (s : Step) → s.before ≡ formed_all before → formed f ≡ Steps.formed_at domains m s → Laid.laid_over domains m o before f ≡ Steps.overlay_form_any domains m o s
  over_same None before f s b h = refl
  over_same (Some x) before f s b h =
      let g = λ (gs : List Formed). (formed_of x gs).number in
      ap (λ (y : ℕ). same_form (type_of domains m y) (type_of domains m x) (is_among x (formed_all before)) (number_by f.variable) (g (formed_all before))) (ap (λ (y : Formed). y.field) h)
      ∙ laid_step (type_of domains m s.field) (type_of domains m x) (is_among x (formed_all before)) f.variable s (g (formed_all before)) (ap (λ (y : Formed). y.number) h)
      ∙ ap (λ gs. same_form (type_of domains m s.field) (type_of domains m x) (is_among x gs) (term (pos 1) s.scalar (pos 0)) (g gs)) (sym b)

  laid_same : (before : List FieldForms) (f : FieldForms) (s : Step) → s.before ≡ formed_all before → formed f ≡ Steps.formed_at domains m s → Laid.laid domains m before f ≡ Steps.overlay_form domains m s
  laid_same before f s b h =
      ap (λ (y : ℕ). Laid.laid_over domains m (overlay_of (slice_get m.fields y)) before f) (ap (λ (y : Formed). y.field) h)
      ∙ over_same (overlay_of (slice_get m.fields s.field)) before f s b h

  overlays_from : (gs : List Formed) (before fs : List FieldForms) (scalar division : ℕ) (links : List Arrow) → gs ≡ formed_all before → formed_all fs ≡ map (Steps.formed_at domains m) (Steps.steps_from domains m gs scalar division links)
      → Laid.laid_from domains m before fs ≡ map (λ s. Steps.overlay_form domains m s) (Steps.steps_from domains m gs scalar division links)
  overlays_from gs before [] scalar division [] b h = refl
  overlays_from gs before [] scalar division (link ∷ links) b h = absurd (nothing_same _ _ h)
  overlays_from gs before (f ∷ fs) scalar division [] b h = absurd (nothing_more (formed f) (formed_all fs) h)
  overlays_from gs before (f ∷ fs) scalar division (link ∷ links) b h =
      let step : Step = record { before = gs; scalar = scalar; division = division; link = link; field = target_field link.target } in
      let next = gs ++ Steps.formed_at domains m step ∷ [] in
      let more = Steps.steps_from domains m next (Steps.next_scalar domains m step) (Steps.next_division domains m step) links in
      let e = first_same (formed f) (Steps.formed_at domains m step) (formed_all fs) (map (Steps.formed_at domains m) more) h in
      let r = rest_same (formed f) (Steps.formed_at domains m step) (formed_all fs) (map (Steps.formed_at domains m) more) h in
      let n = ap (λ xs. xs ++ Steps.formed_at domains m step ∷ []) b ∙ ap (λ x. formed_all before ++ x ∷ []) (sym e) ∙ sym (formed_append before (f ∷ [])) in
      ap (λ x. x ∷ Laid.laid_from domains m (before ++ f ∷ []) fs) (laid_same before f step b e)
      ∙ ap (λ xs. Steps.overlay_form domains m step ∷ xs) (overlays_from next (before ++ f ∷ []) fs (Steps.next_scalar domains m step) (Steps.next_division domains m step) links n r)

  pub overlays_same : (fs : List FieldForms) (scalar division : ℕ) (links : List Arrow) → formed_all fs ≡ map (Steps.formed_at domains m) (Steps.steps_from domains m [] scalar division links)
      → Laid.laid_from domains m [] fs ≡ map (λ s. Steps.overlay_form domains m s) (Steps.steps_from domains m [] scalar division links)
  overlays_same fs scalar division links h = overlays_from [] [] fs scalar division links refl h
