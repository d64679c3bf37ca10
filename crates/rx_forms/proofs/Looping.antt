-- Links gathered one index after the other, and what is told of a whole path in the end.
use Rattle.std.proofs.Common.{◌≡◌, refl, sym, ap, ◌∙◌, ℕ, ◌+◌, ◌<◌, ◌≤◌, arith, List, [], ◌∷◌, ◌++◌, length, get_or, drop, Bool, true, false, not, ◌&&◌, ◌||◌, if◌then◌else◌, nat_le, Option, Some, None, slice_get}
use Rattle.std.specs.List.{filter}
use Rattle.std.proofs.lemmas.List.{drop_more}
use Rattle.rx_types.specs.Domain.{Domain}
use Rattle.rx_graph.specs.declared.message.Node.{Node}
use Rattle.rx_graph.specs.declared.message.Node.TheVariants.{Start, At, Null}
use Rattle.rx_graph.specs.Graph.{Arrow, Graph, type_of}
use Rattle.rx_forms.specs.Normal.{divisions_in}
use Rattle.rx_forms.specs.Limits.{is_within, all_kept}
use Rattle.rx_forms.specs.Steps.{leads_to_field, link_then, links_on, scalars_on, scalars_in, target_field, next_division}
use Rattle.rx_forms.specs.Steps
use Rattle.rx_forms.specs.Fronts
use Rattle.rx_forms.proofs.Kept.{off_left}
use Rattle.rx_forms.proofs.Tests.{both}

-- ---- lists of links

select_append : (test : Arrow → Bool) (xs ys : List Arrow) → filter test (xs ++ ys) ≡ filter test xs ++ filter test ys
select_append test [] ys = refl
select_append test (x ∷ xs) ys = by_test (test x) (select_append test xs ys)
  where
    by_test : (b : Bool) → filter test (xs ++ ys) ≡ filter test xs ++ filter test ys → (if b then x ∷ filter test (xs ++ ys) else filter test (xs ++ ys)) ≡ (if b then x ∷ filter test xs else filter test xs) ++ filter test ys
    by_test true h = ap (λ (zs : List Arrow). x ∷ zs) h
    by_test false h = h

pub fields_append : (xs ys : List Arrow) → Steps.into_fields (xs ++ ys) ≡ Steps.into_fields xs ++ Steps.into_fields ys
fields_append xs ys = select_append leads_to_field xs ys

pub ends_append : (all : Bool) (xs ys : List Arrow) → Fronts.ends_of all (xs ++ ys) ≡ Fronts.ends_of all xs ++ Fronts.ends_of all ys
ends_append true xs ys = refl
ends_append false xs ys = select_append (λ link. not (leads_to_field link)) xs ys

abbrev field_test : Node → Bool
field_test t = elim t [ Start ↦ false | At f ↦ true | Null ↦ false ]

no_field : (t : Node) → ((f : ℕ) → t ≡ At f → ⊥) → field_test t ≡ false
no_field Start h = refl
no_field (At f) h = absurd (h f refl)
no_field Null h = refl

pub is_field : (l : Arrow) (f : ℕ) → l.target ≡ At f → leads_to_field l ≡ true
is_field l f e = ap field_test e

pub is_no_field : (l : Arrow) → ((f : ℕ) → l.target ≡ At f → ⊥) → leads_to_field l ≡ false
is_no_field l h = no_field l.target h

pub fields_one : (l : Arrow) → leads_to_field l ≡ true → Steps.into_fields (l ∷ []) ≡ l ∷ []
fields_one l e = ap (λ (b : Bool). if b then l ∷ [] else []) e

pub fields_none : (l : Arrow) → leads_to_field l ≡ false → Steps.into_fields (l ∷ []) ≡ []
fields_none l e = ap (λ (b : Bool). if b then l ∷ [] else []) e

pub ends_one : (all : Bool) (l : Arrow) → (all || not (leads_to_field l)) ≡ true → Fronts.ends_of all (l ∷ []) ≡ l ∷ []
ends_one true l e = refl
ends_one false l e = ap (λ (b : Bool). if b then l ∷ [] else []) e

pub ends_none : (all : Bool) (l : Arrow) → (all || not (leads_to_field l)) ≡ false → Fronts.ends_of all (l ∷ []) ≡ []
ends_none true l e = absurd (cc)
ends_none false l e = ap (λ (b : Bool). if b then l ∷ [] else []) e

pub ends_nothing : (all : Bool) → Fronts.ends_of all [] ≡ []
ends_nothing true = refl
ends_nothing false = refl

module _ (domains : List Domain) (m : Graph) where
  one_more : (o : Option Arrow) (ls : List Arrow) → link_then o ls ≡ link_then o [] ++ ls
  one_more None ls = refl
  one_more (Some l) ls = refl

  pub first_link : (i : ℕ) (path : List ℕ) → links_on domains m (i ∷ path) ≡ links_on domains m (i ∷ []) ++ links_on domains m path
  first_link i path = one_more (slice_get m.links i) (links_on domains m path)

  pub found_link : (i : ℕ) (l : Arrow) → slice_get m.links i ≡ Some l → links_on domains m (i ∷ []) ≡ l ∷ []
  found_link i l e = ap (λ o. link_then o []) e

  pub lost_link : (i : ℕ) → slice_get m.links i ≡ None → links_on domains m (i ∷ []) ≡ []
  lost_link i e = ap (λ o. link_then o []) e

  -- what is left of a path behind an index
  pub next_link : (path : List ℕ) (k : ℕ) → k < length path → links_on domains m (drop k path) ≡ links_on domains m (get_or path k 0 ∷ []) ++ links_on domains m (drop (k + 1) path)
  next_link path k h = ap (λ (p : List ℕ). links_on domains m p) (drop_more path k 0 h) ∙ first_link (get_or path k 0) (drop (k + 1) path)

module _ (domains : List Domain) (m : Graph) where
  -- ---- scalars

  pub scalars_append : (xs ys : List Arrow) → scalars_on domains m (xs ++ ys) ≡ scalars_on domains m xs + scalars_on domains m ys
  scalars_append [] ys = omega arith
  scalars_append (x ∷ xs) ys = let e = scalars_append xs ys in omega (arith, e)

  pub scalars_next : (path : List ℕ) (k : ℕ) → k < length path → scalars_on domains m (Steps.into_fields (links_on domains m (drop k path))) ≡ scalars_on domains m (Steps.into_fields (links_on domains m (get_or path k 0 ∷ []))) + scalars_on domains m (Steps.into_fields (links_on domains m (drop (k + 1) path)))
  scalars_next path k h =
      ap (λ (ls : List Arrow). scalars_on domains m (Steps.into_fields ls)) (next_link domains m path k h)
      ∙ ap (λ (ls : List Arrow). scalars_on domains m ls) (fields_append (links_on domains m (get_or path k 0 ∷ [])) (links_on domains m (drop (k + 1) path)))
      ∙ scalars_append (Steps.into_fields (links_on domains m (get_or path k 0 ∷ []))) _

  pub scalars_one : (l : Arrow) (f : ℕ) → l.target ≡ At f → scalars_in (type_of domains m f) ≡ scalars_on domains m (Steps.into_fields (l ∷ []))
  scalars_one l f e =
      let p = ap (λ (ls : List Arrow). scalars_on domains m ls) (fields_one l (is_field l f e)) in
      let q = ap (λ (t : Node). scalars_in (type_of domains m (target_field t))) e in
      omega (arith, p, q)

  pub scalars_none : (l : Arrow) → ((f : ℕ) → l.target ≡ At f → ⊥) → 0 ≡ scalars_on domains m (Steps.into_fields (l ∷ []))
  scalars_none l h = sym (ap (λ (ls : List Arrow). scalars_on domains m ls) (fields_none l (is_no_field l h)))

  pub scalars_after : (front : Fronts.Front) (ls : List Arrow) → (Fronts.after_links domains m front ls).scalar ≡ front.scalar + scalars_on domains m ls
  scalars_after front [] = omega arith
  scalars_after front (l ∷ ls) =
      let e = scalars_after (Fronts.after_link domains m front l) ls in
      omega (arith, e)

  -- ---- links and ends, one after the other

  pub links_append : (front : Fronts.Front) (xs ys : List Arrow) → Fronts.after_links domains m front (xs ++ ys) ≡ Fronts.after_links domains m (Fronts.after_links domains m front xs) ys
  links_append front [] ys = refl
  links_append front (x ∷ xs) ys = links_append (Fronts.after_link domains m front x) xs ys

  grouped : (a b c : Bool) → (a && (b && c)) ≡ ((a && b) && c)
  grouped true b c = refl
  grouped false b c = refl

  pub links_test : (front : Fronts.Front) (xs ys : List Arrow) → Fronts.links_within domains m front (xs ++ ys) ≡ (Fronts.links_within domains m front xs && Fronts.links_within domains m (Fronts.after_links domains m front xs) ys)
  links_test front [] ys = refl
  links_test front (x ∷ xs) ys =
      ap (λ (t : Bool). Fronts.link_within domains m front x && t) (links_test (Fronts.after_link domains m front x) xs ys)
      ∙ grouped (Fronts.link_within domains m front x) _ _

  pub ends_after : (front : Fronts.Front) (xs ys : List Arrow) → Fronts.after_ends domains m front (xs ++ ys) ≡ Fronts.after_ends domains m (Fronts.after_ends domains m front xs) ys
  ends_after front [] ys = refl
  ends_after front (x ∷ xs) ys = ends_after (Fronts.after_end domains m front x) xs ys

  pub ends_test : (front : Fronts.Front) (xs ys : List Arrow) → Fronts.ends_within domains m front (xs ++ ys) ≡ (Fronts.ends_within domains m front xs && Fronts.ends_within domains m (Fronts.after_ends domains m front xs) ys)
  ends_test front [] ys = refl
  ends_test front (x ∷ xs) ys =
      ap (λ (t : Bool). is_within front.fields front.division x.condition && t) (ends_test (Fronts.after_end domains m front x) xs ys)
      ∙ grouped (is_within front.fields front.division x.condition) _ _

  test_room : (n : ℕ) → nat_le n 190 ≡ true → n ≤ 190
  test_room n h = grind (arith, h)

  pub links_room : (front : Fronts.Front) (ls : List Arrow) → front.division ≤ 190 → Fronts.links_within domains m front ls ≡ true → (Fronts.after_links domains m front ls).division ≤ 190
  links_room front [] h e = h
  links_room front (l ∷ ls) h e =
      let step = Fronts.step_at front l in
      let p = both {a = nat_le (next_division domains m step) 190 && all_kept (Steps.met_at (type_of domains m step.field) step)} e in
      let q = both {a = nat_le (next_division domains m step) 190} p.0 in
      links_room (Fronts.after_link domains m front l) ls (test_room (next_division domains m step) q.0) p.1

  pub ends_room : (front : Fronts.Front) (ls : List Arrow) → front.division ≤ 190 → Fronts.ends_within domains m front ls ≡ true → (Fronts.after_ends domains m front ls).division ≤ 190
  ends_room front [] h e = h
  ends_room front (l ∷ ls) h e =
      let p = both {a = is_within front.fields front.division l.condition} e in
      let q = both {a = nat_le (front.division + divisions_in l.condition) 190} p.0 in
      ends_room (Fronts.after_end domains m front l) ls (test_room (front.division + divisions_in l.condition) q.0) p.1

-- ---- loops over a path

-- something that takes links one after the other, and tests them
module _ (domains : List Domain) (m : Graph) (after : Fronts.Front → List Arrow → Fronts.Front) (within : Fronts.Front → List Arrow → Bool) (select : List Arrow → List Arrow)
    (selects : (xs ys : List Arrow) → select (xs ++ ys) ≡ select xs ++ select ys)
    (goes : (front : Fronts.Front) (xs ys : List Arrow) → after front (xs ++ ys) ≡ after (after front xs) ys)
    (tests : (front : Fronts.Front) (xs ys : List Arrow) → within front (xs ++ ys) ≡ (within front xs && within (after front xs) ys)) where
  rest_of : (path : List ℕ) (k : ℕ) → k < length path → select (links_on domains m (drop k path)) ≡ select (links_on domains m (get_or path k 0 ∷ [])) ++ select (links_on domains m (drop (k + 1) path))
  rest_of path k h = ap select (next_link domains m path k h) ∙ selects _ _

  pub loop_goes : (front new whole : Fronts.Front) (path : List ℕ) (k : ℕ) → k < length path → after front (select (links_on domains m (drop k path))) ≡ whole → new ≡ after front (select (links_on domains m (get_or path k 0 ∷ []))) → after new (select (links_on domains m (drop (k + 1) path))) ≡ whole
  loop_goes front new whole path k h e n =
      ap (λ (x : Fronts.Front). after x (select (links_on domains m (drop (k + 1) path)))) n
      ∙ sym (goes front (select (links_on domains m (get_or path k 0 ∷ []))) (select (links_on domains m (drop (k + 1) path))))
      ∙ ap (λ (ls : List Arrow). after front ls) (sym (rest_of path k h))
      ∙ e

  pub loop_tests : (front new : Fronts.Front) (whole : Bool) (path : List ℕ) (k : ℕ) → k < length path → whole ≡ within front (select (links_on domains m (drop k path))) → new ≡ after front (select (links_on domains m (get_or path k 0 ∷ []))) → within front (select (links_on domains m (get_or path k 0 ∷ []))) ≡ true → whole ≡ within new (select (links_on domains m (drop (k + 1) path)))
  loop_tests front new whole path k h e n w =
      e
      ∙ ap (λ (ls : List Arrow). within front ls) (rest_of path k h)
      ∙ tests front (select (links_on domains m (get_or path k 0 ∷ []))) (select (links_on domains m (drop (k + 1) path)))
      ∙ ap (λ (t : Bool). t && within (after front (select (links_on domains m (get_or path k 0 ∷ [])))) (select (links_on domains m (drop (k + 1) path)))) w
      ∙ ap (λ (x : Fronts.Front). within x (select (links_on domains m (drop (k + 1) path)))) (sym n)

  pub loop_fails : (front : Fronts.Front) (whole : Bool) (path : List ℕ) (k : ℕ) → k < length path → whole ≡ within front (select (links_on domains m (drop k path))) → within front (select (links_on domains m (get_or path k 0 ∷ []))) ≡ false → whole ≡ false
  loop_fails front whole path k h e w =
      e
      ∙ ap (λ (ls : List Arrow). within front ls) (rest_of path k h)
      ∙ tests front (select (links_on domains m (get_or path k 0 ∷ []))) (select (links_on domains m (drop (k + 1) path)))
      ∙ off_left _ _ w
