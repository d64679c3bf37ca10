-- Choices of links, asked one after the other, and each with those behind it.
use Rattle.std.proofs.Common.{◌≡◌, refl, sym, ap, ◌∙◌, ℕ, zero, suc, ◌+◌, ◌-◌, ◌<◌, ◌≤◌, List, [], ◌∷◌, ◌++◌, map, length, take, drop, get_or, Bool, true, false, not, ◌&&◌, nat_le, Some, None, arith}
use Rattle.std.specs.Prelude.{if◌then◌else◌}
use Rattle.std.specs.List.{list_all}
use Rattle.std.proofs.lemmas.List.{drop_more, take_all, length-drop}
use Rattle.std.proofs.lemmas.List.Folds.{list_all-append, list_all-map}
use Rattle.rx_types.specs.Domain.{Domain}
use Rattle.rx_graph.specs.Graph.{Arrow, Graph}
use Rattle.rx_forms.specs.Normal.{Formed, divisions_in}
use Rattle.rx_forms.specs.Limits.{is_within}
use Rattle.rx_forms.specs.Steps.{links_on, scalars_on, past, into_fields, passes_limit}
use Rattle.rx_forms.specs.Fronts
use Rattle.rx_forms.specs.PathLimit.{ones_and_pairs, keeps_path}
use Rattle.rx_forms.specs.Choices.{conditions_within, asked, begin_along, front_along, front_within}
use Rattle.rx_forms.proofs.Kept.{off_right}
use Rattle.rx_forms.proofs.Looping
use Rattle.rx_forms.proofs.Telling
use Rattle.rx_forms.proofs.Tests.{both, and_true}

and_three : (a b c : Bool) → (a && (b && c)) ≡ ((a && b) && c)
and_three true b c = refl
and_three false b c = refl

no_matter : (a b : Bool) → (b ≡ true → a ≡ true) → (a && b) ≡ b
no_matter a true h = ap (λ (t : Bool). t && true) (h refl)
no_matter a false h = off_right a false refl

-- an item within its list is the same whatever stands in for one beyond it
pub same_item : (xs : List ℕ) (k : ℕ) → k < length xs → get_or xs k 0 ≡ get_or xs k (get_or xs k 0)
same_item [] k h = absurd (omega (arith, h))
same_item (x ∷ xs) zero h = refl
same_item (x ∷ xs) (suc k) h = get_or_same xs k 0 (get_or xs k 0) (omega (arith, h))
  where
    get_or_same : (ys : List ℕ) (j d e : ℕ) → j < length ys → get_or ys j d ≡ get_or ys j e
    get_or_same [] j d e lt = absurd (omega (arith, lt))
    get_or_same (y ∷ ys) zero d e lt = refl
    get_or_same (y ∷ ys) (suc j) d e lt = get_or_same ys j d e (omega (arith, lt))

pub rest_is : (xs : List ℕ) (k : ℕ) → take (length xs - k) (drop k xs) ≡ drop k xs
rest_is xs k = take_all (length xs - k) (drop k xs) (omega (arith, length-drop k xs))

same_tests : {X : Type 0} (p q : X → Bool) (xs : List X) → ((x : X) → p x ≡ q x) → list_all p xs ≡ list_all q xs
same_tests p q [] h = refl
same_tests p q (x ∷ xs) h = ap (λ (t : Bool). t && list_all p xs) (h x) ∙ ap (λ (t : Bool). q x && t) (same_tests p q xs h)

-- ---- what is asked

pub is_some : (b : Bool) (k v : ℕ) → Some v ≡ (if b then Some k else None) → (b ≡ true) × (k ≡ v)
is_some true k v h = (refl, cc)
is_some false k v h = absurd (cc)

pub is_none : (b : Bool) (k : ℕ) → None ≡ (if b then Some k else None) → b ≡ false
is_none true k h = absurd (cc)
is_none false k h = refl

pub asked_within : (fields : List Formed) (n k : ℕ) (link : Arrow) → is_within fields n link.condition ≡ true → k ≡ n + divisions_in link.condition → Some k ≡ asked fields n (link ∷ [])
asked_within fields n k link h e = ap Some e ∙ ap (λ (b : Bool). if b && true then Some (n + divisions_in link.condition) else None) (sym h)

pub asked_beyond : (fields : List Formed) (n : ℕ) (link : Arrow) → is_within fields n link.condition ≡ false → None ≡ asked fields n (link ∷ [])
asked_beyond fields n link h = ap (λ (b : Bool). if b && true then Some (n + divisions_in link.condition) else None) (sym h)

test_room : (n : ℕ) → nat_le n 190 ≡ true → n ≤ 190
test_room n h = grind (arith, h)

pub room_behind : (fields : List Formed) (n : ℕ) (links : List Arrow) → n ≤ 190 → conditions_within fields n links ≡ true → past n links ≤ 190
room_behind fields n [] h e = h
room_behind fields n (link ∷ links) h e =
    let p = both {a = is_within fields n link.condition} e in
    let q = both {a = nat_le (n + divisions_in link.condition) 190} p.0 in
    room_behind fields (n + divisions_in link.condition) links (test_room (n + divisions_in link.condition) q.0) p.1

behind_each_other : (fields : List Formed) (n : ℕ) (xs ys : List Arrow) → conditions_within fields n (xs ++ ys) ≡ (conditions_within fields n xs && conditions_within fields (past n xs) ys)
behind_each_other fields n [] ys = refl
behind_each_other fields n (x ∷ xs) ys =
    ap (λ (t : Bool). is_within fields n x.condition && t) (behind_each_other fields (n + divisions_in x.condition) xs ys) ∙ and_three (is_within fields n x.condition) _ _

module _ (domains : List Domain) (m : Graph) (fields : List Formed) (n : ℕ) where
  abbrev pub chosen : List ℕ → Bool
  chosen out = conditions_within fields n (links_on domains m out)

  abbrev pub alone_at : ℕ → ℕ → Bool
  alone_at k i = conditions_within fields k (links_on domains m (i ∷ []))

  two_chosen : (i j : ℕ) → chosen (i ∷ j ∷ []) ≡ (chosen (i ∷ []) && alone_at (past n (links_on domains m (i ∷ []))) j)
  two_chosen i j = ap (λ ls. conditions_within fields n ls) (Looping.first_link domains m i (j ∷ [])) ∙ behind_each_other fields n (links_on domains m (i ∷ [])) (links_on domains m (j ∷ []))

  ones_pass : (is : List ℕ) → list_all chosen (ones_and_pairs is) ≡ true → list_all (alone_at n) is ≡ true
  ones_pass [] h = refl
  ones_pass (i ∷ is) h =
      let p = both {a = chosen (i ∷ [])} h in
      let q = both {a = list_all chosen (map (λ j. i ∷ j ∷ []) is)} (sym (list_all-append chosen (map (λ j. i ∷ j ∷ []) is) (ones_and_pairs is)) ∙ p.1) in
      and_true {a = chosen (i ∷ [])} p.0 (ones_pass is q.1)

  -- behind a link that is within, each later one is asked behind its variables
  first_within : (i : ℕ) (is : List ℕ) (k : ℕ) → chosen (i ∷ []) ≡ true → past n (links_on domains m (i ∷ [])) ≡ k → list_all chosen (ones_and_pairs (i ∷ is)) ≡ (list_all (alone_at k) is && list_all chosen (ones_and_pairs is))
  first_within i is k h e =
      let each : (j : ℕ) → chosen (i ∷ j ∷ []) ≡ alone_at k j = λ j. two_chosen i j ∙ ap (λ (t : Bool). t && alone_at (past n (links_on domains m (i ∷ []))) j) h ∙ ap (λ l. alone_at l j) e in
      ap (λ (t : Bool). t && list_all chosen (map (λ j. i ∷ j ∷ []) is ++ ones_and_pairs is)) h
      ∙ list_all-append chosen (map (λ j. i ∷ j ∷ []) is) (ones_and_pairs is)
      ∙ ap (λ (t : Bool). t && list_all chosen (ones_and_pairs is)) (list_all-map chosen (λ j. i ∷ j ∷ []) is ∙ same_tests (λ j. chosen (i ∷ j ∷ [])) (alone_at k) is each)

  abbrev pub choices : List ℕ → Bool
  choices is = list_all chosen (ones_and_pairs is)

  pub first_fails : (is : List ℕ) (place : ℕ) → place < length is → None ≡ asked fields n (links_on domains m (get_or is place 0 ∷ [])) → choices (drop place is) ≡ (false && choices (drop (place + 1) is))
  first_fails is place lt h =
      let i = get_or is place 0 in
      let e = is_none (chosen (i ∷ [])) (past n (links_on domains m (i ∷ []))) h in
      ap choices (drop_more is place 0 lt) ∙ ap (λ (t : Bool). t && list_all chosen (map (λ j. i ∷ j ∷ []) (drop (place + 1) is) ++ ones_and_pairs (drop (place + 1) is))) e

  pub first_plain : (is : List ℕ) (place after : ℕ) → place < length is → Some after ≡ asked fields n (links_on domains m (get_or is place 0 ∷ [])) → after ≡ n → choices (drop place is) ≡ (true && choices (drop (place + 1) is))
  first_plain is place after lt h same =
      let i = get_or is place 0 in
      let e = is_some (chosen (i ∷ [])) (past n (links_on domains m (i ∷ []))) after h in
      ap choices (drop_more is place 0 lt)
      ∙ first_within i (drop (place + 1) is) n e.0 (e.1 ∙ same)
      ∙ no_matter (list_all (alone_at n) (drop (place + 1) is)) (choices (drop (place + 1) is)) (ones_pass (drop (place + 1) is))

  pub first_divides : (is : List ℕ) (place after : ℕ) (kept : Bool) → place < length is → Some after ≡ asked fields n (links_on domains m (get_or is place 0 ∷ [])) → kept ≡ list_all (alone_at after) (drop (place + 1) is) → choices (drop place is) ≡ (kept && choices (drop (place + 1) is))
  first_divides is place after kept lt h k =
      let i = get_or is place 0 in
      let e = is_some (chosen (i ∷ [])) (past n (links_on domains m (i ∷ []))) after h in
      ap choices (drop_more is place 0 lt) ∙ first_within i (drop (place + 1) is) after e.0 e.1 ∙ ap (λ (t : Bool). t && choices (drop (place + 1) is)) (sym k)

-- ---- choices behind a path

module _ (domains : List Domain) (m : Graph) where
  ends_are : (front : Fronts.Front) (links : List Arrow) → Fronts.ends_within domains m front links ≡ conditions_within front.fields front.division links
  ends_are front [] = refl
  ends_are front (link ∷ links) = ap (λ (t : Bool). is_within front.fields front.division link.condition && t) (ends_are (Fronts.after_end domains m front link) links)

  both_before : (a b c : Bool) → (a && b) ≡ true → (a && (b && c)) ≡ c
  both_before true b c h = ap (λ (t : Bool). t && c) h
  both_before false b c h = absurd (cc)

  twice : (b : Bool) → not (not b) ≡ b
  twice true = refl
  twice false = refl

  module _ (path : List ℕ) (count : ℕ) (is : count ≡ scalars_on domains m (into_fields (links_on domains m path))) where
    -- a path that is within passes the limit exactly with the choices that do
    told : (out : List ℕ) → count < 190 → front_within domains m path ≡ true → not (passes_limit domains m path out) ≡ conditions_within (front_along domains m path).fields (front_along domains m path).division (links_on domains m out)
    told out few h =
        ap not (Telling.told_limit domains m path out count is few (Fronts.path_within domains m (begin_along domains m path) path out) refl)
        ∙ twice (Fronts.path_within domains m (begin_along domains m path) path out)
        ∙ both_before (Fronts.links_within domains m (begin_along domains m path) (into_fields (links_on domains m path))) _ _ h
        ∙ ends_are (front_along domains m path) (links_on domains m out)

    pub path_kept : (numbers : List ℕ) (kept : Bool) (front : Fronts.Front) → count < 190 → front ≡ front_along domains m path → front_within domains m path ≡ true → kept ≡ list_all (λ out. conditions_within front.fields front.division (links_on domains m out)) (ones_and_pairs numbers) → kept ≡ keeps_path domains m numbers path
    path_kept numbers kept front few f h k =
        k
        ∙ ap (λ (x : Fronts.Front). list_all (λ out. conditions_within x.fields x.division (links_on domains m out)) ([] ∷ ones_and_pairs numbers)) f
        ∙ sym (same_tests (λ out. not (passes_limit domains m path out)) (λ out. conditions_within (front_along domains m path).fields (front_along domains m path).division (links_on domains m out)) ([] ∷ ones_and_pairs numbers) (λ out. told out few h))

    fails_first : (p : List ℕ → Bool) (outs : List (List ℕ)) → p [] ≡ true → false ≡ list_all (λ out. not (p out)) ([] ∷ outs)
    fails_first p outs h = sym (ap (λ (t : Bool). not t && list_all (λ out. not (p out)) outs) h)

    pub path_fails : (numbers : List ℕ) → count < 190 → front_within domains m path ≡ false → false ≡ keeps_path domains m numbers path
    path_fails numbers few h =
        fails_first (passes_limit domains m path) (ones_and_pairs numbers)
        (Telling.told_limit domains m path [] count is few false (Telling.fails_before (Fronts.links_within domains m (begin_along domains m path) (into_fields (links_on domains m path))) _ _ h))

    pub path_too_long : (numbers : List ℕ) → 190 ≤ count → false ≡ keeps_path domains m numbers path
    path_too_long numbers many = fails_first (passes_limit domains m path) (ones_and_pairs numbers) (Telling.tells_many domains m path [] (omega (arith, is, many)))
