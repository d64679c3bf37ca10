-- The first numbers of a point that has the places and numbers of a path's fields are those of its scalars.
use Rattle.std.proofs.Common.{◌≡◌, refl, sym, ap, subst, ◌∙◌, ℕ, suc, ◌+◌, ◌≤◌, arith, List, [], ◌∷◌, ◌++◌, length, take, get_or, ℤ, pos, Option, Some, None, append_assoc}
use Rattle.std.proofs.lemmas.List.{length-append}
use Rattle.rx_types.specs.Domain.{Domain}
use Rattle.rx_types.specs.Environment.{Placed}
use Rattle.rx_graph.specs.Graph.{Arrow, Graph, type_of}
use Rattle.rx_forms.specs.Linear.{at}
use Rattle.rx_forms.specs.Normal.{Formed}
use Rattle.rx_forms.specs.Points.{Matches, number_if}
use Rattle.rx_forms.specs.Steps
use Rattle.rx_forms.specs.Steps.{Step, target_field, scalars_in, number_form}
use Rattle.rx_forms.specs.Points
use Rattle.rx_forms.proofs.Sums.{at_variable}
use Rattle.rx_forms.proofs.Extension.{at_end, two}

module _ (domains : List Domain) (m : Graph) (point : List ℤ) where
  split_matches : (gs more : List Formed) (ps rest : List Placed) → length gs ≡ length ps → Matches point (gs ++ more) (ps ++ rest) → Matches point gs ps × Matches point more rest
  split_matches [] more [] rest l h = (tt, h)
  split_matches [] more (p ∷ ps) rest l h = absurd (omega arith)
  split_matches (g ∷ gs) more [] rest l h = absurd (omega arith)
  split_matches (g ∷ gs) more (p ∷ ps) rest l h = let r = split_matches gs more ps rest (omega arith) h.2 in ((h.0, h.1, r.0), r.1)

  -- what stands before links stands first behind them
  formed_more : (before : List Formed) (scalar division : ℕ) (links : List Arrow) → (more : List Formed) × (Steps.formed_after domains m before scalar division links ≡ before ++ more)
  formed_more before scalar division [] = ([], sym (nothing_more before))
    where
      nothing_more : (gs : List Formed) → gs ++ [] ≡ gs
      nothing_more [] = refl
      nothing_more (g ∷ gs) = ap (λ (x : List Formed). g ∷ x) (nothing_more gs)
  formed_more before scalar division (link ∷ links) =
      let step : Step = record { before = before; scalar = scalar; division = division; link = link; field = target_field link.target } in
      let r = formed_more (before ++ Steps.formed_at domains m step ∷ []) (Steps.next_scalar domains m step) (Steps.next_division domains m step) links in
      (Steps.formed_at domains m step ∷ r.0, r.1 ∙ append_assoc before (Steps.formed_at domains m step ∷ []) r.0)

  -- from this variable on the point has the numbers of the scalars among the fields
  abbrev NumbersAt : ℕ → List Placed → Type 0
  NumbersAt scalar [] = Unit {0}
  NumbersAt scalar (p ∷ ps) = ((t : Domain) → type_of domains m p.field ≡ Some t → get_or point scalar (pos 0) ≡ pos p.number) × NumbersAt (scalar + scalars_in (type_of domains m p.field)) ps

  number_at : (type : Option Domain) (t : Domain) (step : Step) (n : ℕ) → type ≡ Some t → at (number_form type step) point ≡ pos n → get_or point step.scalar (pos 0) ≡ pos n
  number_at type t step n e h = sym (at_variable step.scalar point) ∙ ap (λ (y : Option Domain). at (number_form y step) point) (sym e) ∙ h

  numbers_at : (before : List Formed) (befores : List Placed) (scalar division : ℕ) (links : List Arrow) (fields : List Placed) → length before ≡ length befores → length links ≡ length fields → Matches point (Steps.formed_after domains m before scalar division links) (befores ++ fields) → NumbersAt scalar fields
  numbers_at before befores scalar division [] [] lb lf h = tt
  numbers_at before befores scalar division [] (p ∷ fields) lb lf h = absurd (omega arith)
  numbers_at before befores scalar division (link ∷ links) [] lb lf h = absurd (omega arith)
  numbers_at before befores scalar division (link ∷ links) (p ∷ fields) lb lf h =
      let step : Step = record { before = before; scalar = scalar; division = division; link = link; field = target_field link.target } in
      let g = Steps.formed_at domains m step in
      let next = Steps.next_scalar domains m step in
      let on = subst (λ ps. Matches point (Steps.formed_after domains m (before ++ g ∷ []) next (Steps.next_division domains m step) links) ps) (sym (append_assoc befores (p ∷ []) fields)) h in
      let more = formed_more (before ++ g ∷ []) next (Steps.next_division domains m step) links in
      let same : length (before ++ g ∷ []) ≡ length (befores ++ p ∷ []) = length-append before (g ∷ []) ∙ ap (λ (n : ℕ). n + 1) lb ∙ sym (length-append befores (p ∷ [])) in
      let all = split_matches (before ++ g ∷ []) more.0 (befores ++ p ∷ []) fields same (subst (λ gs. Matches point gs ((befores ++ p ∷ []) ++ fields)) more.1 on) in
      let one = (split_matches before (g ∷ []) befores (p ∷ []) lb all.0).1 in (
        (λ t e. number_at (type_of domains m step.field) t step p.number (ap (λ (f : ℕ). type_of domains m f) one.0 ∙ e) one.1.number),
        subst (λ f. NumbersAt (scalar + scalars_in (type_of domains m f)) fields) one.0 (numbers_at (before ++ g ∷ []) (befores ++ p ∷ []) next (Steps.next_division domains m step) links fields same (omega arith) on),
      )

  -- the rest of the point begins with the numbers
  cut_one : (type : Option Domain) (n scalar : ℕ) (more front xs : List ℤ) → point ≡ front ++ xs → length front ≡ scalar → ((t : Domain) → type ≡ Some t → get_or point scalar (pos 0) ≡ pos n)
      → ((front rest : List ℤ) → point ≡ front ++ rest → length front ≡ scalar + scalars_in type → length more ≤ length rest → take (length more) rest ≡ more)
      → length (number_if type n ++ more) ≤ length xs → take (length (number_if type n ++ more)) xs ≡ number_if type n ++ more
  cut_one None n scalar more front xs p l h rest le = rest front xs p (l ∙ (omega arith)) le
  cut_one (Some t) n scalar more front [] p l h rest le = absurd (omega arith)
  cut_one (Some t) n scalar more front (x ∷ xs) p l h rest le =
      let is : x ≡ pos n = sym (at_end front xs x scalar l) ∙ ap (λ (zs : List ℤ). get_or zs scalar (pos 0)) (sym p) ∙ h t refl in
      let r = rest (front ++ x ∷ []) xs (p ∙ sym (append_assoc front (x ∷ []) xs)) (two front (x ∷ []) scalar 1 l refl) (omega arith) in
      ap (λ (k : ℕ). take k (x ∷ xs)) (more_by_one more) ∙ ap (λ (zs : List ℤ). x ∷ zs) r ∙ ap (λ (z : ℤ). z ∷ more) is
    where
      more_by_one : (zs : List ℤ) → length (pos n ∷ zs) ≡ suc (length zs)
      more_by_one zs = omega arith

  cut_at : (fields : List Placed) (scalar : ℕ) (front xs : List ℤ) → point ≡ front ++ xs → length front ≡ scalar → NumbersAt scalar fields → length (Points.numbers_of domains m fields) ≤ length xs
      → take (length (Points.numbers_of domains m fields)) xs ≡ Points.numbers_of domains m fields
  cut_at [] scalar front xs p l h le = take_none xs
    where
      take_none : (zs : List ℤ) → take 0 zs ≡ []
      take_none zs = refl
  cut_at (q ∷ fields) scalar front xs p l h le =
      cut_one (type_of domains m q.field) q.number scalar (Points.numbers_of domains m fields) front xs p l h.0
      (λ before rest e k more. cut_at fields (scalar + scalars_in (type_of domains m q.field)) before rest e k h.1 more) le

  -- the length and the numbers of the scalars
  pub cut_of : (total : ℕ) (division : ℕ) (links : List Arrow) (fields : List Placed) → get_or point 0 (pos 0) ≡ pos total → length links ≡ length fields → Matches point (Steps.formed_after domains m [] 1 division links) fields
      → length (pos total ∷ Points.numbers_of domains m fields) ≤ length point → take (length (pos total ∷ Points.numbers_of domains m fields)) point ≡ pos total ∷ Points.numbers_of domains m fields
  cut_of total division links fields t same match long =
      let numbers = Points.numbers_of domains m fields in
      cut_one_more total numbers point refl t long (λ xs e le. cut_at fields 1 (pos total ∷ []) xs e refl (numbers_at [] [] 1 division links fields refl same match) le)
    where
      whole : (total : ℕ) (numbers xs : List ℤ) → take (length (pos total ∷ numbers)) (pos total ∷ xs) ≡ pos total ∷ take (length numbers) xs
      whole total numbers xs = ap (λ (k : ℕ). take k (pos total ∷ xs)) (one_more numbers)
        where
          one_more : (zs : List ℤ) → length (pos total ∷ zs) ≡ suc (length zs)
          one_more zs = omega arith

      cut_one_more : (total : ℕ) (numbers zs : List ℤ) → point ≡ zs → get_or point 0 (pos 0) ≡ pos total → length (pos total ∷ numbers) ≤ length point
          → ((xs : List ℤ) → point ≡ (pos total ∷ []) ++ xs → length numbers ≤ length xs → take (length numbers) xs ≡ numbers)
          → take (length (pos total ∷ numbers)) point ≡ pos total ∷ numbers
      cut_one_more total numbers [] e t le rest = absurd (let l = ap (λ (ys : List ℤ). length ys) e in omega (arith, le, l))
      cut_one_more total numbers (z ∷ xs) e t le rest =
          let is : z ≡ pos total = ap (λ (ys : List ℤ). get_or ys 0 (pos 0)) (sym e) ∙ t in
          let here : point ≡ pos total ∷ xs = e ∙ ap (λ (y : ℤ). y ∷ xs) is in
          let l = ap (λ (ys : List ℤ). length ys) e in
          ap (λ (ys : List ℤ). take (length (pos total ∷ numbers)) ys) here ∙ whole total numbers xs ∙ ap (λ (ys : List ℤ). pos total ∷ ys) (rest xs here (omega (arith, le, l)))
