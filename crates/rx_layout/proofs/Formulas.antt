-- The formula of each goal holds at a point exactly where the numbers of its sums break the goal.
use Rattle.std.proofs.Common.{◌≡◌, refl, sym, ap, ◌∙◌, subst, ℕ, zero, suc, ◌+◌, ◌-◌, arith, List, [], ◌∷◌, ◌++◌, map, take, length, true, false, get_or, ℤ, pos, ◌+ℤ◌, ◌-ℤ◌, ◌*ℤ◌, ◌<ℤ◌, ◌≤ℤ◌, ◌⊎◌, inl, inr}
use Rattle.std.specs.List.{AllByRecursion}
use Rattle.std.specs.Int.{int_max, int_div_euclid}
use Rattle.std.proofs.lemmas.Int.{ints, clamps, by_lt_z}
use Rattle.rx_linear.proofs.Joining.{both, and_true}
use Rattle.rx_model.proofs.Ring.{div_bounds}
use Rattle.rx_types.specs.Environment.{Placed, end_of}
use Rattle.rx_graph.specs.Checks.{covered}
use Rattle.rx_forms.specs.declared.linear.Linear.{Linear}
use Rattle.rx_forms.specs.declared.linear.Form.{Form, All, Any}
use Rattle.rx_forms.specs.Linear.{at, constant, term, minus, at_least, above, unequal, meets}
use Rattle.rx_forms.specs.Normal.{Formed}
use Rattle.rx_forms.specs.Points.{Matches}
use Rattle.rx_forms.proofs.Sums.{at_minus, at_term, at_constant}
use Rattle.rx_forms.proofs.Quotients.{from_le, to_le}
use Rattle.rx_forms.proofs.Conditions.{meets_at_least, meets_above}
use Rattle.rx_layout.specs.Goals.{IsNoMultipleOf8}
use Rattle.rx_layout.specs.QueryOf.{position_formula, no_multiple, grid_formula, cover_formula, before_last}
use Rattle.rx_layout.proofs.Lists.{meet_all, meet_one, meets_all, meets_any, one_true, left_true, right_true}

-- ---- comparisons

module _ (point : List ℤ) where
  pub above_is : (f g : Linear) (x y : ℤ) → at f point ≡ x → at g point ≡ y → meets (above f g) point ≡ true → y <ℤ x
  above_is f g x y p q h = let a = from_le (pos 0) (at f point -ℤ at g point -ℤ pos 1) (sym (meets_above point f g) ∙ h) in omega (arith, ints)

  pub is_above : (f g : Linear) (x y : ℤ) → at f point ≡ x → at g point ≡ y → y <ℤ x → meets (above f g) point ≡ true
  is_above f g x y p q h = meets_above point f g ∙ to_le (pos 0) (at f point -ℤ at g point -ℤ pos 1) (omega (arith, ints))

  at_least_is : (f g : Linear) (x y : ℤ) → at f point ≡ x → at g point ≡ y → meets (at_least f g) point ≡ true → y ≤ℤ x
  at_least_is f g x y p q h =
      let a = from_le (pos 0) (at (minus f g) point) (sym (meets_at_least (minus f g) point) ∙ h) in
      let e = at_minus f g point in
      omega (arith, ints)

  is_at_least : (f g : Linear) (x y : ℤ) → at f point ≡ x → at g point ≡ y → y ≤ℤ x → meets (at_least f g) point ≡ true
  is_at_least f g x y p q h = let e = at_minus f g point in meets_at_least (minus f g) point ∙ to_le (pos 0) (at (minus f g) point) (omega (arith, ints))

  first_or_second : (a b : Form) → meets (Any (a ∷ b ∷ [])) point ≡ true → (meets a point ≡ true) ⊎ (meets b point ≡ true)
  first_or_second a b h = on (one_true (meets a point) (meet_one point (b ∷ [])) (sym (meets_any (a ∷ b ∷ []) point) ∙ h))
    where
      last : (meets b point ≡ true) ⊎ (false ≡ true) → (meets a point ≡ true) ⊎ (meets b point ≡ true)
      last (inl e) = inr e
      last (inr e) = absurd (cc)

      on : (meets a point ≡ true) ⊎ (meet_one point (b ∷ []) ≡ true) → (meets a point ≡ true) ⊎ (meets b point ≡ true)
      on (inl e) = inl e
      on (inr e) = last (one_true (meets b point) false e)

  pub first_meets : (a b : Form) → meets a point ≡ true → meets (Any (a ∷ b ∷ [])) point ≡ true
  first_meets a b h = meets_any (a ∷ b ∷ []) point ∙ left_true (meets a point) (meet_one point (b ∷ [])) h

  pub second_meets : (a b : Form) → meets b point ≡ true → meets (Any (a ∷ b ∷ [])) point ≡ true
  second_meets a b h = meets_any (a ∷ b ∷ []) point ∙ right_true (meets a point) (meet_one point (b ∷ [])) (left_true (meets b point) false h)

  either_way : {A B C D : Type 0} → A ⊎ B → (A → C) → (B → D) → C ⊎ D
  either_way (inl a) f g = inl (f a)
  either_way (inr b) f g = inr (g b)

  by_either : {A B C : Type 0} → A ⊎ B → (A → C) → (B → C) → C
  by_either (inl a) f g = f a
  by_either (inr b) f g = g b

  -- ---- Position

  pub position_is : (f g : Linear) (x y : ℤ) → at f point ≡ x → at g point ≡ y → meets (position_formula f g) point ≡ true → (x <ℤ pos 0) ⊎ (y <ℤ pos 0)
  position_is f g x y p q h =
      either_way (first_or_second (above (constant (pos 0)) f) (above (constant (pos 0)) g) h)
      (λ t. above_is (constant (pos 0)) f (pos 0) x (at_constant (pos 0) point) p t)
      (λ t. above_is (constant (pos 0)) g (pos 0) y (at_constant (pos 0) point) q t)

  pub is_position : (f g : Linear) (x y : ℤ) → at f point ≡ x → at g point ≡ y → (x <ℤ pos 0) ⊎ (y <ℤ pos 0) → meets (position_formula f g) point ≡ true
  is_position f g x y p q h =
      by_either h
      (λ t. first_meets (above (constant (pos 0)) f) (above (constant (pos 0)) g) (is_above (constant (pos 0)) f (pos 0) x (at_constant (pos 0) point) p t))
      (λ t. second_meets (above (constant (pos 0)) f) (above (constant (pos 0)) g) (is_above (constant (pos 0)) g (pos 0) y (at_constant (pos 0) point) q t))

  -- ---- Overlay

  pub unequal_is : (f g : Linear) (x y : ℤ) → at f point ≡ x → at g point ≡ y → meets (unequal f g) point ≡ true → x ≡ y → ⊥
  unequal_is f g x y p q h e =
      by_either (first_or_second (above g f) (above f g) h)
      (λ t. let l = above_is g f y x q p t in absurd (omega (arith, ints)))
      (λ t. let l = above_is f g x y p q t in absurd (omega (arith, ints)))

  pub is_unequal : (f g : Linear) (x y : ℤ) → at f point ≡ x → at g point ≡ y → (x ≡ y → ⊥) → meets (unequal f g) point ≡ true
  is_unequal f g x y p q h =
      by_lt_z x y
      (λ l. first_meets (above g f) (above f g) (is_above g f y x q p l))
      (λ l. second_meets (above g f) (above f g) (is_above f g x y p q (strictly x y l h)))
    where
      strictly : (x y : ℤ) → y ≤ℤ x → (x ≡ y → ⊥) → y <ℤ x
      strictly x y l n = by_lt_z y x (λ s. s) (λ s. absurd (n (omega (arith, ints, l, s))))

  -- ---- multiples of 8

  no_multiple_is : (form : Linear) (q : ℕ) (x : ℤ) → at form point ≡ x → meets (no_multiple form q) point ≡ true → IsNoMultipleOf8 x
  no_multiple_is form q x p h m =
      let low = term (pos 8) q (pos 1) in
      let high = term (pos 8) q (pos 7) in
      let s = both {a = meets (at_least form low) point} (sym (meets_all (at_least form low ∷ at_least high form ∷ []) point) ∙ h) in
      let t = both {a = meets (at_least high form) point} s.1 in
      let a = at_least_is form low x _ p (at_term (pos 8) q (pos 1) point) s.0 in
      let b = at_least_is high form _ x (at_term (pos 8) q (pos 7) point) p t.0 in
      apart (get_or point q (pos 0)) m.0 x a b m.1
    where
      apart : (k j x : ℤ) → (pos 8 *ℤ k +ℤ pos 1) ≤ℤ x → x ≤ℤ (pos 8 *ℤ k +ℤ pos 7) → x ≡ j *ℤ pos 8 → ⊥
      apart k j x a b e = omega (arith, ints)

  is_no_multiple : (form : Linear) (q : ℕ) (x : ℤ) → at form point ≡ x → get_or point q (pos 0) ≡ int_div_euclid x (pos 8) → IsNoMultipleOf8 x → meets (no_multiple form q) point ≡ true
  is_no_multiple form q x p k m =
      let low = term (pos 8) q (pos 1) in
      let high = term (pos 8) q (pos 7) in
      let b = div_bounds x 8 (omega arith) in
      let d = strict (int_div_euclid x (pos 8)) x b.0 (λ e. m (int_div_euclid x (pos 8), e)) in
      let el = at_term (pos 8) q (pos 1) point in
      let eh = at_term (pos 8) q (pos 7) point in
      let b1 = b.1 in
      meets_all (at_least form low ∷ at_least high form ∷ []) point
      ∙ and_true (is_at_least form low x _ p (el ∙ ap (λ (z : ℤ). pos 8 *ℤ z +ℤ pos 1) k) d)
      (and_true (is_at_least high form _ x (eh ∙ ap (λ (z : ℤ). pos 8 *ℤ z +ℤ pos 7) k) p (omega (arith, ints, b1))) refl)
    where
      strict : (d x : ℤ) → (pos 8 *ℤ d) ≤ℤ x → (x ≡ d *ℤ pos 8 → ⊥) → (pos 8 *ℤ d +ℤ pos 1) ≤ℤ x
      strict d x l n = by_lt_z (pos 8 *ℤ d) x (λ s. omega (arith, ints, s)) (λ s. absurd (n (omega (arith, ints, l, s))))

  pub broken_is : (form : Linear) (q : ℕ) (x : ℤ) → at form point ≡ x → meets (no_multiple form q) point ≡ true → IsNoMultipleOf8 x
  broken_is form q x p h = no_multiple_is form q x p h

  pub is_broken : (form : Linear) (q : ℕ) (x : ℤ) → at form point ≡ x → get_or point q (pos 0) ≡ int_div_euclid x (pos 8) → IsNoMultipleOf8 x → meets (no_multiple form q) point ≡ true
  is_broken form q x p k m = is_no_multiple form q x p k m

  pub grid_is : (f g : Linear) (q : ℕ) (x y : ℤ) → at f point ≡ x → at g point ≡ y → meets (grid_formula f g q) point ≡ true → IsNoMultipleOf8 x ⊎ IsNoMultipleOf8 y
  grid_is f g q x y p r h =
      either_way (first_or_second (no_multiple f q) (no_multiple g (q + 1)) h) (λ t. no_multiple_is f q x p t) (λ t. no_multiple_is g (q + 1) y r t)

  -- ---- Cover

  abbrev pub EndsInside : List Placed → Type 0
  EndsInside ps = AllByRecursion (λ p. pos 0 ≤ℤ (p.first +ℤ p.size)) ps

  after_one : (gs : List Formed) (ps : List Placed) (first : Linear) (x : ℤ) → Matches point gs ps → at first point ≡ x → meet_one point (map (λ f. above f.end first) gs) ≡ true → x <ℤ covered ps
  after_one [] [] first x match p h = absurd (cc)
  after_one [] (q ∷ ps) first x match p h = absurd match
  after_one (g ∷ gs) [] first x match p h = absurd match
  after_one (g ∷ gs) (q ∷ ps) first x match p h =
      by_either (one_true (meets (above g.end first) point) (meet_one point (map (λ f. above f.end first) gs)) h)
      (λ t. let a = above_is g.end first (q.first +ℤ q.size) x match.1.end p t in omega (arith, ints, clamps))
      (λ t. let a = after_one gs ps first x match.2 p t in omega (arith, ints, clamps))

  greater_of : (x a b : ℤ) → x <ℤ int_max a b → (x <ℤ a) ⊎ (x <ℤ b)
  greater_of x a b h = by_lt_z x a (λ l. inl l) (λ l. inr (omega (arith, ints, clamps)))

  one_after : (gs : List Formed) (ps : List Placed) (first : Linear) (x : ℤ) → Matches point gs ps → at first point ≡ x → x <ℤ covered ps → (meet_one point (map (λ f. above f.end first) gs) ≡ true) ⊎ (x <ℤ pos 0)
  one_after [] [] first x match p h = inr h
  one_after [] (q ∷ ps) first x match p h = absurd match
  one_after (g ∷ gs) [] first x match p h = absurd match
  one_after (g ∷ gs) (q ∷ ps) first x match p h =
      by_either (greater_of x (q.first +ℤ q.size) (covered ps) h)
      (λ l. inl (left_true (meets (above g.end first) point) (meet_one point (map (λ f. above f.end first) gs)) (is_above g.end first (q.first +ℤ q.size) x match.1.end p l)))
      (λ l. on (one_after gs ps first x match.2 p l))
    where
      on : (meet_one point (map (λ f. above f.end first) gs) ≡ true) ⊎ (x <ℤ pos 0) → (meet_one point (map (λ f. above f.end first) (g ∷ gs)) ≡ true) ⊎ (x <ℤ pos 0)
      on (inl t) = inl (right_true (meets (above g.end first) point) (meet_one point (map (λ f. above f.end first) gs)) t)
      on (inr l) = inr l

  after_all : (gs : List Formed) (ps : List Placed) (first : Linear) (x : ℤ) → Matches point gs ps → at first point ≡ x → pos 0 <ℤ x → meet_all point (map (λ f. above first f.end) gs) ≡ true → covered ps <ℤ x
  after_all [] [] first x match p l h = l
  after_all [] (q ∷ ps) first x match p l h = absurd match
  after_all (g ∷ gs) [] first x match p l h = absurd match
  after_all (g ∷ gs) (q ∷ ps) first x match p l h =
      let t = both {a = meets (above first g.end) point} h in
      let a = above_is first g.end x (q.first +ℤ q.size) p match.1.end t.0 in
      let b = after_all gs ps first x match.2 p l t.1 in
      omega (arith, ints, clamps)

  all_before : (gs : List Formed) (ps : List Placed) (first : Linear) (x : ℤ) → Matches point gs ps → at first point ≡ x → covered ps <ℤ x → meet_all point (map (λ f. above first f.end) gs) ≡ true
  all_before [] [] first x match p h = refl
  all_before [] (q ∷ ps) first x match p h = absurd match
  all_before (g ∷ gs) [] first x match p h = absurd match
  all_before (g ∷ gs) (q ∷ ps) first x match p h =
      and_true (is_above first g.end x (q.first +ℤ q.size) p match.1.end (omega (arith, ints, clamps))) (all_before gs ps first x match.2 p (omega (arith, ints, clamps)))

  one_of_both : (fs : List Form) (f : Form) → meet_one point (fs ++ f ∷ []) ≡ true → (meet_one point fs ≡ true) ⊎ (meets f point ≡ true)
  one_of_both [] f h = by_either (one_true (meets f point) false h) (λ t. inr t) (λ t. absurd (no t))
    where
      no : false ≡ true → ⊥
      no e = cc
  one_of_both (g ∷ fs) f h =
      by_either (one_true (meets g point) (meet_one point (fs ++ f ∷ [])) h)
      (λ t. inl (left_true (meets g point) (meet_one point fs) t))
      (λ t. either_way (one_of_both fs f t) (λ s. right_true (meets g point) (meet_one point fs) s) (λ s. s))

  first_of_both : (fs : List Form) (f : Form) → meet_one point fs ≡ true → meet_one point (fs ++ f ∷ []) ≡ true
  first_of_both [] f h = absurd (cc)
  first_of_both (g ∷ fs) f h =
      by_either (one_true (meets g point) (meet_one point fs) h)
      (λ t. left_true (meets g point) (meet_one point (fs ++ f ∷ [])) t)
      (λ t. right_true (meets g point) (meet_one point (fs ++ f ∷ [])) (first_of_both fs f t))

  last_of_both : (fs : List Form) (f : Form) → meets f point ≡ true → meet_one point (fs ++ f ∷ []) ≡ true
  last_of_both [] f h = left_true (meets f point) false h
  last_of_both (g ∷ fs) f h = right_true (meets g point) (meet_one point (fs ++ f ∷ [])) (last_of_both fs f h)

  pub cover_is : (gs : List Formed) (ps : List Placed) (first : Linear) (x : ℤ) → Matches point gs ps → EndsInside ps → at first point ≡ x → meets (cover_formula gs first) point ≡ true → x ≡ covered ps → ⊥
  cover_is [] [] first x match w p h e = unequal_is first (constant (pos 0)) x (pos 0) p (at_constant (pos 0) point) h e
  cover_is [] (q ∷ ps) first x match w p h e = absurd match
  cover_is (g ∷ gs) [] first x match w p h e = absurd match
  cover_is (g ∷ gs) (q ∷ ps) first x match w p h e =
      let fs = map (λ f. above f.end first) (g ∷ gs) in
      let all = map (λ f. above first f.end) (g ∷ gs) in
      by_either (one_of_both fs (All all) (sym (meets_any (fs ++ All all ∷ []) point) ∙ h))
      (λ t. let a = after_one (g ∷ gs) (q ∷ ps) first x match p t in absurd (omega (arith, ints)))
      (λ t.
      let s = sym (meets_all all point) ∙ t in
      let b = above_is first g.end x (q.first +ℤ q.size) p match.1.end (both {a = meets (above first g.end) point} s).0 in
      let l : pos 0 <ℤ x = let i = w.0 in omega (arith, ints, i, b) in
      let a = after_all (g ∷ gs) (q ∷ ps) first x match p l s in absurd (omega (arith, ints)))

  pub is_uncovered : (gs : List Formed) (ps : List Placed) (first : Linear) (x : ℤ) → Matches point gs ps → EndsInside ps → at first point ≡ x → (x ≡ covered ps → ⊥) → meets (cover_formula gs first) point ≡ true
  is_uncovered [] [] first x match w p h = is_unequal first (constant (pos 0)) x (pos 0) p (at_constant (pos 0) point) h
  is_uncovered [] (q ∷ ps) first x match w p h = absurd match
  is_uncovered (g ∷ gs) [] first x match w p h = absurd match
  is_uncovered (g ∷ gs) (q ∷ ps) first x match w p h =
      let fs = map (λ f. above f.end first) (g ∷ gs) in
      let all = map (λ f. above first f.end) (g ∷ gs) in
      meets_any (fs ++ All all ∷ []) point
      ∙ by_lt_z x (covered (q ∷ ps))
      (λ l. first_of_both fs (All all) (by_either (one_after (g ∷ gs) (q ∷ ps) first x match p l) (λ t. t)
      (λ n. left_true (meets (above g.end first) point) (meet_one point (map (λ f. above f.end first) gs)) (is_above g.end first (q.first +ℤ q.size) x match.1.end p (let i = w.0 in omega (arith, ints, i, n))))))
      (λ l. last_of_both fs (All all) (meets_all all point ∙ all_before (g ∷ gs) (q ∷ ps) first x match p (strictly x (covered (q ∷ ps)) l h)))
    where
      strictly : (x y : ℤ) → y ≤ℤ x → (x ≡ y → ⊥) → y <ℤ x
      strictly x y l n = by_lt_z y x (λ s. s) (λ s. absurd (n (omega (arith, ints, l, s))))

  -- ---- the end

  last_covered : (ps : List Placed) → end_of ps ≤ℤ covered ps
  last_covered [] = omega (arith, ints)
  last_covered (p ∷ []) = omega (arith, ints, clamps)
  last_covered (p ∷ q ∷ ps) = let a = last_covered (q ∷ ps) in omega (arith, ints, clamps)

  last_inside : (ps : List Placed) → EndsInside ps → pos 0 ≤ℤ end_of ps
  last_inside [] w = omega (arith, ints)
  last_inside (p ∷ []) w = w.0
  last_inside (p ∷ q ∷ ps) w = last_inside (q ∷ ps) w.1

  before_more : (g k : Formed) (gs : List Formed) → before_last (g ∷ k ∷ gs) ≡ g ∷ before_last (k ∷ gs)
  before_more g k gs = let e : length (g ∷ k ∷ gs) - 1 ≡ suc (length (k ∷ gs) - 1) = omega arith in ap (λ (n : ℕ). take n (g ∷ k ∷ gs)) e

  -- a branch of some first fields is one of all
  from_front : (n : ℕ) (gs : List Formed) (end : Linear) → meet_one point (map (λ f. above f.end end) (take n gs)) ≡ true → meet_one point (map (λ f. above f.end end) gs) ≡ true
  from_front zero gs end h = absurd (cc)
  from_front (suc n) [] end h = h
  from_front (suc n) (g ∷ gs) end h =
      by_either (one_true (meets (above g.end end) point) (meet_one point (map (λ f. above f.end end) (take n gs))) h)
      (λ t. left_true (meets (above g.end end) point) (meet_one point (map (λ f. above f.end end) gs)) t)
      (λ t. right_true (meets (above g.end end) point) (meet_one point (map (λ f. above f.end end) gs)) (from_front n gs end t))

  -- the last field would be no branch, since its end is not above itself
  no_last : (gs : List Formed) (ps : List Placed) (end : Linear) → Matches point gs ps → at end point ≡ end_of ps → meet_one point (map (λ f. above f.end end) gs) ≡ true → meet_one point (map (λ f. above f.end end) (before_last gs)) ≡ true
  no_last [] [] end match p h = absurd (cc)
  no_last [] (q ∷ ps) end match p h = absurd match
  no_last (g ∷ gs) [] end match p h = absurd match
  no_last (g ∷ []) (q ∷ []) end match p h =
      by_either (one_true (meets (above g.end end) point) false h)
      (λ t. let a = above_is g.end end (q.first +ℤ q.size) (q.first +ℤ q.size) match.1.end p t in absurd (omega (arith, ints)))
      (λ t. absurd (no t))
    where
      no : false ≡ true → ⊥
      no e = cc
  no_last (g ∷ []) (q ∷ r ∷ ps) end match p h = absurd match.2
  no_last (g ∷ k ∷ gs) (q ∷ []) end match p h = absurd match.2
  no_last (g ∷ k ∷ gs) (q ∷ r ∷ ps) end match p h =
      let before = meet_one point (map (λ f. above f.end end) (before_last (k ∷ gs))) in
      subst (λ (fs : List Formed). meet_one point (map (λ f. above f.end end) fs) ≡ true) (sym (before_more g k gs))
      (by_either (one_true (meets (above g.end end) point) (meet_one point (map (λ f. above f.end end) (k ∷ gs))) h)
      (λ t. left_true (meets (above g.end end) point) before t)
      (λ t. right_true (meets (above g.end end) point) before (no_last (k ∷ gs) (r ∷ ps) end match.2 p t)))

  pub null_is : (gs : List Formed) (ps : List Placed) (end : Linear) → Matches point gs ps → at end point ≡ end_of ps → meets (Any (map (λ f. above f.end end) (before_last gs))) point ≡ true → end_of ps ≡ covered ps → ⊥
  null_is gs ps end match p h e =
      let some = from_front (length gs - 1) gs end (sym (meets_any (map (λ f. above f.end end) (before_last gs)) point) ∙ h) in
      let a = after_one gs ps end (end_of ps) match p some in omega (arith, ints)

  pub is_null : (gs : List Formed) (ps : List Placed) (end : Linear) → Matches point gs ps → EndsInside ps → at end point ≡ end_of ps → (end_of ps ≡ covered ps → ⊥) → meets (Any (map (λ f. above f.end end) (before_last gs))) point ≡ true
  is_null gs ps end match w p h =
      meets_any (map (λ f. above f.end end) (before_last gs)) point
      ∙ no_last gs ps end match p (by_either (one_after gs ps end (end_of ps) match p (strictly (end_of ps) (covered ps) (last_covered ps) h)) (λ t. t)
      (λ n. absurd (let i = last_inside ps w in omega (arith, ints))))
    where
      strictly : (x y : ℤ) → x ≤ℤ y → (x ≡ y → ⊥) → x <ℤ y
      strictly x y l n = by_lt_z x y (λ s. s) (λ s. absurd (n (omega (arith, ints, l, s))))
