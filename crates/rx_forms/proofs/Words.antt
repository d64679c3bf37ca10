-- Numbers of 128 bits, and sums place by place.
use Rattle.std.proofs.Common.{◌≡◌, refl, sym, ap, ◌∙◌, ℕ, ◌+◌, ◌<◌, ◌≤◌, max, arith, List, [], ◌∷◌, ◌++◌, map, length, drop, get_or, Bool, true, false, ◌&&◌, ℤ, pos, ◌+ℤ◌, ◌*ℤ◌, FitsSigned, append_assoc, nat_lt}
use Rattle.std.specs.List.{list_all}
use Rattle.std.proofs.lemmas.Int.{ints}
use Rattle.std.proofs.lemmas.List.{drop_more, drop_all, get_or_past}
use Rattle.std.proofs.lemmas.List.Folds.{list_all-append}
use Rattle.std.proofs.Math.IntN.{*ℤ-zero}
use mir.Syntax.{w128}
use Rattle.rx_model.specs.Sums.{weighted_sum}
use Rattle.rx_forms.specs.Limits.{is_word}

same_test : (a b : Bool) → (a ≡ true → b ≡ true) → (b ≡ true → a ≡ true) → a ≡ b
same_test true b f g = sym (f refl)
same_test false true f g = g refl
same_test false false f g = refl

pub word_of : (z : ℤ) → FitsSigned w128 z → is_word z ≡ true
word_of z h = grind (arith, ints, h)

pub fits_of : (z : ℤ) → is_word z ≡ true → FitsSigned w128 z
fits_of z h = grind (arith, ints, h)

pub no_word : (z : ℤ) → (FitsSigned w128 z → ⊥) → is_word z ≡ false
no_word z n = other (is_word z) refl
  where
    other : (b : Bool) → is_word z ≡ b → is_word z ≡ false
    other true e = absurd (n (fits_of z e))
    other false e = e

-- one place of a sum, where the longer list still has one
module _ (a b : ℤ) where
  nothing_there : (l : ℤ) → a *ℤ l ≡ a *ℤ l +ℤ b *ℤ pos 0
  nothing_there l = omega (arith, ints, *ℤ-zero b)

  nothing_here : (r : ℤ) → b *ℤ r ≡ a *ℤ pos 0 +ℤ b *ℤ r
  nothing_here r = omega (arith, ints, *ℤ-zero a)

  within_or_past : (n m : ℕ) (P : Type 0) → (n < m → P) → (m ≤ n → P) → P
  within_or_past n m P f g = by_test (nat_lt n m) refl
    where
      by_test : (t : Bool) → nat_lt n m ≡ t → P
      by_test true e = f (grind (arith, e))
      by_test false e = g (grind (arith, e))

  pub place_of_sum : (i : ℕ) (ls rs : List ℤ) → i < max (length ls) (length rs) → weighted_sum (drop i ls) a (drop i rs) b ≡ (a *ℤ get_or ls i (pos 0) +ℤ b *ℤ get_or rs i (pos 0)) ∷ weighted_sum (drop (i + 1) ls) a (drop (i + 1) rs) b
  place_of_sum i ls rs h =
      within_or_past i (length ls) _
      (λ p. within_or_past i (length rs) _
      (λ q. rw (drop_more ls i (pos 0) p, drop_more rs i (pos 0) q) refl)
      (λ q. rw (drop_more ls i (pos 0) p, drop_all i rs q, drop_all (i + 1) rs (omega (arith, q)), get_or_past rs i (pos 0) q) (ap (λ (z : ℤ). z ∷ weighted_sum (drop (i + 1) ls) a [] b) (nothing_there (get_or ls i (pos 0))))))
      (λ p. let q : i < length rs = omega (arith, h, p) in
      rw (drop_all i ls p, drop_all (i + 1) ls (omega (arith, p)), get_or_past ls i (pos 0) p, drop_more rs i (pos 0) q) (ap (λ (z : ℤ). z ∷ map (λ x. b *ℤ x) (drop (i + 1) rs)) (nothing_here (get_or rs i (pos 0)))))

  pub sum_step : (done ls rs whole : List ℤ) (i : ℕ) → i < max (length ls) (length rs) → done ++ weighted_sum (drop i ls) a (drop i rs) b ≡ whole → (done ++ (a *ℤ get_or ls i (pos 0) +ℤ b *ℤ get_or rs i (pos 0)) ∷ []) ++ weighted_sum (drop (i + 1) ls) a (drop (i + 1) rs) b ≡ whole
  sum_step done ls rs whole i h e = append_assoc done _ _ ∙ ap (λ (zs : List ℤ). done ++ zs) (sym (place_of_sum i ls rs h)) ∙ e

  -- a place that has no 128 bits
  pub sum_fails : (done ls rs whole : List ℤ) (i : ℕ) → i < max (length ls) (length rs) → done ++ weighted_sum (drop i ls) a (drop i rs) b ≡ whole → is_word (a *ℤ get_or ls i (pos 0) +ℤ b *ℤ get_or rs i (pos 0)) ≡ false → list_all is_word whole ≡ false
  sum_fails done ls rs whole i h e f =
      ap (λ (zs : List ℤ). list_all is_word zs) (sym e ∙ ap (λ (zs : List ℤ). done ++ zs) (place_of_sum i ls rs h))
      ∙ list_all-append is_word done _
      ∙ off (list_all is_word done) _ _ f
    where
      off : (x y z : Bool) → y ≡ false → (x && (y && z)) ≡ false
      off true y z f = ap (λ (t : Bool). t && z) f
      off false y z f = refl

pub words_on : (done : List ℤ) (z : ℤ) → list_all is_word done ≡ true → is_word z ≡ true → list_all is_word (done ++ z ∷ []) ≡ true
words_on done z h w = list_all-append is_word done (z ∷ []) ∙ rw (h, w) refl

-- ---- one place of a multiple

module _ (a b : ℤ) where
  pub scaled_step : (done ls whole : List ℤ) (i : ℕ) → i < length ls → done ++ weighted_sum (drop i ls) a [] b ≡ whole → (done ++ (a *ℤ get_or ls i (pos 0)) ∷ []) ++ weighted_sum (drop (i + 1) ls) a [] b ≡ whole
  scaled_step done ls whole i h e = append_assoc done _ _ ∙ ap (λ (zs : List ℤ). done ++ zs) (sym (rw (drop_more ls i (pos 0) h) refl)) ∙ e

  pub scaled_fails : (done ls whole : List ℤ) (i : ℕ) → i < length ls → done ++ weighted_sum (drop i ls) a [] b ≡ whole → is_word (a *ℤ get_or ls i (pos 0)) ≡ false → list_all is_word whole ≡ false
  scaled_fails done ls whole i h e f =
      let here : weighted_sum (drop i ls) a [] b ≡ (a *ℤ get_or ls i (pos 0)) ∷ weighted_sum (drop (i + 1) ls) a [] b = rw (drop_more ls i (pos 0) h) refl in
      ap (λ (zs : List ℤ). list_all is_word zs) (sym e ∙ ap (λ (zs : List ℤ). done ++ zs) here)
      ∙ list_all-append is_word done _
      ∙ off (list_all is_word done) _ _ f
    where
      off : (x y z : Bool) → y ≡ false → (x && (y && z)) ≡ false
      off true y z f = ap (λ (t : Bool). t && z) f
      off false y z f = refl
