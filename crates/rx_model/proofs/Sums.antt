-- Sums of products, place by place.
use Rattle.std.proofs.Common.{◌≡◌, refl, sym, ap, ◌∙◌, ℕ, ◌+◌, ◌<◌, arith, List, [], ◌∷◌, ◌++◌, map, length, min, take, drop, get_or, ℤ, pos, ◌+ℤ◌, ◌*ℤ◌, append_assoc}
use Rattle.std.proofs.lemmas.Int.{ints}
use Rattle.std.proofs.lemmas.List.{drop_more, length-take, take-append-drop}
use Rattle.std.proofs.Math.IntN.{*ℤ-zero}
use Rattle.rx_model.specs.Sums.{product_sum, weighted_sum}
use Rattle.rx_model.proofs.Ring.{add_times, times_add, times_assoc}

zero_sum : (a b : ℤ) → pos 0 ≡ a *ℤ pos 0 +ℤ b *ℤ pos 0
zero_sum a b = omega (arith, ints, *ℤ-zero a, *ℤ-zero b)

weighted_step : (a b l r x p q s : ℤ) → s ≡ a *ℤ p +ℤ b *ℤ q → (a *ℤ l +ℤ b *ℤ r) *ℤ x +ℤ s ≡ a *ℤ (l *ℤ x +ℤ p) +ℤ b *ℤ (r *ℤ x +ℤ q)
weighted_step a b l r x p q s e =
    omega (arith, ints, e, add_times (a *ℤ l) (b *ℤ r) x, times_assoc a l x, times_assoc b r x, times_add a (l *ℤ x) p, times_add b (r *ℤ x) q)

product_sum-scaled : (rs xs : List ℤ) (b : ℤ) → product_sum (map (λ r. b *ℤ r) rs) xs ≡ b *ℤ product_sum rs xs
product_sum-scaled [] xs b = sym (*ℤ-zero b)
product_sum-scaled (r ∷ rs) [] b = sym (*ℤ-zero b)
product_sum-scaled (r ∷ rs) (x ∷ xs) b = scaled_step b r x _ _ (product_sum-scaled rs xs b)
  where
    scaled_step : (b r x p s : ℤ) → s ≡ b *ℤ p → (b *ℤ r) *ℤ x +ℤ s ≡ b *ℤ (r *ℤ x +ℤ p)
    scaled_step b r x p s e = omega (arith, ints, e, times_assoc b r x, times_add b (r *ℤ x) p)

left_step : (a b l x p s : ℤ) → s ≡ a *ℤ p +ℤ b *ℤ pos 0 → (a *ℤ l) *ℤ x +ℤ s ≡ a *ℤ (l *ℤ x +ℤ p) +ℤ b *ℤ pos 0
left_step a b l x p s e = omega (arith, ints, e, times_assoc a l x, times_add a (l *ℤ x) p)

-- the product sum of a weighted sum is the weighted sum of the product sums
pub product_sum-weighted : (ls rs xs : List ℤ) (a b : ℤ) → product_sum (weighted_sum ls a rs b) xs ≡ a *ℤ product_sum ls xs +ℤ b *ℤ product_sum rs xs
product_sum-weighted [] rs xs a b = omega (arith, ints, *ℤ-zero a, product_sum-scaled rs xs b)
product_sum-weighted (l ∷ ls) [] [] a b = zero_sum a b
product_sum-weighted (l ∷ ls) [] (x ∷ xs) a b = left_step a b l x _ _ (product_sum-weighted ls [] xs a b)
product_sum-weighted (l ∷ ls) (r ∷ rs) [] a b = zero_sum a b
product_sum-weighted (l ∷ ls) (r ∷ rs) (x ∷ xs) a b = weighted_step a b l r x _ _ _ (product_sum-weighted ls rs xs a b)

-- one step of a loop that appends the weighted sums
pub weighted_sum-step : (done ls rs : List ℤ) (a b : ℤ) (i : ℕ) (d e : ℤ) → i < length ls → length ls ≡ length rs → done ++ weighted_sum (drop i ls) a (drop i rs) b ≡ (done ++ (a *ℤ get_or ls i d +ℤ b *ℤ get_or rs i e) ∷ []) ++ weighted_sum (drop (i + 1) ls) a (drop (i + 1) rs) b
weighted_sum-step done ls rs a b i d e h same =
    let hr : i < length rs = omega arith in
    rw (drop_more ls i d h, drop_more rs i e hr) (sym (append_assoc done _ _))

pub product_sum-step : (cs xs : List ℤ) (i : ℕ) → i < length cs → length cs ≡ length xs → product_sum (drop i cs) (drop i xs) ≡ get_or cs i (pos 0) *ℤ get_or xs i (pos 0) +ℤ product_sum (drop (i + 1) cs) (drop (i + 1) xs)
product_sum-step cs xs i h same =
    let hx : i < length xs = omega arith in
    rw (drop_more cs i (pos 0) h, drop_more xs i (pos 0) hx) refl

pub product_sum-append : (cs ds xs ys : List ℤ) → length cs ≡ length xs → product_sum (cs ++ ds) (xs ++ ys) ≡ product_sum cs xs +ℤ product_sum ds ys
product_sum-append [] ds [] ys e = omega (arith, ints)
product_sum-append [] ds (x ∷ xs) ys e = absurd (omega arith)
product_sum-append (c ∷ cs) ds [] ys e = absurd (omega arith)
product_sum-append (c ∷ cs) ds (x ∷ xs) ys e =
    let same : length cs ≡ length xs = omega arith in
    let r = product_sum-append cs ds xs ys same in
    omega (arith, ints)

pub product_sum-parts : (cs xs : List ℤ) (k : ℕ) → length cs ≡ length xs → product_sum cs xs ≡ product_sum (take k cs) (take k xs) +ℤ product_sum (drop k cs) (drop k xs)
product_sum-parts cs xs k e =
    let same : length (take k cs) ≡ length (take k xs) = simp length-take (ap (min k) e) in
    ap (λ (zs : List ℤ). product_sum zs xs) (sym (take-append-drop k cs)) ∙ ap (λ (zs : List ℤ). product_sum (take k cs ++ drop k cs) zs) (sym (take-append-drop k xs)) ∙ product_sum-append (take k cs) (drop k cs) (take k xs) (drop k xs) same
