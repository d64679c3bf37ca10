-- Bytes that have the same bits.
use Rattle.std.proofs.Common.{◌≡◌, ℕ, zero, suc, ◌/◌, ◌%◌, ◌<◌, List, [], ◌∷◌, ◌++◌, take, drop, refl, sym, ap, ◌∙◌, subst, arith}
use Rattle.std.specs.Prelude.{slice_index, slice_range}
use Rattle.std.proofs.lemmas.Slice.{between_is}
use Rattle.rx_model.specs.Bits.{bits}

abbrev pub AreBytes : List ℕ → Type 0
AreBytes xs = (i : ℕ) → slice_index xs i < 256

bytes_take : (n : ℕ) (xs : List ℕ) → AreBytes xs → AreBytes (take n xs)
bytes_take zero xs h i = omega arith
bytes_take (suc n) [] h i = omega arith
bytes_take (suc n) (x ∷ xs) h zero = h 0
bytes_take (suc n) (x ∷ xs) h (suc i) = bytes_take n xs (λ k. h (suc k)) i

bytes_drop : (n : ℕ) (xs : List ℕ) → AreBytes xs → AreBytes (drop n xs)
bytes_drop zero xs h = h
bytes_drop (suc n) [] h = h
bytes_drop (suc n) (x ∷ xs) h = bytes_drop n xs (λ k. h (suc k))

pub bytes_range : (xs : List ℕ) (a b : ℕ) → AreBytes xs → AreBytes (slice_range xs a b)
bytes_range xs a b h = subst AreBytes (sym (between_is xs a b)) (bytes_drop a (take b xs) (bytes_take b xs h))

-- eight heads
heads :
    (a b c d e f g h a' b' c' d' e' f' g' h' : ℕ) (r r' : List ℕ) → a ∷ b ∷ c ∷ d ∷ e ∷ f ∷ g ∷ h ∷ r ≡ a' ∷ b' ∷ c' ∷ d' ∷ e' ∷ f' ∷ g' ∷ h' ∷ r'
    → (a ≡ a') × (b ≡ b') × (c ≡ c') × (d ≡ d') × (e ≡ e') × (f ≡ f') × (g ≡ g') × (h ≡ h') × (r ≡ r')
heads a b c d e f g h a' b' c' d' e' f' g' h' r r' same = (cc, cc, cc, cc, cc, cc, cc, cc, cc)

no_heads : (a : ℕ) (r : List ℕ) → [] ≡ a ∷ r → ⊥
no_heads a r same = cc

pub same_bytes : (xs ys : List ℕ) → AreBytes xs → AreBytes ys → bits xs ≡ bits ys → xs ≡ ys
same_bytes [] [] h k same = refl
same_bytes [] (y ∷ ys) h k same = absurd (no_heads _ _ same)
same_bytes (x ∷ xs) [] h k same = absurd (no_heads _ _ (sym same))
same_bytes (x ∷ xs) (y ∷ ys) h k same =
    let e = heads _ _ _ _ _ _ _ _ _ _ _ _ _ _ _ _ _ _ same in
    let low : x < 256 = h 0 in
    let low' : y < 256 = k 0 in
    let head : x ≡ y = omega (arith, low, low', e.0, e.1, e.2, e.3, e.4, e.5, e.6, e.7) in
    ap (λ z. z ∷ xs) head ∙ ap (λ l. y ∷ l) (same_bytes xs ys (λ i. h (suc i)) (λ i. k (suc i)) e.8)
