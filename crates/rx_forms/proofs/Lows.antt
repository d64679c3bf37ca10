-- Sums that are low have numbers of 128 bits.
use Rattle.std.proofs.Common.{◌≡◌, refl, sym, ◌∙◌, ◌^◌, arith, List, [], ◌∷◌, Bool, true, false, ℤ, unsigned_abs, nat_lt}
use Rattle.std.specs.List.{list_all}
use Rattle.std.proofs.lemmas.Int.{ints}
use Rattle.rx_forms.specs.declared.linear.Linear.{Linear}
use Rattle.rx_forms.specs.Limits.{is_low, is_word, has_words}
use Rattle.rx_forms.proofs.Tests.{both, and_true}

small_word : (z : ℤ) → nat_lt (unsigned_abs z) (2 ^ 18) ≡ true → is_word z ≡ true
small_word z e = grind (arith, ints, e)

constant_word : (z : ℤ) → nat_lt (unsigned_abs z) (2 ^ 98) ≡ true → is_word z ≡ true
constant_word z e = grind (arith, ints, e)

small_words : (cs : List ℤ) → list_all (λ c. nat_lt (unsigned_abs c) (2 ^ 18)) cs ≡ true → list_all is_word cs ≡ true
small_words [] h = refl
small_words (c ∷ cs) h =
    let p = both {a = nat_lt (unsigned_abs c) (2 ^ 18)} h in
    and_true (small_word c p.0) (small_words cs p.1)

pub words_of_low : (f : Linear) → is_low f ≡ true → has_words f ≡ true
words_of_low f h =
    let p = both {a = list_all (λ c. nat_lt (unsigned_abs c) (2 ^ 18)) f.coefficients} h in
    and_true (small_words f.coefficients p.0) (constant_word f.constant p.1)

pub not_low : (f : Linear) → has_words f ≡ false → is_low f ≡ false
not_low f h = by_test (is_low f) refl
  where
    by_test : (b : Bool) → is_low f ≡ b → is_low f ≡ false
    by_test false e = e
    by_test true e = absurd (clash (sym (words_of_low f e) ∙ h))
      where
        clash : true ≡ false → ⊥
        clash k = cc
