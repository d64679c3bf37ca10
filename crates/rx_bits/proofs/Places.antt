-- Places of two buffers that have the same bits there.
use Rattle.std.proofs.Common.{◌≡◌, ℕ, zero, suc, ◌+◌, ◌*◌, ◌<◌, ◌≤◌, List, [], ◌∷◌, ◌++◌, length, take, drop, get_or, length-drop, refl, sym, ap, ◌∙◌, arith, add-one}
use Rattle.std.proofs.lemmas.List.{take_more, get_or-drop}
use Rattle.rx_model.specs.Bits.{bits, bit_at, place_bits, number_at}
use Rattle.rx_model.proofs.BitLemmas.{get_or-bits, length-bits}

-- the bits of a place, and one more
place_more : (first n : ℕ) (bytes : List ℕ) → first + n < 8 * length bytes → place_bits first (suc n) bytes ≡ place_bits first n bytes ++ bit_at bytes (first + n) ∷ []
place_more first n bytes inside =
    let all = bits bytes in
    let size : length all ≡ 8 * length bytes = length-bits bytes in
    let within : n < length (drop first all) = simp length-drop (omega arith) in
    let more : take (n + 1) (drop first all) ≡ take n (drop first all) ++ get_or (drop first all) n 0 ∷ [] = take_more (drop first all) n 0 within in
    let there : get_or (drop first all) n 0 ≡ bit_at bytes (first + n) = get_or-drop first all n 0 ∙ get_or-bits bytes (first + n) in
    rw add-one at more ∙ ap (λ b. take n (drop first all) ++ b ∷ []) there

-- the bits of a place of two buffers that have the same bits there
pub same_place : (a b : List ℕ) (first n : ℕ) → first + n ≤ 8 * length a → first + n ≤ 8 * length b → ((i : ℕ) → first ≤ i → i < first + n → bit_at a i ≡ bit_at b i) → place_bits first n a ≡ place_bits first n b
same_place a b first zero one other same = refl
same_place a b first (suc n) one other same =
    let rest = same_place a b first n (omega arith) (omega arith) (λ i low high. same i low (omega arith)) in
    let last : bit_at a (first + n) ≡ bit_at b (first + n) = same (first + n) (omega arith) (omega arith) in
    place_more first n a (omega arith) ∙ ap (λ l. l ++ bit_at a (first + n) ∷ []) rest ∙ ap (λ x. place_bits first n b ++ x ∷ []) last ∙ sym (place_more first n b (omega arith))

-- the number of a place whose bits have not changed
pub same_number : (bytes new : List ℕ) (first n : ℕ) → ((i : ℕ) → first ≤ i → i < first + n → bit_at new i ≡ bit_at bytes i) → number_at new first n ≡ number_at bytes first n
same_number bytes new first zero same = refl
same_number bytes new first (suc n) same =
    let rest = same_number bytes new first n (λ i low high. same i low (omega arith)) in
    let bit = same (first + n) (omega arith) (omega arith) in
    ap (λ x. 2 * x + bit_at new (first + n)) rest ∙ ap (λ x. 2 * number_at bytes first n + x) bit
