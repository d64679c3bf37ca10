-- Single bits of bytes, the number of one bit more, and that the bits as a list and by their indices
-- say the same.
use Rattle.std.proofs.Common.{◌≡◌, ℕ, zero, suc, ◌+◌, ◌*◌, ◌/◌, ◌%◌, ◌^◌, ◌<◌, ◌≤◌, List, [], ◌∷◌, ◌++◌, length, take, drop, length-drop, length-take, take-append-drop, subst, get_or, refl, ap, ◌∙◌, arith, add-one}
use Rattle.std.proofs.Math.Nat.{pow-succ'}
use Rattle.std.proofs.Math.Seq.{take-append-add}
use Rattle.std.proofs.lemmas.List.{take_more, get_or-drop, drop-drop}
use Rattle.std.proofs.lemmas.List.Sums.{fold-append}
use Rattle.std.proofs.lemmas.Grind.{common_steps}
use Rattle.rx_model.specs.Bits.{bits, bit_at, number, place_bits, number_at, reversed_groups}

-- an element of the list of bits is the bit of that index
pub get_or-bits : (bytes : List ℕ) (i : ℕ) → get_or (bits bytes) i 0 ≡ bit_at bytes i
get_or-bits [] i = grind (arith, common_steps)
get_or-bits (b ∷ bs) zero = refl
get_or-bits (b ∷ bs) (suc zero) = refl
get_or-bits (b ∷ bs) (suc (suc zero)) = refl
get_or-bits (b ∷ bs) (suc (suc (suc zero))) = refl
get_or-bits (b ∷ bs) (suc (suc (suc (suc zero)))) = refl
get_or-bits (b ∷ bs) (suc (suc (suc (suc (suc zero))))) = refl
get_or-bits (b ∷ bs) (suc (suc (suc (suc (suc (suc zero)))))) = refl
get_or-bits (b ∷ bs) (suc (suc (suc (suc (suc (suc (suc zero))))))) = grind (arith, common_steps)
get_or-bits (b ∷ bs) (suc (suc (suc (suc (suc (suc (suc (suc i)))))))) =
    let next : suc (suc (suc (suc (suc (suc (suc (suc i))))))) / 8 ≡ suc (i / 8) = omega arith in
    let same : suc (suc (suc (suc (suc (suc (suc (suc i))))))) % 8 ≡ i % 8 = omega arith in
    rw (next, same) (get_or-bits bs i)

-- eight bits a byte
pub length-bits : (bytes : List ℕ) → length (bits bytes) ≡ 8 * length bytes
length-bits [] = refl
length-bits (b ∷ bs) = let rest : length (bits bs) ≡ 8 * length bs = length-bits bs in omega arith

-- a bit is 0 or 1
pub bit_at-below : (bytes : List ℕ) (i : ℕ) → bit_at bytes i < 2
bit_at-below bytes i = omega arith

-- the number of one bit more
pub number-push : (list : List ℕ) (b : ℕ) → number (list ++ b ∷ []) ≡ 2 * number list + b
number-push list b = fold-append (λ n c. 2 * n + c) 0 list (b ∷ [])

-- one more bit of a place
pub place_bits-more : (first n : ℕ) (bytes : List ℕ) → first + n < 8 * length bytes
    → number (place_bits first (n + 1) bytes) ≡ 2 * number (place_bits first n bytes) + bit_at bytes (first + n)
place_bits-more first n bytes inside =
    let all = bits bytes in
    let size : length all ≡ 8 * length bytes = length-bits bytes in
    let within : n < length (drop first all) = simp length-drop (omega arith) in
    let more : take (n + 1) (drop first all) ≡ take n (drop first all) ++ get_or (drop first all) n 0 ∷ [] = take_more (drop first all) n 0 within in
    let there : get_or (drop first all) n 0 ≡ bit_at bytes (first + n) = get_or-drop first all n 0 ∙ get_or-bits bytes (first + n) in
    ap number more ∙ number-push (take n (drop first all)) (get_or (drop first all) n 0) ∙ ap (λ b. 2 * number (take n (drop first all)) + b) there

-- the number of a place is that of the list of its bits
pub number-place_bits : (bytes : List ℕ) (first size : ℕ) → first + size ≤ 8 * length bytes → number (place_bits first size bytes) ≡ number_at bytes first size
number-place_bits bytes first zero inside = refl
number-place_bits bytes first (suc n) inside =
    let more : number (place_bits first (n + 1) bytes) ≡ 2 * number (place_bits first n bytes) + bit_at bytes (first + n) = place_bits-more first n bytes (omega arith) in
    rw add-one at more ∙ ap (λ k. 2 * k + bit_at bytes (first + n)) (number-place_bits bytes first n (omega arith))

-- a place of n bits has a number below 2 to the n
pub number_at-below : (bytes : List ℕ) (first size : ℕ) → number_at bytes first size < 2 ^ size
number_at-below bytes first zero = omega arith
number_at-below bytes first (suc n) =
    let double : 2 ^ suc n ≡ 2 * 2 ^ n = pow-succ' 2 n in
    let rest : number_at bytes first n < 2 ^ n = number_at-below bytes first n in
    let bit : bit_at bytes (first + n) < 2 = bit_at-below bytes (first + n) in
    rw double (omega arith)

-- the bits of a place in two parts
pub place_bits-append : (first n m : ℕ) (bytes : List ℕ) → first + n ≤ 8 * length bytes → place_bits first (n + m) bytes ≡ place_bits first n bytes ++ place_bits (first + n) m bytes
place_bits-append first n m bytes inside =
    let all = bits bytes in
    let rest = drop first all in
    let size : length all ≡ 8 * length bytes = length-bits bytes in
    let within : n ≤ length rest = simp length-drop (omega arith) in
    let step : take (length (take n rest) + m) (take n rest ++ drop n rest) ≡ take n rest ++ take m (drop n rest) = take-append-add (take n rest) (drop n rest) m in
    let front : length (take n rest) ≡ n = simp length-take (omega arith) in
    let whole = subst (λ l. take (length (take n rest) + m) l ≡ take n rest ++ take m (drop n rest)) (take-append-drop n rest) step in
    let there : drop n rest ≡ drop (first + n) all = drop-drop n first all in
    subst (λ k. take (k + m) rest ≡ take n rest ++ take m (drop n rest)) front whole ∙ ap (λ l. take n rest ++ take m l) there

-- a group comes behind the groups that follow it
pub reversed_groups-append : (group rest : List ℕ) → length group ≡ 8 → reversed_groups (group ++ rest) ≡ reversed_groups rest ++ group
reversed_groups-append (a ∷ b ∷ c ∷ d ∷ e ∷ f ∷ g ∷ h ∷ []) rest eight = refl
reversed_groups-append _ rest eight = absurd (omega arith)

-- the number of one group more
pub number-group : (list group : List ℕ) → length group ≡ 8 → number (list ++ group) ≡ 256 * number list + number group
number-group list (a ∷ b ∷ c ∷ d ∷ e ∷ f ∷ g ∷ h ∷ []) eight = fold-append (λ n x. 2 * n + x) 0 list (a ∷ b ∷ c ∷ d ∷ e ∷ f ∷ g ∷ h ∷ []) ∙ omega arith
number-group list _ eight = absurd (omega arith)

-- fewer than eight bits stay as they are
pub reversed_groups-few : (list : List ℕ) → length list < 8 → reversed_groups list ≡ list
reversed_groups-few (a ∷ b ∷ c ∷ d ∷ e ∷ f ∷ g ∷ h ∷ rest) few = absurd (omega arith)
reversed_groups-few _ few = refl

-- the bits of a place are as many as its size says
pub length-place_bits : (first n : ℕ) (bytes : List ℕ) → first + n ≤ 8 * length bytes → length (place_bits first n bytes) ≡ n
length-place_bits first n bytes inside =
    let size : length (bits bytes) ≡ 8 * length bytes = length-bits bytes in
    simp (length-take, length-drop) (omega arith)

-- without the first k bytes, the first 8 k bits are gone
pub bits-drop : (k : ℕ) (bytes : List ℕ) → bits (drop k bytes) ≡ drop (8 * k) (bits bytes)
bits-drop zero bytes = refl
bits-drop (suc k) [] =
    let next : 8 * suc k ≡ suc (8 * k + 7) = omega arith in
    rw next refl
bits-drop (suc k) (b ∷ bs) =
    let next : 8 * suc k ≡ suc (suc (suc (suc (suc (suc (suc (suc (8 * k)))))))) = omega arith in
    rw next (bits-drop k bs)

-- a place counted from the byte in which it begins
pub place_bits-drop : (first n : ℕ) (bytes : List ℕ) → place_bits (first % 8) n (drop (first / 8) bytes) ≡ place_bits first n bytes
place_bits-drop first n bytes =
    let whole : 8 * (first / 8) + first % 8 ≡ first = omega arith in
    ap (λ l. take n (drop (first % 8) l)) (bits-drop (first / 8) bytes) ∙ ap (take n) (drop-drop (first % 8) (8 * (first / 8)) (bits bytes)) ∙ ap (λ k. take n (drop k (bits bytes))) whole

-- the number of a place of one group more in front
pub reversed_groups-more : (first k : ℕ) (bytes : List ℕ) → first + 8 + 8 * k ≤ 8 * length bytes
    → number (reversed_groups (place_bits first (8 + 8 * k) bytes)) ≡ 256 * number (reversed_groups (place_bits (first + 8) (8 * k) bytes)) + number (place_bits first 8 bytes)
reversed_groups-more first k bytes inside =
    let group = place_bits first 8 bytes in
    let rest = place_bits (first + 8) (8 * k) bytes in
    let eight : length group ≡ 8 = length-place_bits first 8 bytes (omega arith) in
    ap (λ l. number (reversed_groups l)) (place_bits-append first 8 (8 * k) bytes (omega arith)) ∙ ap number (reversed_groups-append group rest eight) ∙ number-group (reversed_groups rest) group eight
