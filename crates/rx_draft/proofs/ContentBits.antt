-- Numbers and bytes as the bits of their places.
use Rattle.std.proofs.Common.{◌≡◌, ℕ, zero, suc, ◌+◌, ◌*◌, ◌/◌, ◌%◌, ◌^◌, ◌<◌, ◌≤◌, Bool, true, false, List, [], ◌∷◌, ◌++◌, length, take, drop, length-append, append_assoc, append-nil, fold, refl, sym, ap, ◌∙◌, inl, inr, ◌⊎◌, arith}
use Rattle.std.specs.Prelude.{slice_range}
use Rattle.std.specs.List.{AllByRecursion}
use Rattle.std.proofs.Math.Nat.{pow-succ'}
use Rattle.std.proofs.lemmas.List.{drop-take}
use Rattle.std.proofs.lemmas.Slice.{between_is}
use Rattle.rx_model.specs.Bits.{byte_bits, bits, number, place_bits, reversed_groups, ordered}
use Rattle.rx_model.specs.Order.{number_bits}
use Rattle.rx_model.proofs.BitLemmas.{number-push, reversed_groups-few, bits-drop}
use Rattle.rx_graph.specs.Elaborated.{FitsOrder}

-- ---- groups in reversed order

pub length_reversed : (l : List ℕ) → length (reversed_groups l) ≡ length l
length_reversed (a ∷ b ∷ c ∷ d ∷ e ∷ f ∷ g ∷ h ∷ rest) =
    let all = length-append (reversed_groups rest) (a ∷ b ∷ c ∷ d ∷ e ∷ f ∷ g ∷ h ∷ []) in
    let same = length_reversed rest in
    omega (arith, all, same)
length_reversed _ = refl

group_alone : (group : List ℕ) → length group ≡ 8 → reversed_groups group ≡ group ++ []
group_alone (a ∷ b ∷ c ∷ d ∷ e ∷ f ∷ g ∷ h ∷ []) eight = refl
group_alone _ eight = absurd (omega (arith, eight))

group_last : (list group : List ℕ) → length list % 8 ≡ 0 → length group ≡ 8 → reversed_groups (list ++ group) ≡ group ++ reversed_groups list
group_last [] group even eight = group_alone group eight
group_last (a ∷ b ∷ c ∷ d ∷ e ∷ f ∷ g ∷ h ∷ rest) group even eight =
    let k = a ∷ b ∷ c ∷ d ∷ e ∷ f ∷ g ∷ h ∷ [] in
    ap (λ l. l ++ k) (group_last rest group (omega (arith, even)) eight) ∙ append_assoc group (reversed_groups rest) k
group_last _ group even eight = absurd (omega (arith, even))

reversed_twice : (l : List ℕ) → length l % 8 ≡ 0 → reversed_groups (reversed_groups l) ≡ l
reversed_twice [] even = refl
reversed_twice (a ∷ b ∷ c ∷ d ∷ e ∷ f ∷ g ∷ h ∷ rest) even =
    let k = a ∷ b ∷ c ∷ d ∷ e ∷ f ∷ g ∷ h ∷ [] in
    let rest_even : length (reversed_groups rest) % 8 ≡ 0 = omega (arith, even, length_reversed rest) in
    group_last (reversed_groups rest) k rest_even refl ∙ ap (λ l. k ++ l) (reversed_twice rest (omega (arith, even)))
reversed_twice _ even = absurd (omega (arith, even))

twice_if : (l : List ℕ) → (length l < 8) ⊎ (length l % 8 ≡ 0) → reversed_groups (reversed_groups l) ≡ l
twice_if l (inl few) = ap reversed_groups (reversed_groups-few l few) ∙ reversed_groups-few l few
twice_if l (inr whole) = reversed_twice l whole

pub ordered_twice : (low : Bool) (l : List ℕ) → FitsOrder low (length l) → ordered low (ordered low l) ≡ l
ordered_twice false l order = refl
ordered_twice true l order = twice_if l (order refl)

pub length_ordered : (low : Bool) (l : List ℕ) → length (ordered low l) ≡ length l
length_ordered false l = refl
length_ordered true l = length_reversed l

-- ---- lists of bits

abbrev pub AreBits : List ℕ → Type 0
AreBits l = AllByRecursion (λ b. b < 2) l

append_bits : (xs ys : List ℕ) → AreBits xs → AreBits ys → AreBits (xs ++ ys)
append_bits [] ys h k = k
append_bits (x ∷ xs) ys h k = (h.0, append_bits xs ys h.1 k)

take_bits : (n : ℕ) (xs : List ℕ) → AreBits xs → AreBits (take n xs)
take_bits zero xs h = tt
take_bits (suc n) [] h = tt
take_bits (suc n) (x ∷ xs) h = (h.0, take_bits n xs h.1)

drop_bits : (n : ℕ) (xs : List ℕ) → AreBits xs → AreBits (drop n xs)
drop_bits zero xs h = h
drop_bits (suc n) [] h = h
drop_bits (suc n) (x ∷ xs) h = drop_bits n xs h.1

all_bits : (bytes : List ℕ) → AreBits (bits bytes)
all_bits [] = tt
all_bits (b ∷ bs) = append_bits (byte_bits b) (bits bs) (omega arith, (omega arith, (omega arith, (omega arith, (omega arith, (omega arith, (omega arith, (omega arith, tt)))))))) (all_bits bs)

reversed_bits : (l : List ℕ) → AreBits l → AreBits (reversed_groups l)
reversed_bits (a ∷ b ∷ c ∷ d ∷ e ∷ f ∷ g ∷ h ∷ rest) k =
    append_bits (reversed_groups rest) (a ∷ b ∷ c ∷ d ∷ e ∷ f ∷ g ∷ h ∷ []) (reversed_bits rest k.1.1.1.1.1.1.1.1) (k.0, (k.1.0, (k.1.1.0, (k.1.1.1.0, (k.1.1.1.1.0, (k.1.1.1.1.1.0, (k.1.1.1.1.1.1.0, (k.1.1.1.1.1.1.1.0, tt))))))))
reversed_bits _ k = k

ordered_bits : (low : Bool) (l : List ℕ) → AreBits l → AreBits (ordered low l)
ordered_bits false l k = k
ordered_bits true l k = reversed_bits l k

pub place_bits-bits : (low : Bool) (first n : ℕ) (bytes : List ℕ) → AreBits (ordered low (place_bits first n bytes))
place_bits-bits low first n bytes = ordered_bits low _ (take_bits n (drop first (bits bytes)) (drop_bits first (bits bytes) (all_bits bytes)))

-- ---- the bits of numbers

bits_behind : (l : List ℕ) (a k n : ℕ) → n ≡ k + length l → AreBits l → number_bits n (fold (λ m b. 2 * m + b) a l) ≡ number_bits k a ++ l
bits_behind [] a k n long h =
    let e : n ≡ k = omega (arith, long) in
    ap (λ j. number_bits j a) e ∙ sym (append-nil (number_bits k a))
bits_behind (b ∷ l) a k n long h =
    let half : (2 * a + b) / 2 ≡ a = omega (arith, h.0) in
    let low : (2 * a + b) % 2 ≡ b = omega (arith, h.0) in
    let rest = bits_behind l (2 * a + b) (suc k) n (omega (arith, long)) h.1 in
    rest ∙ ap (λ j. (number_bits k j ++ (2 * a + b) % 2 ∷ []) ++ l) half ∙ ap (λ j. (number_bits k a ++ j ∷ []) ++ l) low ∙ append_assoc (number_bits k a) (b ∷ []) l

-- the bits of the number of a list are that list
pub number_bits-number : (l : List ℕ) (n : ℕ) → n ≡ length l → AreBits l → number_bits n (number l) ≡ l
number_bits-number l n long h = bits_behind l 0 0 n (omega (arith, long)) h

-- the number of the bits of a number is that number
pub number-number_bits : (size n : ℕ) → n < 2 ^ size → number (number_bits size n) ≡ n
number-number_bits zero n below = omega (arith, below)
number-number_bits (suc size) n below =
    let double : 2 ^ suc size ≡ 2 * 2 ^ size = pow-succ' 2 size in
    let half : n / 2 < 2 ^ size = omega (arith, below, double) in
    let rest = number-number_bits size (n / 2) half in
    number-push (number_bits size (n / 2)) (n % 2) ∙ omega (arith, rest)

pub length-number_bits : (size n : ℕ) → length (number_bits size n) ≡ size
length-number_bits zero n = refl
length-number_bits (suc size) n =
    let all = length-append (number_bits size (n / 2)) (n % 2 ∷ []) in
    let rest = length-number_bits size (n / 2) in
    omega (arith, all, rest)

-- ---- the bits of bytes

bits_take : (k : ℕ) (bytes : List ℕ) → bits (take k bytes) ≡ take (8 * k) (bits bytes)
bits_take zero bytes = refl
bits_take (suc k) [] =
    let next : 8 * suc k ≡ suc (8 * k + 7) = omega arith in
    rw next refl
bits_take (suc k) (b ∷ bs) =
    let next : 8 * suc k ≡ suc (suc (suc (suc (suc (suc (suc (suc (8 * k)))))))) = omega arith in
    rw next (ap (λ l. b / 128 % 2 ∷ b / 64 % 2 ∷ b / 32 % 2 ∷ b / 16 % 2 ∷ b / 8 % 2 ∷ b / 4 % 2 ∷ b / 2 % 2 ∷ b % 2 ∷ l) (bits_take k bs))

-- the bits of some of the bytes are those of their place
pub bits_range : (bytes : List ℕ) (a n : ℕ) → bits (slice_range bytes a (a + n)) ≡ place_bits (8 * a) (8 * n) bytes
bits_range bytes a n =
    let whole : 8 * (a + n) ≡ 8 * a + 8 * n = omega arith in
    ap bits (between_is bytes a (a + n)) ∙ bits-drop a (take (a + n) bytes) ∙ ap (drop (8 * a)) (bits_take (a + n) bytes ∙ ap (λ k. take k (bits bytes)) whole) ∙ drop-take (8 * a) (8 * n) (bits bytes)
