-- Rows that stand one behind another in one buffer.
use Rattle.std.proofs.Common.{◌≡◌, refl, sym, ap, ◌∙◌, ℕ, zero, suc, ◌+◌, ◌-◌, ◌<◌, ◌≤◌, ◌^◌, arith, List, [], ◌∷◌, ◌++◌, map, take, drop, length, get_or, ℤ, pos, ◌*ℤ◌, ◌+ℤ◌, unsigned_abs, get_or-take, length-take, length-drop, length-append, append_assoc, set, neg_ℤ, negsuc, replicate}
use Rattle.std.specs.Prelude.{slice_range}
use borrow.Rule.Slice.PartMut.{put_mid}
use Rattle.std.specs.Int.{int_div_euclid}
use Rattle.std.proofs.lemmas.Int.{ints}
use Rattle.rx_linear.specs.Divisors.{common_divisor_of, divided_up, divided_down}
use Rattle.std.proofs.lemmas.List.{length-replicate, drop_more, set_at, drop_at, take_at, get_or_at, take-take, drop-drop, length-take-le}
use Rattle.std.proofs.lemmas.List.Elements.{All-more, All-weaker}
use Rattle.rx_model.specs.Sums.{weighted_sum}
use Rattle.rx_linear.specs.declared.row.Row.{Row}
use Rattle.rx_linear.specs.Rows.{AllBelow, Narrow, combined, tight, divisor_of}
use Rattle.rx_linear.specs.Units.{unit}
use Rattle.rx_linear.specs.Cells.{row_of}
use Rattle.rx_linear.proofs.Cells.{get_or-weighted}

abbrev record_of : List ℤ → ℤ → Row
record_of cs z = record { coefficients = cs; least = z }

pub same_parts : {cs ds : List ℤ} {a b : ℤ} → cs ≡ ds → a ≡ b → record_of cs a ≡ record_of ds b
same_parts e f = cc

-- a row of n variables needs n + 1 numbers
pub row_of-take : (n t : ℕ) (cells : List ℤ) → n < t → row_of n (take t cells) ≡ row_of n cells
row_of-take n t cells h = same_parts (take-take n t cells (omega arith)) (get_or-take t cells n (pos 0) h)

pub row_of-same : (n t : ℕ) (cells others : List ℤ) → n < t → take t cells ≡ take t others → row_of n cells ≡ row_of n others
row_of-same n t cells others h e = sym (row_of-take n t cells h) ∙ ap (row_of n) e ∙ row_of-take n t others h

pub part_is : (cells : List ℤ) (at w : ℕ) → slice_range cells at (at + w) ≡ take w (drop at cells)
part_is cells at w = ap (λ (k : ℕ). take k (drop at cells)) (let e : at + w - at ≡ w = omega arith in e)

take-weighted : (n : ℕ) (ls rs : List ℤ) (a b : ℤ) → n ≤ length ls → n ≤ length rs → take n (weighted_sum ls a rs b) ≡ weighted_sum (take n ls) a (take n rs) b
take-weighted zero ls rs a b hl hr = refl
take-weighted (suc n) [] rs a b hl hr = absurd (omega arith)
take-weighted (suc n) (l ∷ ls) [] a b hl hr = absurd (omega arith)
take-weighted (suc n) (l ∷ ls) (r ∷ rs) a b hl hr =
    let gl : n ≤ length ls = omega arith in
    let gr : n ≤ length rs = omega arith in
    ap (λ (zs : List ℤ). (a *ℤ l +ℤ b *ℤ r) ∷ zs) (take-weighted n ls rs a b gl gr)

pub row_of-weighted : (n : ℕ) (ls rs : List ℤ) (a b : ℤ) → length ls ≡ length rs → n < length ls → row_of n (weighted_sum ls a rs b) ≡ combined (row_of n ls) a (row_of n rs) b
row_of-weighted n ls rs a b e h = same_parts (take-weighted n ls rs a b (omega arith) (omega arith)) (get_or-weighted ls rs a b n e h)

-- the numbers of a narrow row are below 2^100
pub narrow_numbers : (n : ℕ) (cells : List ℤ) → n < length cells → Narrow (row_of n cells) → AllBelow (2 ^ 100) (take (n + 1) cells)
narrow_numbers n cells h narrow =
    All-more (λ z. unsigned_abs z < 2 ^ 100) cells n (pos 0) h (All-weaker (λ z. unsigned_abs z < 2 ^ 20) (λ z. unsigned_abs z < 2 ^ 100) (λ z s. omega (arith, s)) (take n cells) narrow.0) narrow.1

pub combined_from_numbers : (n l r t : ℕ) (cells others : List ℤ) (a b : ℤ) → l + n < length cells → r + n < length cells
    → slice_range others t (t + (n + 1)) ≡ weighted_sum (slice_range cells l (l + (n + 1))) a (slice_range cells r (r + (n + 1))) b
    → row_of n (drop t others) ≡ combined (row_of n (drop l cells)) a (row_of n (drop r cells)) b
combined_from_numbers n l r t cells others a b hl hr e =
    let ll : length (take (n + 1) (drop l cells)) ≡ n + 1 = omega (arith, length-take (n + 1) (drop l cells), length-drop l cells) in
    let lr : length (take (n + 1) (drop r cells)) ≡ n + 1 = omega (arith, length-take (n + 1) (drop r cells), length-drop r cells) in
    let numbers : take (n + 1) (drop t others) ≡ weighted_sum (take (n + 1) (drop l cells)) a (take (n + 1) (drop r cells)) b =
    sym (part_is others t (n + 1)) ∙ e ∙ ap (λ (zs : List ℤ). weighted_sum zs a (slice_range cells r (r + (n + 1))) b) (part_is cells l (n + 1)) ∙ ap (λ (zs : List ℤ). weighted_sum (take (n + 1) (drop l cells)) a zs b) (part_is cells r (n + 1)) in
    sym (row_of-take n (n + 1) (drop t others) (omega arith))
    ∙ ap (row_of n) numbers
    ∙ row_of-weighted n (take (n + 1) (drop l cells)) (take (n + 1) (drop r cells)) a b (ll ∙ sym lr) (omega (arith, ll))
    ∙ ap (λ (x : Row). combined x a (row_of n (take (n + 1) (drop r cells))) b) (row_of-take n (n + 1) (drop l cells) (omega arith))
    ∙ ap (λ (x : Row). combined (row_of n (drop l cells)) a x b) (row_of-take n (n + 1) (drop r cells) (omega arith))

-- a row of which the coefficients and the constant were written over
written_is : (at n : ℕ) (xs ds : List ℤ) (v : ℤ) → at + n < length xs → length ds ≡ n → set (put_mid at (at + n - at) xs ds) (at + n) v ≡ take at xs ++ (ds ++ v ∷ drop (at + n + 1) xs)
written_is at n xs ds v h e =
    let k : at + n - at ≡ n = omega arith in
    let rest : drop n (drop at xs) ≡ get_or xs (at + n) (pos 0) ∷ drop (at + n + 1) xs = drop-drop n at xs ∙ drop_more xs (at + n) (pos 0) h in
    let front : length (take at xs ++ ds) ≡ at + n = omega (arith, length-append (take at xs) ds, length-take-le at xs (omega arith)) in
    ap (λ (j : ℕ). set (put_mid at j xs ds) (at + n) v) k
    ∙ ap (λ (zs : List ℤ). set (take at xs ++ (ds ++ zs)) (at + n) v) rest
    ∙ ap (λ (zs : List ℤ). set zs (at + n) v) (sym (append_assoc (take at xs) ds (get_or xs (at + n) (pos 0) ∷ drop (at + n + 1) xs)))
    ∙ set_at (take at xs ++ ds) (get_or xs (at + n) (pos 0)) (drop (at + n + 1) xs) v (at + n) front
    ∙ append_assoc (take at xs) ds (v ∷ drop (at + n + 1) xs)

pub written_row : (at n : ℕ) (xs ds : List ℤ) (v : ℤ) → at + n < length xs → length ds ≡ n → row_of n (drop at (set (put_mid at (at + n - at) xs ds) (at + n) v)) ≡ record_of ds v
written_row at n xs ds v h e =
    ap (λ (zs : List ℤ). row_of n (drop at zs)) (written_is at n xs ds v h e)
    ∙ ap (row_of n) (drop_at (take at xs) (ds ++ v ∷ drop (at + n + 1) xs) at (length-take-le at xs (omega arith)))
    ∙ same_parts (take_at ds (v ∷ drop (at + n + 1) xs) n e) (get_or_at ds v (drop (at + n + 1) xs) (pos 0) n e)

pub written_after : (at n : ℕ) (xs ds : List ℤ) (v : ℤ) → at + n < length xs → length ds ≡ n → drop (at + n + 1) (set (put_mid at (at + n - at) xs ds) (at + n) v) ≡ drop (at + n + 1) xs
written_after at n xs ds v h e =
    let front : length (take at xs ++ (ds ++ v ∷ [])) ≡ at + n + 1 = omega (arith, length-append (take at xs) (ds ++ v ∷ []), length-append ds (v ∷ []), length-take-le at xs (omega arith)) in
    ap (drop (at + n + 1)) (written_is at n xs ds v h e ∙ ap (λ (zs : List ℤ). take at xs ++ zs) (sym (append_assoc ds (v ∷ []) (drop (at + n + 1) xs))) ∙ sym (append_assoc (take at xs) (ds ++ v ∷ []) (drop (at + n + 1) xs)))
    ∙ drop_at (take at xs ++ (ds ++ v ∷ [])) (drop (at + n + 1) xs) (at + n + 1) front

-- what a row divided by a number above 1, the greatest common divisor, is
pub divided_is_tight : (n d : ℕ) (cells ds : List ℤ) (v : ℤ) → 1 < d → d ≡ common_divisor_of (take n cells) → ds ≡ map (λ z. int_div_euclid z (pos d)) (take n cells) → v ≡ divided_up (get_or cells n (pos 0)) d → record_of ds v ≡ tight (row_of n cells)
divided_is_tight n d cells ds v h g e f =
    let same : d ≡ divisor_of (row_of n cells) = omega (arith, g) in
    same_parts (e ∙ ap (λ (k : ℕ). map (λ z. divided_down z k) (take n cells)) same) (f ∙ ap (divided_up (get_or cells n (pos 0))) same)

pub down_one : (z : ℤ) → divided_down z 1 ≡ z
down_one (pos a) = omega (arith, ints)
down_one (negsuc a) = omega (arith, ints)

pub map_down_one : (cs : List ℤ) → map (λ c. divided_down c 1) cs ≡ cs
map_down_one [] = refl
map_down_one (c ∷ cs) = ap (λ (z : ℤ). z ∷ map (λ x. divided_down x 1) cs) (down_one c) ∙ ap (λ (zs : List ℤ). c ∷ zs) (map_down_one cs)

pub undivided_is_tight : (n d : ℕ) (cells : List ℤ) → d ≤ 1 → d ≡ common_divisor_of (take n cells) → row_of n cells ≡ tight (row_of n cells)
undivided_is_tight n d cells h g =
    let one : 1 ≡ divisor_of (row_of n cells) = omega (arith, g) in
    let up : get_or cells n (pos 0) ≡ divided_up (get_or cells n (pos 0)) 1 = (let s = down_one (neg_ℤ (get_or cells n (pos 0))) in omega (arith, ints, s)) in
    same_parts
    (sym (map_down_one (take n cells)) ∙ ap (λ (k : ℕ). map (λ z. divided_down z k) (take n cells)) one)
    (up ∙ ap (divided_up (get_or cells n (pos 0))) one)

fill_is_unit : (n x : ℕ) (a : ℤ) → x < n → set (replicate n (pos 0)) x a ≡ unit n x a
fill_is_unit zero x a h = absurd (omega arith)
fill_is_unit (suc n) zero a h = refl
fill_is_unit (suc n) (suc x) a h = let l : x < n = omega arith in ap (λ (zs : List ℤ). pos 0 ∷ zs) (fill_is_unit n x a l)

-- numbers that were all made 0 but one
pub filled_is_unit : (x n : ℕ) (a : ℤ) (zeros : List ℤ) → x < n → zeros ≡ replicate n (pos 0) → set zeros x a ≡ unit n x a
filled_is_unit x n a zeros h e = ap (λ (zs : List ℤ). set zs x a) e ∙ fill_is_unit n x a h

pub length-unit : (n x : ℕ) (a : ℤ) → length (unit n x a) ≡ n
length-unit zero x a = refl
length-unit (suc n) zero a = ap suc (length-replicate n (pos 0))
length-unit (suc n) (suc x) a = ap suc (length-unit n x a)

-- a row that was copied
pub copied_row : (n f t : ℕ) (cells others : List ℤ) → slice_range others t (t + (n + 1)) ≡ slice_range cells f (f + (n + 1)) → row_of n (drop t others) ≡ row_of n (drop f cells)
copied_row n f t cells others e =
    row_of-same n (n + 1) (drop t others) (drop f cells) (omega arith) (sym (part_is others t (n + 1)) ∙ e ∙ part_is cells f (n + 1))
