-- A row written behind others in one buffer.
use Rattle.std.proofs.Common.{◌≡◌, refl, sym, ap, ◌∙◌, subst, ℕ, zero, suc, ◌+◌, ◌-◌, ◌<◌, ◌≤◌, ◌^◌, arith, List, [], ◌∷◌, ◌++◌, take, drop, set, length, get_or, ℤ, pos, ◌*ℤ◌, ◌+ℤ◌, unsigned_abs, FitsSigned, to_z, of_z, append_assoc, length-drop, length-take, get_or-take, get_or-drop}
use Rattle.std.specs.Prelude.{slice_range}
use Rattle.std.specs.Int.{w128}
use Rattle.std.proofs.lemmas.Int.{to_z-of_z}
use Rattle.std.proofs.lemmas.List.{take_more, take_more_set, drop-take, drop_at, take_at, take-take, get_or_append_left, length-take-le}
use Rattle.std.proofs.lemmas.List.Elements.{All-get_or}
use Rattle.rx_model.specs.Sums.{weighted_sum}
use Rattle.rx_linear.specs.Rows.{AllBelow}
use Rattle.rx_linear.proofs.Bounds.{constant_fits}

pub length-part : (xs : List ℤ) (a w : ℕ) → a + w ≤ length xs → length (slice_range xs a (a + w)) ≡ w
length-part xs a w h = omega (arith, length-take (a + w - a) (drop a xs), length-drop a xs)

get_or-part : (xs : List ℤ) (a w k : ℕ) → k < w → get_or (slice_range xs a (a + w)) k (pos 0) ≡ get_or xs (a + k) (pos 0)
get_or-part xs a w k h = get_or-take (a + w - a) (drop a xs) k (pos 0) (omega arith) ∙ get_or-drop a xs k (pos 0)

-- a number before the place that is written
pub read_before : (init cells total : List ℤ) (t i a w : ℕ) → take (t + i) cells ≡ take t init ++ take i total → t ≤ length init → a + w ≤ t → i < w → get_or cells (a + i) (pos 0) ≡ get_or (slice_range init a (a + w)) i (pos 0)
read_before init cells total t i a w e room before h =
    let l : length (take t init) ≡ t = length-take-le t init room in
    let j : a + i < length (take t init) = omega (arith, l) in
    sym (get_or-take (t + i) cells (a + i) (pos 0) (omega arith))
    ∙ ap (λ (zs : List ℤ). get_or zs (a + i) (pos 0)) e
    ∙ get_or_append_left (take t init) (take i total) (pos 0) (a + i) j
    ∙ get_or-take t init (a + i) (pos 0) (omega arith)
    ∙ sym (get_or-part init a w i h)

pub length-weighted : (ls rs : List ℤ) (a b : ℤ) → length ls ≡ length rs → length (weighted_sum ls a rs b) ≡ length ls
length-weighted [] [] a b e = refl
length-weighted [] (r ∷ rs) a b e = absurd (omega arith)
length-weighted (l ∷ ls) [] a b e = absurd (omega arith)
length-weighted (l ∷ ls) (r ∷ rs) a b e = let s : length ls ≡ length rs = omega arith in ap suc (length-weighted ls rs a b s)

pub get_or-weighted : (ls rs : List ℤ) (a b : ℤ) (k : ℕ) → length ls ≡ length rs → k < length ls → get_or (weighted_sum ls a rs b) k (pos 0) ≡ a *ℤ get_or ls k (pos 0) +ℤ b *ℤ get_or rs k (pos 0)
get_or-weighted [] rs a b k e h = absurd (omega arith)
get_or-weighted (l ∷ ls) [] a b k e h = absurd (omega arith)
get_or-weighted (l ∷ ls) (r ∷ rs) a b zero e h = refl
get_or-weighted (l ∷ ls) (r ∷ rs) a b (suc k) e h = let s : length ls ≡ length rs = omega arith in let g : k < length ls = omega arith in get_or-weighted ls rs a b k s g

-- the buffer with one number more
pub write_step : (init cells total : List ℤ) (t i : ℕ) (v : ℤ) → take (t + i) cells ≡ take t init ++ take i total → t + i < length cells → i < length total → v ≡ get_or total i (pos 0) → take (t + (i + 1)) (set cells (t + i) v) ≡ take t init ++ take (i + 1) total
write_step init cells total t i v e h l ev =
    ap (λ (n : ℕ). take n (set cells (t + i) v)) (let a : t + (i + 1) ≡ t + i + 1 = omega arith in a)
    ∙ take_more_set cells (t + i) v h
    ∙ ap (λ (zs : List ℤ). zs ++ v ∷ []) e
    ∙ append_assoc (take t init) (take i total) (v ∷ [])
    ∙ ap (λ (z : ℤ). take t init ++ (take i total ++ z ∷ [])) ev
    ∙ ap (λ (zs : List ℤ). take t init ++ zs) (sym (take_more total i (pos 0) l))

pub weighted_at_step : (init cells : List ℤ) (t i w l r : ℕ) (a b v : ℤ) → t + w ≤ length init → length cells ≡ length init → l + w ≤ t → r + w ≤ t → i < w → take (t + i) cells ≡ take t init ++ take i (weighted_sum (slice_range init l (l + w)) a (slice_range init r (r + w)) b) → v ≡ a *ℤ get_or (slice_range init l (l + w)) i (pos 0) +ℤ b *ℤ get_or (slice_range init r (r + w)) i (pos 0) → take (t + (i + 1)) (set cells (t + i) v) ≡ take t init ++ take (i + 1) (weighted_sum (slice_range init l (l + w)) a (slice_range init r (r + w)) b)
weighted_at_step init cells t i w l r a b v room same bl br h e ev =
    let ll = length-part init l w (omega arith) in
    let lr = length-part init r w (omega arith) in
    let both : length (slice_range init l (l + w)) ≡ length (slice_range init r (r + w)) = ll ∙ sym lr in
    let lt = length-weighted (slice_range init l (l + w)) (slice_range init r (r + w)) a b both in
    write_step init cells (weighted_sum (slice_range init l (l + w)) a (slice_range init r (r + w)) b) t i v e (omega arith) (omega (arith, lt, ll)) (ev ∙ sym (get_or-weighted (slice_range init l (l + w)) (slice_range init r (r + w)) a b i both (omega (arith, ll))))

pub end_before : (init cells total : List ℤ) (t w : ℕ) → t ≤ length init → take (t + w) cells ≡ take t init ++ total → take t cells ≡ take t init
end_before init cells total t w h e =
    sym (take-take t (t + w) cells (omega arith)) ∙ ap (λ (zs : List ℤ). take t zs) e ∙ take_at (take t init) total t (length-take-le t init h)

pub end_value : (init cells total : List ℤ) (t w : ℕ) → t ≤ length init → take (t + w) cells ≡ take t init ++ total → slice_range cells t (t + w) ≡ total
end_value init cells total t w h e =
    ap (λ (n : ℕ). take n (drop t cells)) (let a : t + w - t ≡ w = omega arith in a)
    ∙ sym (drop-take t w cells) ∙ ap (λ (zs : List ℤ). drop t zs) e ∙ drop_at (take t init) total t (length-take-le t init h)

-- such a number is small, as the row is
pub read_small : (init cells total : List ℤ) (t i a w : ℕ) → take (t + i) cells ≡ take t init ++ take i total → t ≤ length init → a + w ≤ t → i < w → AllBelow (2 ^ 100) (slice_range init a (a + w)) → unsigned_abs (get_or cells (a + i) (pos 0)) < 2 ^ 100
read_small init cells total t i a w e room before h small =
    subst (λ (z : ℤ). unsigned_abs z < 2 ^ 100) (sym (read_before init cells total t i a w e room before h))
    (All-get_or (λ z. unsigned_abs z < 2 ^ 100) (slice_range init a (a + w)) i (pos 0) (omega (arith, length-part init a w (omega arith))) small)

pub code_small : (z : ℤ) → unsigned_abs z < 2 ^ 100 → unsigned_abs (to_z w128 (of_z w128 z)) < 2 ^ 100
code_small z h = let f : FitsSigned w128 z = constant_fits z h in simp to_z-of_z h
