-- The rows that stand in a buffer, by their numbers.
use Rattle.std.proofs.Common.{◌≡◌, refl, sym, ap, ◌∙◌, ℕ, zero, suc, ◌+◌, ◌-◌, ◌*◌, ◌<◌, ◌≤◌, arith, List, [], ◌∷◌, ◌++◌, take, drop, length, ℤ, Bool, true, false, cond, ◌||◌, Some, add-one}
use Rattle.std.specs.Prelude.{slice_get}
use Rattle.std.specs.List.{list_any}
use Rattle.std.proofs.lemmas.List.{drop_at, drop-take, drop-drop}
use Rattle.std.proofs.lemmas.List.Folds.{list_any-append}
use Rattle.std.proofs.Math.Nat.{suc-mul, zero-mul, mul-le-mul_right}
use Rattle.rx_linear.specs.declared.row.Row.{Row}
use Rattle.rx_linear.specs.Rows.{tight}
use Rattle.rx_linear.specs.Cells.{row_of, rows_of}
use Rattle.rx_linear.specs.Joining.{is_true, same_row, joined_one}
use Rattle.rx_linear.proofs.Stacked.{row_of-take}

pub length-rows_of : (n k : ℕ) (cells : List ℤ) → length (rows_of n k cells) ≡ k
length-rows_of n zero cells = refl
length-rows_of n (suc k) cells = ap suc (length-rows_of n k (drop (n + 1) cells))

drop_of_take : (w t : ℕ) (cells : List ℤ) → w ≤ t → drop w (take t cells) ≡ take (t - w) (drop w cells)
drop_of_take w t cells h = ap (λ (k : ℕ). drop w (take k cells)) (let e : t ≡ w + (t - w) = omega arith in e) ∙ drop-take w (t - w) cells

-- k rows need k times n + 1 numbers
pub rows_of-take : (n k t : ℕ) (cells : List ℤ) → k * (n + 1) ≤ t → rows_of n k (take t cells) ≡ rows_of n k cells
rows_of-take n zero t cells h = refl
rows_of-take n (suc k) t cells h =
    let s = suc-mul k (n + 1) in
    let enough : n + 1 ≤ t = omega (arith, s) in
    let rest : k * (n + 1) ≤ t - (n + 1) = omega (arith, s) in
    ap (λ (r : Row). r ∷ rows_of n k (drop (n + 1) (take t cells))) (row_of-take n t cells (omega (arith, enough)))
    ∙ ap (λ (zs : List ℤ). row_of n cells ∷ rows_of n k zs) (drop_of_take (n + 1) t cells enough)
    ∙ ap (λ (rs : List Row). row_of n cells ∷ rs) (rows_of-take n k (t - (n + 1)) (drop (n + 1) cells) rest)

pub rows_of-same : (n k t : ℕ) (cells others : List ℤ) → k * (n + 1) ≤ t → take t cells ≡ take t others → rows_of n k cells ≡ rows_of n k others
rows_of-same n k t cells others h e = sym (rows_of-take n k t cells h) ∙ ap (rows_of n k) e ∙ rows_of-take n k t others h

pub rows_of-more : (n k : ℕ) (cells : List ℤ) → rows_of n (suc k) cells ≡ rows_of n k cells ++ row_of n (drop (k * (n + 1)) cells) ∷ []
rows_of-more n zero cells = ap (λ (j : ℕ). row_of n (drop j cells) ∷ []) (sym (zero-mul (n + 1)))
rows_of-more n (suc k) cells =
    let e : n + 1 + k * (n + 1) ≡ suc k * (n + 1) = omega (arith, suc-mul k (n + 1)) in
    ap (λ (rs : List Row). row_of n cells ∷ rs) (rows_of-more n k (drop (n + 1) cells))
    ∙ ap (λ (zs : List ℤ). row_of n cells ∷ (rows_of n k (drop (n + 1) cells) ++ row_of n zs ∷ [])) (drop-drop (k * (n + 1)) (n + 1) cells)
    ∙ ap (λ (j : ℕ). row_of n cells ∷ (rows_of n k (drop (n + 1) cells) ++ row_of n (drop j cells) ∷ [])) e

-- a row behind the others, which stay
pub pushed_row : (n k : ℕ) (cells others : List ℤ) (row : Row) → take (k * (n + 1)) others ≡ take (k * (n + 1)) cells → row_of n (drop (k * (n + 1)) others) ≡ row → rows_of n (k + 1) others ≡ rows_of n k cells ++ row ∷ []
pushed_row n k cells others row before value =
    ap (λ (j : ℕ). rows_of n j others) (add-one k)
    ∙ rows_of-more n k others
    ∙ ap (λ (r : Row). rows_of n k others ++ r ∷ []) value
    ∙ ap (λ (rs : List Row). rs ++ row ∷ []) (rows_of-same n k (k * (n + 1)) others cells (omega arith) before)

pub row_found : (n k i : ℕ) (cells : List ℤ) → i < k → slice_get (rows_of n k cells) i ≡ Some (row_of n (drop (i * (n + 1)) cells))
row_found n zero i cells h = absurd (omega arith)
row_found n (suc k) zero cells h = ap (λ (j : ℕ). Some (row_of n (drop j cells))) (sym (zero-mul (n + 1)))
row_found n (suc k) (suc i) cells h =
    let l : i < k = omega arith in
    let e : n + 1 + i * (n + 1) ≡ suc i * (n + 1) = omega (arith, suc-mul i (n + 1)) in
    row_found n k i (drop (n + 1) cells) l ∙ ap (λ (zs : List ℤ). Some (row_of n zs)) (drop-drop (i * (n + 1)) (n + 1) cells) ∙ ap (λ (j : ℕ). Some (row_of n (drop j cells))) e

pub rows_of-front : (n j k : ℕ) (cells : List ℤ) → j ≤ k → take j (rows_of n k cells) ≡ rows_of n j cells
rows_of-front n zero k cells h = refl
rows_of-front n (suc j) zero cells h = absurd (omega arith)
rows_of-front n (suc j) (suc k) cells h = let l : j ≤ k = omega arith in ap (λ (rs : List Row). row_of n cells ∷ rs) (rows_of-front n j k (drop (n + 1) cells) l)

-- a row among k ends before the numbers of k rows do
pub place_below : (i k w : ℕ) → i < k → i * w + w ≤ k * w
place_below i k w h =
    let s = suc-mul i w in
    let l : suc i * w ≤ k * w = mul-le-mul_right w h in
    omega (arith, s, l)

none_more : (p : Row → Bool) (rows : List Row) (row : Row) → list_any p rows ≡ false → p row ≡ false → list_any p (rows ++ row ∷ []) ≡ false
none_more p rows row h f = list_any-append p rows (row ∷ []) ∙ ap (λ (b : Bool). b || (p row || false)) h ∙ ap (λ (b : Bool). b || false) f

-- no row passes among one more
pub none_of-more : (p : Row → Bool) (n k : ℕ) (cells : List ℤ) → list_any p (rows_of n k cells) ≡ false → p (row_of n (drop (k * (n + 1)) cells)) ≡ false → list_any p (rows_of n (k + 1) cells) ≡ false
none_of-more p n k cells h f = ap (λ (j : ℕ). list_any p (rows_of n j cells)) (add-one k) ∙ ap (list_any p) (rows_of-more n k cells) ∙ none_more p (rows_of n k cells) (row_of n (drop (k * (n + 1)) cells)) h f

any_at : (p : Row → Bool) (rows : List Row) (i : ℕ) (row : Row) → slice_get rows i ≡ Some row → p row ≡ true → list_any p rows ≡ true
any_at p [] i row e t = cc
any_at p (r ∷ rows) zero row e t = let same : r ≡ row = cc in ap (λ (x : Row). p x || list_any p rows) same ∙ ap (λ (b : Bool). b || list_any p rows) t
any_at p (r ∷ rows) (suc i) row e t = or_true (p r) (any_at p rows i row e t)
  where
    or_true : (b : Bool) {d : Bool} → d ≡ true → (b || d) ≡ true
    or_true true f = refl
    or_true false f = f

-- a row that passes is one of the rows
pub some_of : (p : Row → Bool) (n k i : ℕ) (cells : List ℤ) → i < k → p (row_of n (drop (i * (n + 1)) cells)) ≡ true → list_any p (rows_of n k cells) ≡ true
some_of p n k i cells h t = any_at p (rows_of n k cells) i (row_of n (drop (i * (n + 1)) cells)) (row_found n k i cells h) t

-- a tight row on top joins the rows, unless it is true of itself or there already
pub joins_new : (n k : ℕ) (cells others : List ℤ) (row : Row) (known among : Bool) → take (k * (n + 1)) others ≡ take (k * (n + 1)) cells → row_of n (drop (k * (n + 1)) others) ≡ row
    → known ≡ is_true (row_of n (drop (k * (n + 1)) others)) → known ≡ false → among ≡ list_any (same_row (row_of n (drop (k * (n + 1)) others))) (rows_of n k others) → among ≡ false
    → rows_of n (k + 1) others ≡ joined_one (rows_of n k cells) row
joins_new n k cells others row known among before value e f a g =
    let r : is_true row ≡ false = ap is_true (sym value) ∙ sym e ∙ f in
    let s : list_any (same_row row) (rows_of n k cells) ≡ false =
    ap (list_any (same_row row)) (sym (rows_of-same n k (k * (n + 1)) others cells (omega arith) before)) ∙ ap (λ (x : Row). list_any (same_row x) (rows_of n k others)) (sym value) ∙ sym a ∙ g in
    pushed_row n k cells others row before value
    ∙ sym (ap (λ (b : Bool). cond (b || list_any (same_row row) (rows_of n k cells)) (rows_of n k cells) (rows_of n k cells ++ row ∷ [])) r ∙ ap (λ (b : Bool). cond b (rows_of n k cells) (rows_of n k cells ++ row ∷ [])) s)

pub joins_true : (n k : ℕ) (cells others : List ℤ) (row : Row) (known : Bool) → take (k * (n + 1)) others ≡ take (k * (n + 1)) cells → row_of n (drop (k * (n + 1)) others) ≡ row
    → known ≡ is_true (row_of n (drop (k * (n + 1)) others)) → known ≡ true → rows_of n k others ≡ joined_one (rows_of n k cells) row
joins_true n k cells others row known before value e t =
    let r : is_true row ≡ true = ap is_true (sym value) ∙ sym e ∙ t in
    rows_of-same n k (k * (n + 1)) others cells (omega arith) before
    ∙ sym (ap (λ (b : Bool). cond (b || list_any (same_row row) (rows_of n k cells)) (rows_of n k cells) (rows_of n k cells ++ row ∷ [])) r)

pub joins_among : (n k : ℕ) (cells others : List ℤ) (row : Row) (among : Bool) → take (k * (n + 1)) others ≡ take (k * (n + 1)) cells → row_of n (drop (k * (n + 1)) others) ≡ row
    → among ≡ list_any (same_row (row_of n (drop (k * (n + 1)) others))) (rows_of n k others) → among ≡ true → rows_of n k others ≡ joined_one (rows_of n k cells) row
joins_among n k cells others row among before value a g =
    let s : list_any (same_row row) (rows_of n k cells) ≡ true =
    ap (list_any (same_row row)) (sym (rows_of-same n k (k * (n + 1)) others cells (omega arith) before)) ∙ ap (λ (x : Row). list_any (same_row x) (rows_of n k others)) (sym value) ∙ sym a ∙ g in
    rows_of-same n k (k * (n + 1)) others cells (omega arith) before
    ∙ sym (ap (λ (b : Bool). cond (is_true row || b) (rows_of n k cells) (rows_of n k cells ++ row ∷ [])) s ∙ right_true (is_true row))
  where
    right_true : (b : Bool) → cond (b || true) (rows_of n k cells) (rows_of n k cells ++ row ∷ []) ≡ rows_of n k cells
    right_true true = refl
    right_true false = refl

-- the last row
pub last_row : (n k : ℕ) (cells : List ℤ) → 0 < k → drop (k - 1) (rows_of n k cells) ≡ row_of n (drop ((k - 1) * (n + 1)) cells) ∷ []
last_row n k cells h =
    let e : k ≡ suc (k - 1) = omega arith in
    ap (λ (j : ℕ). drop (k - 1) (rows_of n j cells)) e
    ∙ ap (drop (k - 1)) (rows_of-more n (k - 1) cells)
    ∙ drop_at (rows_of n (k - 1) cells) (row_of n (drop ((k - 1) * (n + 1)) cells) ∷ []) (k - 1) (length-rows_of n (k - 1) cells)

-- a row that was written behind the others and joined to them
pub joined_written : (n k j : ℕ) (cells others final : List ℤ) (row : Row) → take (k * (n + 1)) others ≡ take (k * (n + 1)) cells → row_of n (drop (k * (n + 1)) others) ≡ row
    → rows_of n j final ≡ joined_one (rows_of n k others) (tight (row_of n (drop (k * (n + 1)) others))) → rows_of n j final ≡ joined_one (rows_of n k cells) (tight row)
joined_written n k j cells others final row before value e =
    e ∙ ap (λ (r : Row). joined_one (rows_of n k others) (tight r)) value
    ∙ ap (λ (rs : List Row). joined_one rs (tight row)) (rows_of-same n k (k * (n + 1)) others cells (omega arith) before)
