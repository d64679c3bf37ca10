-- The steps of the loops over coefficients.
use Rattle.std.proofs.Common.{◌≡◌, sym, ap, ◌∙◌, ℕ, ◌+◌, ◌-◌, ◌/◌, ◌<◌, ◌≤◌, ◌^◌, arith, List, [], ◌∷◌, ◌++◌, length, take, drop, get_or, ℤ, pos, ◌+ℤ◌, ◌*ℤ◌, unsigned_abs, FitsSigned, to_z, of_z, append-nil}
use Rattle.std.specs.Int.{w128}
use Rattle.std.proofs.lemmas.Int.{ints, to_z-of_z}
use Rattle.std.proofs.lemmas.List.{drop_all, take_rest}
use Rattle.std.proofs.lemmas.List.Elements.{All-get_or}
use Rattle.rx_model.specs.Sums.{product_sum, weighted_sum}
use Rattle.rx_linear.specs.Rows.{AllBelow}
use Rattle.rx_linear.proofs.Bounds.{narrow_fits, weighted_call}
use Rattle.rx_model.proofs.Sums.{weighted_sum-step, product_sum-step, product_sum-parts}

pub combine_step : (done new ls rs total : List ℤ) (a b w : ℤ) (i : ℕ) → FitsSigned w128 a → FitsSigned w128 b → AllBelow (2 ^ 20) ls → AllBelow (2 ^ 20) rs → i < length ls → length ls ≡ length rs → w ≡ to_z w128 (of_z w128 a) *ℤ to_z w128 (of_z w128 (get_or ls i (pos 0))) +ℤ to_z w128 (of_z w128 b) *ℤ to_z w128 (of_z w128 (get_or rs i (pos 0))) → FitsSigned w128 w → new ≡ done ++ to_z w128 (of_z w128 w) ∷ [] → done ++ weighted_sum (drop i ls) a (drop i rs) b ≡ total → new ++ weighted_sum (drop (i + 1) ls) a (drop (i + 1) rs) b ≡ total
combine_step done new ls rs total a b w i fa fb nl nr hl same ew fw en inv =
    let hr : i < length rs = omega arith in
    let fl : FitsSigned w128 (get_or ls i (pos 0)) = narrow_fits _ (All-get_or (λ z. unsigned_abs z < 2 ^ 20) ls i (pos 0) hl nl) in
    let fr : FitsSigned w128 (get_or rs i (pos 0)) = narrow_fits _ (All-get_or (λ z. unsigned_abs z < 2 ^ 20) rs i (pos 0) hr nr) in
    let value = weighted_call _ a _ b w fa fb fl fr ew in
    let plain : new ≡ done ++ (a *ℤ get_or ls i (pos 0) +ℤ b *ℤ get_or rs i (pos 0)) ∷ [] =
    en ∙ ap (λ (z : ℤ). done ++ z ∷ []) (to_z-of_z w128 w fw ∙ value) in
    ap (λ (n : List ℤ). n ++ weighted_sum (drop (i + 1) ls) a (drop (i + 1) rs) b) plain ∙ sym (weighted_sum-step done ls rs a b i (pos 0) (pos 0) hl same) ∙ inv

pub combine_end : (done ls rs total : List ℤ) (a b : ℤ) (i : ℕ) → length ls ≡ length rs → length ls ≤ i → done ++ weighted_sum (drop i ls) a (drop i rs) b ≡ total → done ≡ total
combine_end done ls rs total a b i same h inv =
    let hr : length rs ≤ i = omega arith in
    sym (append-nil done) ∙ ap (λ (n : List ℤ). done ++ weighted_sum [] a n b) (sym (drop_all i rs hr)) ∙ ap (λ (n : List ℤ). done ++ weighted_sum n a (drop i rs) b) (sym (drop_all i ls h)) ∙ inv

pub sum_step : (cs xs : List ℤ) (i : ℕ) (sum term next : ℤ) → i < length cs → length cs ≡ length xs → term ≡ get_or cs i (pos 0) *ℤ get_or xs i (pos 0) → next ≡ sum +ℤ term → sum +ℤ product_sum (drop i cs) (drop i xs) ≡ product_sum cs xs → next +ℤ product_sum (drop (i + 1) cs) (drop (i + 1) xs) ≡ product_sum cs xs
sum_step cs xs i sum term next h same et en inv =
    let s = product_sum-step cs xs i h same in
    omega (arith, ints)

halves_of_one : (cs xs : List ℤ) (low high : ℤ) → length cs ≡ length xs → low ≡ product_sum (take (length cs / 2) cs) (take (length cs / 2) xs) → high ≡ product_sum (take (length cs - length cs / 2) (drop (length cs / 2) cs)) (take (length xs - length cs / 2) (drop (length cs / 2) xs)) → product_sum cs xs ≡ low +ℤ high
halves_of_one cs xs low high same el eh =
    let rc : take (length cs - length cs / 2) (drop (length cs / 2) cs) ≡ drop (length cs / 2) cs = take_rest cs (length cs / 2) in
    let rx : take (length xs - length cs / 2) (drop (length cs / 2) xs) ≡ drop (length cs / 2) xs = take_rest xs (length cs / 2) in
    let e = eh ∙ ap (λ (zs : List ℤ). product_sum zs (take (length xs - length cs / 2) (drop (length cs / 2) xs))) rc ∙ ap (λ (zs : List ℤ). product_sum (drop (length cs / 2) cs) zs) rx in
    let parts = product_sum-parts cs xs (length cs / 2) same in
    omega (arith, ints)

pub halves : (cs ds xs : List ℤ) (low high : ℤ) → ds ≡ cs → length cs ≡ length xs → low ≡ product_sum (take (length ds / 2) ds) (take (length ds / 2) xs) → high ≡ product_sum (take (length ds - length ds / 2) (drop (length ds / 2) ds)) (take (length xs - length ds / 2) (drop (length ds / 2) xs)) → product_sum cs xs ≡ low +ℤ high
halves cs ds xs low high e same el eh =
    ap (λ (zs : List ℤ). product_sum zs xs) (sym e) ∙ halves_of_one ds xs low high (ap length e ∙ same) el eh
