-- Rows that were divided by the greatest common divisor of their coefficients.
use Rattle.std.proofs.Common.{◌≡◌, sym, ap, ◌∙◌, ℕ, ◌+◌, ◌-◌, ◌<◌, ◌≤◌, List, ◌++◌, ℤ, map, take, drop, length, get_or, neg_ℤ, arith, length-take, length-drop, length-append, get_or-drop}
use Rattle.std.proofs.lemmas.List.{length-map, get_or-append_right}
use Rattle.std.proofs.lemmas.Int.{ints}
use Rattle.rx_linear.specs.declared.row.Row.{Row}
use Rattle.rx_linear.specs.Rows.{tight, divisor_of}
use Rattle.rx_linear.specs.Divisors.{common_divisor_of, divided_down, divided_up}
use Rattle.rx_linear.proofs.Stacked.{same_parts, down_one, map_down_one}

-- what a loop that maps over a list has not come to yet
pub not_yet : (f : ℤ → ℤ) (zs now : List ℤ) (i : ℕ) (d : ℤ) → i < length zs → now ≡ map f (take i zs) ++ drop i zs → get_or now i d ≡ get_or zs i d
not_yet f zs now i d h e =
    let before : length (map f (take i zs)) ≡ i = omega (arith, length-map (take i zs) f, length-take i zs, h) in
    let none : i - i ≡ 0 = omega arith in
    let here : i + 0 ≡ i = omega arith in
    ap (λ (ys : List ℤ). get_or ys i d) e
    ∙ get_or-append_right (map f (take i zs)) (drop i zs) i i d before (omega arith)
    ∙ ap (λ (k : ℕ). get_or (drop i zs) k d) none
    ∙ get_or-drop i zs 0 d
    ∙ ap (λ (k : ℕ). get_or zs k d) here

pub still_there : (f : ℤ → ℤ) (zs now : List ℤ) (i : ℕ) → i < length zs → now ≡ map f (take i zs) ++ drop i zs → i < length now
still_there f zs now i h e = omega (arith, ap length e, length-append (map f (take i zs)) (drop i zs), length-map (take i zs) f, length-take i zs, length-drop i zs, h)

pub divided_row_is_tight : (row divided : Row) (d : ℕ) → 1 < d → d ≡ common_divisor_of row.coefficients → divided.coefficients ≡ map (λ z. divided_down z d) row.coefficients → divided.least ≡ divided_up row.least d → divided ≡ tight row
divided_row_is_tight row divided d h g e f =
    let same : d ≡ divisor_of row = omega (arith, g) in
    same_parts (e ∙ ap (λ (k : ℕ). map (λ z. divided_down z k) row.coefficients) same) (f ∙ ap (divided_up row.least) same)

pub whole_row_is_tight : (row : Row) (d : ℕ) → d ≤ 1 → d ≡ common_divisor_of row.coefficients → row ≡ tight row
whole_row_is_tight row d h g =
    let one : 1 ≡ divisor_of row = omega (arith, g) in
    let up : row.least ≡ divided_up row.least 1 = (let s = down_one (neg_ℤ row.least) in omega (arith, ints, s)) in
    same_parts (sym (map_down_one row.coefficients) ∙ ap (λ (k : ℕ). map (λ z. divided_down z k) row.coefficients) one) (up ∙ ap (divided_up row.least) one)
