-- Unit rows, by their coefficients.
use Rattle.std.proofs.Common.{◌≡◌, refl, sym, ap, ◌∙◌, ℕ, zero, suc, ◌<◌, arith, List, [], ◌∷◌, take, drop, get_or, length, replicate, Bool, true, false, ◌&&◌, ℤ, pos, add-one}
use Rattle.std.specs.List.{list_all}
use Rattle.std.specs.Ordering.{int_eq}
use Rattle.std.specs.Cmp.Lexicographic.{pointwise}
use Rattle.rx_linear.specs.declared.row.Row.{Row}
use Rattle.rx_linear.specs.Units.{coefficient, unit, is_unit_row}
use Rattle.rx_shadow.specs.Bounds.{zero_elsewhere}

abbrev is_zero : ℤ → Bool
is_zero z = int_eq z (pos 0)

zeros : (cs : List ℤ) → pointwise int_eq cs (replicate (length cs) (pos 0)) ≡ list_all is_zero cs
zeros [] = refl
zeros (c ∷ cs) = ap (λ (b : Bool). is_zero c && b) (zeros cs)

same_twice : (e p q : Bool) → p ≡ q → (e && (e && p)) ≡ (e && (true && q))
same_twice true p q h = h
same_twice false p q h = refl

one_more : (e z p t d : Bool) → (e && p) ≡ (e && (t && d)) → (e && (z && p)) ≡ (e && ((z && t) && d))
one_more true true p t d h = h
one_more true false p t d h = refl
one_more false z p t d h = refl

unit_by_parts : (cs : List ℤ) (x : ℕ) (a : ℤ) → x < length cs → (int_eq (get_or cs x (pos 0)) a && pointwise int_eq cs (unit (length cs) x a)) ≡ (int_eq (get_or cs x (pos 0)) a && (list_all is_zero (take x cs) && list_all is_zero (drop (suc x) cs)))
unit_by_parts [] x a h = absurd (omega arith)
unit_by_parts (c ∷ cs) zero a h = same_twice (int_eq c a) (pointwise int_eq cs (replicate (length cs) (pos 0))) (list_all is_zero cs) (zeros cs)
unit_by_parts (c ∷ cs) (suc x) a h =
    one_more (int_eq (get_or cs x (pos 0)) a) (is_zero c) (pointwise int_eq cs (unit (length cs) x a)) (list_all is_zero (take x cs)) (list_all is_zero (drop (suc x) cs))
    (unit_by_parts cs x a (let l : x < length cs = omega arith in l))

-- a unit row has its coefficient, and 0 elsewhere
pub unit_row_by_parts : (x : ℕ) (a : ℤ) (row : Row) → x < length row.coefficients → is_unit_row x a row ≡ (int_eq (coefficient x row) a && zero_elsewhere x row.coefficients)
unit_row_by_parts x a row h = unit_by_parts row.coefficients x a h ∙ ap (λ (n : ℕ). int_eq (coefficient x row) a && (list_all is_zero (take x row.coefficients) && list_all is_zero (drop n row.coefficients))) (sym (add-one x))
