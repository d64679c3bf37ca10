-- Steps keep a node's points, so steps that close a node show that it has none.
use Rattle.std.proofs.Common.{◌≡◌, refl, ◌∙◌, ℕ, zero, suc, ◌-◌, List, [], ◌∷◌, ◌++◌, drop, length, Bool, true, false, ◌&&◌, ℤ, pos, int_le, nat_lt, unsigned_abs, ◌^◌, ◌≤ℤ◌, Option, Some, None, arith}
use Rattle.std.specs.List.{slice_get}
use Rattle.std.specs.Option.{option_and_then}
use Rattle.std.proofs.lemmas.Int.{ints}
use Rattle.std.proofs.lemmas.List.Folds.{list_all-append}
use Rattle.rx_linear.specs.declared.row.Row.{Row}
use Rattle.rx_linear.specs.Rows.{combined, tight}
use Rattle.rx_linear.specs.Joining.{holds, all_hold}
use Rattle.rx_linear.proofs.Soundness.{tight_holds_always, combined_holds}
use Rattle.rx_linear.proofs.Joining.{both, and_true, Holds-from_test, test-from_Holds, hold-any}
use Rattle.rx_linear.specs.declared.step.Step.{Step}
use Rattle.rx_linear.specs.declared.step.Step.TheVariants.{Combine, Tighten}
use Rattle.rx_linear.specs.Rows.{is_narrow, is_multiplier}
use Rattle.rx_linear.specs.Steps.{combined_if, combine_found, tighten_found, step_gives, rows_after, last_is_false, if_some, closes}

-- what the option holds, if it holds a row, is true at the point
abbrev pub option_holds : List ℤ → Option Row → Type 0
option_holds point None = Unit {0}
option_holds point (Some row) = holds point row ≡ true

found_holds : (point : List ℤ) (rows : List Row) (i : ℕ) → all_hold point rows ≡ true → option_holds point (slice_get rows i)
found_holds point [] i h = tt
found_holds point (row ∷ rows) zero h = (both h).0
found_holds point (row ∷ rows) (suc i) h = found_holds point rows i (both h).1

not_negative : (k : ℤ) → is_multiplier k ≡ true → pos 0 ≤ℤ k
not_negative k h = let parts = both {a = int_le (pos 0) k} {b = nat_lt (unsigned_abs k) (2 ^ 20)} h in omega (arith, ints, parts.0)

if_holds : (point : List ℤ) (b : Bool) (l : Row) (x : ℤ) (r : Row) (y : ℤ) → (b ≡ true → (pos 0 ≤ℤ x) × (pos 0 ≤ℤ y)) → holds point l ≡ true → holds point r ≡ true → option_holds point (combined_if b l x r y)
if_holds point false l x r y n hl hr = tt
if_holds point true l x r y n hl hr =
    let signs = n refl in
    test-from_Holds point (combined l x r y) (combined_holds l r x y point signs.0 signs.1 (Holds-from_test point l hl) (Holds-from_test point r hr))

signs : (l r : Row) (x y : ℤ) → (is_narrow l && is_narrow r && is_multiplier x && is_multiplier y) ≡ true → (pos 0 ≤ℤ x) × (pos 0 ≤ℤ y)
signs l r x y h =
    let last = both {a = is_narrow l && is_narrow r && is_multiplier x} {b = is_multiplier y} h in
    let before = both {a = is_narrow l && is_narrow r} {b = is_multiplier x} last.0 in
    (not_negative x before.1, not_negative y last.1)

combine_holds : (point : List ℤ) (l : Option Row) (x : ℤ) (r : Option Row) (y : ℤ) → option_holds point l → option_holds point r → option_holds point (combine_found l x r y)
combine_holds point None x r y hl hr = tt
combine_holds point (Some l) x None y hl hr = tt
combine_holds point (Some l) x (Some r) y hl hr =
    if_holds point (is_narrow l && is_narrow r && is_multiplier x && is_multiplier y) l x r y (signs l r x y) hl hr

tighten_holds : (point : List ℤ) (r : Option Row) → option_holds point r → option_holds point (tighten_found r)
tighten_holds point None h = tt
tighten_holds point (Some r) h = test-from_Holds point (tight r) ((tight_holds_always r point).0 (Holds-from_test point r h))

step_holds : (point : List ℤ) (rows : List Row) (step : Step) → all_hold point rows ≡ true → option_holds point (step_gives rows step)
step_holds point rows (Combine left x right y) h = combine_holds point (slice_get rows left) x (slice_get rows right) y (found_holds point rows left h) (found_holds point rows right h)
step_holds point rows (Tighten row) h = tighten_holds point (slice_get rows row) (found_holds point rows row h)

abbrev pub options_hold : List ℤ → Option (List Row) → Type 0
options_hold point None = Unit {0}
options_hold point (Some rows) = all_hold point rows ≡ true

then_holds : (point : List ℤ) (f : Row → Option (List Row)) (r : Option Row) → option_holds point r → ((row : Row) → holds point row ≡ true → options_hold point (f row)) → options_hold point (option_and_then f r)
then_holds point f None h next = tt
then_holds point f (Some row) h next = next row h

rows_after_hold : (point : List ℤ) (rows : List Row) (steps : List Step) → all_hold point rows ≡ true → options_hold point (rows_after rows steps)
rows_after_hold point rows [] h = h
rows_after_hold point rows (step ∷ steps) h =
    then_holds point (λ row. rows_after (rows ++ row ∷ []) steps) (step_gives rows step) (step_holds point rows step h)
    (λ row hr. rows_after_hold point (rows ++ row ∷ []) steps (list_all-append (holds point) rows (row ∷ []) ∙ and_true h (and_true hr refl)))

drop_hold : (point : List ℤ) (n : ℕ) (rows : List Row) → all_hold point rows ≡ true → all_hold point (drop n rows) ≡ true
drop_hold point zero rows h = h
drop_hold point (suc n) [] h = h
drop_hold point (suc n) (row ∷ rows) h = drop_hold point n rows (both h).1

last_clashes : (point : List ℤ) (rows : Option (List Row)) → options_hold point rows → if_some rows last_is_false ≡ true → ⊥
last_clashes point None h e = cc
last_clashes point (Some rows) h e = hold-any point (drop (length rows - 1) rows) (drop_hold point (length rows - 1) rows h) e

-- steps that close a node show that no point satisfies its rows
pub closes_sound : (point : List ℤ) (rows : List Row) (steps : List Step) → closes rows steps ≡ true → all_hold point rows ≡ true → ⊥
closes_sound point rows [] e h = hold-any point rows h e
closes_sound point rows (step ∷ steps) e h = last_clashes point (rows_after rows (step ∷ steps)) (rows_after_hold point rows (step ∷ steps) h) e
