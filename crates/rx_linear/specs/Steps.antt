-- Steps that derive rows, and when they close a node.
--   step_gives    the row that a step derives from the rows before it
--   rows_after    the rows with all derived ones at their end
--   closes        the last derived row is false of itself
use Rattle.std.specs.Prelude.{List, [], ◌∷◌, ◌++◌, Bool, false, true, ◌&&◌, ℤ, length, Option, Some, None, slice_get, drop, ◌-◌}
use Rattle.std.specs.List.{list_any}
use Rattle.std.specs.Option.{option_and_then}
use Rattle.rx_linear.specs.declared.row.Row.{Row}
use Rattle.rx_linear.specs.declared.step.Step.{Step}
use Rattle.rx_linear.specs.declared.step.Step.TheVariants.{Combine, Tighten}
use Rattle.rx_linear.specs.Rows.{combined, tight, is_narrow, is_multiplier}
use Rattle.rx_linear.specs.Joining.{is_false}

abbrev pub combined_if : Bool → Row → ℤ → Row → ℤ → Option Row
combined_if true left a right b = Some (combined left a right b)
combined_if false left a right b = None

-- two rows that are there and within the limits, with multipliers within theirs, give their sum
abbrev pub combine_found : Option Row → ℤ → Option Row → ℤ → Option Row
combine_found None a right b = None
combine_found (Some l) a None b = None
combine_found (Some l) a (Some r) b = combined_if (is_narrow l && is_narrow r && is_multiplier a && is_multiplier b) l a r b

-- a row that is there gives its tight row
abbrev pub tighten_found : Option Row → Option Row
tighten_found None = None
tighten_found (Some r) = Some (tight r)

-- what a step gives, from the rows that stand before it
abbrev pub step_gives : List Row → Step → Option Row
step_gives rows (Combine left a right b) = combine_found (slice_get rows left) a (slice_get rows right) b
step_gives rows (Tighten row) = tighten_found (slice_get rows row)

-- the rows with what the steps give put at their end, or `None` where a step may not be taken
abbrev pub rows_after : List Row → List Step → Option (List Row)
rows_after rows [] = Some rows
rows_after rows (step ∷ steps) = option_and_then (λ row. rows_after (rows ++ row ∷ []) steps) (step_gives rows step)

-- whether the last row is false of itself
abbrev pub last_is_false : List Row → Bool
last_is_false rows = list_any is_false (drop (length rows - 1) rows)

abbrev pub if_some : {X : Type 0} → Option X → (X → Bool) → Bool
if_some None test = false
if_some (Some x) test = test x

-- whether the steps close a node of these rows: the last row derived is false, or where there is no step some row is
abbrev pub closes : List Row → List Step → Bool
closes rows [] = list_any is_false rows
closes rows (step ∷ steps) = if_some (rows_after rows (step ∷ steps)) last_is_false
