-- Simple systems: exact variables are eliminated, the greatest-numbered first, down to a clash or to rows without variables.
--   clashes            no point can satisfy the rows, as is seen without elimination
--   is_exact           a variable may be eliminated with no loss of an integer point
--   eliminated         the rows that the elimination of a variable leaves
--   outcome, IsSimple  what repeated elimination comes to
--   IsTested           what a round has found before it eliminates
use Rattle.std.specs.Prelude.{◌≡◌, List, ℕ, zero, suc, Bool, false, cond, not, ◌&&◌, ◌||◌, nat_le, ℤ, pos, negsuc, neg_ℤ, int_lt, length, map, Option, Some, None}
use Rattle.std.specs.List.{list_all, list_any, filter, flat_map}
use Rattle.std.specs.Option.{is_some}
use Rattle.std.specs.Ordering.{int_eq}
use Rattle.rx_linear.specs.declared.row.Row.{Row}
use Rattle.rx_linear.specs.Rows.{combined, is_narrow}
use Rattle.rx_linear.specs.Joining.{has_no_variable, is_false, joined}
use Rattle.rx_linear.specs.Units.{coefficient, at_least, at_most}
use Rattle.rx_shadow.specs.Bounds.{bounds_clash, fixed_value}

-- ---- a clash

-- the test passes for some number below n
abbrev pub any_below : (ℕ → Bool) → ℕ → Bool
any_below test zero = false
any_below test (suc n) = test n || any_below test n

-- a row without variables is false, or the unit bounds of a variable clash
abbrev pub clashes : ℕ → List Row → Bool
clashes n rows = list_any is_false rows || any_below (λ x. bounds_clash x rows) n

-- ---- exact variables

-- variable x occurs in the row
abbrev pub has : ℕ → Row → Bool
has x row = not (int_eq (coefficient x row) (pos 0))

-- the rows with a positive coefficient of x
abbrev pub positives : ℕ → List Row → List Row
positives x rows = filter (λ row. int_lt (pos 0) (coefficient x row)) rows

-- the rows with a negative coefficient of x
abbrev pub negatives : ℕ → List Row → List Row
negatives x rows = filter (λ row. int_lt (coefficient x row) (pos 0)) rows

-- the rows in which x does not occur
abbrev pub without : ℕ → List Row → List Row
without x rows = filter (λ row. int_eq (coefficient x row) (pos 0)) rows

-- one of the two coefficients of x is 1 in magnitude
abbrev pub is_unit_pair : ℕ → Row → Row → Bool
is_unit_pair x first second = int_eq (coefficient x first) (pos 1) || int_eq (coefficient x second) (negsuc 0)

-- in each pair of a row with a positive and a row with a negative coefficient of x, one is 1 in magnitude
abbrev pub has_unit_pairs : ℕ → List Row → Bool
has_unit_pairs x rows = list_all (λ first. list_all (is_unit_pair x first) (negatives x rows)) (positives x rows)

-- x occurs in a row, and it is fixed or all its pairs are unit pairs
abbrev pub is_exact : List Row → ℕ → Bool
is_exact rows x = list_any (has x) rows && (is_some (fixed_value x rows) || has_unit_pairs x rows)

-- ---- elimination

-- for the coefficients a and -b of x: b times the first row plus a times the second
abbrev pub paired : ℕ → Row → Row → Row
paired x first second = combined first (neg_ℤ (coefficient x second)) second (coefficient x first)

-- the sums of all pairs of x, in the order of their first rows, then of their second ones
abbrev pub pairs : ℕ → List Row → List Row
pairs x rows = flat_map (λ first. map (paired x first) (negatives x rows)) (positives x rows)

-- a row with x plus the opposite bound row of the value v, times the magnitude of the coefficient
abbrev pub at_value : ℕ → ℕ → ℤ → Row → Row
at_value n x v row =
    cond (int_lt (pos 0) (coefficient x row)) (combined row (pos 1) (at_most n x v) (coefficient x row))
    (combined row (pos 1) (at_least n x v) (neg_ℤ (coefficient x row)))

-- what stands in place of the rows with x
abbrev pub replaced : ℕ → ℕ → List Row → Option ℤ → List Row
replaced n x rows None = pairs x rows
replaced n x rows (Some v) = map (at_value n x v) (filter (has x) rows)

-- the rows without x, and the new rows joined to them
abbrev pub eliminated : ℕ → ℕ → List Row → List Row
eliminated n x rows = joined (without x rows) (replaced n x rows (fixed_value x rows))

-- at most 1,024 rows, with coefficients below 2 ^ 20 and constants below 2 ^ 100 in magnitude
abbrev pub within_limits : List Row → Bool
within_limits rows = nat_le (length rows) 1024 && list_all is_narrow rows

-- ---- repeated elimination

-- rows that clash, rows without variables that are all true, or neither
pub data Outcome : Type 0 where
  Clash : Outcome
  TrueRows : Outcome
  Neither : Outcome

-- the greatest number below n that passes
abbrev pub greatest_below : (ℕ → Bool) → ℕ → Option ℕ
greatest_below test zero = None
greatest_below test (suc n) = cond (test n) (Some n) (greatest_below test n)

abbrev pub if_found : Option ℕ → (ℕ → Outcome) → Outcome
if_found None f = Neither
if_found (Some x) f = f x

-- one round, with what the next one comes to as `next`: a clash, rows without variables, or an exact variable to eliminate within the limits
abbrev pub round : (List Row → Outcome) → ℕ → List Row → Outcome
round next n rows =
    cond (clashes n rows) Clash (cond (list_all has_no_variable rows) TrueRows
    (if_found (greatest_below (is_exact rows) n) (λ x. cond (within_limits (eliminated n x rows)) (next (eliminated n x rows)) Neither)))

-- what at most so many rounds come to
unfoldable pub outcome_in : ℕ → ℕ → List Row → Outcome
outcome_in n zero rows = round (λ _. Neither) n rows
outcome_in n (suc rounds) rows = round (outcome_in n rounds) n rows

-- what the elimination of the exact variables of these rows over n variables comes to; each round takes one variable away, so n rounds do
abbrev pub outcome : ℕ → List Row → Outcome
outcome n rows = outcome_in n n rows

-- the rows neither clash nor are without variables, and that is their greatest exact variable, if there is one
pub record IsTested (n : ℕ) (rows : List Row) (found : Option ℕ) : Type 0 where
  pub no_clash : clashes n rows ≡ false
  pub not_plain : list_all has_no_variable rows ≡ false
  pub greatest : greatest_below (is_exact rows) n ≡ found

-- the rows over n variables are those of a Simple system
abbrev pub IsSimple : ℕ → List Row → Type 0
IsSimple n rows = outcome n rows ≡ Neither → ⊥
