-- The path limit: which sums are met along a path, and how large their numbers may be.
--   is_low f               coefficients below 2 ^ 18 and a constant below 2 ^ 98 in magnitude
--   Met                    a sum that has to be low, or one that is only worked out, in numbers of 128 bits
--   met limit fields n x   the sums that are met in an expression
--   is_within              an expression's divisions and sums stay within the path limit
-- Sums have to be low where they are a First, a Size or an end, what a division divides, or the difference of two sides of a
-- comparison, either way round. Those of all parts of an expression, on the way there, have numbers of 128 bits.
use Rattle.std.specs.Prelude.{List, [], ◌∷◌, ◌++◌, ℕ, ◌+◌, ◌^◌, Bool, ◌&&◌, nat_le, nat_lt, int_le, int_lt, if◌then◌else◌, ℤ, pos, ◌-ℤ◌, neg_ℤ, unsigned_abs, Option, Some, None}
use Rattle.std.specs.List.{list_all}
use Rattle.rx_types.specs.declared.expr.Operator.TheVariants as op
use Rattle.rx_types.specs.Tree.{Tree, Last, Neg, Not, Binary}
use Rattle.rx_types.specs.Static.{is_static, static_value}
use Rattle.rx_forms.specs.declared.linear.Linear.{Linear}
use Rattle.rx_forms.specs.Linear.{term, minus}
use Rattle.rx_forms.specs.Normal.{Formed, linear, divisions_in, truth_in}

abbrev pub is_low : Linear → Bool
is_low f = list_all (λ c. nat_lt (unsigned_abs c) (2 ^ 18)) f.coefficients && nat_lt (unsigned_abs f.constant) (2 ^ 98)

-- the number has 128 bits
abbrev pub is_word : ℤ → Bool
is_word z = int_le (neg_ℤ (pos (2 ^ 127))) z && int_lt z (pos (2 ^ 127))

abbrev pub has_words : Linear → Bool
has_words f = list_all is_word f.coefficients && is_word f.constant

-- a sum that is met along a path
pub data Met : Type 0 where
  Limited : Linear → Met
  Part : Linear → Met

-- a sum that has to be low is low, and one that is only worked out has numbers of 128 bits
abbrev pub is_kept : Met → Bool
is_kept (Limited f) = is_low f
is_kept (Part f) = has_words f

abbrev pub all_kept : List Met → Bool
all_kept sums = list_all is_kept sums

-- either difference of two sides
abbrev pub differences : Linear → Linear → List Met
differences f g = Limited (minus f g) ∷ Limited (minus g f) ∷ []

-- what is divided, and the rows that say so
abbrev pub divided : ℕ → Linear → ℤ → List Met
divided q form k = Limited form ∷ Part (minus form (term k q (pos 0))) ∷ Part (minus (term k q (k -ℤ pos 1)) form) ∷ []

-- a side that is compared with a spelled truth value, else both sides
abbrev pub of_sides : Option Bool → Option Bool → List Met → List Met → List Met → List Met
of_sides (Some t) other left right numbers = right
of_sides None (Some t) left right numbers = left
of_sides None None left right numbers = numbers

module _ (fields : List Formed) where
  -- the differences of two sides, behind what is met in each
  abbrev pub met_in_both : ℕ → Tree → Tree → List Met → List Met → List Met
  met_in_both n a b left right = left ++ (right ++ differences (linear fields n a) (linear fields (n + divisions_in a) b))

  abbrev pub met : ℕ → Tree → List Met
  met n (Last f) = Part (linear fields n (Last f)) ∷ []
  met n (Neg a) = met n a ++ Part (linear fields n (Neg a)) ∷ []
  met n (Not a) = met n a
  met n (Binary op.Add a b) = met n a ++ (met (n + divisions_in a) b ++ Part (linear fields n (Binary op.Add a b)) ∷ [])
  met n (Binary op.Sub a b) = met n a ++ (met (n + divisions_in a) b ++ Part (linear fields n (Binary op.Sub a b)) ∷ [])
  met n (Binary op.Mul a b) = (if is_static a then met n b else met n a) ++ Part (linear fields n (Binary op.Mul a b)) ∷ []
  met n (Binary op.Div a b) = met n a ++ divided (n + divisions_in a) (linear fields n a) (static_value b)
  met n (Binary op.Mod a b) = met n a ++ divided (n + divisions_in a) (linear fields n a) (static_value b)
  met n (Binary op.And a b) = met n a ++ met (n + divisions_in a) b
  met n (Binary op.Or a b) = met n a ++ met (n + divisions_in a) b
  met n (Binary op.Equal a b) = of_sides (truth_in a) (truth_in b) (met n a) (met (n + divisions_in a) b) (met_in_both n a b (met n a) (met (n + divisions_in a) b))
  met n (Binary op.NotEqual a b) = of_sides (truth_in a) (truth_in b) (met n a) (met (n + divisions_in a) b) (met_in_both n a b (met n a) (met (n + divisions_in a) b))
  met n (Binary o a b) = met_in_both n a b (met n a) (met (n + divisions_in a) b)
  met n leaf = []

  -- The variables of the divisions, from n on, are below 190, and the sums that are met are low.
  abbrev pub is_within : ℕ → Tree → Bool
  is_within n x = nat_le (n + divisions_in x) 190 && all_kept (met n x)

  -- the same of both sides of a comparison of numbers, and of their differences
  abbrev pub sides_within : ℕ → Tree → Tree → Bool
  sides_within n a b = is_within n a && (is_within (n + divisions_in a) b && all_kept (differences (linear fields n a) (linear fields (n + divisions_in a) b)))
