-- Whether the coefficients of an expression's linear form are below 2 ^ 20 in magnitude, as a test.
--   unknowns_in x        the unknowns of the linear form that are leaves, as they stand in the expression
--   are_low x            the coefficients of all unknowns are low
use Rattle.std.specs.Prelude.{◌^◌, Bool, ◌&&◌, List, [], ◌∷◌, ◌++◌, ℤ, pos, neg_ℤ, int_lt}
use Rattle.std.specs.List.{list_all}
use Rattle.rx_types.specs.declared.expr.Operator.{Operator}
use Rattle.rx_types.specs.declared.expr.Operator.TheVariants as op
use Rattle.rx_types.specs.Coefficients.{Unknown, NumberOf, FirstOf, LastOf, SizeOf, Bits, coefficient_of, quotient_coefficients}
use Rattle.rx_types.specs.Tree.{Tree, Field, First, Last, Size, Total, Neg, Binary}

-- sums, differences, products and remainders have their operands' unknowns; a quotient is an unknown of its own
abbrev pub unknowns_by : Operator → List Unknown → List Unknown → List Unknown
unknowns_by op.Add us vs = us ++ vs
unknowns_by op.Sub us vs = us ++ vs
unknowns_by op.Mul us vs = us ++ vs
unknowns_by op.Mod us vs = us
unknowns_by o us vs = []

abbrev pub unknowns_in : Tree → List Unknown
unknowns_in (Field f) = NumberOf f ∷ []
unknowns_in (First f) = FirstOf f ∷ []
unknowns_in (Last f) = LastOf f ∷ []
unknowns_in (Size f) = SizeOf f ∷ []
unknowns_in Total = Bits ∷ []
unknowns_in (Neg a) = unknowns_in a
unknowns_in (Binary o a b) = unknowns_by o (unknowns_in a) (unknowns_in b)
unknowns_in x = []

abbrev pub is_low : ℤ → Bool
is_low z = int_lt (neg_ℤ (pos (2 ^ 20))) z && int_lt z (pos (2 ^ 20))

abbrev pub are_low : Tree → Bool
are_low x = list_all (λ u. is_low (coefficient_of u x)) (unknowns_in x) && list_all is_low (quotient_coefficients x)
