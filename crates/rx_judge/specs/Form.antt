-- The linear form of an expression, as the code keeps it.
--   HasForm form x         the form has the coefficients of the expression
--   IsLowForm form         all its coefficients are low
--   IsKnown about form x   what is kept of an expression holds of it
use Rattle.std.specs.Prelude.{◌≡◌, Bool, true, false, ◌==◌, List, [], ◌∷◌, map, ℤ, pos, ◌+ℤ◌, ◌*ℤ◌, All, if◌then◌else◌}
use Rattle.rx_types.specs.Coefficients.{IsLow, NumberOf, FirstOf, LastOf, SizeOf, Bits, coefficient_of, quotient_coefficients}
use Rattle.rx_types.specs.Coefficients as spec
use Rattle.rx_types.specs.Narrow.{IsShort, single}
use Rattle.rx_types.specs.Static.{is_static, static_value}
use Rattle.rx_types.specs.Tree.{Tree, Field, First, Last, Size, Total}
use Rattle.rx_judge.specs.Low.{unknowns_in}
use Rattle.rx_judge.specs.declared.about.About.{About}
use Rattle.rx_judge.specs.declared.form.Unknown.{Unknown}
use Rattle.rx_judge.specs.declared.form.Unknown.TheVariants as code
use Rattle.rx_judge.specs.declared.form.Term.{Term}
use Rattle.rx_judge.specs.declared.form.LinearForm.{LinearForm}

abbrev pub is_same : Unknown → Unknown → Bool
is_same (code.NumberOf f) (code.NumberOf g) = f == g
is_same (code.FirstOf f) (code.FirstOf g) = f == g
is_same (code.LastOf f) (code.LastOf g) = f == g
is_same (code.SizeOf f) (code.SizeOf g) = f == g
is_same code.Bits code.Bits = true
is_same u v = false

-- the coefficient of an unknown, 0 where it stands nowhere
abbrev pub coefficient_in : List Term → Unknown → ℤ
coefficient_in [] u = pos 0
coefficient_in (t ∷ ts) u = if is_same t.unknown u then t.coefficient else coefficient_in ts u

abbrev pub sum_term : List Term → List Term → Term → Term
sum_term left right t = record { unknown = t.unknown; coefficient = coefficient_in left t.unknown +ℤ coefficient_in right t.unknown }

abbrev pub scaled_term : ℤ → Term → Term
scaled_term z t = record { unknown = t.unknown; coefficient = z *ℤ t.coefficient }

abbrev pub scaled_number : ℤ → ℤ → ℤ
scaled_number z c = z *ℤ c

-- the leaf
abbrev pub leaf_of : Unknown → Tree
leaf_of (code.NumberOf f) = Field f
leaf_of (code.FirstOf f) = First f
leaf_of (code.LastOf f) = Last f
leaf_of (code.SizeOf f) = Size f
leaf_of code.Bits = Total

-- ---- what a form says of an expression

abbrev pub code_of : spec.Unknown → Unknown
code_of (NumberOf f) = code.NumberOf f
code_of (FirstOf f) = code.FirstOf f
code_of (LastOf f) = code.LastOf f
code_of (SizeOf f) = code.SizeOf f
code_of Bits = code.Bits

abbrev pub term_of : Tree → spec.Unknown → Term
term_of x u = record { unknown = code_of u; coefficient = coefficient_of u x }

-- each unknown of the expression with its coefficient, and the coefficients of its quotients
pub record HasForm (form : LinearForm) (x : Tree) : Type 0 where
  pub terms : form.terms.items ≡ map (term_of x) (unknowns_in x)
  pub quotients : form.quotients.items ≡ quotient_coefficients x

pub record IsLowForm (form : LinearForm) : Type 0 where
  pub terms : All (λ t. IsLow t.coefficient) form.terms.items
  pub quotients : All (λ z. IsLow z) form.quotients.items

pub record IsKnown (about : About) (form : LinearForm) (x : Tree) : Type 0 where
  pub short : IsShort about.interval
  pub constant : about.is_constant ≡ is_static x
  pub static : about.is_static ≡ true → about.is_constant ≡ true
  pub value : about.is_constant ≡ true → about.interval ≡ single (static_value x)
  pub has_form : HasForm form x
  pub is_low : IsLowForm form
