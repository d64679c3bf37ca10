-- Sums of coefficient times variable, plus a constant, and facts about them.
--   at form point          the number of a sum at a point, the list of the numbers of all variables
--   constant, term         a number alone, and a multiple of one variable, plus a number
--   plus, minus, times     the sum and the difference of two sums, and a multiple of one
--   meets form point       whether a fact holds at a point
--   at_least, above, equal, unequal   comparisons of two sums
--   not_below_zero         whether sums are at least 0 at a point
-- The coefficients of a sum stand in the order of the variables. Variables behind the last coefficient have coefficient 0.
use Rattle.std.specs.Prelude.{List, [], ◌∷◌, ◌++◌, ℕ, Bool, ℤ, pos, negsuc, ◌+ℤ◌, ◌-ℤ◌, ◌*ℤ◌, int_le, replicate}
use Rattle.std.specs.List.{list_all, list_any}
use Rattle.rx_model.specs.Sums.{product_sum, weighted_sum}
use Rattle.rx_forms.specs.declared.linear.Linear.{Linear}
use Rattle.rx_forms.specs.declared.linear.Form.{Form, AtLeast, All, Any}
use Rattle.rx_forms.specs.declared.linear.Form.TheOpen.{Form-F}
use Rattle.rx_forms.specs.declared.linear.Form.TheFolds.{fold-Form}

-- the number of the sum where the variables have the point's numbers
abbrev pub at : Linear → List ℤ → ℤ
at form point = product_sum form.coefficients point +ℤ form.constant

abbrev pub constant : ℤ → Linear
constant k = record { coefficients = []; constant = k }

-- k times variable i, plus c
abbrev pub term : ℤ → ℕ → ℤ → Linear
term k i c = record { coefficients = replicate i (pos 0) ++ k ∷ []; constant = c }

-- one sum times its multiplier plus another times its own
abbrev pub weighted : Linear → ℤ → Linear → ℤ → Linear
weighted f a g b = record { coefficients = weighted_sum f.coefficients a g.coefficients b; constant = a *ℤ f.constant +ℤ b *ℤ g.constant }

abbrev pub plus : Linear → Linear → Linear
plus f g = weighted f (pos 1) g (pos 1)

abbrev pub minus : Linear → Linear → Linear
minus f g = weighted f (pos 1) g (negsuc 0)

abbrev pub times : ℤ → Linear → Linear
times k f = weighted f k (constant (pos 0)) (pos 1)

abbrev pub less_one : Linear → Linear
less_one f = record { coefficients = f.coefficients; constant = f.constant -ℤ pos 1 }

-- ---- facts

-- one level of a fact, with each part's answer at a point in its place
abbrev pub meets_step : Form-F (List ℤ → Bool) → List ℤ → Bool
meets_step (Form-F.AtLeast f) point = int_le (pos 0) (at f point)
meets_step (Form-F.All parts) point = list_all (λ part. part point) parts
meets_step (Form-F.Any parts) point = list_any (λ part. part point) parts

-- whether the fact holds at the point
unfoldable pub meets : Form → List ℤ → Bool
meets = fold-Form (List ℤ → Bool) meets_step

-- f is at least g
abbrev pub at_least : Linear → Linear → Form
at_least f g = AtLeast (minus f g)

-- f is greater than g
abbrev pub above : Linear → Linear → Form
above f g = AtLeast (less_one (minus f g))

abbrev pub equal : Linear → Linear → Form
equal f g = All (at_least f g ∷ at_least g f ∷ [])

-- less or greater
abbrev pub unequal : Linear → Linear → Form
unequal f g = Any (above g f ∷ above f g ∷ [])

-- whether each sum is at least 0
abbrev pub not_below_zero : List ℤ → List Linear → Bool
not_below_zero point forms = list_all (λ form. int_le (pos 0) (at form point)) forms
