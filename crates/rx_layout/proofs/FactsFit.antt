-- The facts of conditions that stay within the path limit may be the rows of a system.
use Rattle.std.proofs.Common.{◌≡◌, refl, sym, ◌∙◌, ℕ, ◌+◌, ◌≤◌, arith, List, [], ◌∷◌, ◌++◌, Bool, true, false, not, pos, negsuc, Option, Some, None}
use Rattle.std.proofs.lemmas.Int.{ints}
use Rattle.std.proofs.lemmas.List.Folds.{list_all-append}
use Rattle.rx_linear.proofs.Joining.{both, and_true}
use Rattle.rx_types.specs.declared.expr.Operator.{Operator}
use Rattle.rx_types.specs.declared.expr.Operator.TheVariants as op
use Rattle.rx_types.specs.Tree.{Tree, Number, Truth, Field, First, Last, Size, Total, Neg, Not, Binary}
use Rattle.rx_types.specs.Value.{truth_value}
use Rattle.rx_forms.specs.declared.linear.Linear.{Linear}
use Rattle.rx_forms.specs.declared.linear.Form.{Form, AtLeast, All, Any}
use Rattle.rx_forms.specs.Linear.{constant, minus, less_one, at_least, above, equal}
use Rattle.rx_forms.specs.Normal.{Formed, formed_of, linear, divisions_in, condition, comparison, joined, settled, compared, agree, truth_in}
use Rattle.rx_forms.specs.Limits.{Met, is_kept, all_kept, is_low, met, met_in_both, of_sides, differences}
use Rattle.rx_layout.specs.Fitting.{fits, fits_row}
use Rattle.rx_layout.proofs.Gathered.{fits_at_least, fits_all, fits_any}
use Rattle.rx_layout.proofs.Bounds.{IsLowTo, low_to, low_fits, less_fits, difference_fits, weighted_width}
use Rattle.rx_layout.proofs.Widths.{AreLowTo, short_linear}

row_form : (n : ℕ) (f : Linear) → fits_row n f ≡ true → fits n (AtLeast f) ≡ true
row_form n f h = fits_at_least n f ∙ h

two_all : (n : ℕ) (f g : Form) → fits n f ≡ true → fits n g ≡ true → fits n (All (f ∷ g ∷ [])) ≡ true
two_all n f g h e = fits_all n (f ∷ g ∷ []) ∙ and_true h (and_true e refl)

two_any : (n : ℕ) (f g : Form) → fits n f ≡ true → fits n g ≡ true → fits n (Any (f ∷ g ∷ [])) ≡ true
two_any n f g h e = fits_any n (f ∷ g ∷ []) ∙ and_true h (and_true e refl)

never : (n : ℕ) → fits n (Any []) ≡ true
never n = fits_any n []

always : (n : ℕ) → fits n (All []) ≡ true
always n = fits_all n []

settled_fits : (n : ℕ) (b : Bool) → fits n (settled b) ≡ true
settled_fits n true = always n
settled_fits n false = never n

joined_fits : (n : ℕ) (all : Bool) (f g : Form) → fits n f ≡ true → fits n g ≡ true → fits n (joined all f g) ≡ true
joined_fits n true f g h e = two_all n f g h e
joined_fits n false f g h e = two_any n f g h e

-- a comparison of two sums whose differences are low
module _ (n : ℕ) (f g : Linear) (d : IsLowTo n (minus f g)) (e : IsLowTo n (minus g f)) where
  is_least : fits n (at_least f g) ≡ true
  is_least = row_form n (minus f g) (low_fits n (minus f g) d)

  is_most : fits n (at_least g f) ≡ true
  is_most = row_form n (minus g f) (low_fits n (minus g f) e)

  is_above : fits n (above f g) ≡ true
  is_above = row_form n (less_one (minus f g)) (less_fits n (minus f g) d)

  is_below : fits n (above g f) ≡ true
  is_below = row_form n (less_one (minus g f)) (less_fits n (minus g f) e)

  pub comparison_fits : (o : Operator) (wanted : Bool) → fits n (comparison o wanted f g) ≡ true
  comparison_fits op.Equal true = two_all n (at_least f g) (at_least g f) is_least is_most
  comparison_fits op.Equal false = two_any n (above g f) (above f g) is_below is_above
  comparison_fits op.NotEqual true = two_any n (above g f) (above f g) is_below is_above
  comparison_fits op.NotEqual false = two_all n (at_least f g) (at_least g f) is_least is_most
  comparison_fits op.Less true = is_below
  comparison_fits op.Less false = is_least
  comparison_fits op.LessEqual true = is_most
  comparison_fits op.LessEqual false = is_above
  comparison_fits op.Greater true = is_above
  comparison_fits op.Greater false = is_most
  comparison_fits op.GreaterEqual true = is_least
  comparison_fits op.GreaterEqual false = is_below
  comparison_fits op.Add wanted = never n
  comparison_fits op.Sub wanted = never n
  comparison_fits op.Mul wanted = never n
  comparison_fits op.Div wanted = never n
  comparison_fits op.Mod wanted = never n
  comparison_fits op.And wanted = never n
  comparison_fits op.Or wanted = never n

low_constant : (n : ℕ) (wanted : Bool) → IsLowTo n (constant (truth_value wanted))
low_constant n true = record { short = omega arith; low = refl; constant = omega (arith, ints) }
low_constant n false = record { short = omega arith; low = refl; constant = omega (arith, ints) }

field_fits : (n : ℕ) (f : Linear) (wanted : Bool) → IsLowTo n f → fits n (equal f (constant (truth_value wanted))) ≡ true
field_fits n f wanted l =
    two_all n (at_least f (constant (truth_value wanted))) (at_least (constant (truth_value wanted)) f)
    (row_form n (minus f (constant (truth_value wanted))) (difference_fits n f (constant (truth_value wanted)) l (low_constant n wanted)))
    (row_form n (minus (constant (truth_value wanted)) f) (difference_fits n (constant (truth_value wanted)) f (low_constant n wanted) l))

wider : (d n : ℕ) (f : Linear) → d ≤ n → IsLowTo d f → IsLowTo n f
wider d n f h l = let w = l.short in record { short = omega (arith, h, w); low = l.low; constant = l.constant }

module _ (fields : List Formed) (d : ℕ) (low : (f : ℕ) → AreLowTo d (formed_of f fields)) (N : ℕ) where
  abbrev Fitting : Bool → ℕ → Tree → Type 0
  Fitting wanted n x = fits N (condition fields n wanted x) ≡ true

  split : (xs ys : List Met) → all_kept (xs ++ ys) ≡ true → (all_kept xs ≡ true) × (all_kept ys ≡ true)
  split xs ys h = both {a = all_kept xs} {b = all_kept ys} (sym (list_all-append is_kept xs ys) ∙ h)

  -- both sides of a comparison of numbers
  sides : (o : Operator) (wanted : Bool) (n : ℕ) (a b : Tree) → d ≤ n → 1 ≤ n → n + (divisions_in a + divisions_in b) ≤ N → all_kept (met_in_both fields n a b (met fields n a) (met fields (n + divisions_in a) b)) ≡ true
      → fits N (comparison o wanted (linear fields n a) (linear fields (n + divisions_in a) b)) ≡ true
  sides o wanted n a b h e r k =
      let f = linear fields n a in
      let g = linear fields (n + divisions_in a) b in
      let p = short_linear fields d low n a h e in
      let q = short_linear fields d low (n + divisions_in a) b (omega (arith, h)) (omega (arith, e)) in
      let s = (split (met fields (n + divisions_in a) b) (differences f g) (split (met fields n a) (met fields (n + divisions_in a) b ++ differences f g) k).1).1 in
      let s1 = both {a = is_low (minus f g)} s in
      let s2 = both {a = is_low (minus g f)} s1.1 in
      comparison_fits N f g
      (low_to N (minus f g) (weighted_width f.coefficients g.coefficients (pos 1) (negsuc 0) N (omega (arith, p, r)) (omega (arith, q, r))) s1.0)
      (low_to N (minus g f) (weighted_width g.coefficients f.coefficients (pos 1) (negsuc 0) N (omega (arith, q, r)) (omega (arith, p, r))) s2.0)
      o wanted

  by_truths : (s t : Option Bool) (left right numbers : List Met) (l r : Bool → Form) (c : Form) → all_kept (of_sides s t left right numbers) ≡ true
      → (all_kept right ≡ true → (b : Bool) → fits N (r b) ≡ true) → (all_kept left ≡ true → (b : Bool) → fits N (l b) ≡ true) → (all_kept numbers ≡ true → fits N c ≡ true) → fits N (compared s t l r c) ≡ true
  by_truths (Some b) t left right numbers l r c k x y z = x k b
  by_truths None (Some b) left right numbers l r c k x y z = y k b
  by_truths None None left right numbers l r c k x y z = z k

  pub condition_fits : (n : ℕ) (wanted : Bool) (x : Tree) → d ≤ n → 1 ≤ n → n + divisions_in x ≤ N → all_kept (met fields n x) ≡ true → Fitting wanted n x
  condition_fits n wanted (Number k) h e r m = never N
  condition_fits n wanted (Truth b) h e r m = settled_fits N (agree wanted b)
  condition_fits n wanted (Field f) h e r m = field_fits N (formed_of f fields).number wanted (wider d N (formed_of f fields).number (omega (arith, h, r)) (low f).number)
  condition_fits n wanted (First f) h e r m = never N
  condition_fits n wanted (Last f) h e r m = never N
  condition_fits n wanted (Size f) h e r m = never N
  condition_fits n wanted Total h e r m = never N
  condition_fits n wanted (Neg a) h e r m = never N
  condition_fits n wanted (Not a) h e r m = condition_fits n (not wanted) a h e r m
  condition_fits n wanted (Binary op.And a b) h e r m =
      let s = split (met fields n a) (met fields (n + divisions_in a) b) m in
      joined_fits N wanted (condition fields n wanted a) (condition fields (n + divisions_in a) wanted b)
      (condition_fits n wanted a h e (omega (arith, r)) s.0) (condition_fits (n + divisions_in a) wanted b (omega (arith, h)) (omega (arith, e)) (omega (arith, r)) s.1)
  condition_fits n wanted (Binary op.Or a b) h e r m =
      let s = split (met fields n a) (met fields (n + divisions_in a) b) m in
      joined_fits N (not wanted) (condition fields n wanted a) (condition fields (n + divisions_in a) wanted b)
      (condition_fits n wanted a h e (omega (arith, r)) s.0) (condition_fits (n + divisions_in a) wanted b (omega (arith, h)) (omega (arith, e)) (omega (arith, r)) s.1)
  condition_fits n wanted (Binary op.Equal a b) h e r m =
      by_truths (truth_in a) (truth_in b) (met fields n a) (met fields (n + divisions_in a) b) (met_in_both fields n a b (met fields n a) (met fields (n + divisions_in a) b))
      (λ t. condition fields n (agree wanted t) a) (λ t. condition fields (n + divisions_in a) (agree wanted t) b) (comparison op.Equal wanted (linear fields n a) (linear fields (n + divisions_in a) b)) m
      (λ k t. condition_fits (n + divisions_in a) (agree wanted t) b (omega (arith, h)) (omega (arith, e)) (omega (arith, r)) k)
      (λ k t. condition_fits n (agree wanted t) a h e (omega (arith, r)) k)
      (λ k. sides op.Equal wanted n a b h e r k)
  condition_fits n wanted (Binary op.NotEqual a b) h e r m =
      by_truths (truth_in a) (truth_in b) (met fields n a) (met fields (n + divisions_in a) b) (met_in_both fields n a b (met fields n a) (met fields (n + divisions_in a) b))
      (λ t. condition fields n (agree (not wanted) t) a) (λ t. condition fields (n + divisions_in a) (agree (not wanted) t) b) (comparison op.NotEqual wanted (linear fields n a) (linear fields (n + divisions_in a) b)) m
      (λ k t. condition_fits (n + divisions_in a) (agree (not wanted) t) b (omega (arith, h)) (omega (arith, e)) (omega (arith, r)) k)
      (λ k t. condition_fits n (agree (not wanted) t) a h e (omega (arith, r)) k)
      (λ k. sides op.NotEqual wanted n a b h e r k)
  condition_fits n wanted (Binary op.Less a b) h e r m = sides op.Less wanted n a b h e r m
  condition_fits n wanted (Binary op.LessEqual a b) h e r m = sides op.LessEqual wanted n a b h e r m
  condition_fits n wanted (Binary op.Greater a b) h e r m = sides op.Greater wanted n a b h e r m
  condition_fits n wanted (Binary op.GreaterEqual a b) h e r m = sides op.GreaterEqual wanted n a b h e r m
  condition_fits n wanted (Binary op.Add a b) h e r m = never N
  condition_fits n wanted (Binary op.Sub a b) h e r m = never N
  condition_fits n wanted (Binary op.Mul a b) h e r m = never N
  condition_fits n wanted (Binary op.Div a b) h e r m = never N
  condition_fits n wanted (Binary op.Mod a b) h e r m = never N
