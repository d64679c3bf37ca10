-- The rows of a condition's divisions, and the quotients that solve them.
use Rattle.std.proofs.Common.{◌≡◌, refl, ℕ, ◌+◌, List, Bool, true, ℤ, Option, Some, None}
use Rattle.rx_types.specs.declared.expr.Operator.TheVariants as op
use Rattle.rx_types.specs.Tree.{Tree, Number, Truth, Field, First, Last, Size, Total, Neg, Not, Binary}
use Rattle.rx_types.specs.Environment.{Environment}
use Rattle.rx_types.specs.Narrow.{IsNarrow, StaysWithin}
use Rattle.rx_forms.specs.Linear.{not_below_zero}
use Rattle.rx_forms.specs.Normal.{Formed, divisions_in, truth_in, IsNumeric, IsCondition, IsCompared}
use Rattle.rx_forms.specs.Divisions.{divisions}
use Rattle.rx_forms.specs.Points.{Represents, Solves}
use Rattle.rx_forms.proofs.Quotients.{solves_number, rows_of_number, parts_of, of_parts}

-- ---- a spelled truth value has no divisions

spelled_solves : (point : List ℤ) (n : ℕ) (x : Tree) (t : Bool) (e : Environment) → truth_in x ≡ Some t → Solves point n x e
spelled_solves point n (Truth b) t e h = tt
spelled_solves point n (Number k) t e h = absurd (cc)
spelled_solves point n (Field f) t e h = absurd (cc)
spelled_solves point n (First f) t e h = absurd (cc)
spelled_solves point n (Last f) t e h = absurd (cc)
spelled_solves point n (Size f) t e h = absurd (cc)
spelled_solves point n Total t e h = absurd (cc)
spelled_solves point n (Neg a) t e h = absurd (cc)
spelled_solves point n (Not a) t e h = absurd (cc)
spelled_solves point n (Binary op.Add a b) t e h = absurd (cc)
spelled_solves point n (Binary op.Sub a b) t e h = absurd (cc)
spelled_solves point n (Binary op.Mul a b) t e h = absurd (cc)
spelled_solves point n (Binary op.Div a b) t e h = absurd (cc)
spelled_solves point n (Binary op.Mod a b) t e h = absurd (cc)
spelled_solves point n (Binary op.And a b) t e h = absurd (cc)
spelled_solves point n (Binary op.Or a b) t e h = absurd (cc)
spelled_solves point n (Binary op.Equal a b) t e h = absurd (cc)
spelled_solves point n (Binary op.NotEqual a b) t e h = absurd (cc)
spelled_solves point n (Binary op.Less a b) t e h = absurd (cc)
spelled_solves point n (Binary op.LessEqual a b) t e h = absurd (cc)
spelled_solves point n (Binary op.Greater a b) t e h = absurd (cc)
spelled_solves point n (Binary op.GreaterEqual a b) t e h = absurd (cc)

spelled_rows : (limit : ℕ → ℕ) (point : List ℤ) (fields : List Formed) (n : ℕ) (x : Tree) (t : Bool) → truth_in x ≡ Some t → not_below_zero point (divisions limit fields n x) ≡ true
spelled_rows limit point fields n (Truth b) t h = refl
spelled_rows limit point fields n (Number k) t h = absurd (cc)
spelled_rows limit point fields n (Field f) t h = absurd (cc)
spelled_rows limit point fields n (First f) t h = absurd (cc)
spelled_rows limit point fields n (Last f) t h = absurd (cc)
spelled_rows limit point fields n (Size f) t h = absurd (cc)
spelled_rows limit point fields n Total t h = absurd (cc)
spelled_rows limit point fields n (Neg a) t h = absurd (cc)
spelled_rows limit point fields n (Not a) t h = absurd (cc)
spelled_rows limit point fields n (Binary op.Add a b) t h = absurd (cc)
spelled_rows limit point fields n (Binary op.Sub a b) t h = absurd (cc)
spelled_rows limit point fields n (Binary op.Mul a b) t h = absurd (cc)
spelled_rows limit point fields n (Binary op.Div a b) t h = absurd (cc)
spelled_rows limit point fields n (Binary op.Mod a b) t h = absurd (cc)
spelled_rows limit point fields n (Binary op.And a b) t h = absurd (cc)
spelled_rows limit point fields n (Binary op.Or a b) t h = absurd (cc)
spelled_rows limit point fields n (Binary op.Equal a b) t h = absurd (cc)
spelled_rows limit point fields n (Binary op.NotEqual a b) t h = absurd (cc)
spelled_rows limit point fields n (Binary op.Less a b) t h = absurd (cc)
spelled_rows limit point fields n (Binary op.LessEqual a b) t h = absurd (cc)
spelled_rows limit point fields n (Binary op.Greater a b) t h = absurd (cc)
spelled_rows limit point fields n (Binary op.GreaterEqual a b) t h = absurd (cc)

-- what holds of both sides of a comparison
compared_both : (p q : Option Bool) (A B N P Q : Type 0) → IsCompared p q A B N → ((t : Bool) → p ≡ Some t → P) → ((t : Bool) → q ≡ Some t → Q) → (A → P) → (B → Q) → (N → P × Q) → P × Q
compared_both (Some t) q A B N P Q h p1 q1 a b n = (p1 t refl, b h)
compared_both None (Some t) A B N P Q h p1 q1 a b n = (a h, q1 t refl)
compared_both None None A B N P Q h p1 q1 a b n = n h

module _ (limit : ℕ → ℕ) (point : List ℤ) (fields : List Formed) (e : Environment) (r : Represents point fields e) where
  -- where the rows of a condition's divisions hold, its division variables are the quotients
  pub solves_condition : (n : ℕ) (x : Tree) → IsCondition limit x → not_below_zero point (divisions limit fields n x) ≡ true → Solves point n x e
  solves_condition n (Truth b) h s = tt
  solves_condition n (Field f) h s = tt
  solves_condition n (Neg a) h s = absurd h
  solves_condition n (Not a) h s = solves_condition n a h s
  solves_condition n (Binary op.And a b) h s = let p = parts_of point (divisions limit fields n a) (divisions limit fields (n + divisions_in a) b) s in (solves_condition n a h.0 p.0, solves_condition (n + divisions_in a) b h.1 p.1)
  solves_condition n (Binary op.Or a b) h s = let p = parts_of point (divisions limit fields n a) (divisions limit fields (n + divisions_in a) b) s in (solves_condition n a h.0 p.0, solves_condition (n + divisions_in a) b h.1 p.1)
  solves_condition n (Binary op.Equal a b) h s =
      let p = parts_of point (divisions limit fields n a) (divisions limit fields (n + divisions_in a) b) s in
      compared_both (truth_in a) (truth_in b) (IsCondition limit a) (IsCondition limit b) (IsNumeric a × IsNumeric b) (Solves point n a e) (Solves point (n + divisions_in a) b e) h
      (λ t i. spelled_solves point n a t e i) (λ t i. spelled_solves point (n + divisions_in a) b t e i)
      (λ c. solves_condition n a c p.0) (λ c. solves_condition (n + divisions_in a) b c p.1)
      (λ c. (solves_number limit point fields e r n a c.0 p.0, solves_number limit point fields e r (n + divisions_in a) b c.1 p.1))
  solves_condition n (Binary op.NotEqual a b) h s =
      let p = parts_of point (divisions limit fields n a) (divisions limit fields (n + divisions_in a) b) s in
      compared_both (truth_in a) (truth_in b) (IsCondition limit a) (IsCondition limit b) (IsNumeric a × IsNumeric b) (Solves point n a e) (Solves point (n + divisions_in a) b e) h
      (λ t i. spelled_solves point n a t e i) (λ t i. spelled_solves point (n + divisions_in a) b t e i)
      (λ c. solves_condition n a c p.0) (λ c. solves_condition (n + divisions_in a) b c p.1)
      (λ c. (solves_number limit point fields e r n a c.0 p.0, solves_number limit point fields e r (n + divisions_in a) b c.1 p.1))
  solves_condition n (Binary op.Less a b) h s = let p = parts_of point (divisions limit fields n a) (divisions limit fields (n + divisions_in a) b) s in (solves_number limit point fields e r n a h.0 p.0, solves_number limit point fields e r (n + divisions_in a) b h.1 p.1)
  solves_condition n (Binary op.LessEqual a b) h s = let p = parts_of point (divisions limit fields n a) (divisions limit fields (n + divisions_in a) b) s in (solves_number limit point fields e r n a h.0 p.0, solves_number limit point fields e r (n + divisions_in a) b h.1 p.1)
  solves_condition n (Binary op.Greater a b) h s = let p = parts_of point (divisions limit fields n a) (divisions limit fields (n + divisions_in a) b) s in (solves_number limit point fields e r n a h.0 p.0, solves_number limit point fields e r (n + divisions_in a) b h.1 p.1)
  solves_condition n (Binary op.GreaterEqual a b) h s = let p = parts_of point (divisions limit fields n a) (divisions limit fields (n + divisions_in a) b) s in (solves_number limit point fields e r n a h.0 p.0, solves_number limit point fields e r (n + divisions_in a) b h.1 p.1)
  solves_condition n (Number k) h s = absurd h
  solves_condition n (First f) h s = absurd h
  solves_condition n (Last f) h s = absurd h
  solves_condition n (Size f) h s = absurd h
  solves_condition n Total h s = absurd h
  solves_condition n (Binary op.Add a b) h s = absurd h
  solves_condition n (Binary op.Sub a b) h s = absurd h
  solves_condition n (Binary op.Mul a b) h s = absurd h
  solves_condition n (Binary op.Div a b) h s = absurd h
  solves_condition n (Binary op.Mod a b) h s = absurd h

  -- and where they are the quotients, and the condition is narrow, the rows hold
  pub rows_of_condition : StaysWithin limit e → (n : ℕ) (x : Tree) → IsCondition limit x → IsNarrow limit x → Solves point n x e → not_below_zero point (divisions limit fields n x) ≡ true
  rows_of_condition w n (Truth b) h c s = refl
  rows_of_condition w n (Field f) h c s = refl
  rows_of_condition w n (Neg a) h c s = absurd h
  rows_of_condition w n (Not a) h c s = rows_of_condition w n a h c.1 s
  rows_of_condition w n (Binary op.And a b) h c s = of_parts point (divisions limit fields n a) (divisions limit fields (n + divisions_in a) b) (rows_of_condition w n a h.0 c.2 s.0) (rows_of_condition w (n + divisions_in a) b h.1 c.3 s.1)
  rows_of_condition w n (Binary op.Or a b) h c s = of_parts point (divisions limit fields n a) (divisions limit fields (n + divisions_in a) b) (rows_of_condition w n a h.0 c.2 s.0) (rows_of_condition w (n + divisions_in a) b h.1 c.3 s.1)
  rows_of_condition w n (Binary op.Equal a b) h c s =
      let p = compared_both (truth_in a) (truth_in b) (IsCondition limit a) (IsCondition limit b) (IsNumeric a × IsNumeric b) (not_below_zero point (divisions limit fields n a) ≡ true) (not_below_zero point (divisions limit fields (n + divisions_in a) b) ≡ true) h
      (λ t i. spelled_rows limit point fields n a t i) (λ t i. spelled_rows limit point fields (n + divisions_in a) b t i)
      (λ k. rows_of_condition w n a k c.2 s.0) (λ k. rows_of_condition w (n + divisions_in a) b k c.3 s.1)
      (λ k. (rows_of_number limit point fields e r w n a k.0 c.2 s.0, rows_of_number limit point fields e r w (n + divisions_in a) b k.1 c.3 s.1)) in
      of_parts point (divisions limit fields n a) (divisions limit fields (n + divisions_in a) b) p.0 p.1
  rows_of_condition w n (Binary op.NotEqual a b) h c s =
      let p = compared_both (truth_in a) (truth_in b) (IsCondition limit a) (IsCondition limit b) (IsNumeric a × IsNumeric b) (not_below_zero point (divisions limit fields n a) ≡ true) (not_below_zero point (divisions limit fields (n + divisions_in a) b) ≡ true) h
      (λ t i. spelled_rows limit point fields n a t i) (λ t i. spelled_rows limit point fields (n + divisions_in a) b t i)
      (λ k. rows_of_condition w n a k c.2 s.0) (λ k. rows_of_condition w (n + divisions_in a) b k c.3 s.1)
      (λ k. (rows_of_number limit point fields e r w n a k.0 c.2 s.0, rows_of_number limit point fields e r w (n + divisions_in a) b k.1 c.3 s.1)) in
      of_parts point (divisions limit fields n a) (divisions limit fields (n + divisions_in a) b) p.0 p.1
  rows_of_condition w n (Binary op.Less a b) h c s = of_parts point (divisions limit fields n a) (divisions limit fields (n + divisions_in a) b) (rows_of_number limit point fields e r w n a h.0 c.2 s.0) (rows_of_number limit point fields e r w (n + divisions_in a) b h.1 c.3 s.1)
  rows_of_condition w n (Binary op.LessEqual a b) h c s = of_parts point (divisions limit fields n a) (divisions limit fields (n + divisions_in a) b) (rows_of_number limit point fields e r w n a h.0 c.2 s.0) (rows_of_number limit point fields e r w (n + divisions_in a) b h.1 c.3 s.1)
  rows_of_condition w n (Binary op.Greater a b) h c s = of_parts point (divisions limit fields n a) (divisions limit fields (n + divisions_in a) b) (rows_of_number limit point fields e r w n a h.0 c.2 s.0) (rows_of_number limit point fields e r w (n + divisions_in a) b h.1 c.3 s.1)
  rows_of_condition w n (Binary op.GreaterEqual a b) h c s = of_parts point (divisions limit fields n a) (divisions limit fields (n + divisions_in a) b) (rows_of_number limit point fields e r w n a h.0 c.2 s.0) (rows_of_number limit point fields e r w (n + divisions_in a) b h.1 c.3 s.1)
  rows_of_condition w n (Number k) h c s = absurd h
  rows_of_condition w n (First f) h c s = absurd h
  rows_of_condition w n (Last f) h c s = absurd h
  rows_of_condition w n (Size f) h c s = absurd h
  rows_of_condition w n Total h c s = absurd h
  rows_of_condition w n (Binary op.Add a b) h c s = absurd h
  rows_of_condition w n (Binary op.Sub a b) h c s = absurd h
  rows_of_condition w n (Binary op.Mul a b) h c s = absurd h
  rows_of_condition w n (Binary op.Div a b) h c s = absurd h
  rows_of_condition w n (Binary op.Mod a b) h c s = absurd h
