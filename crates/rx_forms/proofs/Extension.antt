-- A point that goes on with an expression's quotients solves its divisions.
use Rattle.std.proofs.Common.{◌≡◌, refl, sym, ap, subst, ◌∙◌, ℕ, zero, suc, ◌+◌, arith, List, [], ◌∷◌, ◌++◌, length, Bool, true, false, if◌then◌else◌, get_or, ℤ, pos, append_assoc}
use Rattle.std.specs.Int.{int_div_euclid}
use Rattle.std.proofs.lemmas.List.{length-append}
use Rattle.rx_types.specs.declared.expr.Operator.TheVariants as op
use Rattle.rx_types.specs.Tree.{Tree, Number, Truth, Field, First, Last, Size, Total, Neg, Not, Binary}
use Rattle.rx_types.specs.Static.{is_static, static_value}
use Rattle.rx_types.specs.Environment.{Environment}
use Rattle.rx_types.specs.Value.{value_of}
use Rattle.rx_forms.specs.Normal.{divisions_in}
use Rattle.rx_forms.specs.Divisions.{quotients}
use Rattle.rx_forms.specs.Points.{Solves, Chosen}

if_length : (t : Bool) (xs ys : List ℤ) → length (if t then xs else ys) ≡ (if t then length xs else length ys)
if_length true xs ys = refl
if_length false xs ys = refl

if_same : (t : Bool) (a b c d : ℕ) → a ≡ c → b ≡ d → (if t then a else b) ≡ (if t then c else d)
if_same true a b c d p q = p
if_same false a b c d p q = q

pub two : (xs ys : List ℤ) (m n : ℕ) → length xs ≡ m → length ys ≡ n → length (xs ++ ys) ≡ m + n
two xs ys m n p q = length-append xs ys ∙ (omega arith)

-- there is one quotient for each division
pub quotients_length : (x : Tree) (e : Environment) → length (quotients x e) ≡ divisions_in x
quotients_length (Number k) e = refl
quotients_length (Field f) e = refl
quotients_length (First f) e = refl
quotients_length (Last f) e = refl
quotients_length (Size f) e = refl
quotients_length Total e = refl
quotients_length (Neg a) e = quotients_length a e
quotients_length (Not a) e = quotients_length a e
quotients_length (Binary op.Add a b) e = two (quotients a e) (quotients b e) (divisions_in a) (divisions_in b) (quotients_length a e) (quotients_length b e)
quotients_length (Binary op.Sub a b) e = two (quotients a e) (quotients b e) (divisions_in a) (divisions_in b) (quotients_length a e) (quotients_length b e)
quotients_length (Binary op.Mul a b) e = if_length (is_static a) (quotients b e) (quotients a e) ∙ if_same (is_static a) _ _ _ _ (quotients_length b e) (quotients_length a e)
quotients_length (Binary op.Div a b) e = two (quotients a e) (int_div_euclid (value_of a e) (static_value b) ∷ []) (divisions_in a) 1 (quotients_length a e) refl
quotients_length (Binary op.Mod a b) e = two (quotients a e) (int_div_euclid (value_of a e) (static_value b) ∷ []) (divisions_in a) 1 (quotients_length a e) refl
quotients_length (Binary op.And a b) e = two (quotients a e) (quotients b e) (divisions_in a) (divisions_in b) (quotients_length a e) (quotients_length b e)
quotients_length (Binary op.Or a b) e = two (quotients a e) (quotients b e) (divisions_in a) (divisions_in b) (quotients_length a e) (quotients_length b e)
quotients_length (Binary op.Equal a b) e = two (quotients a e) (quotients b e) (divisions_in a) (divisions_in b) (quotients_length a e) (quotients_length b e)
quotients_length (Binary op.NotEqual a b) e = two (quotients a e) (quotients b e) (divisions_in a) (divisions_in b) (quotients_length a e) (quotients_length b e)
quotients_length (Binary op.Less a b) e = two (quotients a e) (quotients b e) (divisions_in a) (divisions_in b) (quotients_length a e) (quotients_length b e)
quotients_length (Binary op.LessEqual a b) e = two (quotients a e) (quotients b e) (divisions_in a) (divisions_in b) (quotients_length a e) (quotients_length b e)
quotients_length (Binary op.Greater a b) e = two (quotients a e) (quotients b e) (divisions_in a) (divisions_in b) (quotients_length a e) (quotients_length b e)
quotients_length (Binary op.GreaterEqual a b) e = two (quotients a e) (quotients b e) (divisions_in a) (divisions_in b) (quotients_length a e) (quotients_length b e)
quotients_length (Truth b) e = refl

pub at_end : (xs ys : List ℤ) (y : ℤ) (n : ℕ) → length xs ≡ n → get_or (xs ++ y ∷ ys) n (pos 0) ≡ y
at_end [] ys y zero h = refl
at_end [] ys y (suc n) h = absurd (omega arith)
at_end (x ∷ xs) ys y zero h = absurd (omega arith)
at_end (x ∷ xs) ys y (suc n) h = at_end xs ys y n (omega arith)

-- front, then two parts, then the rest
pub left_first : (front xs ys rest : List ℤ) → front ++ (xs ++ (ys ++ rest)) ≡ front ++ ((xs ++ ys) ++ rest)
left_first front xs ys rest = ap (λ (zs : List ℤ). front ++ zs) (sym (append_assoc xs ys rest))

pub right_first : (front xs ys rest : List ℤ) → (front ++ xs) ++ (ys ++ rest) ≡ front ++ ((xs ++ ys) ++ rest)
right_first front xs ys rest = append_assoc front xs (ys ++ rest) ∙ left_first front xs ys rest

last_at : (front xs rest : List ℤ) (y : ℤ) (n d : ℕ) → length front ≡ n → length xs ≡ d → get_or (front ++ ((xs ++ y ∷ []) ++ rest)) (n + d) (pos 0) ≡ y
last_at front xs rest y n d f x =
    ap (λ (zs : List ℤ). get_or zs (n + d) (pos 0)) (sym (right_first front xs (y ∷ []) rest)) ∙ at_end (front ++ xs) rest y (n + d) (two front xs n d f x)

chosen_at : (t : Bool) (front xs ys rest : List ℤ) (P Q : List ℤ → Type 0) → P (front ++ (xs ++ rest)) → Q (front ++ (ys ++ rest)) → Chosen t (P (front ++ ((if t then xs else ys) ++ rest))) (Q (front ++ ((if t then xs else ys) ++ rest)))
chosen_at true front xs ys rest P Q p q = p
chosen_at false front xs ys rest P Q p q = q

pub solved_at : (x : Tree) (e : Environment) (front rest : List ℤ) (n : ℕ) → length front ≡ n → Solves (front ++ (quotients x e ++ rest)) n x e
solved_at (Number k) e front rest n h = tt
solved_at (Truth b) e front rest n h = tt
solved_at (Field f) e front rest n h = tt
solved_at (First f) e front rest n h = tt
solved_at (Last f) e front rest n h = tt
solved_at (Size f) e front rest n h = tt
solved_at Total e front rest n h = tt
solved_at (Neg a) e front rest n h = solved_at a e front rest n h
solved_at (Not a) e front rest n h = solved_at a e front rest n h
solved_at (Binary op.Mul a b) e front rest n h = chosen_at (is_static a) front (quotients b e) (quotients a e) rest (λ zs. Solves zs n b e) (λ zs. Solves zs n a e) (solved_at b e front rest n h) (solved_at a e front rest n h)
solved_at (Binary op.Div a b) e front rest n h = (
  subst (λ zs. Solves zs n a e) (left_first front (quotients a e) (int_div_euclid (value_of a e) (static_value b) ∷ []) rest) (solved_at a e front ((int_div_euclid (value_of a e) (static_value b) ∷ []) ++ rest) n h),
  last_at front (quotients a e) rest (int_div_euclid (value_of a e) (static_value b)) n (divisions_in a) h (quotients_length a e),
)
solved_at (Binary op.Mod a b) e front rest n h = (
  subst (λ zs. Solves zs n a e) (left_first front (quotients a e) (int_div_euclid (value_of a e) (static_value b) ∷ []) rest) (solved_at a e front ((int_div_euclid (value_of a e) (static_value b) ∷ []) ++ rest) n h),
  last_at front (quotients a e) rest (int_div_euclid (value_of a e) (static_value b)) n (divisions_in a) h (quotients_length a e),
)
solved_at (Binary op.Add a b) e front rest n h = (
  subst (λ zs. Solves zs n a e) (left_first front (quotients a e) (quotients b e) rest) (solved_at a e front (quotients b e ++ rest) n h),
  subst (λ zs. Solves zs (n + divisions_in a) b e) (right_first front (quotients a e) (quotients b e) rest) (solved_at b e (front ++ quotients a e) rest (n + divisions_in a) (two front (quotients a e) n (divisions_in a) h (quotients_length a e))),
)
solved_at (Binary op.Sub a b) e front rest n h = (
  subst (λ zs. Solves zs n a e) (left_first front (quotients a e) (quotients b e) rest) (solved_at a e front (quotients b e ++ rest) n h),
  subst (λ zs. Solves zs (n + divisions_in a) b e) (right_first front (quotients a e) (quotients b e) rest) (solved_at b e (front ++ quotients a e) rest (n + divisions_in a) (two front (quotients a e) n (divisions_in a) h (quotients_length a e))),
)
solved_at (Binary op.And a b) e front rest n h = (
  subst (λ zs. Solves zs n a e) (left_first front (quotients a e) (quotients b e) rest) (solved_at a e front (quotients b e ++ rest) n h),
  subst (λ zs. Solves zs (n + divisions_in a) b e) (right_first front (quotients a e) (quotients b e) rest) (solved_at b e (front ++ quotients a e) rest (n + divisions_in a) (two front (quotients a e) n (divisions_in a) h (quotients_length a e))),
)
solved_at (Binary op.Or a b) e front rest n h = (
  subst (λ zs. Solves zs n a e) (left_first front (quotients a e) (quotients b e) rest) (solved_at a e front (quotients b e ++ rest) n h),
  subst (λ zs. Solves zs (n + divisions_in a) b e) (right_first front (quotients a e) (quotients b e) rest) (solved_at b e (front ++ quotients a e) rest (n + divisions_in a) (two front (quotients a e) n (divisions_in a) h (quotients_length a e))),
)
solved_at (Binary op.Equal a b) e front rest n h = (
  subst (λ zs. Solves zs n a e) (left_first front (quotients a e) (quotients b e) rest) (solved_at a e front (quotients b e ++ rest) n h),
  subst (λ zs. Solves zs (n + divisions_in a) b e) (right_first front (quotients a e) (quotients b e) rest) (solved_at b e (front ++ quotients a e) rest (n + divisions_in a) (two front (quotients a e) n (divisions_in a) h (quotients_length a e))),
)
solved_at (Binary op.NotEqual a b) e front rest n h = (
  subst (λ zs. Solves zs n a e) (left_first front (quotients a e) (quotients b e) rest) (solved_at a e front (quotients b e ++ rest) n h),
  subst (λ zs. Solves zs (n + divisions_in a) b e) (right_first front (quotients a e) (quotients b e) rest) (solved_at b e (front ++ quotients a e) rest (n + divisions_in a) (two front (quotients a e) n (divisions_in a) h (quotients_length a e))),
)
solved_at (Binary op.Less a b) e front rest n h = (
  subst (λ zs. Solves zs n a e) (left_first front (quotients a e) (quotients b e) rest) (solved_at a e front (quotients b e ++ rest) n h),
  subst (λ zs. Solves zs (n + divisions_in a) b e) (right_first front (quotients a e) (quotients b e) rest) (solved_at b e (front ++ quotients a e) rest (n + divisions_in a) (two front (quotients a e) n (divisions_in a) h (quotients_length a e))),
)
solved_at (Binary op.LessEqual a b) e front rest n h = (
  subst (λ zs. Solves zs n a e) (left_first front (quotients a e) (quotients b e) rest) (solved_at a e front (quotients b e ++ rest) n h),
  subst (λ zs. Solves zs (n + divisions_in a) b e) (right_first front (quotients a e) (quotients b e) rest) (solved_at b e (front ++ quotients a e) rest (n + divisions_in a) (two front (quotients a e) n (divisions_in a) h (quotients_length a e))),
)
solved_at (Binary op.Greater a b) e front rest n h = (
  subst (λ zs. Solves zs n a e) (left_first front (quotients a e) (quotients b e) rest) (solved_at a e front (quotients b e ++ rest) n h),
  subst (λ zs. Solves zs (n + divisions_in a) b e) (right_first front (quotients a e) (quotients b e) rest) (solved_at b e (front ++ quotients a e) rest (n + divisions_in a) (two front (quotients a e) n (divisions_in a) h (quotients_length a e))),
)
solved_at (Binary op.GreaterEqual a b) e front rest n h = (
  subst (λ zs. Solves zs n a e) (left_first front (quotients a e) (quotients b e) rest) (solved_at a e front (quotients b e ++ rest) n h),
  subst (λ zs. Solves zs (n + divisions_in a) b e) (right_first front (quotients a e) (quotients b e) rest) (solved_at b e (front ++ quotients a e) rest (n + divisions_in a) (two front (quotients a e) n (divisions_in a) h (quotients_length a e))),
)
