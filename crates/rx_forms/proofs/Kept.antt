-- When an expression stays within the path limit, by its parts.
use Rattle.std.proofs.Common.{◌≡◌, refl, sym, ap, ◌∙◌, ℕ, ◌+◌, arith, List, [], ◌∷◌, ◌++◌, Bool, true, false, ◌&&◌, if◌then◌else◌, nat_le, Option, None}
use Rattle.std.proofs.lemmas.List.Folds.{list_all-append}
use Rattle.rx_types.specs.declared.expr.Operator.TheVariants as op
use Rattle.rx_types.specs.Tree.{Tree, Neg, Binary}
use Rattle.rx_types.specs.Static.{is_static, static_value}
use Rattle.rx_forms.specs.declared.linear.Linear.{Linear}
use Rattle.rx_forms.specs.Normal.{Formed, linear, divisions_in, truth_in}
use Rattle.rx_forms.specs.Limits.{Met, Part, is_kept, has_words, divided, differences, of_sides, met, all_kept, is_within, sides_within}

-- ---- tests

pub off_left : (a b : Bool) → a ≡ false → (a && b) ≡ false
off_left a b h = ap (λ (t : Bool). t && b) h

pub off_right : (a b : Bool) → b ≡ false → (a && b) ≡ false
off_right true b h = h
off_right false b h = refl

pub on_both : (a b : Bool) → a ≡ true → b ≡ true → (a && b) ≡ true
on_both a b p q = ap (λ (t : Bool). t && b) p ∙ q

pub both_on : (a b : Bool) → (a && b) ≡ true → (a ≡ true) × (b ≡ true)
both_on true b h = (refl, h)
both_on false b h = absurd (cc)

shared : (p q a b : Bool) → (p ≡ true → q ≡ true) → (p && (a && b)) ≡ ((q && a) && (p && b))
shared true q a b h = ap (λ (t : Bool). (t && a) && b) (sym (h refl))
shared false q a b h = sym (off_right (q && a) false refl)

last_one : (p k w : Bool) → (p && (k && (w && true))) ≡ ((p && k) && w)
last_one true true true = refl
last_one true true false = refl
last_one true false w = refl
last_one false k w = refl

-- ---- variables

le_first : (n d e : ℕ) → nat_le (n + (d + e)) 190 ≡ true → nat_le (n + d) 190 ≡ true
le_first n d e h = grind (arith, h)

both_variables : (n d e : ℕ) (a b : Bool) → (nat_le (n + (d + e)) 190 && (a && b)) ≡ ((nat_le (n + d) 190 && a) && (nat_le (n + d + e) 190 && b))
both_variables n d e a b =
    let same : n + (d + e) ≡ n + d + e = omega arith in
    shared (nat_le (n + (d + e)) 190) (nat_le (n + d) 190) a b (le_first n d e)
    ∙ ap (λ (k : ℕ). (nat_le (n + d) 190 && a) && (nat_le k 190 && b)) same

-- ---- expressions

module _ (fields : List Formed) where
  -- one part, and a sum that is worked out from it
  one_more : (n d : ℕ) (xs : List Met) (f : Linear) → (nat_le (n + d) 190 && all_kept (xs ++ Part f ∷ [])) ≡ ((nat_le (n + d) 190 && all_kept xs) && has_words f)
  one_more n d xs f = ap (λ (t : Bool). nat_le (n + d) 190 && t) (list_all-append is_kept xs (Part f ∷ [])) ∙ last_one (nat_le (n + d) 190) (all_kept xs) (has_words f)

  two_more : (n d e : ℕ) (xs ys : List Met) (f : Linear) → (nat_le (n + (d + e)) 190 && all_kept (xs ++ (ys ++ Part f ∷ []))) ≡ ((nat_le (n + d) 190 && all_kept xs) && ((nat_le (n + d + e) 190 && all_kept ys) && has_words f))
  two_more n d e xs ys f =
      ap (λ (t : Bool). nat_le (n + (d + e)) 190 && t) (list_all-append is_kept xs (ys ++ Part f ∷ []))
      ∙ both_variables n d e (all_kept xs) (all_kept (ys ++ Part f ∷ []))
      ∙ ap (λ (t : Bool). (nat_le (n + d) 190 && all_kept xs) && t) (one_more (n + d) e ys f)

  both_parts : (n d e : ℕ) (xs ys : List Met) → (nat_le (n + (d + e)) 190 && all_kept (xs ++ ys)) ≡ ((nat_le (n + d) 190 && all_kept xs) && (nat_le (n + d + e) 190 && all_kept ys))
  both_parts n d e xs ys = ap (λ (t : Bool). nat_le (n + (d + e)) 190 && t) (list_all-append is_kept xs ys) ∙ both_variables n d e (all_kept xs) (all_kept ys)

  pub within_neg : (n : ℕ) (a : Tree) → is_within fields n (Neg a) ≡ (is_within fields n a && has_words (linear fields n (Neg a)))
  within_neg n a = one_more n (divisions_in a) (met fields n a) (linear fields n (Neg a))

  pub within_add : (n : ℕ) (a b : Tree) → is_within fields n (Binary op.Add a b) ≡ (is_within fields n a && (is_within fields (n + divisions_in a) b && has_words (linear fields n (Binary op.Add a b))))
  within_add n a b = two_more n (divisions_in a) (divisions_in b) (met fields n a) (met fields (n + divisions_in a) b) (linear fields n (Binary op.Add a b))

  pub within_sub : (n : ℕ) (a b : Tree) → is_within fields n (Binary op.Sub a b) ≡ (is_within fields n a && (is_within fields (n + divisions_in a) b && has_words (linear fields n (Binary op.Sub a b))))
  within_sub n a b = two_more n (divisions_in a) (divisions_in b) (met fields n a) (met fields (n + divisions_in a) b) (linear fields n (Binary op.Sub a b))

  mul_by : (t : Bool) (n d e : ℕ) (xs ys : List Met) (f : Linear) → (nat_le (n + (if t then e else d)) 190 && all_kept ((if t then ys else xs) ++ Part f ∷ [])) ≡ ((if t then (nat_le (n + e) 190 && all_kept ys) else (nat_le (n + d) 190 && all_kept xs)) && has_words f)
  mul_by true n d e xs ys f = one_more n e ys f
  mul_by false n d e xs ys f = one_more n d xs f

  pub within_mul : (n : ℕ) (a b : Tree) → is_within fields n (Binary op.Mul a b) ≡ ((if is_static a then is_within fields n b else is_within fields n a) && has_words (linear fields n (Binary op.Mul a b)))
  within_mul n a b = mul_by (is_static a) n (divisions_in a) (divisions_in b) (met fields n a) (met fields n b) (linear fields n (Binary op.Mul a b))

  pub within_div : (n : ℕ) (a b : Tree) → is_within fields n (Binary op.Div a b) ≡ (is_within fields n a && (nat_le (n + divisions_in a + 1) 190 && all_kept (divided (n + divisions_in a) (linear fields n a) (static_value b))))
  within_div n a b = both_parts n (divisions_in a) 1 (met fields n a) (divided (n + divisions_in a) (linear fields n a) (static_value b))

  pub within_mod : (n : ℕ) (a b : Tree) → is_within fields n (Binary op.Mod a b) ≡ (is_within fields n a && (nat_le (n + divisions_in a + 1) 190 && all_kept (divided (n + divisions_in a) (linear fields n a) (static_value b))))
  within_mod n a b = both_parts n (divisions_in a) 1 (met fields n a) (divided (n + divisions_in a) (linear fields n a) (static_value b))

  pub within_and : (n : ℕ) (a b : Tree) → is_within fields n (Binary op.And a b) ≡ (is_within fields n a && is_within fields (n + divisions_in a) b)
  within_and n a b = both_parts n (divisions_in a) (divisions_in b) (met fields n a) (met fields (n + divisions_in a) b)

  pub within_or : (n : ℕ) (a b : Tree) → is_within fields n (Binary op.Or a b) ≡ (is_within fields n a && is_within fields (n + divisions_in a) b)
  within_or n a b = both_parts n (divisions_in a) (divisions_in b) (met fields n a) (met fields (n + divisions_in a) b)

  -- ---- comparisons

  joined_on : (p k d : Bool) → (p && (k && d)) ≡ ((p && k) && d)
  joined_on true k d = refl
  joined_on false k d = refl

  three_parts : (n d e : ℕ) (xs ys zs : List Met) → (nat_le (n + (d + e)) 190 && all_kept (xs ++ (ys ++ zs))) ≡ ((nat_le (n + d) 190 && all_kept xs) && ((nat_le (n + d + e) 190 && all_kept ys) && all_kept zs))
  three_parts n d e xs ys zs =
      both_parts n d e xs (ys ++ zs)
      ∙ ap (λ (t : Bool). (nat_le (n + d) 190 && all_kept xs) && (nat_le (n + d + e) 190 && t)) (list_all-append is_kept ys zs)
      ∙ ap (λ (t : Bool). (nat_le (n + d) 190 && all_kept xs) && t) (joined_on (nat_le (n + d + e) 190) (all_kept ys) (all_kept zs))

  in_both : (n : ℕ) (a b : Tree) → (nat_le (n + (divisions_in a + divisions_in b)) 190 && all_kept (met fields n a ++ (met fields (n + divisions_in a) b ++ differences (linear fields n a) (linear fields (n + divisions_in a) b)))) ≡ sides_within fields n a b
  in_both n a b = three_parts n (divisions_in a) (divisions_in b) (met fields n a) (met fields (n + divisions_in a) b) (differences (linear fields n a) (linear fields (n + divisions_in a) b))

  pub within_less : (n : ℕ) (a b : Tree) → is_within fields n (Binary op.Less a b) ≡ sides_within fields n a b
  within_less n a b = in_both n a b

  pub within_less_equal : (n : ℕ) (a b : Tree) → is_within fields n (Binary op.LessEqual a b) ≡ sides_within fields n a b
  within_less_equal n a b = in_both n a b

  pub within_greater : (n : ℕ) (a b : Tree) → is_within fields n (Binary op.Greater a b) ≡ sides_within fields n a b
  within_greater n a b = in_both n a b

  pub within_greater_equal : (n : ℕ) (a b : Tree) → is_within fields n (Binary op.GreaterEqual a b) ≡ sides_within fields n a b
  within_greater_equal n a b = in_both n a b

  of_no_sides : (p q : Option Bool) (left right numbers : List Met) → p ≡ None → q ≡ None → of_sides p q left right numbers ≡ numbers
  of_no_sides p q left right numbers e f = ap (λ r. of_sides r q left right numbers) e ∙ ap (λ r. of_sides None r left right numbers) f

  pub within_equal : (n : ℕ) (a b : Tree) → truth_in a ≡ None → truth_in b ≡ None → is_within fields n (Binary op.Equal a b) ≡ sides_within fields n a b
  within_equal n a b e f =
      ap (λ (ms : List Met). nat_le (n + (divisions_in a + divisions_in b)) 190 && all_kept ms) (of_no_sides (truth_in a) (truth_in b) (met fields n a) (met fields (n + divisions_in a) b) _ e f) ∙ in_both n a b

  pub within_not_equal : (n : ℕ) (a b : Tree) → truth_in a ≡ None → truth_in b ≡ None → is_within fields n (Binary op.NotEqual a b) ≡ sides_within fields n a b
  within_not_equal n a b e f =
      ap (λ (ms : List Met). nat_le (n + (divisions_in a + divisions_in b)) 190 && all_kept ms) (of_no_sides (truth_in a) (truth_in b) (met fields n a) (met fields (n + divisions_in a) b) _ e f) ∙ in_both n a b
