-- The facts of conditions by what their operands have, and where they pass the path limit.
use Rattle.std.proofs.Common.{◌≡◌, refl, sym, ap, ◌∙◌, subst, ℕ, ◌+◌, ◌≤◌, arith, List, ◌++◌, Bool, true, false, not, ◌&&◌, nat_le, append-nil, IfOk, OnOk, Result, Option, Some, None, ◌⊎◌, inl, inr, Box, Global}
use Rattle.rx_types.specs.declared.expr.Expr.{Expr}
use Rattle.rx_types.specs.declared.expr.Expr.TheVariants as code
use Rattle.rx_types.specs.declared.expr.Operator.{Operator}
use Rattle.rx_types.specs.declared.expr.Operator.TheVariants as op
use Rattle.rx_types.specs.Tree.{Tree, tree_of, Truth, Not, Binary}
use Rattle.rx_forms.specs.declared.fault.FormFault.{FormFault}
use Rattle.rx_forms.specs.declared.linear.Linear.{Linear}
use Rattle.rx_forms.specs.declared.linear.Form.{Form}
use Rattle.rx_forms.specs.declared.work.Work.{Work}
use Rattle.rx_forms.specs.Linear.{minus}
use Rattle.rx_forms.specs.Normal.{Formed, linear, condition, comparison, joined, divisions_in, truth_in, IsNumeric, IsCompared, IsCondition}
use Rattle.rx_forms.specs.Limits.{all_kept, differences, is_within, sides_within}
use Rattle.rx_forms.specs.Expressions.{IsTruth, Goes, HasSum, HasComparison, HasFact, by_differences, spelled_in, agreed, takes_all}
use Rattle.rx_forms.proofs.Kept
use Rattle.rx_forms.proofs.Spelled
use Rattle.rx_forms.proofs.Working.{both_go, right_value}

-- ---- operators

abbrev pub IsJoin : Operator → Type 0
IsJoin o = (o ≡ op.And) ⊎ (o ≡ op.Or)

abbrev pub IsComparison : Operator → Type 0
IsComparison op.Equal = Unit {0}
IsComparison op.NotEqual = Unit {0}
IsComparison op.Less = Unit {0}
IsComparison op.LessEqual = Unit {0}
IsComparison op.Greater = Unit {0}
IsComparison op.GreaterEqual = Unit {0}
IsComparison o = ⊥

-- what is no join is a comparison
pub other_operator : (limit : ℕ → ℕ) (o : Operator) (a b : Tree) → IsCondition limit (Binary o a b) → (o ≡ op.And → ⊥) → (o ≡ op.Or → ⊥) → IsComparison o
other_operator limit op.Add a b h m d = absurd h
other_operator limit op.Sub a b h m d = absurd h
other_operator limit op.Mul a b h m d = absurd h
other_operator limit op.Div a b h m d = absurd h
other_operator limit op.Mod a b h m d = absurd h
other_operator limit op.And a b h m d = absurd (m refl)
other_operator limit op.Or a b h m d = absurd (d refl)
other_operator limit op.Equal a b h m d = tt
other_operator limit op.NotEqual a b h m d = tt
other_operator limit op.Less a b h m d = tt
other_operator limit op.LessEqual a b h m d = tt
other_operator limit op.Greater a b h m d = tt
other_operator limit op.GreaterEqual a b h m d = tt

abbrev pub IsTold : Tree → Bool → Type 0
IsTold x t = x ≡ Truth t

told : (x : Tree) (t : Bool) → truth_in x ≡ Some t → IsTold x t
told (Truth b) t e = cc
told (Tree.Number k) t e = absurd (cc)
told (Tree.Field f) t e = absurd (cc)
told (Tree.First f) t e = absurd (cc)
told (Tree.Last f) t e = absurd (cc)
told (Tree.Size f) t e = absurd (cc)
told Tree.Total t e = absurd (cc)
told (Tree.Neg x) t e = absurd (cc)
told (Not x) t e = absurd (cc)
told (Binary p x y) t e = absurd (cc)

pub join_conditions : (limit : ℕ → ℕ) (o : Operator) (a b : Tree) → IsJoin o → IsCondition limit (Binary o a b) → IsCondition limit a × IsCondition limit b
join_conditions limit o a b (inl e) h = subst (λ (p : Operator). IsCondition limit (Binary p a b)) e h
join_conditions limit o a b (inr e) h = subst (λ (p : Operator). IsCondition limit (Binary p a b)) e h

compared_right : (p q : Option Bool) (t : Bool) (l r n : Type 0) → p ≡ Some t → IsCompared p q l r n → r
compared_right p q t l r n e h = subst (λ (s : Option Bool). IsCompared s q l r n) e h

compared_left : (p q : Option Bool) (t : Bool) (l r n : Type 0) → p ≡ None → q ≡ Some t → IsCompared p q l r n → l
compared_left p q t l r n e f h = subst (λ (s : Option Bool). IsCompared None s l r n) f (subst (λ (s : Option Bool). IsCompared s q l r n) e h)

compared_numbers : (p q : Option Bool) (l r n : Type 0) → p ≡ None → q ≡ None → IsCompared p q l r n → n
compared_numbers p q l r n e f h = subst (λ (s : Option Bool). IsCompared None s l r n) f (subst (λ (s : Option Bool). IsCompared s q l r n) e h)

-- the other side of a comparison with a spelled truth value
pub right_condition : (limit : ℕ → ℕ) (o : Operator) (a b : Tree) (t : Bool) → spelled_in o a ≡ Some t → IsCondition limit (Binary o a b) → IsCondition limit b
right_condition limit op.Add a b t e h = absurd (cc)
right_condition limit op.Sub a b t e h = absurd (cc)
right_condition limit op.Mul a b t e h = absurd (cc)
right_condition limit op.Div a b t e h = absurd (cc)
right_condition limit op.Mod a b t e h = absurd (cc)
right_condition limit op.And a b t e h = absurd (cc)
right_condition limit op.Or a b t e h = absurd (cc)
right_condition limit op.Equal a b t e h = compared_right _ _ t (IsCondition limit a) (IsCondition limit b) (IsNumeric a × IsNumeric b) e h
right_condition limit op.NotEqual a b t e h = compared_right _ _ t (IsCondition limit a) (IsCondition limit b) (IsNumeric a × IsNumeric b) e h
right_condition limit op.Less a b t e h = absurd (cc)
right_condition limit op.LessEqual a b t e h = absurd (cc)
right_condition limit op.Greater a b t e h = absurd (cc)
right_condition limit op.GreaterEqual a b t e h = absurd (cc)

pub left_condition : (limit : ℕ → ℕ) (o : Operator) (a b : Tree) (t : Bool) → spelled_in o a ≡ None → spelled_in o b ≡ Some t → IsCondition limit (Binary o a b) → IsCondition limit a
left_condition limit op.Add a b t e f h = absurd (cc)
left_condition limit op.Sub a b t e f h = absurd (cc)
left_condition limit op.Mul a b t e f h = absurd (cc)
left_condition limit op.Div a b t e f h = absurd (cc)
left_condition limit op.Mod a b t e f h = absurd (cc)
left_condition limit op.And a b t e f h = absurd (cc)
left_condition limit op.Or a b t e f h = absurd (cc)
left_condition limit op.Equal a b t e f h = compared_left _ _ t (IsCondition limit a) (IsCondition limit b) (IsNumeric a × IsNumeric b) e f h
left_condition limit op.NotEqual a b t e f h = compared_left _ _ t (IsCondition limit a) (IsCondition limit b) (IsNumeric a × IsNumeric b) e f h
left_condition limit op.Less a b t e f h = absurd (cc)
left_condition limit op.LessEqual a b t e f h = absurd (cc)
left_condition limit op.Greater a b t e f h = absurd (cc)
left_condition limit op.GreaterEqual a b t e f h = absurd (cc)

pub sides_numeric : (limit : ℕ → ℕ) (o : Operator) (a b : Tree) → IsComparison o → spelled_in o a ≡ None → spelled_in o b ≡ None → IsCondition limit (Binary o a b) → IsNumeric a × IsNumeric b
sides_numeric limit op.Add a b k e f h = absurd k
sides_numeric limit op.Sub a b k e f h = absurd k
sides_numeric limit op.Mul a b k e f h = absurd k
sides_numeric limit op.Div a b k e f h = absurd k
sides_numeric limit op.Mod a b k e f h = absurd k
sides_numeric limit op.And a b k e f h = absurd k
sides_numeric limit op.Or a b k e f h = absurd k
sides_numeric limit op.Equal a b k e f h = compared_numbers _ _ (IsCondition limit a) (IsCondition limit b) (IsNumeric a × IsNumeric b) e f h
sides_numeric limit op.NotEqual a b k e f h = compared_numbers _ _ (IsCondition limit a) (IsCondition limit b) (IsNumeric a × IsNumeric b) e f h
sides_numeric limit op.Less a b k e f h = h
sides_numeric limit op.LessEqual a b k e f h = h
sides_numeric limit op.Greater a b k e f h = h
sides_numeric limit op.GreaterEqual a b k e f h = h

pub leaf_code : (limit : ℕ → ℕ) (x : Expr) → IsCondition limit (tree_of x) → ((a : Box Expr Global) → x ≡ code.Not a → ⊥) → ((o : Operator) (a b : Box Expr Global) → x ≡ code.Binary o a b → ⊥) → IsTruth (tree_of x)
leaf_code limit (code.Number k) h n b = absurd h
leaf_code limit (code.Truth t) h n b = tt
leaf_code limit (code.Field f) h n b = tt
leaf_code limit (code.First f) h n b = absurd h
leaf_code limit (code.Last f) h n b = absurd h
leaf_code limit (code.Size f) h n b = absurd h
leaf_code limit code.Total h n b = absurd h
leaf_code limit (code.Neg' p a) h n b = absurd h
leaf_code limit (code.Not' p a) h n b = absurd (n _ refl)
leaf_code limit (code.Binary' o p c q d) h n b = absurd (b o _ _ refl)

-- ---- comparisons of numbers

by_sides : (o : Operator) (w : Bool) (f g : Linear) → by_differences o w (minus f g) (minus g f) ≡ comparison o w f g
by_sides op.Add w f g = refl
by_sides op.Sub w f g = refl
by_sides op.Mul w f g = refl
by_sides op.Div w f g = refl
by_sides op.Mod w f g = refl
by_sides op.And w f g = refl
by_sides op.Or w f g = refl
by_sides op.Equal w f g = refl
by_sides op.NotEqual w f g = refl
by_sides op.Less w f g = refl
by_sides op.LessEqual w f g = refl
by_sides op.Greater w f g = refl
by_sides op.GreaterEqual w f g = refl

room_test : (n : ℕ) → n ≤ 190 → (nat_le (n + 0) 190 && true) ≡ true
room_test n h = grind (arith, h)

module _ (limit : ℕ → ℕ) (fields : List Formed) where
  comparison_works : (o : Operator) (w : Bool) (a b : Tree) (old mid new : Work) (f g : Linear) (h : Form) → HasSum limit fields a old mid f → HasSum limit fields b mid new g → h ≡ by_differences o w (minus f g) (minus g f) → all_kept (differences f g) ≡ true → HasComparison limit fields o w a b old new h
  comparison_works o w a b old mid new f g h p q e k =
      let t = both_go limit fields a b old mid new p.goes q.goes in
      let r = right_value limit fields a b old mid new g p.goes q in
      let d : differences f g ≡ differences (linear fields old.next a) (linear fields (old.next + divisions_in a) b) = ap (λ (y : Linear). differences y g) p.value ∙ ap (λ (y : Linear). differences (linear fields old.next a) y) r in
      record {
        value = e ∙ by_sides o w f g ∙ ap (λ (y : Linear). comparison o w y g) p.value ∙ ap (λ (y : Linear). comparison o w (linear fields old.next a) y) r;
        next = t.next;
        rows = t.rows;
        within = Kept.on_both _ _ t.left (Kept.on_both _ _ t.right (sym (ap all_kept d) ∙ k));
      }

  pub comparison_ok : (o : Operator) (w : Bool) (a b : Tree) (old mid new : Work) (f g : Linear) (r : Result Form FormFault) → HasSum limit fields a old mid f → HasSum limit fields b mid new g → IfOk r (λ h. h ≡ by_differences o w (minus f g) (minus g f)) → OnOk r (all_kept (differences f g) ≡ true) → IfOk r (λ h. HasComparison limit fields o w a b old new h)
  comparison_ok o w a b old mid new f g (Result.Ok h) p q e k = comparison_works o w a b old mid new f g h p q e k
  comparison_ok o w a b old mid new f g (Result.Err h) p q e k = tt

  pub comparison_fails : (a b : Tree) (old mid new : Work) (f g : Linear) → HasSum limit fields a old mid f → HasSum limit fields b mid new g → all_kept (differences f g) ≡ false → sides_within fields old.next a b ≡ false
  comparison_fails a b old mid new f g p q k =
      let r = right_value limit fields a b old mid new g p.goes q in
      let d : differences f g ≡ differences (linear fields old.next a) (linear fields (old.next + divisions_in a) b) = ap (λ (y : Linear). differences y g) p.value ∙ ap (λ (y : Linear). differences (linear fields old.next a) y) r in
      Kept.off_right _ _ (Kept.off_right _ _ (sym (ap all_kept d) ∙ k))

  pub comparison_left_fails : (a b : Tree) (n : ℕ) → is_within fields n a ≡ false → sides_within fields n a b ≡ false
  comparison_left_fails a b n h = Kept.off_left _ _ h

  pub comparison_right_fails : (a b : Tree) (old mid : Work) → Goes limit fields a old mid → is_within fields mid.next b ≡ false → sides_within fields old.next a b ≡ false
  comparison_right_fails a b old mid p h = Kept.off_right _ _ (Kept.off_left _ _ (sym (ap (λ (k : ℕ). is_within fields k b) p.next) ∙ h))

  compared_works : (o : Operator) (w : Bool) (a b : Tree) (old new : Work) (f : Form) → IsComparison o → spelled_in o a ≡ None → spelled_in o b ≡ None → HasComparison limit fields o w a b old new f → HasFact limit fields w (Binary o a b) old new f
  compared_works op.Add w a b old new f k d e p = absurd k
  compared_works op.Sub w a b old new f k d e p = absurd k
  compared_works op.Mul w a b old new f k d e p = absurd k
  compared_works op.Div w a b old new f k d e p = absurd k
  compared_works op.Mod w a b old new f k d e p = absurd k
  compared_works op.And w a b old new f k d e p = absurd k
  compared_works op.Or w a b old new f k d e p = absurd k
  compared_works op.Equal w a b old new f k d e p = record { value = p.value ∙ sym (Spelled.numbers_equal limit fields old.next true w a b d e); goes = record { next = p.next; rows = p.rows; within = Kept.within_equal fields old.next a b d e ∙ p.within } }
  compared_works op.NotEqual w a b old new f k d e p = record { value = p.value ∙ sym (Spelled.numbers_not_equal limit fields old.next true w a b d e); goes = record { next = p.next; rows = p.rows; within = Kept.within_not_equal fields old.next a b d e ∙ p.within } }
  compared_works op.Less w a b old new f k d e p = record { value = p.value; goes = record { next = p.next; rows = p.rows; within = Kept.within_less fields old.next a b ∙ p.within } }
  compared_works op.LessEqual w a b old new f k d e p = record { value = p.value; goes = record { next = p.next; rows = p.rows; within = Kept.within_less_equal fields old.next a b ∙ p.within } }
  compared_works op.Greater w a b old new f k d e p = record { value = p.value; goes = record { next = p.next; rows = p.rows; within = Kept.within_greater fields old.next a b ∙ p.within } }
  compared_works op.GreaterEqual w a b old new f k d e p = record { value = p.value; goes = record { next = p.next; rows = p.rows; within = Kept.within_greater_equal fields old.next a b ∙ p.within } }

  compared_within : (o : Operator) (a b : Tree) (n : ℕ) → IsComparison o → spelled_in o a ≡ None → spelled_in o b ≡ None → is_within fields n (Binary o a b) ≡ sides_within fields n a b
  compared_within op.Add a b n k d e = absurd k
  compared_within op.Sub a b n k d e = absurd k
  compared_within op.Mul a b n k d e = absurd k
  compared_within op.Div a b n k d e = absurd k
  compared_within op.Mod a b n k d e = absurd k
  compared_within op.And a b n k d e = absurd k
  compared_within op.Or a b n k d e = absurd k
  compared_within op.Equal a b n k d e = Kept.within_equal fields n a b d e
  compared_within op.NotEqual a b n k d e = Kept.within_not_equal fields n a b d e
  compared_within op.Less a b n k d e = Kept.within_less fields n a b
  compared_within op.LessEqual a b n k d e = Kept.within_less_equal fields n a b
  compared_within op.Greater a b n k d e = Kept.within_greater fields n a b
  compared_within op.GreaterEqual a b n k d e = Kept.within_greater_equal fields n a b

  pub compared_ok : (x : Tree) (o : Operator) (w : Bool) (a b : Tree) (old new : Work) (r : Result Form FormFault) → x ≡ Binary o a b → IsComparison o → spelled_in o a ≡ None → spelled_in o b ≡ None → IfOk r (λ f. HasComparison limit fields o w a b old new f) → IfOk r (λ f. HasFact limit fields w x old new f)
  compared_ok x o w a b old new (Result.Ok f) c k d e p = subst (λ (y : Tree). HasFact limit fields w y old new f) (sym c) (compared_works o w a b old new f k d e p)
  compared_ok x o w a b old new (Result.Err f) c k d e p = tt

  pub compared_fails : (x : Tree) (o : Operator) (a b : Tree) (n : ℕ) → x ≡ Binary o a b → IsComparison o → spelled_in o a ≡ None → spelled_in o b ≡ None → sides_within fields n a b ≡ false → is_within fields n x ≡ false
  compared_fails x o a b n c k d e h = ap (λ (y : Tree). is_within fields n y) c ∙ compared_within o a b n k d e ∙ h

  -- ---- comparisons with a spelled truth value

  right_works : (o : Operator) (w t : Bool) (a b : Tree) (old new : Work) (f : Form) → spelled_in o a ≡ Some t → HasFact limit fields (agreed o w t) b old new f → HasFact limit fields w (Binary o a b) old new f
  right_works op.Add w t a b old new f e p = absurd (cc)
  right_works op.Sub w t a b old new f e p = absurd (cc)
  right_works op.Mul w t a b old new f e p = absurd (cc)
  right_works op.Div w t a b old new f e p = absurd (cc)
  right_works op.Mod w t a b old new f e p = absurd (cc)
  right_works op.And w t a b old new f e p = absurd (cc)
  right_works op.Or w t a b old new f e p = absurd (cc)
  right_works op.Equal w t a b old new f e p = subst (λ (y : Tree). HasFact limit fields w (Binary op.Equal y b) old new f) (sym (told a t e)) (record { value = p.value ∙ sym (Spelled.right_equal limit fields old.next t w b); goes = record { next = p.goes.next ∙ sym (Spelled.nothing_more old.next (divisions_in b)); rows = p.goes.rows ∙ sym (ap (λ (rs : List Linear). old.rows ++ rs) (Spelled.right_rows_equal limit fields old.next t b)); within = Spelled.right_within_equal limit fields old.next t b ∙ p.goes.within } })
  right_works op.NotEqual w t a b old new f e p = subst (λ (y : Tree). HasFact limit fields w (Binary op.NotEqual y b) old new f) (sym (told a t e)) (record { value = p.value ∙ sym (Spelled.right_not_equal limit fields old.next t w b); goes = record { next = p.goes.next ∙ sym (Spelled.nothing_more old.next (divisions_in b)); rows = p.goes.rows ∙ sym (ap (λ (rs : List Linear). old.rows ++ rs) (Spelled.right_rows_not_equal limit fields old.next t b)); within = Spelled.right_within_not_equal limit fields old.next t b ∙ p.goes.within } })
  right_works op.Less w t a b old new f e p = absurd (cc)
  right_works op.LessEqual w t a b old new f e p = absurd (cc)
  right_works op.Greater w t a b old new f e p = absurd (cc)
  right_works op.GreaterEqual w t a b old new f e p = absurd (cc)

  right_within : (o : Operator) (t : Bool) (a b : Tree) (n : ℕ) → spelled_in o a ≡ Some t → is_within fields n (Binary o a b) ≡ is_within fields n b
  right_within op.Add t a b n e = absurd (cc)
  right_within op.Sub t a b n e = absurd (cc)
  right_within op.Mul t a b n e = absurd (cc)
  right_within op.Div t a b n e = absurd (cc)
  right_within op.Mod t a b n e = absurd (cc)
  right_within op.And t a b n e = absurd (cc)
  right_within op.Or t a b n e = absurd (cc)
  right_within op.Equal t a b n e = ap (λ (y : Tree). is_within fields n (Binary op.Equal y b)) (told a t e) ∙ Spelled.right_within_equal limit fields n t b
  right_within op.NotEqual t a b n e = ap (λ (y : Tree). is_within fields n (Binary op.NotEqual y b)) (told a t e) ∙ Spelled.right_within_not_equal limit fields n t b
  right_within op.Less t a b n e = absurd (cc)
  right_within op.LessEqual t a b n e = absurd (cc)
  right_within op.Greater t a b n e = absurd (cc)
  right_within op.GreaterEqual t a b n e = absurd (cc)

  pub right_ok : (x : Tree) (o : Operator) (w t : Bool) (a b : Tree) (old new : Work) (r : Result Form FormFault) → x ≡ Binary o a b → spelled_in o a ≡ Some t → IfOk r (λ f. HasFact limit fields (agreed o w t) b old new f) → IfOk r (λ f. HasFact limit fields w x old new f)
  right_ok x o w t a b old new (Result.Ok f) c e p = subst (λ (y : Tree). HasFact limit fields w y old new f) (sym c) (right_works o w t a b old new f e p)
  right_ok x o w t a b old new (Result.Err f) c e p = tt

  pub right_fails : (x : Tree) (o : Operator) (t : Bool) (a b : Tree) (n : ℕ) → x ≡ Binary o a b → spelled_in o a ≡ Some t → is_within fields n b ≡ false → is_within fields n x ≡ false
  right_fails x o t a b n c e h = ap (λ (y : Tree). is_within fields n y) c ∙ right_within o t a b n e ∙ h

  left_works : (o : Operator) (w t : Bool) (a b : Tree) (old new : Work) (f : Form) → spelled_in o a ≡ None → spelled_in o b ≡ Some t → HasFact limit fields (agreed o w t) a old new f → HasFact limit fields w (Binary o a b) old new f
  left_works op.Add w t a b old new f d e p = absurd (cc)
  left_works op.Sub w t a b old new f d e p = absurd (cc)
  left_works op.Mul w t a b old new f d e p = absurd (cc)
  left_works op.Div w t a b old new f d e p = absurd (cc)
  left_works op.Mod w t a b old new f d e p = absurd (cc)
  left_works op.And w t a b old new f d e p = absurd (cc)
  left_works op.Or w t a b old new f d e p = absurd (cc)
  left_works op.Equal w t a b old new f d e p = subst (λ (y : Tree). HasFact limit fields w (Binary op.Equal a y) old new f) (sym (told b t e)) (record { value = p.value ∙ sym (Spelled.left_equal limit fields old.next t w a d); goes = record { next = p.goes.next ∙ sym (Spelled.nothing_behind old.next (divisions_in a)); rows = p.goes.rows ∙ sym (ap (λ (rs : List Linear). old.rows ++ rs) (Spelled.left_rows_equal limit fields old.next t a)); within = Spelled.left_within_equal limit fields old.next t a d ∙ p.goes.within } })
  left_works op.NotEqual w t a b old new f d e p = subst (λ (y : Tree). HasFact limit fields w (Binary op.NotEqual a y) old new f) (sym (told b t e)) (record { value = p.value ∙ sym (Spelled.left_not_equal limit fields old.next t w a d); goes = record { next = p.goes.next ∙ sym (Spelled.nothing_behind old.next (divisions_in a)); rows = p.goes.rows ∙ sym (ap (λ (rs : List Linear). old.rows ++ rs) (Spelled.left_rows_not_equal limit fields old.next t a)); within = Spelled.left_within_not_equal limit fields old.next t a d ∙ p.goes.within } })
  left_works op.Less w t a b old new f d e p = absurd (cc)
  left_works op.LessEqual w t a b old new f d e p = absurd (cc)
  left_works op.Greater w t a b old new f d e p = absurd (cc)
  left_works op.GreaterEqual w t a b old new f d e p = absurd (cc)

  left_within : (o : Operator) (t : Bool) (a b : Tree) (n : ℕ) → spelled_in o a ≡ None → spelled_in o b ≡ Some t → is_within fields n (Binary o a b) ≡ is_within fields n a
  left_within op.Add t a b n d e = absurd (cc)
  left_within op.Sub t a b n d e = absurd (cc)
  left_within op.Mul t a b n d e = absurd (cc)
  left_within op.Div t a b n d e = absurd (cc)
  left_within op.Mod t a b n d e = absurd (cc)
  left_within op.And t a b n d e = absurd (cc)
  left_within op.Or t a b n d e = absurd (cc)
  left_within op.Equal t a b n d e = ap (λ (y : Tree). is_within fields n (Binary op.Equal a y)) (told b t e) ∙ Spelled.left_within_equal limit fields n t a d
  left_within op.NotEqual t a b n d e = ap (λ (y : Tree). is_within fields n (Binary op.NotEqual a y)) (told b t e) ∙ Spelled.left_within_not_equal limit fields n t a d
  left_within op.Less t a b n d e = absurd (cc)
  left_within op.LessEqual t a b n d e = absurd (cc)
  left_within op.Greater t a b n d e = absurd (cc)
  left_within op.GreaterEqual t a b n d e = absurd (cc)

  pub left_ok : (x : Tree) (o : Operator) (w t : Bool) (a b : Tree) (old new : Work) (r : Result Form FormFault) → x ≡ Binary o a b → spelled_in o a ≡ None → spelled_in o b ≡ Some t → IfOk r (λ f. HasFact limit fields (agreed o w t) a old new f) → IfOk r (λ f. HasFact limit fields w x old new f)
  left_ok x o w t a b old new (Result.Ok f) c d e p = subst (λ (y : Tree). HasFact limit fields w y old new f) (sym c) (left_works o w t a b old new f d e p)
  left_ok x o w t a b old new (Result.Err f) c d e p = tt

  pub left_fails : (x : Tree) (o : Operator) (t : Bool) (a b : Tree) (n : ℕ) → x ≡ Binary o a b → spelled_in o a ≡ None → spelled_in o b ≡ Some t → is_within fields n a ≡ false → is_within fields n x ≡ false
  left_fails x o t a b n c d e h = ap (λ (y : Tree). is_within fields n y) c ∙ left_within o t a b n d e ∙ h

  -- ---- `and`, `or`, `not` and leaves

  join_goes : (o : Operator) (w : Bool) (a b : Tree) (old mid new : Work) (f g h : Form) → IsJoin o → HasFact limit fields w a old mid f → HasFact limit fields w b mid new g → h ≡ joined (takes_all o w) f g → HasFact limit fields w (Binary o a b) old new h
  join_goes o w a b old mid new f g h (inl e) p q v =
      let t = both_go limit fields a b old mid new p.goes q.goes in
      subst (λ (s : Operator). HasFact limit fields w (Binary s a b) old new h) (sym e) (record {
        value = v ∙ ap (λ (s : Operator). joined (takes_all s w) f g) e ∙ ap (λ (y : Form). joined w y g) p.value ∙ ap (λ (y : Form). joined w (condition fields old.next w a) y) (q.value ∙ ap (λ (k : ℕ). condition fields k w b) p.goes.next);
        goes = record { next = t.next; rows = t.rows; within = Kept.within_and fields old.next a b ∙ Kept.on_both _ _ t.left t.right };
      })
  join_goes o w a b old mid new f g h (inr e) p q v =
      let t = both_go limit fields a b old mid new p.goes q.goes in
      subst (λ (s : Operator). HasFact limit fields w (Binary s a b) old new h) (sym e) (record {
        value = v ∙ ap (λ (s : Operator). joined (takes_all s w) f g) e ∙ ap (λ (y : Form). joined (not w) y g) p.value ∙ ap (λ (y : Form). joined (not w) (condition fields old.next w a) y) (q.value ∙ ap (λ (k : ℕ). condition fields k w b) p.goes.next);
        goes = record { next = t.next; rows = t.rows; within = Kept.within_or fields old.next a b ∙ Kept.on_both _ _ t.left t.right };
      })

  pub join_works : (x : Tree) (o : Operator) (w : Bool) (a b : Tree) (old mid new : Work) (f g h : Form) → x ≡ Binary o a b → IsJoin o → HasFact limit fields w a old mid f → HasFact limit fields w b mid new g → h ≡ joined (takes_all o w) f g → HasFact limit fields w x old new h
  join_works x o w a b old mid new f g h c k p q v = subst (λ (y : Tree). HasFact limit fields w y old new h) (sym c) (join_goes o w a b old mid new f g h k p q v)

  join_within : (o : Operator) (a b : Tree) (n : ℕ) → IsJoin o → is_within fields n (Binary o a b) ≡ (is_within fields n a && is_within fields (n + divisions_in a) b)
  join_within o a b n (inl e) = ap (λ (s : Operator). is_within fields n (Binary s a b)) e ∙ Kept.within_and fields n a b
  join_within o a b n (inr e) = ap (λ (s : Operator). is_within fields n (Binary s a b)) e ∙ Kept.within_or fields n a b

  pub join_left_fails : (x : Tree) (o : Operator) (a b : Tree) (n : ℕ) → x ≡ Binary o a b → IsJoin o → is_within fields n a ≡ false → is_within fields n x ≡ false
  join_left_fails x o a b n c k h = ap (λ (y : Tree). is_within fields n y) c ∙ join_within o a b n k ∙ Kept.off_left _ _ h

  pub join_right_fails : (x : Tree) (o : Operator) (a b : Tree) (old mid : Work) → x ≡ Binary o a b → IsJoin o → Goes limit fields a old mid → is_within fields mid.next b ≡ false → is_within fields old.next x ≡ false
  join_right_fails x o a b old mid c k p h = ap (λ (y : Tree). is_within fields old.next y) c ∙ join_within o a b old.next k ∙ Kept.off_right _ _ (sym (ap (λ (j : ℕ). is_within fields j b) p.next) ∙ h)

  not_works : (w : Bool) (a : Tree) (old new : Work) (f : Form) → HasFact limit fields (not w) a old new f → HasFact limit fields w (Not a) old new f
  not_works w a old new f p = record { value = p.value; goes = record { next = p.goes.next; rows = p.goes.rows; within = p.goes.within } }

  pub not_ok : (x : Tree) (w : Bool) (a : Tree) (old new : Work) (r : Result Form FormFault) → x ≡ Not a → IfOk r (λ f. HasFact limit fields (not w) a old new f) → IfOk r (λ f. HasFact limit fields w x old new f)
  not_ok x w a old new (Result.Ok f) c p = subst (λ (y : Tree). HasFact limit fields w y old new f) (sym c) (not_works w a old new f p)
  not_ok x w a old new (Result.Err f) c p = tt

  pub leaf_works : (x : Tree) (w : Bool) (old : Work) (f : Form) → IsTruth x → old.next ≤ 190 → f ≡ condition fields old.next w x → HasFact limit fields w x old old f
  leaf_works (Truth t) w old f k h e = record { value = e; goes = record { next = sym (Spelled.from_here old.next); rows = sym (append-nil old.rows); within = room_test old.next h } }
  leaf_works (Tree.Field g) w old f k h e = record { value = e; goes = record { next = sym (Spelled.from_here old.next); rows = sym (append-nil old.rows); within = room_test old.next h } }
  leaf_works (Tree.Number z) w old f k h e = absurd k
  leaf_works (Tree.First g) w old f k h e = absurd k
  leaf_works (Tree.Last g) w old f k h e = absurd k
  leaf_works (Tree.Size g) w old f k h e = absurd k
  leaf_works Tree.Total w old f k h e = absurd k
  leaf_works (Tree.Neg a) w old f k h e = absurd k
  leaf_works (Not a) w old f k h e = absurd k
  leaf_works (Binary o a b) w old f k h e = absurd k
