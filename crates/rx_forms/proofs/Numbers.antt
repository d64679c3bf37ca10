-- The sums of expressions by the sums of their operands, and where they pass the path limit.
use Rattle.std.proofs.Common.{◌≡◌, refl, sym, ap, ◌∙◌, subst, ℕ, ◌+◌, ◌≤◌, arith, List, ◌++◌, Bool, true, false, ◌&&◌, if◌then◌else◌, nat_le, ℤ, pos, negsuc, ◌<ℤ◌, append_assoc, IfOk, OnOk, Result, ◌⊎◌, inl, inr}
use Rattle.std.proofs.Common.{Box, Global}
use Rattle.rx_types.specs.declared.expr.Expr.{Expr}
use Rattle.rx_types.specs.declared.expr.Expr.TheVariants as code
use Rattle.rx_types.specs.declared.expr.Operator.{Operator}
use Rattle.rx_types.specs.declared.expr.Operator.TheVariants as op
use Rattle.rx_types.specs.Tree.{Tree, tree_of, Neg, Binary}
use Rattle.rx_types.specs.Narrow.{interval_of}
use Rattle.rx_types.specs.Static.{is_static, static_value}
use Rattle.rx_forms.specs.declared.fault.FormFault.{FormFault}
use Rattle.rx_forms.specs.declared.linear.Linear.{Linear}
use Rattle.rx_forms.specs.declared.work.Work.{Work}
use Rattle.rx_forms.specs.Linear.{term, minus, times}
use Rattle.rx_forms.specs.Normal.{Formed, linear, divisions_in, IsNumeric}
use Rattle.rx_forms.specs.Divisions.{division_rows, divisions}
use Rattle.rx_forms.specs.Limits.{has_words, divided, all_kept, is_within}
use Rattle.rx_forms.specs.Expressions.{Goes, HasSum, sum_by, divided_by, IsLeaf}
use Rattle.rx_forms.proofs.Kept
use Rattle.rx_forms.proofs.Tests.{both}
use Rattle.rx_forms.proofs.Working.{add_works, sub_works, neg_works, right_value}
use Rattle.rx_forms.proofs.Reaching.{both_ok}

-- ---- operators

abbrev pub IsSum : Operator → Type 0
IsSum o = (o ≡ op.Add) ⊎ (o ≡ op.Sub)

abbrev pub IsDivision : Operator → Type 0
IsDivision o = (o ≡ op.Div) ⊎ (o ≡ op.Mod)

pub sum_operator : (o : Operator) (a b : Tree) → IsNumeric (Binary o a b) → (o ≡ op.Mul → ⊥) → (o ≡ op.Div → ⊥) → (o ≡ op.Mod → ⊥) → IsSum o
sum_operator op.Add a b h m d r = inl refl
sum_operator op.Sub a b h m d r = inr refl
sum_operator op.Mul a b h m d r = absurd (m refl)
sum_operator op.Div a b h m d r = absurd (d refl)
sum_operator op.Mod a b h m d r = absurd (r refl)
sum_operator op.And a b h m d r = absurd h
sum_operator op.Or a b h m d r = absurd h
sum_operator op.Equal a b h m d r = absurd h
sum_operator op.NotEqual a b h m d r = absurd h
sum_operator op.Less a b h m d r = absurd h
sum_operator op.LessEqual a b h m d r = absurd h
sum_operator op.Greater a b h m d r = absurd h
sum_operator op.GreaterEqual a b h m d r = absurd h

pub sum_numeric : (o : Operator) (a b : Tree) → IsSum o → IsNumeric (Binary o a b) → IsNumeric a × IsNumeric b
sum_numeric o a b (inl e) h = subst (λ (p : Operator). IsNumeric (Binary p a b)) e h
sum_numeric o a b (inr e) h = subst (λ (p : Operator). IsNumeric (Binary p a b)) e h

pub division_numeric : (o : Operator) (a b : Tree) → IsDivision o → IsNumeric (Binary o a b) → IsNumeric a × (is_static b ≡ true) × (pos 0 <ℤ static_value b)
division_numeric o a b (inl e) h = subst (λ (p : Operator). IsNumeric (Binary p a b)) e h
division_numeric o a b (inr e) h = subst (λ (p : Operator). IsNumeric (Binary p a b)) e h

pub leaf_code : (x : Expr) → IsNumeric (tree_of x) → ((a : Box Expr Global) → x ≡ code.Neg a → ⊥) → ((o : Operator) (a b : Box Expr Global) → x ≡ code.Binary o a b → ⊥) → IsLeaf (tree_of x)
leaf_code (code.Number k) h n b = tt
leaf_code (code.Truth t) h n b = absurd h
leaf_code (code.Field f) h n b = tt
leaf_code (code.First f) h n b = tt
leaf_code (code.Last f) h n b = tt
leaf_code (code.Size f) h n b = tt
leaf_code code.Total h n b = tt
leaf_code (code.Neg' p a) h n b = absurd (n _ refl)
leaf_code (code.Not' p a) h n b = absurd h
leaf_code (code.Binary' o p c q d) h n b = absurd (b o _ _ refl)

pub same_parts : (o : Operator) (l k r s : Expr) → l ≡ k → r ≡ s → Binary o (tree_of k) (tree_of s) ≡ Binary o (tree_of l) (tree_of r)
same_parts o l k r s p q = sym (ap (λ (y : Expr). Binary o (tree_of y) (tree_of r)) p ∙ ap (λ (y : Expr). Binary o (tree_of k) (tree_of y)) q)

module _ (limit : ℕ → ℕ) (fields : List Formed) where
  pub room_after : (a : Tree) (old new : Work) → Goes limit fields a old new → new.next ≤ 190
  room_after a old new p = let t = (both {a = nat_le (old.next + divisions_in a) 190} p.within).0 in let e = p.next in grind (arith, t, e)

  -- what fails in the right operand, behind the left one
  pub behind : (a b : Tree) (old mid : Work) → Goes limit fields a old mid → is_within fields mid.next b ≡ false → is_within fields (old.next + divisions_in a) b ≡ false
  behind a b old mid p h = sym (ap (λ (k : ℕ). is_within fields k b) p.next) ∙ h

  -- ---- negations

  pub neg_ok : (x a : Tree) (old new : Work) (f : Linear) (r : Result Linear FormFault) → x ≡ Neg a → HasSum limit fields a old new f → IfOk r (λ h. h ≡ times (negsuc 0) f) → OnOk r (has_words (times (negsuc 0) f) ≡ true) → IfOk r (λ h. HasSum limit fields x old new h)
  neg_ok x a old new f r e p v w = subst (λ (y : Tree). IfOk r (λ h. HasSum limit fields y old new h)) (sym e) (both_ok r (λ h. h ≡ times (negsuc 0) f) (λ h. HasSum limit fields (Neg a) old new h) (has_words (times (negsuc 0) f) ≡ true) (λ h u. neg_works limit fields a old new f h p u) v w)

  pub neg_fails : (x a : Tree) (old new : Work) (f : Linear) → x ≡ Neg a → HasSum limit fields a old new f → has_words (times (negsuc 0) f) ≡ false → is_within fields old.next x ≡ false
  neg_fails x a old new f e p h = ap (λ (y : Tree). is_within fields old.next y) e ∙ Kept.within_neg fields old.next a ∙ Kept.off_right _ _ (sym (ap (λ (g : Linear). has_words (times (negsuc 0) g)) p.value) ∙ h)

  pub neg_part_fails : (x a : Tree) (n : ℕ) → x ≡ Neg a → is_within fields n a ≡ false → is_within fields n x ≡ false
  neg_part_fails x a n e h = ap (λ (y : Tree). is_within fields n y) e ∙ Kept.within_neg fields n a ∙ Kept.off_left _ _ h

  -- ---- sums

  sum_works : (o : Operator) (a b : Tree) (old mid new : Work) (f g h : Linear) → IsSum o → HasSum limit fields a old mid f → HasSum limit fields b mid new g → h ≡ sum_by o f g → has_words (sum_by o f g) ≡ true → HasSum limit fields (Binary o a b) old new h
  sum_works o a b old mid new f g h (inl e) p q v w =
      subst (λ (s : Operator). HasSum limit fields (Binary s a b) old new h) (sym e) (add_works limit fields a b old mid new f g h p q (v ∙ ap (λ (s : Operator). sum_by s f g) e) (sym (ap (λ (s : Operator). has_words (sum_by s f g)) e) ∙ w))
  sum_works o a b old mid new f g h (inr e) p q v w =
      subst (λ (s : Operator). HasSum limit fields (Binary s a b) old new h) (sym e) (sub_works limit fields a b old mid new f g h p q (v ∙ ap (λ (s : Operator). sum_by s f g) e) (sym (ap (λ (s : Operator). has_words (sum_by s f g)) e) ∙ w))

  pub sum_ok : (x : Tree) (o : Operator) (a b : Tree) (old mid new : Work) (f g : Linear) (r : Result Linear FormFault) → x ≡ Binary o a b → IsSum o → HasSum limit fields a old mid f → HasSum limit fields b mid new g → IfOk r (λ h. h ≡ sum_by o f g) → OnOk r (has_words (sum_by o f g) ≡ true) → IfOk r (λ h. HasSum limit fields x old new h)
  sum_ok x o a b old mid new f g r e s p q v w = subst (λ (y : Tree). IfOk r (λ h. HasSum limit fields y old new h)) (sym e) (both_ok r (λ h. h ≡ sum_by o f g) (λ h. HasSum limit fields (Binary o a b) old new h) (has_words (sum_by o f g) ≡ true) (λ h u. sum_works o a b old mid new f g h s p q u) v w)

  within_sum : (o : Operator) (a b : Tree) (n : ℕ) → IsSum o → is_within fields n (Binary o a b) ≡ (is_within fields n a && (is_within fields (n + divisions_in a) b && has_words (sum_by o (linear fields n a) (linear fields (n + divisions_in a) b))))
  within_sum o a b n (inl e) = subst (λ (s : Operator). is_within fields n (Binary s a b) ≡ (is_within fields n a && (is_within fields (n + divisions_in a) b && has_words (sum_by s (linear fields n a) (linear fields (n + divisions_in a) b))))) (sym e) (Kept.within_add fields n a b)
  within_sum o a b n (inr e) = subst (λ (s : Operator). is_within fields n (Binary s a b) ≡ (is_within fields n a && (is_within fields (n + divisions_in a) b && has_words (sum_by s (linear fields n a) (linear fields (n + divisions_in a) b))))) (sym e) (Kept.within_sub fields n a b)

  pub sum_fails : (x : Tree) (o : Operator) (a b : Tree) (old mid new : Work) (f g : Linear) → x ≡ Binary o a b → IsSum o → HasSum limit fields a old mid f → HasSum limit fields b mid new g → has_words (sum_by o f g) ≡ false → is_within fields old.next x ≡ false
  sum_fails x o a b old mid new f g e s p q h =
      let v : sum_by o f g ≡ sum_by o (linear fields old.next a) (linear fields (old.next + divisions_in a) b) = ap (λ (y : Linear). sum_by o y g) p.value ∙ ap (λ (y : Linear). sum_by o (linear fields old.next a) y) (right_value limit fields a b old mid new g p.goes q) in
      ap (λ (y : Tree). is_within fields old.next y) e ∙ within_sum o a b old.next s ∙ Kept.off_right _ _ (Kept.off_right _ _ (sym (ap has_words v) ∙ h))

  pub sum_left_fails : (x : Tree) (o : Operator) (a b : Tree) (n : ℕ) → x ≡ Binary o a b → IsSum o → is_within fields n a ≡ false → is_within fields n x ≡ false
  sum_left_fails x o a b n e s h = ap (λ (y : Tree). is_within fields n y) e ∙ within_sum o a b n s ∙ Kept.off_left _ _ h

  pub sum_right_fails : (x : Tree) (o : Operator) (a b : Tree) (n : ℕ) → x ≡ Binary o a b → IsSum o → is_within fields (n + divisions_in a) b ≡ false → is_within fields n x ≡ false
  sum_right_fails x o a b n e s h = ap (λ (y : Tree). is_within fields n y) e ∙ within_sum o a b n s ∙ Kept.off_right _ _ (Kept.off_left _ _ h)

  -- ---- products

  product_of : (a b : Tree) (n : ℕ) (t : Bool) → is_static a ≡ t → linear fields n (Binary op.Mul a b) ≡ (if t then times (static_value a) (linear fields n b) else times (static_value b) (linear fields n a))
  product_of a b n t s = ap (λ (u : Bool). if u then times (static_value a) (linear fields n b) else times (static_value b) (linear fields n a)) s

  product_goes : (a b : Tree) (old new : Work) (t : Bool) → is_static a ≡ t → Goes limit fields (if t then b else a) old new → has_words (linear fields old.next (Binary op.Mul a b)) ≡ true → Goes limit fields (Binary op.Mul a b) old new
  product_goes a b old new true s p w = record {
    next = p.next ∙ sym (ap (λ (u : Bool). old.next + (if u then divisions_in b else divisions_in a)) s);
    rows = p.rows ∙ sym (ap (λ (u : Bool). old.rows ++ (if u then divisions limit fields old.next b else divisions limit fields old.next a)) s);
    within = Kept.within_mul fields old.next a b ∙ Kept.on_both _ _ (ap (λ (u : Bool). if u then is_within fields old.next b else is_within fields old.next a) s ∙ p.within) w;
  }
  product_goes a b old new false s p w = record {
    next = p.next ∙ sym (ap (λ (u : Bool). old.next + (if u then divisions_in b else divisions_in a)) s);
    rows = p.rows ∙ sym (ap (λ (u : Bool). old.rows ++ (if u then divisions limit fields old.next b else divisions limit fields old.next a)) s);
    within = Kept.within_mul fields old.next a b ∙ Kept.on_both _ _ (ap (λ (u : Bool). if u then is_within fields old.next b else is_within fields old.next a) s ∙ p.within) w;
  }

  mul_right_works : (a b : Tree) (old new : Work) (f h : Linear) → is_static a ≡ true → HasSum limit fields b old new f → h ≡ times (static_value a) f → has_words (times (static_value a) f) ≡ true → HasSum limit fields (Binary op.Mul a b) old new h
  mul_right_works a b old new f h s p e w =
      let v : times (static_value a) f ≡ linear fields old.next (Binary op.Mul a b) = ap (λ (g : Linear). times (static_value a) g) p.value ∙ sym (product_of a b old.next true s) in
      record { value = e ∙ v; goes = product_goes a b old new true s p.goes (sym (ap has_words v) ∙ w) }

  mul_left_works : (a b : Tree) (old new : Work) (f h : Linear) → is_static a ≡ false → HasSum limit fields a old new f → h ≡ times (static_value b) f → has_words (times (static_value b) f) ≡ true → HasSum limit fields (Binary op.Mul a b) old new h
  mul_left_works a b old new f h s p e w =
      let v : times (static_value b) f ≡ linear fields old.next (Binary op.Mul a b) = ap (λ (g : Linear). times (static_value b) g) p.value ∙ sym (product_of a b old.next false s) in
      record { value = e ∙ v; goes = product_goes a b old new false s p.goes (sym (ap has_words v) ∙ w) }

  pub mul_right_ok : (x a b : Tree) (old new : Work) (f : Linear) (r : Result Linear FormFault) → x ≡ Binary op.Mul a b → is_static a ≡ true → HasSum limit fields b old new f → IfOk r (λ h. h ≡ times (static_value a) f) → OnOk r (has_words (times (static_value a) f) ≡ true) → IfOk r (λ h. HasSum limit fields x old new h)
  mul_right_ok x a b old new f r e s p v w = subst (λ (y : Tree). IfOk r (λ h. HasSum limit fields y old new h)) (sym e) (both_ok r (λ h. h ≡ times (static_value a) f) (λ h. HasSum limit fields (Binary op.Mul a b) old new h) (has_words (times (static_value a) f) ≡ true) (λ h u. mul_right_works a b old new f h s p u) v w)

  pub mul_left_ok : (x a b : Tree) (old new : Work) (f : Linear) (r : Result Linear FormFault) → x ≡ Binary op.Mul a b → is_static a ≡ false → HasSum limit fields a old new f → IfOk r (λ h. h ≡ times (static_value b) f) → OnOk r (has_words (times (static_value b) f) ≡ true) → IfOk r (λ h. HasSum limit fields x old new h)
  mul_left_ok x a b old new f r e s p v w = subst (λ (y : Tree). IfOk r (λ h. HasSum limit fields y old new h)) (sym e) (both_ok r (λ h. h ≡ times (static_value b) f) (λ h. HasSum limit fields (Binary op.Mul a b) old new h) (has_words (times (static_value b) f) ≡ true) (λ h u. mul_left_works a b old new f h s p u) v w)

  pub mul_right_fails : (x a b : Tree) (old new : Work) (f : Linear) → x ≡ Binary op.Mul a b → is_static a ≡ true → HasSum limit fields b old new f → has_words (times (static_value a) f) ≡ false → is_within fields old.next x ≡ false
  mul_right_fails x a b old new f e s p h =
      let v : times (static_value a) f ≡ linear fields old.next (Binary op.Mul a b) = ap (λ (g : Linear). times (static_value a) g) p.value ∙ sym (product_of a b old.next true s) in
      ap (λ (y : Tree). is_within fields old.next y) e ∙ Kept.within_mul fields old.next a b ∙ Kept.off_right _ _ (sym (ap has_words v) ∙ h)

  pub mul_left_fails : (x a b : Tree) (old new : Work) (f : Linear) → x ≡ Binary op.Mul a b → is_static a ≡ false → HasSum limit fields a old new f → has_words (times (static_value b) f) ≡ false → is_within fields old.next x ≡ false
  mul_left_fails x a b old new f e s p h =
      let v : times (static_value b) f ≡ linear fields old.next (Binary op.Mul a b) = ap (λ (g : Linear). times (static_value b) g) p.value ∙ sym (product_of a b old.next false s) in
      ap (λ (y : Tree). is_within fields old.next y) e ∙ Kept.within_mul fields old.next a b ∙ Kept.off_right _ _ (sym (ap has_words v) ∙ h)

  pub mul_part_fails : (x a b : Tree) (n : ℕ) (t : Bool) → x ≡ Binary op.Mul a b → is_static a ≡ t → is_within fields n (if t then b else a) ≡ false → is_within fields n x ≡ false
  mul_part_fails x a b n true e s h = ap (λ (y : Tree). is_within fields n y) e ∙ Kept.within_mul fields n a b ∙ Kept.off_left _ _ (ap (λ (u : Bool). if u then is_within fields n b else is_within fields n a) s ∙ h)
  mul_part_fails x a b n false e s h = ap (λ (y : Tree). is_within fields n y) e ∙ Kept.within_mul fields n a b ∙ Kept.off_left _ _ (ap (λ (u : Bool). if u then is_within fields n b else is_within fields n a) s ∙ h)

  -- ---- divisions

  division_within : (o : Operator) (a b : Tree) (n : ℕ) → IsDivision o → is_within fields n (Binary o a b) ≡ (is_within fields n a && (nat_le (n + divisions_in a + 1) 190 && all_kept (divided (n + divisions_in a) (linear fields n a) (static_value b))))
  division_within o a b n (inl e) = ap (λ (s : Operator). is_within fields n (Binary s a b)) e ∙ Kept.within_div fields n a b
  division_within o a b n (inr e) = ap (λ (s : Operator). is_within fields n (Binary s a b)) e ∙ Kept.within_mod fields n a b

  -- what the division meets, by what was worked out of its left operand
  division_meets : (a : Tree) (old mid : Work) (f : Linear) (k : ℤ) → HasSum limit fields a old mid f → (nat_le (mid.next + 1) 190 && all_kept (divided mid.next f k)) ≡ (nat_le (old.next + divisions_in a + 1) 190 && all_kept (divided (old.next + divisions_in a) (linear fields old.next a) k))
  division_meets a old mid f k p = ap (λ (q : ℕ). nat_le (q + 1) 190 && all_kept (divided q f k)) p.goes.next ∙ ap (λ (g : Linear). nat_le (old.next + divisions_in a + 1) 190 && all_kept (divided (old.next + divisions_in a) g k)) p.value

  division_next : (a : Tree) (old mid new : Work) → mid.next ≡ old.next + divisions_in a → new.next ≡ mid.next + 1 → new.next ≡ old.next + (divisions_in a + 1)
  division_next a old mid new p e = omega (arith, p, e)

  division_behind : (a : Tree) (old mid new : Work) (f : Linear) (k : ℤ) → HasSum limit fields a old mid f → new.rows ≡ mid.rows ++ division_rows mid.next f k (interval_of limit a) → new.rows ≡ old.rows ++ (divisions limit fields old.next a ++ division_rows (old.next + divisions_in a) (linear fields old.next a) k (interval_of limit a))
  division_behind a old mid new f k p e =
      e ∙ ap (λ (rs : List Linear). rs ++ division_rows mid.next f k (interval_of limit a)) p.goes.rows ∙ append_assoc old.rows _ _
      ∙ ap (λ (q : ℕ). old.rows ++ (divisions limit fields old.next a ++ division_rows q f k (interval_of limit a))) p.goes.next
      ∙ ap (λ (g : Linear). old.rows ++ (divisions limit fields old.next a ++ division_rows (old.next + divisions_in a) g k (interval_of limit a))) p.value

  division_works : (o : Operator) (a b : Tree) (old mid new : Work) (f h : Linear) → IsDivision o → HasSum limit fields a old mid f → h ≡ divided_by o mid.next f (static_value b) → new.next ≡ mid.next + 1 → new.rows ≡ mid.rows ++ division_rows mid.next f (static_value b) (interval_of limit a) → (nat_le (mid.next + 1) 190 && all_kept (divided mid.next f (static_value b))) ≡ true → HasSum limit fields (Binary o a b) old new h
  division_works o a b old mid new f h (inl e) p v m r w =
      subst (λ (s : Operator). HasSum limit fields (Binary s a b) old new h) (sym e) (record {
        value = v ∙ ap (λ (s : Operator). divided_by s mid.next f (static_value b)) e ∙ ap (λ (q : ℕ). term (pos 1) q (pos 0)) p.goes.next;
        goes = record { next = division_next a old mid new p.goes.next m; rows = division_behind a old mid new f (static_value b) p r; within = Kept.within_div fields old.next a b ∙ Kept.on_both _ _ p.goes.within (sym (division_meets a old mid f (static_value b) p) ∙ w) };
      })
  division_works o a b old mid new f h (inr e) p v m r w =
      subst (λ (s : Operator). HasSum limit fields (Binary s a b) old new h) (sym e) (record {
        value = v ∙ ap (λ (s : Operator). divided_by s mid.next f (static_value b)) e ∙ ap (λ (q : ℕ). minus f (term (static_value b) q (pos 0))) p.goes.next ∙ ap (λ (g : Linear). minus g (term (static_value b) (old.next + divisions_in a) (pos 0))) p.value;
        goes = record { next = division_next a old mid new p.goes.next m; rows = division_behind a old mid new f (static_value b) p r; within = Kept.within_mod fields old.next a b ∙ Kept.on_both _ _ p.goes.within (sym (division_meets a old mid f (static_value b) p) ∙ w) };
      })

  pub division_ok : (x : Tree) (o : Operator) (a b : Tree) (old mid new : Work) (f : Linear) (r : Result Linear FormFault) → x ≡ Binary o a b → IsDivision o → HasSum limit fields a old mid f → IfOk r (λ h. h ≡ divided_by o mid.next f (static_value b)) → OnOk r (new.next ≡ mid.next + 1) → OnOk r (new.rows ≡ mid.rows ++ division_rows mid.next f (static_value b) (interval_of limit a)) → OnOk r ((nat_le (mid.next + 1) 190 && all_kept (divided mid.next f (static_value b))) ≡ true) → IfOk r (λ h. HasSum limit fields x old new h)
  division_ok x o a b old mid new f (Result.Ok h) e d p v m s w = subst (λ (y : Tree). HasSum limit fields y old new h) (sym e) (division_works o a b old mid new f h d p v m s w)
  division_ok x o a b old mid new f (Result.Err h) e d p v m s w = tt

  pub division_fails : (x : Tree) (o : Operator) (a b : Tree) (old mid : Work) (f : Linear) → x ≡ Binary o a b → IsDivision o → HasSum limit fields a old mid f → (nat_le (mid.next + 1) 190 && all_kept (divided mid.next f (static_value b))) ≡ false → is_within fields old.next x ≡ false
  division_fails x o a b old mid f e d p h = ap (λ (y : Tree). is_within fields old.next y) e ∙ division_within o a b old.next d ∙ Kept.off_right _ _ (sym (division_meets a old mid f (static_value b) p) ∙ h)

  pub division_part_fails : (x : Tree) (o : Operator) (a b : Tree) (n : ℕ) → x ≡ Binary o a b → IsDivision o → is_within fields n a ≡ false → is_within fields n x ≡ false
  division_part_fails x o a b n e d h = ap (λ (y : Tree). is_within fields n y) e ∙ division_within o a b n d ∙ Kept.off_left _ _ h
