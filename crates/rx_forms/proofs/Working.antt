-- What is worked out of an operator's operands, one after the other.
use Rattle.std.proofs.Common.{◌≡◌, sym, ap, ◌∙◌, ℕ, ◌+◌, arith, List, ◌++◌, true, negsuc, append_assoc}
use Rattle.rx_types.specs.declared.expr.Operator.TheVariants as op
use Rattle.rx_types.specs.Tree.{Tree, Neg, Binary}
use Rattle.rx_forms.specs.declared.linear.Linear.{Linear}
use Rattle.rx_forms.specs.declared.work.Work.{Work}
use Rattle.rx_forms.specs.Linear.{plus, minus, times}
use Rattle.rx_forms.specs.Normal.{Formed, linear, divisions_in}
use Rattle.rx_forms.specs.Divisions.{divisions}
use Rattle.rx_forms.specs.Limits.{has_words, is_within}
use Rattle.rx_forms.specs.Expressions.{Goes, HasSum}
use Rattle.rx_forms.proofs.Kept

module _ (limit : ℕ → ℕ) (fields : List Formed) where
  pub record Both (a b : Tree) (old new : Work) : Type 0 where
    pub next : new.next ≡ old.next + (divisions_in a + divisions_in b)
    pub rows : new.rows ≡ old.rows ++ (divisions limit fields old.next a ++ divisions limit fields (old.next + divisions_in a) b)
    pub left : is_within fields old.next a ≡ true
    pub right : is_within fields (old.next + divisions_in a) b ≡ true

  pub both_go : (a b : Tree) (old mid new : Work) → Goes limit fields a old mid → Goes limit fields b mid new → Both a b old new
  both_go a b old mid new p q = record {
    next = q.next ∙ ap (λ (k : ℕ). k + divisions_in b) p.next ∙ (omega arith);
    rows = q.rows ∙ ap (λ (rs : List Linear). rs ++ divisions limit fields mid.next b) p.rows ∙ append_assoc old.rows _ _ ∙ ap (λ (k : ℕ). old.rows ++ (divisions limit fields old.next a ++ divisions limit fields k b)) p.next;
    left = p.within;
    right = sym (ap (λ (k : ℕ). is_within fields k b) p.next) ∙ q.within;
  }

  -- the operands' sums, at the numbers of the operator's variables
  pub right_value : (a b : Tree) (old mid new : Work) (g : Linear) → Goes limit fields a old mid → HasSum limit fields b mid new g → g ≡ linear fields (old.next + divisions_in a) b
  right_value a b old mid new g p q = q.value ∙ ap (λ (k : ℕ). linear fields k b) p.next

  pub add_works : (a b : Tree) (old mid new : Work) (f g h : Linear) → HasSum limit fields a old mid f → HasSum limit fields b mid new g → h ≡ plus f g → has_words (plus f g) ≡ true → HasSum limit fields (Binary op.Add a b) old new h
  add_works a b old mid new f g h p q e w =
      let t = both_go a b old mid new p.goes q.goes in
      let v : plus f g ≡ linear fields old.next (Binary op.Add a b) = ap (λ (x : Linear). plus x g) p.value ∙ ap (λ (x : Linear). plus (linear fields old.next a) x) (right_value a b old mid new g p.goes q) in
      record { value = e ∙ v; goes = record { next = t.next; rows = t.rows; within = Kept.within_add fields old.next a b ∙ Kept.on_both _ _ t.left (Kept.on_both _ _ t.right (sym (ap has_words v) ∙ w)) } }

  pub sub_works : (a b : Tree) (old mid new : Work) (f g h : Linear) → HasSum limit fields a old mid f → HasSum limit fields b mid new g → h ≡ minus f g → has_words (minus f g) ≡ true → HasSum limit fields (Binary op.Sub a b) old new h
  sub_works a b old mid new f g h p q e w =
      let t = both_go a b old mid new p.goes q.goes in
      let v : minus f g ≡ linear fields old.next (Binary op.Sub a b) = ap (λ (x : Linear). minus x g) p.value ∙ ap (λ (x : Linear). minus (linear fields old.next a) x) (right_value a b old mid new g p.goes q) in
      record { value = e ∙ v; goes = record { next = t.next; rows = t.rows; within = Kept.within_sub fields old.next a b ∙ Kept.on_both _ _ t.left (Kept.on_both _ _ t.right (sym (ap has_words v) ∙ w)) } }

  pub neg_works : (a : Tree) (old new : Work) (f h : Linear) → HasSum limit fields a old new f → h ≡ times (negsuc 0) f → has_words (times (negsuc 0) f) ≡ true → HasSum limit fields (Neg a) old new h
  neg_works a old new f h p e w =
      let v : times (negsuc 0) f ≡ linear fields old.next (Neg a) = ap (λ (x : Linear). times (negsuc 0) x) p.value in
      record { value = e ∙ v; goes = record { next = p.goes.next; rows = p.goes.rows; within = Kept.within_neg fields old.next a ∙ Kept.on_both _ _ p.goes.within (sym (ap has_words v) ∙ w) } }
