-- The First and the Size of a link by what was worked out of them.
use Rattle.std.proofs.Common.{◌≡◌, refl, sym, ap, ◌∙◌, subst, ℕ, zero, suc, ◌+◌, ◌-◌, ◌≤◌, arith, List, [], ◌∷◌, length, Bool, true, false, ◌&&◌, nat_le, append-nil, IfOk, OnOk, Result, Option, Some, None, slice_get, pos}
use Rattle.rx_types.specs.Domain.{Domain, size_of}
use Rattle.rx_types.specs.Tree.{Tree}
use Rattle.rx_forms.specs.declared.fault.FormFault.{FormFault}
use Rattle.rx_forms.specs.declared.field.FieldForms.{FieldForms}
use Rattle.rx_forms.specs.declared.linear.Linear.{Linear}
use Rattle.rx_forms.specs.declared.work.Work.{Work}
use Rattle.rx_forms.specs.Linear.{constant}
use Rattle.rx_forms.specs.Normal.{Formed, linear, divisions_in}
use Rattle.rx_forms.specs.Limits.{is_low, all_kept, met, is_within}
use Rattle.rx_forms.specs.Steps.{end_form, size_aspect}
use Rattle.rx_forms.specs.Code.{formed_all}
use Rattle.rx_forms.specs.Expressions.{HasSum, HasAspect, aspect_within, size_otherwise}
use Rattle.rx_forms.proofs.Kept.{off_left, off_right, on_both}

-- ---- the end of the last field

same_some : (a b : FieldForms) → Some a ≡ Some b → a ≡ b
same_some a b h = cc

end_at : (fs : List FieldForms) (i : ℕ) (f : FieldForms) → i + 1 ≡ length fs → slice_get fs i ≡ Some f → end_form (formed_all fs) ≡ f.end
end_at [] i f h e = absurd (omega (arith, h))
end_at (g ∷ []) zero f h e = ap (λ (k : FieldForms). k.end) (same_some g f e)
end_at (g ∷ []) (suc i) f h e = absurd (omega (arith, h))
end_at (g ∷ k ∷ fs) zero f h e = absurd (omega (arith, h))
end_at (g ∷ k ∷ fs) (suc i) f h e = end_at (k ∷ fs) i f (omega (arith, h)) e

pub end_of_last : (fs : List FieldForms) (f : FieldForms) → slice_get fs (length fs - 1) ≡ Some f → end_form (formed_all fs) ≡ f.end
end_of_last [] f e = absurd (cc)
end_of_last (g ∷ fs) f e = end_at (g ∷ fs) (length (g ∷ fs) - 1) f (omega arith) e

-- ---- aspects

grouped : (p k l : Bool) → (p && (k && l)) ≡ ((p && k) && l)
grouped true k l = refl
grouped false k l = refl

room_low : (n : ℕ) (l : Bool) → n ≤ 190 → l ≡ true → (nat_le (n + 0) 190 && (true && l)) ≡ true
room_low n l h e = let t : nat_le (n + 0) 190 ≡ true = grind (arith, h) in on_both _ _ t e

module _ (limit : ℕ → ℕ) (fields : List Formed) where
  said_within : (n : ℕ) (x : Tree) (f : Linear) → aspect_within fields n (Some x) f ≡ (is_within fields n x && is_low f)
  said_within n x f = grouped (nat_le (n + divisions_in x) 190) (all_kept (met fields n x)) (is_low f)

  pub said_works : (x : Tree) (otherwise : Linear) (old new : Work) (f : Linear) → HasSum limit fields x old new f → is_low f ≡ true → HasAspect limit fields (Some x) otherwise old new f
  said_works x otherwise old new f p l = record {
    value = p.value;
    next = p.goes.next;
    rows = p.goes.rows;
    within = said_within old.next x (linear fields old.next x) ∙ on_both _ _ p.goes.within (sym (ap is_low p.value) ∙ l);
  }

  pub said_part_fails : (x : Tree) (n : ℕ) (f : Linear) → is_within fields n x ≡ false → aspect_within fields n (Some x) f ≡ false
  said_part_fails x n f h = said_within n x f ∙ off_left _ _ h

  pub said_fails : (x : Tree) (old new : Work) (f : Linear) → HasSum limit fields x old new f → is_low f ≡ false → aspect_within fields old.next (Some x) (linear fields old.next x) ≡ false
  said_fails x old new f p l = said_within old.next x (linear fields old.next x) ∙ off_right _ _ (sym (ap is_low p.value) ∙ l)

  unsaid_works : (otherwise : Linear) (old : Work) (f : Linear) → old.next ≤ 190 → f ≡ otherwise → is_low otherwise ≡ true → HasAspect limit fields None otherwise old old f
  unsaid_works otherwise old f h e l = record {
    value = e;
    next = omega arith;
    rows = sym (append-nil old.rows);
    within = room_low old.next (is_low otherwise) h l;
  }

  pub unsaid_ok : (otherwise : Linear) (old : Work) (r : Result Linear FormFault) → old.next ≤ 190 → IfOk r (λ f. f ≡ otherwise) → OnOk r (is_low otherwise ≡ true) → IfOk r (λ f. HasAspect limit fields None otherwise old old f)
  unsaid_ok otherwise old (Result.Ok f) h e l = unsaid_works otherwise old f h e l
  unsaid_ok otherwise old (Result.Err f) h e l = tt

  pub unsaid_fails : (otherwise : Linear) (n : ℕ) → is_low otherwise ≡ false → aspect_within fields n None otherwise ≡ false
  unsaid_fails otherwise n l = off_right _ _ l

-- the size of a scalar, or of another field
pub by_type : (P : Option Tree → Linear → Type 0) (type : Option Domain) (t : Domain) (x : Option Tree) (first : Linear) → type ≡ Some t → P None (constant (pos (size_of t))) → P (size_aspect type x) (size_otherwise type first)
by_type P type t x first e h = subst (λ (s : Option Domain). P (size_aspect s x) (size_otherwise s first)) (sym e) h
