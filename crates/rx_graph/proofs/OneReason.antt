-- There is one place and one reason where a reading is stuck.
use Rattle.std.proofs.Common.{◌≡◌, ℕ, List, [], ◌++◌, Option, Some, refl, sym, ap, ◌∙◌, subst, append-nil, inl, inr}
use Rattle.std.specs.Prelude.{slice_get}
use Rattle.std.specs.List.{AllByRecursion}
use Rattle.rx_types.specs.Domain.{Domain}
use Rattle.rx_types.specs.declared.stuck.Reason.{Reason}
use Rattle.rx_types.specs.declared.stuck.Reason.TheVariants.{Condition, Trailing, Short, Value}
use Rattle.rx_types.specs.Environment.{Placed, in_message}
use Rattle.rx_graph.specs.declared.message.Node.{Node}
use Rattle.rx_graph.specs.declared.message.Node.TheVariants.{Start}
use Rattle.rx_graph.specs.Graph.{Arrow, Graph}
use Rattle.rx_graph.specs.Paths.{first_of, LiesWithin, IsPartial, Exclusive, Reader, IsReadBy}
use Rattle.rx_graph.specs.Stuck.{Tries, size_by, IsReason, IsStuck}
use Rattle.rx_graph.proofs.Unique.{at_field, some_same, comparable}
use Rattle.rx_graph.proofs.Stops.{no_more, null_not, all_back}

module _ (domains : List Domain) (m : Graph) (read : Reader) (exclusive : Exclusive domains m) (total : ℕ) where
  module _ (front : List ℕ) (fields : List Placed) (at : Node) (part : IsPartial domains m total front fields at) where
    same_try : (f g : ℕ) (a b : Arrow) → Tries domains m read (in_message total fields) at f a → Tries domains m read (in_message total fields) at g b → (a ≡ b) × (f ≡ g)
    same_try f g a b t u =
        let index : t.index ≡ u.index = exclusive total front fields at t.index u.index a b part t.is u.is t.source u.source t.taken u.taken in
        let same : a ≡ b = some_same a b (sym t.is ∙ ap (λ n. slice_get m.links n) index ∙ u.is) in
        (same, at_field f g (sym t.target ∙ ap (λ l. l.target) same ∙ u.target))

    clash : (f g : ℕ) (a b : Arrow) → Tries domains m read (in_message total fields) at f a → Tries domains m read (in_message total fields) at g b → LiesWithin (in_message total fields) (first_of b (in_message total fields)) (size_by domains m read b (in_message total fields) g) → (LiesWithin (in_message total fields) (first_of a (in_message total fields)) (size_by domains m read a (in_message total fields) f) → ⊥) → ⊥
    clash f g a b t u within out =
        let s = same_try f g a b t u in
        out (subst (λ n. LiesWithin (in_message total fields) (first_of a (in_message total fields)) (size_by domains m read a (in_message total fields) n)) (sym s.1) (subst (λ l. LiesWithin (in_message total fields) (first_of l (in_message total fields)) (size_by domains m read l (in_message total fields) g)) (sym s.0) within))

    same_reason : (r s : Reason) (f g : Option ℕ) → IsReason domains m read (in_message total fields) at r f → IsReason domains m read (in_message total fields) at s g → (r ≡ s) × (f ≡ g)
    same_reason Condition Condition f g h k = (refl, h.0 ∙ sym k.0)
    same_reason Condition Trailing f g h k = absurd (h.1 k.1.0 k.1.1.link k.1.1.is k.1.1.source k.1.1.taken)
    same_reason Condition Short f g h k = absurd (h.1 k.3.index k.1 k.3.is k.3.source k.3.taken)
    same_reason Condition Value f g h k = absurd (h.1 k.3.index k.1 k.3.is k.3.source k.3.taken)
    same_reason Trailing Condition f g h k = absurd (k.1 h.1.0 h.1.1.link h.1.1.is h.1.1.source h.1.1.taken)
    same_reason Trailing Trailing f g h k = (refl, h.0 ∙ sym k.0)
    same_reason Trailing Short f g h k = absurd (null_not domains m read exclusive total front fields at part k.0 k.1 k.3 h.1.0 h.1.1)
    same_reason Trailing Value f g h k = absurd (null_not domains m read exclusive total front fields at part k.0 k.1 k.3 h.1.0 h.1.1)
    same_reason Short Condition f g h k = absurd (k.1 h.3.index h.1 h.3.is h.3.source h.3.taken)
    same_reason Short Trailing f g h k = absurd (null_not domains m read exclusive total front fields at part h.0 h.1 h.3 k.1.0 k.1.1)
    same_reason Short Short f g h k = (refl, h.2 ∙ ap Some (same_try h.0 k.0 h.1 k.1 h.3 k.3).1 ∙ sym k.2)
    same_reason Short Value f g h k = absurd (clash h.0 k.0 h.1 k.1 h.3 k.3 k.4 h.4)
    same_reason Value Condition f g h k = absurd (k.1 h.3.index h.1 h.3.is h.3.source h.3.taken)
    same_reason Value Trailing f g h k = absurd (null_not domains m read exclusive total front fields at part h.0 h.1 h.3 k.1.0 k.1.1)
    same_reason Value Short f g h k = absurd (clash k.0 h.0 k.1 h.1 k.3 h.3 h.4 k.4)
    same_reason Value Value f g h k = (refl, h.2 ∙ ap Some (same_try h.0 k.0 h.1 k.1 h.3 k.3).1 ∙ sym k.2)

  same_here : (r s : Reason) (f g : Option ℕ) (a : IsStuck domains m read total r f) (b : IsStuck domains m read total s g) → a.fields ≡ b.fields → a.end ≡ b.end → (r ≡ s) × (f ≡ g)
  same_here r s f g a b fields end =
      same_reason a.path a.fields a.end a.partial r s f g a.why (subst (λ l. IsReason domains m read (in_message total l) a.end s g) (sym fields) (subst (λ n. IsReason domains m read (in_message total b.fields) n s g) (sym end) b.why))

  -- the reason and the field are a function of the buffer
  pub one_reason : (r s : Reason) (f g : Option ℕ) → IsStuck domains m read total r f → IsStuck domains m read total s g → (r ≡ s) × (f ≡ g)
  one_reason r s f g a b =
      elim (comparable domains m read exclusive total a.partial.short [] [] Start refl a.path a.fields a.end a.partial.leads b.path b.fields b.end b.partial.leads a.reads b.reads) [
        | inl x ↦ (let none = no_more domains m read exclusive total a.path a.fields a.end a.partial r f a.why x.rest x.more b.end x.leads (all_back (IsReadBy domains m read) a.fields x.more (subst (λ l. AllByRecursion (IsReadBy domains m read) l) x.fields_are b.reads)) in
            same_here r s f g a b (sym (x.fields_are ∙ ap (λ l. a.fields ++ l) none.1 ∙ append-nil a.fields)) none.2)
        | inr x ↦ (let none = no_more domains m read exclusive total b.path b.fields b.end b.partial s g b.why x.rest x.more a.end x.leads (all_back (IsReadBy domains m read) b.fields x.more (subst (λ l. AllByRecursion (IsReadBy domains m read) l) x.fields_are a.reads)) in
            same_here r s f g a b (x.fields_are ∙ ap (λ l. b.fields ++ l) none.1 ∙ append-nil b.fields) (sym none.2))
      ]
