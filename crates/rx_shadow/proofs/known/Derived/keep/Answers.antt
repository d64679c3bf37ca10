use Rattle.std.proofs.Common.{◌≡◌, sym, ap, ◌∙◌, subst, ℕ, ◌+◌, List, [], ◌∷◌, ◌++◌, length}
use Rattle.rx_linear.specs.declared.row.Row.{Row}
use Rattle.rx_shadow.specs.declared.known.Known.{Known}
use Rattle.rx_shadow.specs.Derivations.{IsDerived}
use Rattle.rx_shadow.proofs.Derivations.{derived_kept}
use Rattle.rx_shadow.proofs.known.Derived.keep.Goals as goal

pub returns-clause-derived : goal.returns-clause-derived
returns-clause-derived c = λ given others row h t d.
    let s1 = c.in_ok-derived.ensures.same in
    let s2 = c.in_ok-number.ensures.same in
    let one : Known = record { row = c.args.last; number = c.in_ok-number.number } in
    let k : c.push.new.self.items ≡ c.args.self.now.known.items ++ one ∷ [] =
    c.in_ok-push.ensures.items ∙ ap (λ (r : Row). c.take_step-2.new.self.known.items ++ record { row = r; number = c.in_ok-number.number } ∷ []) c.new.ensures ∙ ap (λ (ks : List Known). ks ++ one ∷ []) (s2.0 ∙ s1.0) in
    let g : c.take_step-2.new.self.given ≡ c.args.self.now.given = s2.1 ∙ s1.1 in
    let n : c.in_ok-number.number ≡ c.args.self.now.given + length c.take_step.new.self.steps.items =
    c.in_ok-number.ensures.number ∙ ap (λ (m : ℕ). m + length c.take_step.new.self.steps.items) s1.1 in
    let whole = derived_kept given c.args.self.now.given c.in_ok-number.number c.in_ok-derived.derived c.args.self.now.steps.items c.take_step.new.self.steps.items c.take_step-2.new.self.steps.items others c.args.self.now.known.items c.args.step row c.args.last c.in_ok-derived.ensures.steps c.in_ok-derived.ensures.number c.in_ok-number.ensures.steps n h t d in
    subst (λ (m : ℕ). IsDerived given m c.take_step-2.new.self.steps.items (others ++ c.push.new.self.items)) (sym g)
    (subst (λ (ks : List Known). IsDerived given c.args.self.now.given c.take_step-2.new.self.steps.items (others ++ ks)) (sym k) whole)
