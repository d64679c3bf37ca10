-- The first of a list that is so: what holds of the whole list holds of it, and there is one.
use Rattle.std.proofs.Common.{◌≡◌, sym, subst, ◌∙◌, ℕ, List, [], ◌∷◌, ◌++◌}
use Rattle.std.specs.List.{AllByRecursion}
use Rattle.rx_checks.specs.Verdicts.{IsFirst}

pub same_head : {X : Type 0} (x y : X) (xs ys : List X) → x ∷ xs ≡ y ∷ ys → x ≡ y
same_head x y xs ys e = cc

pub same_tail : {X : Type 0} (x y : X) (xs ys : List X) → x ∷ xs ≡ y ∷ ys → xs ≡ ys
same_tail x y xs ys e = cc

-- what holds of each element holds of the one between two parts
between : (Q : List ℕ → Type 0) (before after : List (List ℕ)) (p : List ℕ) → AllByRecursion Q (before ++ p ∷ after) → Q p
between Q [] after p h = h.0
between Q (x ∷ before) after p h = between Q before after p h.1

pub first_has : (P Q : List ℕ → Type 0) (paths : List (List ℕ)) (p : List ℕ) → IsFirst P paths p → AllByRecursion Q paths → Q p
first_has P Q paths p f all = between Q f.before f.after p (subst (λ ps. AllByRecursion Q ps) f.is all)

one_of : (P : List ℕ → Type 0) (before after more rest : List (List ℕ)) (p q : List ℕ) → before ++ p ∷ after ≡ more ++ q ∷ rest → P p → P q → AllByRecursion (λ r. P r → ⊥) before → AllByRecursion (λ r. P r → ⊥) more → p ≡ q
one_of P [] after [] rest p q e is also none more_none = same_head p q after rest e
one_of P [] after (y ∷ more) rest p q e is also none more_none = absurd (more_none.0 (subst P (same_head p y after (more ++ q ∷ rest) e) is))
one_of P (x ∷ before) after [] rest p q e is also none more_none = absurd (none.0 (subst P (sym (same_head x q (before ++ p ∷ after) rest e)) also))
one_of P (x ∷ before) after (y ∷ more) rest p q e is also none more_none =
    one_of P before after more rest p q (same_tail x y (before ++ p ∷ after) (more ++ q ∷ rest) e) is also none.1 more_none.1

pub one_first : (P : List ℕ → Type 0) (paths : List (List ℕ)) (p q : List ℕ) → IsFirst P paths p → IsFirst P paths q → p ≡ q
one_first P paths p q f g = one_of P f.before f.after g.before g.after p q (sym f.is ∙ g.is) f.has g.has f.none g.none
