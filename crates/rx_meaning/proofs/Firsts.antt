-- The First of a field or a link is the same in trees that are the alike.
use Rattle.std.proofs.Common.{◌≡◌, ◌∙◌, refl, ap, ℕ, ◌&&◌, List, map, Option, Some, None}
use Rattle.std.specs.Option.{option_or}
use Rattle.rx_syntax.specs.declared.tree.NameTree.{NameTree}
use Rattle.rx_syntax.specs.declared.tree.Operator.TheVariants as token
use Rattle.rx_syntax.specs.declared.tree.ExprTree.{ExprTree}
use Rattle.rx_syntax.specs.declared.tree.AspectTree.{AspectTree}
use Rattle.rx_syntax.specs.declared.tree.ThenTree.{ThenTree}
use Rattle.rx_syntax.specs.declared.tree.FieldTree.{FieldTree}
use Rattle.rx_syntax.specs.declared.tree.MessageTree.{MessageTree}
use Rattle.rx_judge.specs.Names.{Scope, Within}
use Rattle.rx_links.specs.declared.links.Stop.{Stop}
use Rattle.rx_links.specs.declared.links.Stop.TheVariants as stop
use Rattle.rx_links.specs.declared.links.Way.{Way}
use Rattle.rx_elab.specs.Firsts.{is_of_numbers, is_step_by, is_step, name_of_last, is_form, field_of_name, is_behind, has_first_form, laid, unlaid, laid_if_any, unlaid_if_any, first_from, clause_first, field_first, target_first, way_first, laying_of, layings_of}
use Rattle.rx_trees.specs.Alike.{AreSame, IsSameIfAny, IsSameExpr, IsSameAspect, IsSameThen, IsSameField, IsSameMessage}
use Rattle.rx_trees.specs.Alike as alike
use Rattle.rx_meaning.proofs.Lists.{item_same}
use Rattle.rx_meaning.proofs.Exprs.{judged_same}
use Rattle.rx_meaning.proofs.Links.{clause_same}

-- ---- forms

pub of_numbers_same : {e f : ExprTree} → IsSameExpr e f → is_of_numbers e ≡ is_of_numbers f
of_numbers_same alike.number = refl
of_numbers_same alike.name = refl
of_numbers_same alike.attribute = refl
of_numbers_same alike.member = refl
of_numbers_same (alike.negative h) = of_numbers_same h
of_numbers_same (alike.negation h) = of_numbers_same h
of_numbers_same (alike.binary h k) = λ i. of_numbers_same h i && of_numbers_same k i

pub step_same : {e f : ExprTree} (s : Scope) (owner : List ℕ) → IsSameExpr e f → is_step s owner e ≡ is_step s owner f
step_same s owner h = λ i. of_numbers_same h i && is_step_by (judged_same (Within s) owner h i)

pub name_of_last_same : {e f : ExprTree} → IsSameExpr e f → name_of_last e ≡ name_of_last f
name_of_last_same alike.number = refl
name_of_last_same alike.name = refl
name_of_last_same alike.attribute = refl
name_of_last_same alike.member = refl
name_of_last_same (alike.negative h) = refl
name_of_last_same (alike.negation h) = refl
name_of_last_same (alike.binary h k) = refl

behind_same : {a b e f : ExprTree} (s : Scope) (owner : List ℕ) → IsSameExpr a b → IsSameExpr e f → is_behind s owner (name_of_last a) e ≡ is_behind s owner (name_of_last b) f
behind_same {a} {b} {e} {f} s owner h k = ap (λ n. is_behind s owner n e) (name_of_last_same h) ∙ by_name (name_of_last b)
  where
    by_name : (n : Option NameTree) → is_behind s owner n e ≡ is_behind s owner n f
    by_name None = refl
    by_name (Some n) = ap (λ b. is_form b (field_of_name s n)) (step_same s owner k)

pub first_form_same : {e f : ExprTree} (s : Scope) (owner : List ℕ) → IsSameExpr e f → has_first_form s owner e ≡ has_first_form s owner f
first_form_same s owner alike.number = refl
first_form_same s owner alike.name = refl
first_form_same s owner alike.attribute = refl
first_form_same s owner alike.member = refl
first_form_same s owner (alike.negative h) = refl
first_form_same s owner (alike.negation h) = refl
first_form_same s owner (alike.binary {o = token.Add} h k) = behind_same s owner h k
first_form_same s owner (alike.binary h k) = refl

-- ---- overlays

pub laid_same : {e f : ExprTree} (s : Scope) → IsSameExpr e f → laid s e ≡ laid s f
laid_same s alike.number = refl
laid_same s alike.name = refl
laid_same s alike.attribute = refl
laid_same s alike.member = refl
laid_same s (alike.negative h) = refl
laid_same s (alike.negation h) = refl
laid_same s (alike.binary h k) = refl

pub unlaid_same : {e f : ExprTree} (s : Scope) → IsSameExpr e f → unlaid s e ≡ unlaid s f
unlaid_same s alike.number = refl
unlaid_same s alike.name = refl
unlaid_same s alike.attribute = refl
unlaid_same s alike.member = refl
unlaid_same s (alike.negative h) = refl
unlaid_same s (alike.negation h) = refl
unlaid_same s (alike.binary h k) = refl

unlaid_if_any_same : {o p : Option ExprTree} (s : Scope) → IsSameIfAny IsSameExpr o p → unlaid_if_any s o ≡ unlaid_if_any s p
unlaid_if_any_same s alike.none = refl
unlaid_if_any_same s (alike.some h) = unlaid_same s h

laid_if_any_same : {o p : Option ExprTree} (s : Scope) → IsSameIfAny IsSameExpr o p → laid_if_any s o ≡ laid_if_any s p
laid_if_any_same s alike.none = refl
laid_if_any_same s (alike.some h) = laid_same s h

first_from_same : {o p : Option ExprTree} {xs ys : List AspectTree} → IsSameIfAny IsSameExpr o p → AreSame IsSameAspect xs ys → IsSameIfAny IsSameExpr (first_from o xs) (first_from p ys)
first_from_same k alike.none = k
first_from_same k (alike.next (alike.first h) hs) = first_from_same (alike.some h) hs
first_from_same k (alike.next (alike.size h) hs) = first_from_same k hs

clause_first_same : {o p : Option ThenTree} → IsSameIfAny IsSameThen o p → IsSameIfAny IsSameExpr (clause_first o) (clause_first p)
clause_first_same alike.none = alike.none
clause_first_same (alike.some h) = first_from_same alike.none h.aspects

field_first_same : {o p : Option FieldTree} → IsSameIfAny IsSameField o p → IsSameIfAny IsSameExpr (field_first o) (field_first p)
field_first_same alike.none = alike.none
field_first_same (alike.some h) = first_from_same alike.none h.aspects

target_first_same : {fs gs : List FieldTree} (target : Stop) → AreSame IsSameField fs gs → IsSameIfAny IsSameExpr (target_first fs target) (target_first gs target)
target_first_same (stop.At i) h = field_first_same (item_same i h)
target_first_same stop.Start h = alike.none
target_first_same stop.Null h = alike.none

first_or_same : {o p q r : Option ExprTree} → IsSameIfAny IsSameExpr o p → IsSameIfAny IsSameExpr q r → IsSameIfAny IsSameExpr (option_or o q) (option_or p r)
first_or_same alike.none k = k
first_or_same (alike.some h) k = alike.some h

way_first_same : {m n : MessageTree} (w : Way) → IsSameMessage m n → IsSameIfAny IsSameExpr (way_first m w) (way_first n w)
way_first_same w h = first_or_same (clause_first_same (clause_same w h.start h.fields)) (target_first_same w.target h.fields)

pub layings_same : {m n : MessageTree} (s : Scope) (ways : List Way) → IsSameMessage m n → layings_of s m ways ≡ layings_of s n ways
layings_same {m} {n} s ways h = λ i. map (λ w. each w i) ways
  where
    each : (w : Way) → laying_of s m w ≡ laying_of s n w
    each w = λ i. record { target = w.target; over = laid_if_any_same s (way_first_same w h) i; beside = unlaid_if_any_same s (way_first_same w h) i }
