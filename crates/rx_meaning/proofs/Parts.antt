-- What is written at the fields and links of a message is the same in messages that are the same.
use Rattle.std.proofs.Common.{◌≡◌, ◌∙◌, ap, refl, ℕ, not, ◌||◌, List, Option, Some, Ok, codes}
use Rattle.std.specs.Prelude.{if◌then◌else◌}
use Rattle.rx_syntax.specs.declared.token.Place.{Place}
use Rattle.rx_syntax.specs.declared.tree.ExprTree.{ExprTree}
use Rattle.rx_syntax.specs.declared.tree.AspectTree.{AspectTree}
use Rattle.rx_syntax.specs.declared.tree.ThenTree.{ThenTree}
use Rattle.rx_syntax.specs.declared.tree.FieldTree.{FieldTree}
use Rattle.rx_syntax.specs.declared.tree.MessageTree.{MessageTree}
use Rattle.rx_syntax.specs.declared.rule.Rule.TheVariants as rule
use Rattle.rx_judge.specs.Meaning.{Meaning, ◌>>=◌, refused, each_from}
use Rattle.rx_judge.specs.Names.{Scope, Within}
use Rattle.rx_judge.specs.Kinds.{is_number, is_truth}
use Rattle.rx_judge.specs.declared.names.KnownField.{KnownField}
use Rattle.rx_elab.specs.Parts.{Parts, FieldParts, no_parts, root_name, number_judged, truth_judged, is_scalar_field, target_in, is_mixed_target, is_mixed_beside, first_stands, first_judged, size_judged, with_aspect, with_condition, parts_judged, then_parts, field_parts, message_parts}
use Rattle.rx_elab.specs.declared.layings.Laying.{Laying}
use Rattle.rx_trees.specs.Alike as alike
use Rattle.rx_trees.specs.Alike.{AreSame, IsSameIfAny, IsSameExpr, IsSameAspect, IsSameThen, IsSameField, IsSameMessage}
use Rattle.rx_meaning.proofs.Lists.{first_same, bind_same, each_same, through_same}
use Rattle.rx_meaning.proofs.Exprs.{judged_same, root_place_same}
use Rattle.rx_meaning.proofs.Firsts.{first_form_same, laid_same, unlaid_same}

-- ---- expressions

root_name_same : {e f : ExprTree} (owner : List ℕ) → IsSameExpr e f → root_name owner e ≡ root_name owner f
root_name_same owner alike.number = refl
root_name_same owner alike.name = refl
root_name_same owner alike.attribute = refl
root_name_same owner alike.member = refl
root_name_same owner (alike.negative h) = refl
root_name_same owner (alike.negation h) = refl
root_name_same owner (alike.binary h k) = refl

number_same : {e f : ExprTree} (s : Scope) (owner : List ℕ) → IsSameExpr e f → number_judged s owner e ≡ number_judged s owner f
number_same s owner h = λ i. judged_same (Within s) owner h i >>= (λ x. if is_number x.about.kind then Ok x.tree else refused rule.WrongType (root_place_same h i) (root_name_same owner h i))

truth_same : {e f : ExprTree} (s : Scope) (owner : List ℕ) → IsSameExpr e f → truth_judged s owner e ≡ truth_judged s owner f
truth_same s owner h = λ i. judged_same (Within s) owner h i >>= (λ x. if is_truth x.about.kind then Ok x.tree else refused rule.WrongType (root_place_same h i) (root_name_same owner h i))

-- ---- aspects and conditions

module _ (s : Scope) (ls : List Laying) (owner : List ℕ) (target : Option KnownField) where
  first_stands_same : {e f : ExprTree} (p : Place) → IsSameExpr e f → first_stands s ls owner target p e ≡ first_stands s ls owner target p f
  first_stands_same p h = λ i. if is_mixed_target ls target (laid_same s h i) || is_mixed_beside ls target (unlaid_same s h i) then refused rule.OverlayMixed p (codes "First") else (if not (first_form_same s owner h i) then refused rule.FirstForm p (codes "First") else Ok tt)

  first_judged_same : {e f : ExprTree} (p : Place) → IsSameExpr e f → first_judged s ls owner target p e ≡ first_judged s ls owner target p f
  first_judged_same p h = λ i. first_stands_same p h i >>= (λ u. number_same s owner h i)

  size_judged_same : {e f : ExprTree} (p : Place) → IsSameExpr e f → size_judged s owner target p e ≡ size_judged s owner target p f
  size_judged_same p h = λ i. if is_scalar_field target then refused rule.WrongType p (codes "Size") else number_same s owner h i

  aspect_same : {a b : AspectTree} (parts : Parts) → IsSameAspect a b → with_aspect s ls owner target parts a ≡ with_aspect s ls owner target parts b
  aspect_same parts (alike.first {at = at} h) = first_same (λ x. Ok (record parts { first = Some x })) (first_judged_same at h)
  aspect_same parts (alike.size {at = at} h) = first_same (λ x. Ok (record parts { size = Some x })) (size_judged_same at h)

  condition_same : {c d : Option ExprTree} (parts : Parts) → IsSameIfAny IsSameExpr c d → with_condition s owner parts c ≡ with_condition s owner parts d
  condition_same parts alike.none = refl
  condition_same parts (alike.some h) = first_same (λ x. Ok (record parts { condition = Some x })) (truth_same s owner h)

  parts_same : {xs ys : List AspectTree} {c d : Option ExprTree} → AreSame IsSameAspect xs ys → IsSameIfAny IsSameExpr c d → parts_judged s ls owner target xs c ≡ parts_judged s ls owner target ys d
  parts_same h k = bind_same (through_same no_parts (λ parts x y a. aspect_same parts a) h) (λ parts. condition_same parts k)

-- ---- links, fields and messages

module _ (s : Scope) (ls : List Laying) where
  then_same : {a b : ThenTree} (owner : List ℕ) (i : ℕ) → IsSameThen a b → then_parts s ls owner i a ≡ then_parts s ls owner i b
  then_same {a} {b} owner i h = ap (λ t. parts_judged s ls owner (target_in s t) a.aspects.items a.condition) h.target ∙ parts_same s ls owner (target_in s b.target) h.aspects h.condition

  thens_same : {xs ys : List ThenTree} (owner : List ℕ) → AreSame IsSameThen xs ys → each_from (then_parts s ls owner) 0 xs ≡ each_from (then_parts s ls owner) 0 ys
  thens_same owner h = each_same 0 (λ i x y k. then_same owner i k) h

  -- what is written of a field of this name
  written : List ℕ → FieldTree → Meaning FieldParts
  written w f = do
    own ← parts_judged s ls w (target_in s (Some w)) f.aspects.items f.condition
    thens ← each_from (then_parts s ls w) 0 f.thens.items
    Ok (record { own = own; thens = thens })

  field_same : {a b : FieldTree} (i : ℕ) → IsSameField a b → field_parts s ls i a ≡ field_parts s ls i b
  unfolding written
  field_same {a} {b} i h = ap (λ n. written n.word a) h.name ∙ bind_same (parts_same s ls b.name.word (target_in s (Some b.name.word)) h.aspects h.condition) (λ own. first_same (λ thens. Ok (record { own = own; thens = thens })) (thens_same b.name.word h.thens))

  pub message_parts_same : {m n : MessageTree} (owner : List ℕ) → IsSameMessage m n → message_parts s ls owner m ≡ message_parts s ls owner n
  message_parts_same owner h = bind_same (thens_same owner h.start) (λ start. first_same (λ fields. Ok (record { start = start; fields = fields })) (each_same 0 (λ i x y k. field_same i k) h.fields))
