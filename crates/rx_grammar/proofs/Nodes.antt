-- Trees of tokens that may be one of two.
use Rattle.std.proofs.Common.{◌≡◌, ◌<◌, ◌+◌, ℕ, Bool, true, false, ◌||◌, List, [], ◌∷◌, ◌++◌, length, length-append, refl, sym, ap, ◌∙◌, subst, arith, Option, Some, None, Box, Global}
use Rattle.std.proofs.lemmas.Bool.{false≢true}
use Rattle.rx_syntax.specs.declared.token.Token.{Token}
use Rattle.rx_syntax.specs.declared.mark.Mark.TheVariants as sign
use Rattle.rx_syntax.specs.declared.tree.Named.{Named}
use Rattle.rx_syntax.specs.declared.tree.Operator.{Operator}
use Rattle.rx_syntax.specs.declared.tree.ExprTree.{ExprTree}
use Rattle.rx_syntax.specs.declared.tree.ExprTree.TheViews as view
use Rattle.rx_syntax.specs.declared.tree.AspectTree.{AspectTree}
use Rattle.rx_syntax.specs.declared.tree.AspectTree.TheVariants as aspect
use Rattle.rx_syntax.specs.declared.tree.EnumAspect.TheVariants as easpect
use Rattle.rx_syntax.specs.declared.tree.ThenTree.{ThenTree}
use Rattle.rx_syntax.specs.declared.tree.FieldTree.{FieldTree}
use Rattle.rx_syntax.specs.declared.tree.DeclTree.{DeclTree}
use Rattle.rx_grammar.specs.declared.terminal.Terminal.TheVariants as terminal
use Rattle.rx_grammar.specs.declared.terminal.Keyword.TheVariants as word
use Rattle.rx_grammar.specs.declared.terminal.Quoted.TheVariants as quoted
use Rattle.rx_grammar.specs.declared.terminal.Choice.TheVariants as choice
use Rattle.rx_grammar.specs.Terminal.{is_such}
use Rattle.rx_grammar.specs.Tokens.{Is, IsChosen, IsNamed, word_of, operator_of}
use Rattle.rx_grammar.specs.Sentence as sentence
use Rattle.rx_grammar.specs.Sentence.{IsBinary, IsNegative, IsNegation, IsExpr, IsAspect, IsTarget, IsThen, IsNextThen, AreThens, IsField, IsByteOrder, IsEnumAspect, IsDecl, IsRefine, IsWith}

pub binary_node : {t : Token} {a b : ExprTree} {o : Operator} (p q : Box ExprTree Global) → o ≡ operator_of t.kind → p.value ≡ a → q.value ≡ b → IsBinary t a b (view.Binary o t.place p q)
binary_node {t} {a} {b} {o} p q e j k =
    let h : IsBinary t p.value q.value (view.Binary (operator_of t.kind) t.place p q) = sentence.binary in
    let h1 : IsBinary t a q.value (view.Binary (operator_of t.kind) t.place p q) = subst (λ x. IsBinary t x q.value (view.Binary (operator_of t.kind) t.place p q)) j h in
    let h2 : IsBinary t a b (view.Binary (operator_of t.kind) t.place p q) = subst (λ y. IsBinary t a y (view.Binary (operator_of t.kind) t.place p q)) k h1 in
    subst (λ x. IsBinary t a b (view.Binary x t.place p q)) (sym e) h2

pub negative_node : {t : Token} {a : ExprTree} (p : Box ExprTree Global) → p.value ≡ a → IsNegative t a (view.Neg t.place p)
negative_node {t} {a} p j = let h : IsNegative t p.value (view.Neg t.place p) = sentence.negative in subst (λ x. IsNegative t x (view.Neg t.place p)) j h

pub negation_node : {t : Token} {a : ExprTree} (p : Box ExprTree Global) → p.value ≡ a → IsNegation t a (view.Not t.place p)
negation_node {t} {a} p j = let h : IsNegation t p.value (view.Not t.place p) = sentence.negation in subst (λ x. IsNegation t x (view.Not t.place p)) j h

-- one of two, and not the first
second_of : (a b : Bool) → (a || (b || false)) ≡ true → a ≡ false → b ≡ true
second_of true b h e = absurd (false≢true (sym e))
second_of false true h e = refl
second_of false false h e = absurd (false≢true h)

pub aspect_read : {t arrow : Token} {xs : List Token} {e : ExprTree} {a : AspectTree} → IsChosen choice.Aspect t → Is (terminal.Mark sign.Arrow) arrow → IsExpr xs e → (is_such (terminal.Quoted quoted.First) t.kind ≡ true → a ≡ aspect.First t.place e) → (is_such (terminal.Quoted quoted.First) t.kind ≡ false → a ≡ aspect.Size t.place e) → IsAspect (t ∷ arrow ∷ xs) a
aspect_read {t} {arrow} {xs} {e} {a} c r x f g = by_test (is_such (terminal.Quoted quoted.First) t.kind) refl
  where
    by_test : (b : Bool) → is_such (terminal.Quoted quoted.First) t.kind ≡ b → IsAspect (t ∷ arrow ∷ xs) a
    by_test true h = subst (IsAspect (t ∷ arrow ∷ xs)) (sym (f h)) (sentence.first (record { such = h }) r x)
    by_test false h = subst (IsAspect (t ∷ arrow ∷ xs)) (sym (g h)) (sentence.size (record { such = second_of _ _ c.such h }) r x)

pub target_read : {t : Token} {o : Option (List ℕ)} → IsChosen choice.Target t → (is_such terminal.Name t.kind ≡ true → o ≡ Some (word_of t.kind)) → (is_such terminal.Name t.kind ≡ false → o ≡ None) → IsTarget t o
target_read {t} {o} c f g = by_test (is_such terminal.Name t.kind) refl
  where
    by_test : (b : Bool) → is_such terminal.Name t.kind ≡ b → IsTarget t o
    by_test true h = subst (IsTarget t) (sym (f h)) (sentence.field (record { such = h }))
    by_test false h = subst (IsTarget t) (sym (g h)) (sentence.null (record { such = second_of _ _ c.such h }))

pub order_read : {w byte arrow t : Token} → Is (terminal.Keyword word.With) w → Is (terminal.Quoted quoted.ByteOrder) byte → Is (terminal.Mark sign.Arrow) arrow → IsChosen choice.Order t → IsByteOrder (w ∷ byte ∷ arrow ∷ t ∷ []) (is_such (terminal.Quoted quoted.LowOrderFirst) t.kind)
order_read {w} {byte} {arrow} {t} a b r c = by_test (is_such (terminal.Quoted quoted.LowOrderFirst) t.kind) refl
  where
    first_of : (x y : Bool) → (x || (y || false)) ≡ true → y ≡ false → x ≡ true
    first_of true y h e = refl
    first_of false true h e = absurd (false≢true (sym e))
    first_of false false h e = h

    by_test : (x : Bool) → is_such (terminal.Quoted quoted.LowOrderFirst) t.kind ≡ x → IsByteOrder (w ∷ byte ∷ arrow ∷ t ∷ []) x
    by_test true h = sentence.low a b r (record { such = h })
    by_test false h = sentence.high a b r (record { such = first_of _ _ c.such h })

pub always_read : {t arrow v : Token} → Is (terminal.Quoted quoted.AlwaysValid) t → Is (terminal.Mark sign.Arrow) arrow → IsChosen choice.Truth v → IsEnumAspect (t ∷ arrow ∷ v ∷ []) (easpect.AlwaysValid t.place (is_such (terminal.Quoted quoted.True) v.kind))
always_read {t} {arrow} {v} a r c = by_test (is_such (terminal.Quoted quoted.True) v.kind) refl
  where
    by_test : (x : Bool) → is_such (terminal.Quoted quoted.True) v.kind ≡ x → IsEnumAspect (t ∷ arrow ∷ v ∷ []) (easpect.AlwaysValid t.place x)
    by_test true h = sentence.always_true a r (record { such = h })
    by_test false h = sentence.always_false a r (record { such = second_of _ _ c.such h })

pub next_read : {xs ys : List Token} {trees : List ThenTree} {a : ThenTree} → AreThens xs trees → IsNextThen ys a → AreThens (xs ++ ys) (trees ++ a ∷ [])
next_read h (sentence.plain x) = sentence.next h x
next_read h (sentence.comma c x) = sentence.next_comma h c x

-- sentences that are not empty
pub then_some : {xs : List Token} {a : ThenTree} → IsNextThen xs a → 0 < length xs
then_some (sentence.plain (sentence.link a b c d e)) = omega arith
then_some (sentence.comma c x) = omega arith

name_some : {xs : List Token} {n : Named} → IsNamed xs n → 0 < length xs
name_some h = let e = ap length h.whole in omega arith

pub field_some : {xs : List Token} {a : FieldTree} → IsField xs a → 0 < length xs
field_some (sentence.field {colon = c} {end = q} {xs = xs} {ys = ys} {zs = zs} {us = us} {vs = vs} n a k h t v s) = let some = name_some n in let l = length-append xs (c ∷ (ys ++ (zs ++ (us ++ (vs ++ q ∷ []))))) in omega arith

pub decl_some : {xs : List Token} {a : DeclTree} → IsDecl xs a → 0 < length xs
decl_some (sentence.defined a b c d e) = omega arith
decl_some (sentence.refined a) = omega arith

pub with_some : {xs : List Token} {n : Named} → IsWith xs n → 0 < length xs
with_some (sentence.with_name a b c) = omega arith
