-- Declarations and packages have one reading.
use Rattle.std.proofs.Common.{◌≡◌, List, [], ◌∷◌, ◌++◌, Option, Some, refl, ap, ◌∙◌, subst}
use Rattle.rx_syntax.specs.declared.token.Token.{Token}
use Rattle.rx_syntax.specs.declared.mark.Mark.TheVariants as sign
use Rattle.rx_syntax.specs.declared.tree.Named.{Named}
use Rattle.rx_syntax.specs.declared.tree.NameTree.{NameTree}
use Rattle.rx_syntax.specs.declared.tree.ExprTree.{ExprTree}
use Rattle.rx_syntax.specs.declared.tree.DefTree.{DefTree}
use Rattle.rx_syntax.specs.declared.tree.RefineTree.{RefineTree}
use Rattle.rx_syntax.specs.declared.tree.DeclTree.{DeclTree}
use Rattle.rx_syntax.specs.declared.tree.DeclKind.TheVariants as decl
use Rattle.rx_syntax.specs.declared.tree.HeaderTree.{HeaderTree}
use Rattle.rx_syntax.specs.declared.tree.PackageTree.{PackageTree}
use Rattle.rx_grammar.specs.declared.terminal.Terminal.{Terminal}
use Rattle.rx_grammar.specs.declared.terminal.Terminal.TheVariants as terminal
use Rattle.rx_grammar.specs.declared.terminal.Keyword.TheVariants as word
use Rattle.rx_grammar.specs.Grammar.{name_more}
use Rattle.rx_grammar.specs.Tokens.{IsNamed}
use Rattle.rx_grammar.specs.Sentence as sentence
use Rattle.rx_grammar.specs.Sentence.{Each, Behind, IsName, IsCondition, IsInner, IsDef, IsRefine, IsDecl, IsWith, IsHeader, IsPackage}
use Rattle.rx_trees.specs.Alike as alike
use Rattle.rx_trees.specs.Alike.{AreSame, IsSameIfAny, IsSameExpr, IsSameDef, IsSameRefine, IsSameKind, IsSameDecl, IsSameHeader, IsSamePackage}
use Rattle.rx_trees.proofs.Heads.{Stops, Starts, Any, any, head_same, tail_same, starts_on, starts_left, starts_right, token_starts, apart_differ, start_or_stop}
use Rattle.rx_trees.proofs.Sole.{Sole, Both, both, Closed, closed, AreBothSame, within, stops_outside, any_outside, opens_lead, any_lead, behind_opens, both_sole, behind_sole, closed_sole}
use Rattle.rx_trees.proofs.Rest.{Added, added, Turns, each_steps, steps_sole}
use Rattle.rx_trees.proofs.Names.{Equal, named_sole, name_opens, name_sole}
use Rattle.rx_trees.proofs.Links.{condition_sole}
use Rattle.rx_trees.proofs.Types.{def_sole}

abbrev semicolon : Terminal
semicolon = terminal.Mark sign.Semicolon

-- what a refinement holds: a name or `null`
inner_sole : Sole IsInner Equal (Stops name_more)
inner_sole = record { one = λ rs ss p q e j k. go rs ss p q e j k }
  where
    go : {xs ys : List Token} {a b : Option NameTree} (rs ss : List Token) → IsInner xs a → IsInner ys b → xs ++ rs ≡ ys ++ ss → Stops name_more rs → Stops name_more ss → (rs ≡ ss) × (a ≡ b)
    go rs ss (sentence.holds p) (sentence.holds q) e j k = let a = name_sole.one rs ss p q e j k in (a.0, ap (λ n. Some n) a.1)
    go rs ss (sentence.null h) (sentence.null g) e j k = (tail_same e, refl)
    go rs ss (sentence.holds p) (sentence.null g) e j k = absurd (apart_differ refl (starts_on rs (name_opens.opens p)) (token_starts g) e)
    go rs ss (sentence.null h) (sentence.holds q) e j k = absurd (apart_differ refl (token_starts h) (starts_on ss (name_opens.opens q)) e)

-- the parts of a refinement, from the last to the first
abbrev Conditioned : List Token → Option ExprTree → Type 0
Conditioned = Behind (terminal.Mark sign.ParenRight) (Closed IsCondition semicolon)

abbrev Held : List Token → Option NameTree × Option ExprTree → Type 0
Held = Behind (terminal.Mark sign.Arrow) (Both IsInner Conditioned)

abbrev Used : List Token → Named × (Option NameTree × Option ExprTree) → Type 0
Used = Behind (terminal.Keyword word.Use) (Behind (terminal.Mark sign.ParenLeft) (Both IsNamed Held))

abbrev RefineParts : List Token → NameTree × (Named × (Option NameTree × Option ExprTree)) → Type 0
RefineParts = Behind (terminal.Keyword word.For) (Both IsName Used)

held_sole : Sole Held (AreBothSame Equal (IsSameIfAny IsSameExpr)) Any
held_sole = behind_sole (both_sole inner_sole (behind_sole (closed_sole condition_sole (stops_outside refl))) (opens_lead behind_opens (stops_outside refl)))

used_sole : Sole Used (AreBothSame Equal (AreBothSame Equal (IsSameIfAny IsSameExpr))) Any
used_sole = behind_sole (behind_sole (both_sole named_sole held_sole any_lead))

refine_parts_sole : Sole RefineParts (AreBothSame Equal (AreBothSame Equal (AreBothSame Equal (IsSameIfAny IsSameExpr)))) Any
refine_parts_sole = behind_sole (both_sole name_sole used_sole (opens_lead behind_opens (stops_outside refl)))

refine_parts : {xs : List Token} {a : RefineTree} → IsRefine xs a → RefineParts xs (a.message, (a.field, (a.inner, a.condition)))
refine_parts (sentence.refine h n u l f r i p c s) = sentence.behind h (both n (sentence.behind u (sentence.behind l (both f (sentence.behind r (both i (sentence.behind p (closed c s))))))))

-- a refinement has one reading, whatever follows
refine_sole : Sole IsRefine IsSameRefine Any
refine_sole = record { one = λ rs ss p q e j k. go rs ss p q e }
  where
    go : {xs ys : List Token} {a b : RefineTree} (rs ss : List Token) → IsRefine xs a → IsRefine ys b → xs ++ rs ≡ ys ++ ss → (rs ≡ ss) × IsSameRefine a b
    go rs ss p q e =
        let a = refine_parts_sole.one rs ss (refine_parts p) (refine_parts q) e any any in
        (a.0, record { message = a.1.first; field = a.1.second.first; inner = a.1.second.second.first; condition = a.1.second.second.second })

refine_starts : {xs : List Token} {a : RefineTree} → IsRefine xs a → Starts (terminal.Keyword word.For ∷ []) xs
refine_starts (sentence.refine h n u l f r i p c s) = token_starts h

-- a type's declaration behind its first word
abbrev TypeParts : List Token → Named × DefTree → Type 0
TypeParts = Both IsNamed (Behind (terminal.Keyword word.Is) (Closed IsDef semicolon))

type_sole : Sole TypeParts (AreBothSame Equal IsSameDef) Any
type_sole = both_sole named_sole (behind_sole (closed_sole def_sole (stops_outside refl))) any_lead

defined_same : {n m : Named} {d e : DefTree} → n ≡ m → IsSameDef d e → IsSameKind (decl.Defined n d) (decl.Defined m e)
defined_same {n} {m} {d} {e} i s = subst (λ k. IsSameKind (decl.Defined n d) (decl.Defined k e)) i (alike.defined s)

-- a declaration has one reading, whatever follows
decl_sole : Sole IsDecl IsSameDecl Any
decl_sole = record { one = λ rs ss p q e j k. go rs ss p q e }
  where
    go : {xs ys : List Token} {a b : DeclTree} (rs ss : List Token) → IsDecl xs a → IsDecl ys b → xs ++ rs ≡ ys ++ ss → (rs ≡ ss) × IsSameDecl a b
    go rs ss (sentence.defined h n i d s) (sentence.defined g m u f v) e =
        let a = type_sole.one rs ss (both n (sentence.behind i (closed d s))) (both m (sentence.behind u (closed f v))) (tail_same e) any any in
        (a.0, record { place = ap (λ v. v.place) (head_same e); kind = defined_same a.1.first a.1.second })
    go rs ss (sentence.refined p) (sentence.refined q) e =
        let a = refine_sole.one rs ss p q e any any in
        (a.0, record { place = ap (λ v. v.place) (head_same e); kind = alike.refined a.1 })
    go rs ss (sentence.defined h n i d s) (sentence.refined q) e = absurd (apart_differ refl (token_starts h) (starts_on ss (refine_starts q)) e)
    go rs ss (sentence.refined p) (sentence.defined g m u f v) e = absurd (apart_differ refl (starts_on rs (refine_starts p)) (token_starts g) e)

abbrev decl_first : List Terminal
decl_first = terminal.Keyword word.Type ∷ terminal.Keyword word.For ∷ []

decl_starts : {xs : List Token} {a : DeclTree} → IsDecl xs a → Starts decl_first xs
decl_starts (sentence.defined h n i d s) = starts_left (terminal.Keyword word.For ∷ []) (token_starts h)
decl_starts (sentence.refined p) = starts_right (terminal.Keyword word.Type ∷ []) (refine_starts p)

decl_turns : Turns (Added IsDecl) Any (Stops decl_first)
decl_turns = record { leads = λ rs x. any; ends = λ rs x k. ends rs x k; stops = λ k. any }
  where
    ends : {xs : List Token} {l m : List DeclTree} (rs : List Token) → Added IsDecl xs l m → Stops decl_first (xs ++ rs) → ⊥
    ends rs (added p) k = start_or_stop (starts_on rs (decl_starts p)) k refl

-- declarations, where none follows
decls_sole : Sole (Each IsDecl) (AreSame IsSameDecl) (Stops decl_first)
decls_sole = within (λ xs l h. each_steps h) (steps_sole decl_sole decl_turns)

-- names of other packages
with_sole : Sole IsWith Equal Any
with_sole = within with_parts (behind_sole (closed_sole named_sole any_outside))
  where
    with_parts : (xs : List Token) (n : Named) → IsWith xs n → Behind (terminal.Keyword word.With) (Closed IsNamed semicolon) xs n
    with_parts _ _ (sentence.with_name h p s) = sentence.behind h (closed p s)

with_turns : Turns (Added IsWith) Any (Stops (terminal.Keyword word.With ∷ []))
with_turns = record { leads = λ rs x. any; ends = λ rs x k. ends rs x k; stops = λ k. any }
  where
    ends : {xs : List Token} {l m : List Named} (rs : List Token) → Added IsWith xs l m → Stops (terminal.Keyword word.With ∷ []) (xs ++ rs) → ⊥
    ends rs (added (sentence.with_name h p s)) k = start_or_stop (token_starts h) k refl

withs_sole : Sole (Each IsWith) (AreSame Equal) (Stops (terminal.Keyword word.With ∷ []))
withs_sole = within (λ xs l h. each_steps h) (steps_sole with_sole with_turns)

-- lists of equal items are equal
all_equal : {A : Type 0} {l m : List A} → AreSame Equal l m → l ≡ m
all_equal alike.none = refl
all_equal (alike.next {x = x} {y = y} {xs = xs} {ys = ys} e r) = ap (λ v. v ∷ xs) e ∙ ap (λ v. y ∷ v) (all_equal r)

-- the parts of a header
abbrev Titled : List Token → Named → Type 0
Titled = Behind (terminal.Keyword word.Package) (Closed IsNamed (terminal.Keyword word.Is))

abbrev HeaderParts : List Token → List Named × Named → Type 0
HeaderParts = Both (Each IsWith) Titled

header_parts_sole : Sole HeaderParts (AreBothSame (AreSame Equal) Equal) Any
header_parts_sole = both_sole withs_sole (behind_sole (closed_sole named_sole any_outside)) (opens_lead behind_opens (stops_outside refl))

header_parts : {xs : List Token} {a : HeaderTree} → IsHeader xs a → HeaderParts xs (a.withs.items, a.name)
header_parts (sentence.header w h n i) = both w (sentence.behind h (closed n i))

-- a header has one reading, whatever follows
header_sole : Sole IsHeader IsSameHeader Any
header_sole = record { one = λ rs ss p q e j k. go rs ss p q e }
  where
    go : {xs ys : List Token} {a b : HeaderTree} (rs ss : List Token) → IsHeader xs a → IsHeader ys b → xs ++ rs ≡ ys ++ ss → (rs ≡ ss) × IsSameHeader a b
    go rs ss p q e =
        let a = header_parts_sole.one rs ss (header_parts p) (header_parts q) e any any in
        (a.0, record { withs = all_equal a.1.first; name = a.1.second })

-- the parts of a package
abbrev Ended : List Token → Named → Type 0
Ended = Behind (terminal.Keyword word.End) (Closed IsNamed semicolon)

abbrev PackageParts : List Token → HeaderTree × (List DeclTree × Named) → Type 0
PackageParts = Both IsHeader (Both (Each IsDecl) Ended)

package_parts_sole : Sole PackageParts (AreBothSame IsSameHeader (AreBothSame (AreSame IsSameDecl) Equal)) Any
package_parts_sole = both_sole header_sole (both_sole decls_sole (behind_sole (closed_sole named_sole any_outside)) (opens_lead behind_opens (stops_outside refl))) any_lead

package_parts : {xs : List Token} {a : PackageTree} → IsPackage xs a → PackageParts xs (a.header, (a.decls.items, a.end_name))
package_parts (sentence.package_text h d e n s) = both h (both d (sentence.behind e (closed n s)))

-- two trees of all the tokens are the same
pub package_same : (ts : List Token) (a b : PackageTree) → IsPackage ts a → IsPackage ts b → IsSamePackage a b
package_same ts a b p q =
    let s = package_parts_sole.one [] [] (package_parts p) (package_parts q) refl any any in
    record { header = s.1.first; decls = s.1.second.first; end_name = s.1.second.second }
