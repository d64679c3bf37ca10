-- Definitions of types have one reading.
use Rattle.std.proofs.Common.{◌≡◌, Bool, true, false, List, [], ◌∷◌, ◌++◌, Option, None, refl, sym, subst, append-nil}
use Rattle.rx_syntax.specs.declared.token.Token.{Token}
use Rattle.rx_syntax.specs.declared.mark.Mark.TheVariants as sign
use Rattle.rx_syntax.specs.declared.tree.Named.{Named}
use Rattle.rx_syntax.specs.declared.tree.ExprTree.{ExprTree}
use Rattle.rx_syntax.specs.declared.tree.LiteralTree.{LiteralTree}
use Rattle.rx_syntax.specs.declared.tree.EnumAspect.{EnumAspect}
use Rattle.rx_syntax.specs.declared.tree.EnumAspect.TheVariants as easpect
use Rattle.rx_syntax.specs.declared.tree.DefTree.{DefTree}
use Rattle.rx_syntax.specs.declared.tree.DefTree.TheVariants as def
use Rattle.rx_grammar.specs.declared.terminal.Terminal.{Terminal}
use Rattle.rx_grammar.specs.declared.terminal.Terminal.TheVariants as terminal
use Rattle.rx_grammar.specs.declared.terminal.Keyword.TheVariants as word
use Rattle.rx_grammar.specs.declared.terminal.Quoted.TheVariants as quoted
use Rattle.rx_grammar.specs.Grammar.{expr_more, easpect_more, literals_more, def_more}
use Rattle.rx_grammar.specs.First.{all_apart}
use Rattle.rx_grammar.specs.Tokens.{Is, IsNamed}
use Rattle.rx_grammar.specs.Sentence as sentence
use Rattle.rx_grammar.specs.Sentence.{Behind, Listed, Maybe, IsExpr, IsName, IsPlainLiteral, IsNumbered, AreLiterals, IsEnumAspect, AreEnumAspects, IsDef}
use Rattle.rx_trees.specs.Alike as alike
use Rattle.rx_trees.specs.Alike.{AreSame, IsSameIfAny, IsSameExpr, IsSameLiteral, IsSameEnumAspect, IsSameDef}
use Rattle.rx_trees.proofs.Heads.{Stops, Starts, comma, head_same, tail_same, starts_on, token_starts, apart_stops, apart_differ, start_or_stop, stops_left, stops_right, narrow}
use Rattle.rx_trees.proofs.Sole.{Sole, Both, both, AreBothSame, within, stops_outside, opens_lead, any_lead, behind_opens, both_sole, behind_sole, maybe_sole, word_sole}
use Rattle.rx_trees.proofs.Rest.{Added, added, Turns, headed_sole, added_sole, alone_sole, listed_headed}
use Rattle.rx_trees.proofs.Names.{Equal, named_sole, name_sole}
use Rattle.rx_trees.proofs.Exprs.{expr_sole}
use Rattle.rx_trees.proofs.Fields.{message_sole, message_starts}

-- lists of parts that no comma goes on
comma_turns : {A : Type 0} {P : List Token → A → Type 0} {ms : List Terminal} → all_apart (comma ∷ []) ms ≡ true → Turns (Added (Behind comma P)) (Stops ms) (Stops (comma ∷ ms))
comma_turns {A} {P} {ms} e = record { leads = λ rs x. apart_stops e (starts_on rs (starts x)); ends = λ rs x k. start_or_stop (starts_on rs (starts x)) (stops_left ms k) refl; stops = λ k. stops_right (comma ∷ []) k }
  where
    starts : {xs : List Token} {l m : List A} → Added (Behind comma P) xs l m → Starts (comma ∷ []) xs
    starts (added (sentence.behind h p)) = token_starts h

listed_sole : {A : Type 0} {P : List Token → A → Type 0} {S : A → A → Type 0} {ms : List Terminal} → all_apart (comma ∷ []) ms ≡ true → Sole P S (Stops ms) → Sole (Listed P) (AreSame S) (Stops (comma ∷ ms))
listed_sole e s = within (λ xs l h. listed_headed h) (headed_sole (added_sole (behind_sole s)) (comma_turns e) (alone_sole s))

abbrev arrow_mark : Terminal
arrow_mark = terminal.Mark sign.Arrow

-- a literal with its number or without
abbrev LiteralParts : List Token → Named × Option ExprTree → Type 0
LiteralParts = Both IsNamed (Maybe (Behind arrow_mark IsExpr))

data Literal (xs : List Token) (l : LiteralTree) : Type 0 where
  literal : LiteralParts xs (l.name, l.number) → Literal xs l

parts_sole : Sole LiteralParts (AreBothSame Equal (IsSameIfAny IsSameExpr)) (Stops easpect_more)
parts_sole = both_sole named_sole (maybe_sole (behind_sole expr_sole) behind_opens (λ ts k. stops_right (arrow_mark ∷ []) k) (λ ts k. stops_left expr_more k)) any_lead

-- a literal of either kind, where neither an arrow nor an operator follows
literal_sole : Sole Literal IsSameLiteral (Stops easpect_more)
literal_sole = record { one = λ rs ss p q e j k. go rs ss p q e j k }
  where
    go : {xs ys : List Token} {a b : LiteralTree} (rs ss : List Token) → Literal xs a → Literal ys b → xs ++ rs ≡ ys ++ ss → Stops easpect_more rs → Stops easpect_more ss → (rs ≡ ss) × IsSameLiteral a b
    go rs ss (literal p) (literal q) e j k = let a = parts_sole.one rs ss p q e j k in (a.0, record { name = a.1.first; number = a.1.second })

plain_literal : (xs : List Token) (l : LiteralTree) → IsPlainLiteral xs l → Literal xs l
plain_literal xs _ (sentence.plain {n = n} p) = literal (subst (λ l. LiteralParts l (n, None)) (append-nil xs) (both p sentence.absent))

numbered_literal : (xs : List Token) (l : LiteralTree) → IsNumbered xs l → Literal xs l
numbered_literal _ _ (sentence.numbered p h q) = literal (both p (sentence.present (sentence.behind h q)))

listed_all : {A : Type 0} {P Q : List Token → A → Type 0} {xs : List Token} {l : List A} → ((xs : List Token) (x : A) → P xs x → Q xs x) → Listed P xs l → Listed Q xs l
listed_all f (sentence.single p) = sentence.single (f _ _ p)
listed_all f (sentence.further r c p) = sentence.further (listed_all f r) c (f _ _ p)

-- literals of either kind, as one kind
literals_sole : Sole AreLiterals (AreSame IsSameLiteral) (Stops literals_more)
literals_sole = within all_literals (listed_sole refl literal_sole)
  where
    all_literals : (xs : List Token) (l : List LiteralTree) → AreLiterals xs l → Listed Literal xs l
    all_literals _ _ (sentence.plain h) = listed_all plain_literal h
    all_literals _ _ (sentence.numbered h) = listed_all numbered_literal h

-- the name with which an aspect of an enumeration begins
abbrev aspect_sort : {xs : List Token} {a : EnumAspect} → IsEnumAspect xs a → Terminal
aspect_sort (sentence.size h r p) = terminal.Quoted quoted.Size
aspect_sort (sentence.always h) = terminal.Quoted quoted.AlwaysValid
aspect_sort (sentence.always_true h r v) = terminal.Quoted quoted.AlwaysValid
aspect_sort (sentence.always_false h r v) = terminal.Quoted quoted.AlwaysValid

aspect_starts : {xs : List Token} {a : EnumAspect} (p : IsEnumAspect xs a) → Starts (aspect_sort p ∷ []) xs
aspect_starts (sentence.size h r p) = token_starts h
aspect_starts (sentence.always h) = token_starts h
aspect_starts (sentence.always_true h r v) = token_starts h
aspect_starts (sentence.always_false h r v) = token_starts h

always_same : {t u : Token} (b : Bool) → t ≡ u → IsSameEnumAspect (easpect.AlwaysValid t.place b) (easpect.AlwaysValid u.place b)
always_same {t} b e = subst (λ v. IsSameEnumAspect (easpect.AlwaysValid t.place b) (easpect.AlwaysValid v.place b)) e alike.always

-- an aspect of an enumeration, where no arrow follows
enum_aspect_sole : Sole IsEnumAspect IsSameEnumAspect (Stops easpect_more)
enum_aspect_sole = record { one = λ rs ss p q e j k. go rs ss p q e j k }
  where
    no_arrow : {t : Token} {ts rs : List Token} {B : Type 0} → Is arrow_mark t → Stops easpect_more rs → t ∷ ts ≡ rs → B
    no_arrow h k e = absurd (start_or_stop (token_starts h) (stops_left expr_more k) e)

    go : {xs ys : List Token} {a b : EnumAspect} (rs ss : List Token) → IsEnumAspect xs a → IsEnumAspect ys b → xs ++ rs ≡ ys ++ ss → Stops easpect_more rs → Stops easpect_more ss → (rs ≡ ss) × IsSameEnumAspect a b
    go rs ss (sentence.size {t = t} {e = x} h r p) (sentence.size {e = y} g s q) e j k =
        let a = expr_sole.one rs ss p q (tail_same (tail_same e)) (stops_right (arrow_mark ∷ []) j) (stops_right (arrow_mark ∷ []) k) in
        (a.0, subst (λ v. IsSameEnumAspect (easpect.Size t.place x) (easpect.Size v.place y)) (head_same e) (alike.size a.1))
    go rs ss (sentence.always h) (sentence.always g) e j k = (tail_same e, always_same true (head_same e))
    go rs ss (sentence.always_true h r v) (sentence.always_true g s w) e j k = (tail_same (tail_same (tail_same e)), always_same true (head_same e))
    go rs ss (sentence.always_false h r v) (sentence.always_false g s w) e j k = (tail_same (tail_same (tail_same e)), always_same false (head_same e))
    go rs ss (sentence.always h) (sentence.always_true g s w) e j k = no_arrow s j (sym (tail_same e))
    go rs ss (sentence.always h) (sentence.always_false g s w) e j k = no_arrow s j (sym (tail_same e))
    go rs ss (sentence.always_true h r v) (sentence.always g) e j k = no_arrow r k (tail_same e)
    go rs ss (sentence.always_false h r v) (sentence.always g) e j k = no_arrow r k (tail_same e)
    go rs ss (sentence.always_true h r v) (sentence.always_false g s w) e j k = absurd (apart_differ refl (token_starts v) (token_starts w) (tail_same (tail_same e)))
    go rs ss (sentence.always_false h r v) (sentence.always_true g s w) e j k = absurd (apart_differ refl (token_starts v) (token_starts w) (tail_same (tail_same e)))
    go rs ss p q e j k = absurd (apart_differ {cs = aspect_sort p ∷ []} {ds = aspect_sort q ∷ []} refl (starts_on rs (aspect_starts p)) (starts_on ss (aspect_starts q)) e)

-- aspects of an enumeration behind a `with`, or none
enum_aspects_sole : Sole AreEnumAspects (AreSame IsSameEnumAspect) (Stops def_more)
enum_aspects_sole = word_sole (listed_sole refl enum_aspect_sole) (λ ts k. stops_right (terminal.Keyword word.With ∷ []) k) (λ ts k. stops_left literals_more k)

-- a range and its size
abbrev Sized : List Token → ExprTree → Type 0
Sized = Behind (terminal.Keyword word.With) (Behind (terminal.Quoted quoted.Size) (Behind arrow_mark IsExpr))

abbrev Ranged : List Token → ExprTree × (ExprTree × ExprTree) → Type 0
Ranged = Both IsExpr (Behind (terminal.Mark sign.DoubleDot) (Both IsExpr Sized))

ranged_sole : Sole Ranged (AreBothSame IsSameExpr (AreBothSame IsSameExpr IsSameExpr)) (Stops expr_more)
ranged_sole =
    let sizes : Sole Sized IsSameExpr (Stops expr_more) = behind_sole (behind_sole (behind_sole expr_sole)) in
    both_sole expr_sole (behind_sole (both_sole expr_sole sizes (opens_lead behind_opens (stops_outside refl)))) (opens_lead behind_opens (stops_outside refl))

-- literals in brackets and their aspects
abbrev Enumerated : List Token → List LiteralTree × List EnumAspect → Type 0
Enumerated = Both AreLiterals (Behind (terminal.Mark sign.ParenRight) AreEnumAspects)

enumerated_sole : Sole Enumerated (AreBothSame (AreSame IsSameLiteral) (AreSame IsSameEnumAspect)) (Stops def_more)
enumerated_sole = both_sole literals_sole (behind_sole enum_aspects_sole) (opens_lead behind_opens (stops_outside refl))

-- the terminal with which a definition begins
abbrev def_sort : {xs : List Token} {d : DefTree} → IsDef xs d → Terminal
def_sort (sentence.unsigned h p) = terminal.Keyword word.Unsigned
def_sort (sentence.range h a d b w s r c) = terminal.Keyword word.Range
def_sort (sentence.enumeration h l r a) = terminal.Mark sign.ParenLeft
def_sort (sentence.sequence h o n) = terminal.Keyword word.Sequence
def_sort (sentence.derived h n) = terminal.Keyword word.New
def_sort (sentence.null h m) = terminal.Keyword word.Null
def_sort (sentence.message m) = terminal.Keyword word.Message

def_starts : {xs : List Token} {d : DefTree} (p : IsDef xs d) → Starts (def_sort p ∷ []) xs
def_starts (sentence.unsigned h p) = token_starts h
def_starts (sentence.range h a d b w s r c) = token_starts h
def_starts (sentence.enumeration h l r a) = token_starts h
def_starts (sentence.sequence h o n) = token_starts h
def_starts (sentence.derived h n) = token_starts h
def_starts (sentence.null h m) = token_starts h
def_starts (sentence.message m) = message_starts m

-- a definition has one reading, where nothing goes on of it
pub def_sole : Sole IsDef IsSameDef (Stops def_more)
def_sole = record { one = λ rs ss p q e j k. go rs ss p q e j k }
  where
    go : {xs ys : List Token} {a b : DefTree} (rs ss : List Token) → IsDef xs a → IsDef ys b → xs ++ rs ≡ ys ++ ss → Stops def_more rs → Stops def_more ss → (rs ≡ ss) × IsSameDef a b
    go rs ss (sentence.unsigned h p) (sentence.unsigned g q) e j k =
        let a = expr_sole.one rs ss p q (tail_same e) (narrow refl j) (narrow refl k) in
        (a.0, alike.unsigned a.1)
    go rs ss (sentence.range h x d y w s r z) (sentence.range h' x' d' y' w' s' r' z') e j k =
        let a = ranged_sole.one rs ss (both x (sentence.behind d (both y (sentence.behind w (sentence.behind s (sentence.behind r z)))))) (both x' (sentence.behind d' (both y' (sentence.behind w' (sentence.behind s' (sentence.behind r' z')))))) (tail_same e) (narrow refl j) (narrow refl k) in
        (a.0, alike.range a.1.first a.1.second.first a.1.second.second)
    go rs ss (sentence.enumeration h l r x) (sentence.enumeration h' l' r' x') e j k =
        let a = enumerated_sole.one rs ss (both l (sentence.behind r x)) (both l' (sentence.behind r' x')) (tail_same e) j k in
        (a.0, alike.enumeration a.1.first a.1.second)
    go rs ss (sentence.sequence {n = n} h o p) (sentence.sequence g u q) e j k =
        let a = name_sole.one rs ss p q (tail_same (tail_same e)) (narrow refl j) (narrow refl k) in
        (a.0, subst (λ m. IsSameDef (def.Sequence n) (def.Sequence m)) a.1 alike.sequence)
    go rs ss (sentence.derived {n = n} h p) (sentence.derived g q) e j k =
        let a = name_sole.one rs ss p q (tail_same e) (narrow refl j) (narrow refl k) in
        (a.0, subst (λ m. IsSameDef (def.Derived n) (def.Derived m)) a.1 alike.derived)
    go rs ss (sentence.null h m) (sentence.null g n) e j k = (tail_same (tail_same e), alike.null)
    go rs ss (sentence.message p) (sentence.message q) e j k =
        let a = message_sole.one rs ss p q e (narrow refl j) (narrow refl k) in
        (a.0, alike.message a.1)
    go rs ss p q e j k = absurd (apart_differ {cs = def_sort p ∷ []} {ds = def_sort q ∷ []} refl (starts_on rs (def_starts p)) (starts_on ss (def_starts q)) e)
