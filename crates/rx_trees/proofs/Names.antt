-- Names and operands have one reading.
use Rattle.std.proofs.Common.{◌≡◌, List, [], ◌∷◌, ◌++◌, Some, None, refl, sym, ap, ◌∙◌, subst, append_assoc, append-nil, ◌⊎◌, inl, inr}
use Rattle.rx_syntax.specs.declared.token.Token.{Token}
use Rattle.rx_syntax.specs.declared.mark.Mark.TheVariants as sign
use Rattle.rx_syntax.specs.declared.tree.Named.{Named}
use Rattle.rx_syntax.specs.declared.tree.NameTree.{NameTree}
use Rattle.rx_syntax.specs.declared.tree.ExprTree.{ExprTree}
use Rattle.rx_syntax.specs.declared.tree.ExprTree.TheVariants as tree
use Rattle.rx_grammar.specs.declared.terminal.Terminal.{Terminal}
use Rattle.rx_grammar.specs.declared.terminal.Terminal.TheVariants as terminal
use Rattle.rx_grammar.specs.declared.terminal.Choice.TheVariants as choice
use Rattle.rx_grammar.specs.Grammar.{name_more, factor_more}
use Rattle.rx_grammar.specs.Tokens.{Is, IsChosen, IsNamed, named, attr_of}
use Rattle.rx_grammar.specs.Sentence as sentence
use Rattle.rx_grammar.specs.Sentence.{IsName, IsOperand}
use Rattle.rx_trees.specs.Alike as alike
use Rattle.rx_trees.specs.Alike.{IsSameExpr}
use Rattle.rx_trees.proofs.Heads.{Stops, Starts, Any, any, head_same, tail_same, start_or_stop, starts_on, starts_left, starts_right, token_starts, apart_stops, apart_differ, narrow}
use Rattle.rx_trees.proofs.Sole.{Sole, Opens}

-- equal values, as a relation
abbrev pub Equal : {A : Type 0} → A → A → Type 0
Equal a b = a ≡ b

-- a name is one token
pub named_opens : Opens IsNamed (terminal.Name ∷ [])
named_opens = record { opens = λ p. subst (λ l. Starts (terminal.Name ∷ []) l) (sym p.whole) (token_starts p.is) }

pub named_sole : Sole IsNamed Equal Any
named_sole = record { one = λ rs ss p q e j k. go rs ss p q e }
  where
    go : {xs ys : List Token} {n m : Named} (rs ss : List Token) → IsNamed xs n → IsNamed ys m → xs ++ rs ≡ ys ++ ss → (rs ≡ ss) × (n ≡ m)
    go {xs} {ys} rs ss p q e =
        let i : p.name ∷ rs ≡ q.name ∷ ss = sym (ap (λ l. l ++ rs) p.whole) ∙ e ∙ ap (λ l. l ++ ss) q.whole in
        (tail_same i, p.named ∙ ap (λ t. named t) (head_same i) ∙ sym q.named)

pub name_opens : Opens IsName (terminal.Name ∷ [])
name_opens = record { opens = λ p. go p }
  where
    go : {xs : List Token} {n : NameTree} → IsName xs n → Starts (terminal.Name ∷ []) xs
    go (sentence.plain p) = named_opens.opens p
    go (sentence.qualified {ys = ys} {colons = t} p h q) = starts_on (t ∷ ys) (named_opens.opens p)

-- a name with a package or without, where no double colon follows
pub name_sole : Sole IsName Equal (Stops name_more)
name_sole = record { one = λ rs ss p q e j k. go rs ss p q e j k }
  where
    go : {xs ys : List Token} {n m : NameTree} (rs ss : List Token) → IsName xs n → IsName ys m → xs ++ rs ≡ ys ++ ss → Stops name_more rs → Stops name_more ss → (rs ≡ ss) × (n ≡ m)
    go rs ss (sentence.plain {n = n} p) (sentence.plain {n = m} q) e j k =
        let a = named_sole.one rs ss p q e any any in
        let made : Named → NameTree = λ x. record { «package» = None; name = x } in
        (a.0, ap (λ x. made x) a.1)
    go rs ss (sentence.plain p) (sentence.qualified {xs = xs} {ys = ys} {colons = t} q h q') e j k =
        let a = named_sole.one rs (t ∷ (ys ++ ss)) p q (e ∙ append_assoc xs (t ∷ ys) ss) any any in
        absurd (start_or_stop (token_starts h) j (sym a.0))
    go rs ss (sentence.qualified {xs = xs} {ys = ys} {colons = t} p h p') (sentence.plain q) e j k =
        let a = named_sole.one (t ∷ (ys ++ rs)) ss p q (sym (append_assoc xs (t ∷ ys) rs) ∙ e) any any in
        absurd (start_or_stop (token_starts h) k a.0)
    go rs ss (sentence.qualified {xs = xs} {ys = ys} {colons = t} {p = a} {n = b} p h p') (sentence.qualified {xs = us} {ys = vs} {colons = u} {p = c} {n = d} q g q') e j k =
        let x = named_sole.one (t ∷ (ys ++ rs)) (u ∷ (vs ++ ss)) p q (sym (append_assoc xs (t ∷ ys) rs) ∙ e ∙ append_assoc us (u ∷ vs) ss) any any in
        let y = named_sole.one rs ss p' q' (tail_same x.0) any any in
        let first : a ≡ c = x.1 in
        let second : b ≡ d = y.1 in
        let made : Named → Named → NameTree = λ v w. record { «package» = Some v; name = w } in
        (y.0, ap (λ v. made v b) first ∙ ap (λ w. made c w) second)

-- what an operand has behind its name, as a node over that name
data Suffix : List Token → (NameTree → ExprTree) → Type 0 where
  alone : Suffix [] (λ n. tree.Name n)
  attribute : {tick a : Token} → Is (terminal.Mark sign.Tick) tick → IsChosen choice.Attribute a → Suffix (tick ∷ a ∷ []) (λ n. tree.Attribute n (attr_of a.kind))
  member : {dot : Token} {ys : List Token} {m : Named} → Is (terminal.Mark sign.Dot) dot → IsNamed ys m → Suffix (dot ∷ ys) (λ n. tree.Member n m)

data Suffixed : List Token → ExprTree → Type 0 where
  suffixed : {xs ys : List Token} {n : NameTree} {f : NameTree → ExprTree} → IsName xs n → Suffix ys f → Suffixed (xs ++ ys) (f n)

abbrev tick_or_dot : List Terminal
tick_or_dot = terminal.Mark sign.Tick ∷ terminal.Mark sign.Dot ∷ []

-- what a suffix begins with
suffix_fronts : {xs : List Token} {f : NameTree → ExprTree} → Suffix xs f → (xs ≡ []) ⊎ Starts tick_or_dot xs
suffix_fronts alone = inl refl
suffix_fronts (attribute {tick = t} {a = a} h c) = inr (first_one h)
  where
    first_one : Is (terminal.Mark sign.Tick) t → Starts tick_or_dot (t ∷ a ∷ [])
    first_one i = starts_left (terminal.Mark sign.Dot ∷ []) (token_starts i)
suffix_fronts (member {dot = t} {ys = ys} h p) = inr (starts_right (terminal.Mark sign.Tick ∷ []) (token_starts h))

suffix_stops : {xs : List Token} {f : NameTree → ExprTree} (rs : List Token) → Suffix xs f → Stops factor_more rs → Stops name_more (xs ++ rs)
suffix_stops {xs} rs s k = go xs (suffix_fronts s)
  where
    go : (l : List Token) → (l ≡ []) ⊎ Starts tick_or_dot l → Stops name_more (l ++ rs)
    go l (inl e) = subst (λ m. Stops name_more (m ++ rs)) (sym e) (narrow refl k)
    go l (inr s) = apart_stops refl (starts_on rs s)

-- a suffix has one reading, where nothing goes on of an operand
suffix_same : {xs ys : List Token} {f g : NameTree → ExprTree} (rs ss : List Token) → Suffix xs f → Suffix ys g → xs ++ rs ≡ ys ++ ss → Stops factor_more rs → Stops factor_more ss → (rs ≡ ss) × ((n : NameTree) → IsSameExpr (f n) (g n))
suffix_same rs ss alone alone e j k = (e, λ n. alike.name)
suffix_same rs ss (attribute {tick = t} {a = a} h c) (attribute {tick = u} {a = b} g d) e j k =
    let at : a ≡ b = head_same (tail_same e) in
    (tail_same (tail_same e), λ n. subst (λ x. IsSameExpr (tree.Attribute n (attr_of a.kind)) (tree.Attribute n (attr_of x.kind))) at alike.attribute)
suffix_same rs ss (member {m = m} h p) (member {m = l} g q) e j k =
    let a = named_sole.one rs ss p q (tail_same e) any any in
    (a.0, λ n. subst (λ x. IsSameExpr (tree.Member n m) (tree.Member n x)) a.1 alike.member)
suffix_same rs ss alone (attribute h c) e j k = absurd (start_or_stop (token_starts h) (narrow refl j) (sym e))
suffix_same rs ss alone (member h p) e j k = absurd (start_or_stop (token_starts h) (narrow refl j) (sym e))
suffix_same rs ss (attribute h c) alone e j k = absurd (start_or_stop (token_starts h) (narrow refl k) e)
suffix_same rs ss (member h p) alone e j k = absurd (start_or_stop (token_starts h) (narrow refl k) e)
suffix_same rs ss (attribute h c) (member g q) e j k = absurd (apart_differ refl (token_starts h) (token_starts g) e)
suffix_same rs ss (member h p) (attribute g d) e j k = absurd (apart_differ refl (token_starts h) (token_starts g) e)

operand_suffixed : {xs : List Token} {e : ExprTree} → IsOperand xs e → Suffixed xs e
operand_suffixed (sentence.name {xs = xs} {n = n} p) = subst (λ l. Suffixed l (tree.Name n)) (append-nil xs) (suffixed p alone)
operand_suffixed (sentence.attribute p h c) = suffixed p (attribute h c)
operand_suffixed (sentence.member p h q) = suffixed p (member h q)

pub operand_opens : Opens IsOperand (terminal.Name ∷ [])
operand_opens = record { opens = λ p. go p }
  where
    go : {xs : List Token} {e : ExprTree} → IsOperand xs e → Starts (terminal.Name ∷ []) xs
    go (sentence.name p) = name_opens.opens p
    go (sentence.attribute {tick = t} {a = a} p h c) = starts_on (t ∷ a ∷ []) (name_opens.opens p)
    go (sentence.member {ys = ys} {dot = t} p h q) = starts_on (t ∷ ys) (name_opens.opens p)

-- an operand has one reading, where neither a tick, a dot nor a double colon follows
pub operand_sole : Sole IsOperand IsSameExpr (Stops factor_more)
operand_sole = record { one = λ rs ss p q e j k. go rs ss (operand_suffixed p) (operand_suffixed q) e j k }
  where
    go : {us vs : List Token} {x y : ExprTree} (rs ss : List Token) → Suffixed us x → Suffixed vs y → us ++ rs ≡ vs ++ ss → Stops factor_more rs → Stops factor_more ss → (rs ≡ ss) × IsSameExpr x y
    go rs ss (suffixed {xs = xs} {ys = ys} {n = n} {f = f} p s) (suffixed {xs = us} {ys = vs} {n = m} {f = g} q t) e j k =
        let a = name_sole.one (ys ++ rs) (vs ++ ss) p q (sym (append_assoc xs ys rs) ∙ e ∙ append_assoc us vs ss) (suffix_stops rs s j) (suffix_stops ss t k) in
        let b = suffix_same rs ss s t a.0 j k in
        (b.0, subst (λ l. IsSameExpr (f n) (g l)) a.1 (b.1 n))
