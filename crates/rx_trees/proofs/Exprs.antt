-- Expressions have one reading: chains of operands and operators, and factors, by the length of their tokens.
use Rattle.std.proofs.Common.{◌≡◌, ℕ, zero, suc, ◌<◌, ◌+◌, true, false, List, [], ◌∷◌, ◌++◌, length, length-append, refl, sym, ◌∙◌, subst, arith, append_assoc}
use Rattle.rx_syntax.specs.declared.token.Token.{Token}
use Rattle.rx_syntax.specs.declared.mark.Mark.TheVariants as sign
use Rattle.rx_syntax.specs.declared.tree.ExprTree.{ExprTree}
use Rattle.rx_syntax.specs.declared.tree.ExprTree.TheVariants as tree
use Rattle.rx_grammar.specs.declared.terminal.Terminal.{Terminal}
use Rattle.rx_grammar.specs.declared.terminal.Terminal.TheVariants as terminal
use Rattle.rx_grammar.specs.declared.terminal.Keyword.TheVariants as word
use Rattle.rx_grammar.specs.declared.terminal.Choice.TheVariants as choice
use Rattle.rx_grammar.specs.Terminal.{is_such, is_one_of}
use Rattle.rx_grammar.specs.Grammar.{choice_of, factor_more, power_more, product_more, sum_more, rel_more, conj_more, expr_more}
use Rattle.rx_grammar.specs.First.{first_of, factor_first, all_apart}
use Rattle.rx_grammar.specs.Tokens.{Is, operator_of, number_of}
use Rattle.rx_grammar.specs.Sentence as sentence
use Rattle.rx_grammar.specs.Sentence.{IsBinary, IsNegative, IsNegation, IsExpr, IsConj, IsRel, IsSum, IsSigned, IsProduct, IsPower, IsFactor}
use Rattle.rx_grammar.proofs.First.{or_left}
use Rattle.rx_trees.specs.Alike as alike
use Rattle.rx_trees.specs.Alike.{IsSameExpr}
use Rattle.rx_trees.proofs.Heads.{Stops, Starts, head_same, tail_same, starts_on, starts_left, starts_right, token_starts, one_starts, apart_stops, apart_differ, start_or_stop, stops_left, stops_right}
use Rattle.rx_trees.proofs.Sole.{Sole, within}
use Rattle.rx_trees.proofs.Rest.{Headed, SoleStep, Turns, headed_alone, headed_further, headed_sole}
use Rattle.rx_trees.proofs.Names.{operand_sole, operand_opens}

-- a part of fewer tokens than a number
data Short {A : Type 0} (n : ℕ) (P : List Token → A → Type 0) (xs : List Token) (x : A) : Type 0 where
  short : length xs < n → P xs x → Short n P xs x

-- an operator and an operand behind what stands so far
data Onward (cs : List Terminal) (P : List Token → ExprTree → Type 0) : List Token → ExprTree → ExprTree → Type 0 where
  onward : {t : Token} {ys : List Token} {a b c : ExprTree} → is_one_of cs t.kind ≡ true → P ys b → IsBinary t a b c → Onward cs P (t ∷ ys) a c

-- nodes of the same parts are the same
binary_same : {t u : Token} {a b c d e f : ExprTree} → t ≡ u → IsBinary t a b e → IsBinary u c d f → IsSameExpr a c → IsSameExpr b d → IsSameExpr e f
binary_same {t} {u} {a} {b} {c} {d} i (sentence.binary {p = p} {q = q}) (sentence.binary {p = r} {q = s}) x y =
    subst (λ v. IsSameExpr (tree.Binary' (operator_of t.kind) t.place p a q b) (tree.Binary' (operator_of v.kind) v.place r c s d)) i (alike.binary x y)

negative_same : {t u : Token} {a c e f : ExprTree} → t ≡ u → IsNegative t a e → IsNegative u c f → IsSameExpr a c → IsSameExpr e f
negative_same {t} {u} {a} {c} i (sentence.negative {p = p}) (sentence.negative {p = r}) x =
    subst (λ v. IsSameExpr (tree.Neg' t.place p a) (tree.Neg' v.place r c)) i (alike.negative x)

negation_same : {t u : Token} {a c e f : ExprTree} → t ≡ u → IsNegation t a e → IsNegation u c f → IsSameExpr a c → IsSameExpr e f
negation_same {t} {u} {a} {c} i (sentence.negation {p = p}) (sentence.negation {p = r}) x =
    subst (λ v. IsSameExpr (tree.Not' t.place p a) (tree.Not' v.place r c)) i (alike.negation x)

-- steps of an operator and an operand
onward_starts : {cs : List Terminal} {P : List Token → ExprTree → Type 0} {xs : List Token} {a c : ExprTree} → Onward cs P xs a c → Starts cs xs
onward_starts (onward h p n) = one_starts h

onward_sole : {cs : List Terminal} {P : List Token → ExprTree → Type 0} {Stop : List Token → Type 0} → Sole P IsSameExpr Stop → SoleStep (Onward cs P) IsSameExpr Stop
onward_sole {cs} {P} {Stop} s = record { one = λ rs ss p q i e j k. go rs ss p q i e j k }
  where
    go : {us vs : List Token} {a b c d : ExprTree} (rs ss : List Token) → Onward cs P us a c → Onward cs P vs b d → IsSameExpr a b → us ++ rs ≡ vs ++ ss → Stop rs → Stop ss → (rs ≡ ss) × IsSameExpr c d
    go rs ss (onward h p n) (onward g q m) i e j k = let a = s.one rs ss p q (tail_same e) j k in (a.0, binary_same (head_same e) n m i a.1)

onward_turns : {cs ms : List Terminal} {P : List Token → ExprTree → Type 0} → all_apart cs ms ≡ true → Turns (Onward cs P) (Stops ms) (Stops (cs ++ ms))
onward_turns {cs} {ms} {P} e = record {
  leads = λ rs x. apart_stops e (starts_on rs (onward_starts x));
  ends = λ rs x k. start_or_stop (starts_on rs (onward_starts x)) (stops_left ms k) refl;
  stops = λ k. stops_right cs k;
}

-- operands with operators between them, each of fewer tokens than a number
abbrev Chain : ℕ → (List Token → ExprTree → Type 0) → List Terminal → (List Token → ExprTree → Type 0) → List Token → ExprTree → Type 0
Chain n First cs P = Headed (Short n First) (Onward cs (Short n P))

-- what is a chain of parts with one reading has one
level : {First P Q : List Token → ExprTree → Type 0} (n : ℕ) (cs ms : List Terminal) → all_apart cs ms ≡ true → ((xs : List Token) (e : ExprTree) → length xs < n → Q xs e → Chain n First cs P xs e) → Sole (Short n First) IsSameExpr (Stops ms) → Sole (Short n P) IsSameExpr (Stops ms) → Sole (Short n Q) IsSameExpr (Stops (cs ++ ms))
level {First} {P} {Q} n cs ms e f s t = within chained (headed_sole (onward_sole t) (onward_turns e) s)
  where
    chained : (xs : List Token) (x : ExprTree) → Short n Q xs x → Chain n First cs P xs x
    chained xs x (short l h) = f xs x l h

-- both sides of an operator are shorter than the whole
shorter : {n : ℕ} (xs : List Token) (t : Token) (ys : List Token) → length (xs ++ t ∷ ys) < n → (length xs < n) × (length ys < n)
shorter xs t ys l = let e = length-append xs (t ∷ ys) in (omega arith, omega arith)

one_of : {c : Terminal} {t : Token} → Is c t → is_one_of (c ∷ []) t.kind ≡ true
one_of {c} {t} h = or_left (is_such c t.kind) false h.such

-- each rule of expressions as a chain
power_chain : (n : ℕ) (xs : List Token) (e : ExprTree) → length xs < n → IsPower xs e → Chain n IsFactor (terminal.Mark sign.DoubleStar ∷ []) IsFactor xs e
power_chain n _ _ l (sentence.factor h) = headed_alone (short l h)
power_chain n _ _ l (sentence.raised {xs = xs} {ys = ys} {t = t} a s b i) = let p = shorter xs t ys l in headed_further (headed_alone (short p.0 a)) (onward (one_of s) (short p.1 b) i)

product_chain : (n : ℕ) (xs : List Token) (e : ExprTree) → length xs < n → IsProduct xs e → Chain n IsPower (first_of (choice_of choice.Multiplying)) IsPower xs e
product_chain n _ _ l (sentence.power h) = headed_alone (short l h)
product_chain n _ _ l (sentence.multiplied {xs = xs} {ys = ys} {t = t} {a = x} a s b i) = let p = shorter xs t ys l in headed_further (product_chain n xs x p.0 a) (onward s.such (short p.1 b) i)

sum_chain : (n : ℕ) (xs : List Token) (e : ExprTree) → length xs < n → IsSum xs e → Chain n IsSigned (first_of (choice_of choice.Sign)) IsProduct xs e
sum_chain n _ _ l (sentence.signed h) = headed_alone (short l h)
sum_chain n _ _ l (sentence.added {xs = xs} {ys = ys} {t = t} {a = x} a s b i) = let p = shorter xs t ys l in headed_further (sum_chain n xs x p.0 a) (onward s.such (short p.1 b) i)

rel_chain : (n : ℕ) (xs : List Token) (e : ExprTree) → length xs < n → IsRel xs e → Chain n IsSum (first_of (choice_of choice.Relation)) IsSum xs e
rel_chain n _ _ l (sentence.sum h) = headed_alone (short l h)
rel_chain n _ _ l (sentence.compared {xs = xs} {ys = ys} {t = t} a s b i) = let p = shorter xs t ys l in headed_further (headed_alone (short p.0 a)) (onward s.such (short p.1 b) i)

conj_chain : (n : ℕ) (xs : List Token) (e : ExprTree) → length xs < n → IsConj xs e → Chain n IsRel (terminal.Keyword word.And ∷ []) IsRel xs e
conj_chain n _ _ l (sentence.rel h) = headed_alone (short l h)
conj_chain n _ _ l (sentence.both {xs = xs} {ys = ys} {t = t} {a = x} a s b i) = let p = shorter xs t ys l in headed_further (conj_chain n xs x p.0 a) (onward (one_of s) (short p.1 b) i)

expr_chain : (n : ℕ) (xs : List Token) (e : ExprTree) → length xs < n → IsExpr xs e → Chain n IsConj (terminal.Keyword word.Or ∷ []) IsConj xs e
expr_chain n _ _ l (sentence.conj h) = headed_alone (short l h)
expr_chain n _ _ l (sentence.either {xs = xs} {ys = ys} {t = t} {a = x} a s b i) = let p = shorter xs t ys l in headed_further (expr_chain n xs x p.0 a) (onward (one_of s) (short p.1 b) i)

-- the terminal with which a factor begins
abbrev sort : {xs : List Token} {e : ExprTree} → IsFactor xs e → Terminal
sort (sentence.number h) = terminal.Number
sort (sentence.brackets h p g) = terminal.Mark sign.ParenLeft
sort (sentence.negation h p i) = terminal.Keyword word.Not
sort (sentence.operand p) = terminal.Name

sort_starts : {xs : List Token} {e : ExprTree} (p : IsFactor xs e) → Starts (sort p ∷ []) xs
sort_starts (sentence.number h) = token_starts h
sort_starts (sentence.brackets h p g) = token_starts h
sort_starts (sentence.negation h p i) = token_starts h
sort_starts (sentence.operand p) = operand_opens.opens p

-- with what factors, powers and products begin
factor_starts : {xs : List Token} {e : ExprTree} → IsFactor xs e → Starts factor_first xs
factor_starts (sentence.number h) = starts_left (terminal.Mark sign.ParenLeft ∷ terminal.Keyword word.Not ∷ terminal.Name ∷ []) (token_starts h)
factor_starts (sentence.brackets h p g) = starts_right (terminal.Number ∷ []) (starts_left (terminal.Keyword word.Not ∷ terminal.Name ∷ []) (token_starts h))
factor_starts (sentence.negation h p i) = starts_right (terminal.Number ∷ terminal.Mark sign.ParenLeft ∷ []) (starts_left (terminal.Name ∷ []) (token_starts h))
factor_starts (sentence.operand p) = starts_right (terminal.Number ∷ terminal.Mark sign.ParenLeft ∷ terminal.Keyword word.Not ∷ []) (operand_opens.opens p)

power_starts : {xs : List Token} {e : ExprTree} → IsPower xs e → Starts factor_first xs
power_starts (sentence.factor h) = factor_starts h
power_starts (sentence.raised {ys = ys} {t = t} a s b i) = starts_on (t ∷ ys) (factor_starts a)

product_starts : {xs : List Token} {e : ExprTree} → IsProduct xs e → Starts factor_first xs
product_starts (sentence.power h) = power_starts h
product_starts (sentence.multiplied {ys = ys} {t = t} a s b i) = starts_on (t ∷ ys) (product_starts a)

-- a product with or without a minus before it
signed_sole : (n : ℕ) → Sole (Short n IsProduct) IsSameExpr (Stops product_more) → Sole (Short n IsSigned) IsSameExpr (Stops product_more)
signed_sole n s = record { one = λ rs ss p q e j k. by_length rs ss p q e j k }
  where
    go : {us vs : List Token} {x y : ExprTree} (rs ss : List Token) → length us < n → length vs < n → IsSigned us x → IsSigned vs y → us ++ rs ≡ vs ++ ss → Stops product_more rs → Stops product_more ss → (rs ≡ ss) × IsSameExpr x y
    go rs ss l m (sentence.product p) (sentence.product q) e j k = s.one rs ss (short l p) (short m q) e j k
    go rs ss l m (sentence.negative h p i) (sentence.negative g q o) e j k =
        let a = s.one rs ss (short (omega arith) p) (short (omega arith) q) (tail_same e) j k in
        (a.0, negative_same (head_same e) i o a.1)
    go rs ss l m (sentence.product p) (sentence.negative g q o) e j k = absurd (apart_differ refl (token_starts g) (starts_on rs (product_starts p)) (sym e))
    go rs ss l m (sentence.negative h p i) (sentence.product q) e j k = absurd (apart_differ refl (token_starts h) (starts_on ss (product_starts q)) e)

    by_length : {us vs : List Token} {x y : ExprTree} (rs ss : List Token) → Short n IsSigned us x → Short n IsSigned vs y → us ++ rs ≡ vs ++ ss → Stops product_more rs → Stops product_more ss → (rs ≡ ss) × IsSameExpr x y
    by_length rs ss (short l p) (short m q) e j k = go rs ss l m p q e j k

-- expressions, where factors of as many tokens have one reading
expr_from : (n : ℕ) → Sole (Short n IsFactor) IsSameExpr (Stops factor_more) → Sole (Short n IsExpr) IsSameExpr (Stops expr_more)
expr_from n f =
    let powers : Sole (Short n IsPower) IsSameExpr (Stops power_more) = level n (terminal.Mark sign.DoubleStar ∷ []) factor_more refl (power_chain n) f f in
    let products : Sole (Short n IsProduct) IsSameExpr (Stops product_more) = level n (first_of (choice_of choice.Multiplying)) power_more refl (product_chain n) powers powers in
    let sums : Sole (Short n IsSum) IsSameExpr (Stops sum_more) = level n (first_of (choice_of choice.Sign)) product_more refl (sum_chain n) (signed_sole n products) products in
    let rels : Sole (Short n IsRel) IsSameExpr (Stops rel_more) = level n (first_of (choice_of choice.Relation)) sum_more refl (rel_chain n) sums sums in
    let conjs : Sole (Short n IsConj) IsSameExpr (Stops conj_more) = level n (terminal.Keyword word.And ∷ []) rel_more refl (conj_chain n) rels rels in
    level n (terminal.Keyword word.Or ∷ []) conj_more refl (expr_chain n) conjs conjs

-- what stands in brackets is shorter by two
inner_shorter : {n : ℕ} (l : Token) (xs : List Token) (r : Token) → length (l ∷ xs ++ r ∷ []) < suc n → length xs < n
inner_shorter l xs r h = let e = length-append xs (r ∷ []) in omega arith

closes : {r : Token} {rs : List Token} → Is (terminal.Mark sign.ParenRight) r → Stops expr_more (r ∷ rs)
closes h = apart_stops refl (token_starts h)

-- factors, where shorter factors and expressions have one reading
factor_step : (n : ℕ) → Sole (Short n IsFactor) IsSameExpr (Stops factor_more) → Sole (Short n IsExpr) IsSameExpr (Stops expr_more) → Sole (Short (suc n) IsFactor) IsSameExpr (Stops factor_more)
factor_step n f x = record { one = λ rs ss p q e j k. by_length rs ss p q e j k }
  where
    go : {us vs : List Token} {a b : ExprTree} (rs ss : List Token) → length us < suc n → length vs < suc n → IsFactor us a → IsFactor vs b → us ++ rs ≡ vs ++ ss → Stops factor_more rs → Stops factor_more ss → (rs ≡ ss) × IsSameExpr a b
    go rs ss l m (sentence.number {t = t} h) (sentence.number g) e j k =
        (tail_same e, subst (λ v. IsSameExpr (tree.Number (number_of t.kind) t.place) (tree.Number (number_of v.kind) v.place)) (head_same e) alike.number)
    go rs ss l m (sentence.brackets {l = o} {r = r} {xs = xs} h p g) (sentence.brackets {l = u} {r = c} {xs = ys} h' q g') e j k =
        let a = x.one (r ∷ rs) (c ∷ ss) (short (inner_shorter o xs r l) p) (short (inner_shorter u ys c m) q) (sym (append_assoc xs (r ∷ []) rs) ∙ tail_same e ∙ append_assoc ys (c ∷ []) ss) (closes g) (closes g') in
        (tail_same a.0, a.1)
    go rs ss l m (sentence.negation h p i) (sentence.negation g q o) e j k =
        let a = f.one rs ss (short (omega arith) p) (short (omega arith) q) (tail_same e) j k in
        (a.0, negation_same (head_same e) i o a.1)
    go rs ss l m (sentence.operand p) (sentence.operand q) e j k = operand_sole.one rs ss p q e j k
    go rs ss l m p q e j k = absurd (apart_differ {cs = sort p ∷ []} {ds = sort q ∷ []} refl (starts_on rs (sort_starts p)) (starts_on ss (sort_starts q)) e)

    by_length : {us vs : List Token} {a b : ExprTree} (rs ss : List Token) → Short (suc n) IsFactor us a → Short (suc n) IsFactor vs b → us ++ rs ≡ vs ++ ss → Stops factor_more rs → Stops factor_more ss → (rs ≡ ss) × IsSameExpr a b
    by_length rs ss (short l p) (short m q) e j k = go rs ss l m p q e j k

-- factors of any length
factors : (n : ℕ) → Sole (Short n IsFactor) IsSameExpr (Stops factor_more)
factors zero = record { one = λ rs ss p q e j k. absurd (none p) }
  where
    none : {xs : List Token} {e : ExprTree} → Short 0 IsFactor xs e → ⊥
    none (short l p) = omega arith
factors (suc n) = factor_step n (factors n) (expr_from n (factors n))

-- an expression has one reading where no operator follows
pub expr_sole : Sole IsExpr IsSameExpr (Stops expr_more)
expr_sole = record { one = λ {xs = xs} {ys = ys} rs ss p q e j k. go xs ys rs ss p q e j k }
  where
    go : (xs ys : List Token) {x y : ExprTree} (rs ss : List Token) → IsExpr xs x → IsExpr ys y → xs ++ rs ≡ ys ++ ss → Stops expr_more rs → Stops expr_more ss → (rs ≡ ss) × IsSameExpr x y
    go xs ys rs ss p q e j k =
        let n : ℕ = suc (length xs + length ys) in
        (expr_from n (factors n)).one rs ss (short (omega arith) p) (short (omega arith) q) e j k
