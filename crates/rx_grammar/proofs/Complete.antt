-- What has a tree is derived by the grammar.
use Rattle.std.proofs.Common.{◌≡◌, true, List, [], ◌∷◌, ◌++◌, refl, sym, subst, append_assoc, append-nil, Option, Some, None, ap}
use Rattle.rx_syntax.specs.declared.token.Token.{Token}
use Rattle.rx_syntax.specs.declared.mark.Mark.TheVariants as sign
use Rattle.rx_syntax.specs.declared.tree.Named.{Named}
use Rattle.rx_syntax.specs.declared.tree.NameTree.{NameTree}
use Rattle.rx_syntax.specs.declared.tree.ExprTree.{ExprTree}
use Rattle.rx_syntax.specs.declared.tree.AspectTree.{AspectTree}
use Rattle.rx_syntax.specs.declared.tree.ThenTree.{ThenTree}
use Rattle.rx_syntax.specs.declared.tree.FieldTree.{FieldTree}
use Rattle.rx_syntax.specs.declared.tree.LiteralTree.{LiteralTree}
use Rattle.rx_syntax.specs.declared.tree.EnumAspect.{EnumAspect}
use Rattle.rx_syntax.specs.declared.tree.MessageTree.{MessageTree}
use Rattle.rx_syntax.specs.declared.tree.DefTree.{DefTree}
use Rattle.rx_syntax.specs.declared.tree.RefineTree.{RefineTree}
use Rattle.rx_syntax.specs.declared.tree.DeclTree.{DeclTree}
use Rattle.rx_syntax.specs.declared.tree.HeaderTree.{HeaderTree}
use Rattle.rx_syntax.specs.declared.tree.PackageTree.{PackageTree}
use Rattle.rx_grammar.specs.declared.terminal.Terminal.{Terminal}
use Rattle.rx_grammar.specs.declared.terminal.Terminal.TheVariants as terminal
use Rattle.rx_grammar.specs.declared.terminal.Keyword.TheVariants as word
use Rattle.rx_grammar.specs.declared.terminal.Choice.{Choice}
use Rattle.rx_grammar.specs.declared.terminal.Choice.TheVariants as choice
use Rattle.rx_grammar.specs.Tokens.{Is, IsChosen, IsNamed}
use Rattle.rx_grammar.specs.Grammar.{Symbol, Extent, Derives, one, rule, mark, key, quote, NAME, choice_of, ◌▸◌, ◌∣◌, maybe, many, some, listed, full_name, expr, conj, rel, sum, product, power, factor, operand, signed, attr, condition, with_aspects, aspect, aspects, one_then, thens, more_thens, field, start_thens, byte_order, order, message_def, numbered, literals, plain_literals, numbered_literals, easpect, with_easpects, def, inner, refine, plain_decl, with_clause, header, plain_file, token, by_rule, in_turn, first, second, absent, present, no_more, one_more, nothing}
use Rattle.rx_grammar.specs.Sentence as sentence
use Rattle.rx_grammar.specs.Sentence.{Each, AtLeastOne, Listed, Maybe, AfterWord, Behind, IsName, IsOperand, IsExpr, IsConj, IsRel, IsSum, IsSigned, IsProduct, IsPower, IsFactor, IsCondition, IsAspect, AreAspects, IsTarget, IsThen, AreThens, MaybeThens, IsField, IsStart, IsByteOrder, IsMessage, IsPlainLiteral, IsNumbered, AreLiterals, IsEnumAspect, AreEnumAspects, IsDef, IsInner, IsRefine, IsDecl, IsWith, IsHeader, IsPackage}
use Rattle.rx_grammar.proofs.Steps.{flat_up, choice_flat}
use Rattle.rx_grammar.proofs.Factor.{kept}

-- the tokens of a part stand before what the other symbols derive
abbrev BeforeAll : {A : Type 0} → (List Token → A → Type 0) → Symbol → Type 0
BeforeAll {A} P s = (xs : List Token) (x : A) → P xs x → (w : Extent) (ss : List Symbol) (ys : List Token) → Derives w ss ys → Derives w (s ∷ ss) (xs ++ ys)

chosen : {c : Choice} {t : Token} {w : Extent} {ss : List Symbol} {ys : List Token} → IsChosen c t → Derives w ss ys → Derives w (choice_of c ∷ ss) (t ∷ ys)
chosen {c} h d = flat_up (choice_of c) (choice_flat c) h.such d

name_before : {xs : List Token} {n : Named} → IsNamed xs n → {w : Extent} {ss : List Symbol} {ys : List Token} → Derives w ss ys → Derives w (NAME ∷ ss) (xs ++ ys)
name_before h {w} {ss} {ys} d = subst (λ zs. Derives w (NAME ∷ ss) (zs ++ ys)) (sym h.whole) (token h.is.such d)

full_before : {xs : List Token} {n : NameTree} → IsName xs n → {w : Extent} {ss : List Symbol} {ys : List Token} → Derives w ss ys → Derives w (rule full_name ∷ ss) (xs ++ ys)
full_before (sentence.plain a) d = by_rule (in_turn (name_before a (absent d)))
full_before (sentence.qualified {xs = xs} {ys = zs} {colons = t} a b c) {w} {ss} {ys} d =
    subst (Derives w (rule full_name ∷ ss)) (sym (append_assoc xs (t ∷ zs) ys)) (by_rule (in_turn (name_before a (present (in_turn (token b.such (name_before c d)))))))

operand_before : {xs : List Token} {e : ExprTree} → IsOperand xs e → {w : Extent} {ss : List Symbol} {ys : List Token} → Derives w ss ys → Derives w (operand ∷ ss) (xs ++ ys)
operand_before (sentence.name n) d = in_turn (full_before n (absent d))
operand_before (sentence.attribute {xs = xs} {tick = t} {a = u} n a b) {w} {ss} {ys} d =
    subst (Derives w (operand ∷ ss)) (sym (append_assoc xs (t ∷ u ∷ []) ys)) (in_turn (full_before n (present (first (in_turn (token a.such (by_rule (chosen b d))))))))
operand_before (sentence.member {xs = xs} {ys = zs} {dot = t} n a b) {w} {ss} {ys} d =
    subst (Derives w (operand ∷ ss)) (sym (append_assoc xs (t ∷ zs) ys)) (in_turn (full_before n (present (second (in_turn (token a.such (name_before b d)))))))

mutual
  expr_grows : {xs : List Token} {e : ExprTree} → IsExpr xs e → {w : Extent} {ss : List Symbol} {ys : List Token} → Derives w (many (key word.Or ▸ rule conj) ∷ ss) ys → Derives w (rule expr ∷ ss) (xs ++ ys)
  expr_grows (sentence.conj h) d = by_rule (in_turn (conj_grows h (no_more d)))
  expr_grows (sentence.either {xs = xs} {ys = zs} {t = t} a s b n) {w} {ss} {ys} d =
      subst (Derives w (rule expr ∷ ss)) (sym (append_assoc xs (t ∷ zs) ys)) (expr_grows a (one_more (in_turn (token s.such (conj_grows b (no_more d))))))

  conj_grows : {xs : List Token} {e : ExprTree} → IsConj xs e → {w : Extent} {ss : List Symbol} {ys : List Token} → Derives w (many (key word.And ▸ rule rel) ∷ ss) ys → Derives w (rule conj ∷ ss) (xs ++ ys)
  conj_grows (sentence.rel h) d = by_rule (in_turn (rel_before h d))
  conj_grows (sentence.both {xs = xs} {ys = zs} {t = t} a s b n) {w} {ss} {ys} d =
      subst (Derives w (rule conj ∷ ss)) (sym (append_assoc xs (t ∷ zs) ys)) (conj_grows a (one_more (in_turn (token s.such (rel_before b d)))))

  rel_before : {xs : List Token} {e : ExprTree} → IsRel xs e → {w : Extent} {ss : List Symbol} {ys : List Token} → Derives w ss ys → Derives w (rule rel ∷ ss) (xs ++ ys)
  rel_before (sentence.sum h) d = by_rule (in_turn (sum_grows h (no_more (absent d))))
  rel_before (sentence.compared {xs = xs} {ys = zs} {t = t} a s b n) {w} {ss} {ys} d =
      subst (Derives w (rule rel ∷ ss)) (sym (append_assoc xs (t ∷ zs) ys)) (by_rule (in_turn (sum_grows a (no_more (present (in_turn (chosen s (sum_grows b (no_more d)))))))))

  sum_grows : {xs : List Token} {e : ExprTree} → IsSum xs e → {w : Extent} {ss : List Symbol} {ys : List Token} → Derives w (many (choice_of choice.Sign ▸ rule product) ∷ ss) ys → Derives w (rule sum ∷ ss) (xs ++ ys)
  sum_grows (sentence.signed h) d = by_rule (in_turn (signed_before h d))
  sum_grows (sentence.added {xs = xs} {ys = zs} {t = t} a s b n) {w} {ss} {ys} d =
      subst (Derives w (rule sum ∷ ss)) (sym (append_assoc xs (t ∷ zs) ys)) (sum_grows a (one_more (in_turn (chosen s (product_grows b (no_more d))))))

  signed_before : {xs : List Token} {e : ExprTree} → IsSigned xs e → {w : Extent} {ss : List Symbol} {ys : List Token} → Derives w ss ys → Derives w (signed ∷ ss) (xs ++ ys)
  signed_before (sentence.product h) d = in_turn (absent (product_grows h (no_more d)))
  signed_before (sentence.negative m h n) d = in_turn (present (token m.such (product_grows h (no_more d))))

  product_grows : {xs : List Token} {e : ExprTree} → IsProduct xs e → {w : Extent} {ss : List Symbol} {ys : List Token} → Derives w (many (choice_of choice.Multiplying ▸ rule power) ∷ ss) ys → Derives w (rule product ∷ ss) (xs ++ ys)
  product_grows (sentence.power h) d = by_rule (in_turn (power_before h d))
  product_grows (sentence.multiplied {xs = xs} {ys = zs} {t = t} a s b n) {w} {ss} {ys} d =
      subst (Derives w (rule product ∷ ss)) (sym (append_assoc xs (t ∷ zs) ys)) (product_grows a (one_more (in_turn (chosen s (power_before b d)))))

  power_before : {xs : List Token} {e : ExprTree} → IsPower xs e → {w : Extent} {ss : List Symbol} {ys : List Token} → Derives w ss ys → Derives w (rule power ∷ ss) (xs ++ ys)
  power_before (sentence.factor h) d = by_rule (in_turn (factor_before h (absent d)))
  power_before (sentence.raised {xs = xs} {ys = zs} {t = t} a s b n) {w} {ss} {ys} d =
      subst (Derives w (rule power ∷ ss)) (sym (append_assoc xs (t ∷ zs) ys)) (by_rule (in_turn (factor_before a (present (in_turn (token s.such (factor_before b d)))))))

  factor_before : {xs : List Token} {e : ExprTree} → IsFactor xs e → {w : Extent} {ss : List Symbol} {ys : List Token} → Derives w ss ys → Derives w (rule factor ∷ ss) (xs ++ ys)
  factor_before (sentence.number a) d = by_rule (first (token a.such d))
  factor_before (sentence.brackets {l = l} {r = r} {xs = xs} a e b) {w} {ss} {ys} d =
      by_rule (second (first (in_turn (token a.such (in_turn (subst (Derives w (rule expr ∷ mark sign.ParenRight ∷ ss)) (sym (append_assoc xs (r ∷ []) ys)) (expr_grows e (no_more (token b.such d)))))))))
  factor_before (sentence.negation a f n) d = by_rule (second (second (first (in_turn (token a.such (factor_before f d))))))
  factor_before (sentence.operand h) d = by_rule (second (second (second (operand_before h d))))

pub expr_before : {xs : List Token} {e : ExprTree} → IsExpr xs e → {w : Extent} {ss : List Symbol} {ys : List Token} → Derives w ss ys → Derives w (rule expr ∷ ss) (xs ++ ys)
expr_before h d = expr_grows h (no_more d)

-- lists of parts
each_before : {A : Type 0} {P : List Token → A → Type 0} {s : Symbol} → BeforeAll P s → {xs : List Token} {trees : List A} → Each P xs trees → {w : Extent} {ss : List Symbol} {ys : List Token} → Derives w (many s ∷ ss) ys → Derives w (many s ∷ ss) (xs ++ ys)
each_before p sentence.none d = d
each_before {s = s} p (sentence.one_more {xs = xs} {ys = zs} h x) {w} {ss} {ys} d =
    subst (Derives w (many s ∷ ss)) (sym (append_assoc xs zs ys)) (each_before p h (one_more (p _ _ x _ _ _ d)))

listed_before : {A : Type 0} {P : List Token → A → Type 0} {s : Symbol} → BeforeAll P s → {xs : List Token} {trees : List A} → Listed P xs trees → {w : Extent} {ss : List Symbol} {ys : List Token} → Derives w (many (mark sign.Comma ▸ s) ∷ ss) ys → Derives w (s ∷ many (mark sign.Comma ▸ s) ∷ ss) (xs ++ ys)
listed_before p (sentence.single x) d = p _ _ x _ _ _ d
listed_before {s = s} p (sentence.further {xs = xs} {ys = zs} {comma = t} h c x) {w} {ss} {ys} d =
    subst (Derives w (s ∷ many (mark sign.Comma ▸ s) ∷ ss)) (sym (append_assoc xs (t ∷ zs) ys)) (listed_before p h (one_more (in_turn (token c.such (p _ _ x _ _ _ d)))))

condition_before : {xs : List Token} {e : Option ExprTree} → IsCondition xs e → {w : Extent} {ss : List Symbol} {ys : List Token} → Derives w ss ys → Derives w (condition ∷ ss) (xs ++ ys)
condition_before sentence.absent d = absent d
condition_before (sentence.present (sentence.behind a h)) d = present (in_turn (token a.such (expr_before h d)))

aspect_before : {xs : List Token} {a : AspectTree} → IsAspect xs a → {w : Extent} {ss : List Symbol} {ys : List Token} → Derives w ss ys → Derives w (rule aspect ∷ ss) (xs ++ ys)
aspect_before (sentence.first a b h) d = by_rule (in_turn (first (token a.such (in_turn (token b.such (expr_before h d))))))
aspect_before (sentence.size a b h) d = by_rule (in_turn (second (token a.such (in_turn (token b.such (expr_before h d))))))

aspects_before : {xs : List Token} {trees : List AspectTree} → AreAspects xs trees → {w : Extent} {ss : List Symbol} {ys : List Token} → Derives w ss ys → Derives w (with_aspects ∷ ss) (xs ++ ys)
aspects_before sentence.absent d = absent d
aspects_before (sentence.present a h) d = present (in_turn (token a.such (by_rule (in_turn (listed_before (λ xs x h' w ss ys d'. aspect_before h' d') h (no_more d))))))

then_before : {xs : List Token} {a : ThenTree} → IsThen xs a → {w : Extent} {ss : List Symbol} {ys : List Token} → Derives w ss ys → Derives w (rule one_then ∷ ss) (xs ++ ys)
then_before (sentence.link {t = t} {xs = xs} {ys = zs} a (sentence.field n) p h c) {w} {ss} {ys} d =
    by_rule (in_turn (token a.such (in_turn (first (token n.such (in_turn (subst (Derives w (with_aspects ∷ condition ∷ ss)) (sym (append_assoc xs zs ys)) (aspects_before h (condition_before c d)))))))))
then_before (sentence.link {t = t} {xs = xs} {ys = zs} a (sentence.null n) p h c) {w} {ss} {ys} d =
    by_rule (in_turn (token a.such (in_turn (second (token n.such (in_turn (subst (Derives w (with_aspects ∷ condition ∷ ss)) (sym (append_assoc xs zs ys)) (aspects_before h (condition_before c d)))))))))

thens_grow : {xs : List Token} {trees : List ThenTree} → AreThens xs trees → {w : Extent} {ss : List Symbol} {ys : List Token} → Derives w (more_thens ∷ ss) ys → Derives w (rule thens ∷ ss) (xs ++ ys)
thens_grow (sentence.single x) d = by_rule (in_turn (then_before x d))
thens_grow (sentence.next {xs = xs} {ys = zs} h x) {w} {ss} {ys} d =
    subst (Derives w (rule thens ∷ ss)) (sym (append_assoc xs zs ys)) (thens_grow h (one_more (in_turn (absent (then_before x d)))))
thens_grow (sentence.next_comma {xs = xs} {ys = zs} {comma = t} h c x) {w} {ss} {ys} d =
    subst (Derives w (rule thens ∷ ss)) (sym (append_assoc xs (t ∷ zs) ys)) (thens_grow h (one_more (in_turn (present (token c.such (then_before x d))))))

maybe_thens_before : {xs : List Token} {trees : List ThenTree} → MaybeThens xs trees → {w : Extent} {ss : List Symbol} {ys : List Token} → Derives w ss ys → Derives w (maybe (rule thens) ∷ ss) (xs ++ ys)
maybe_thens_before sentence.none d = absent d
maybe_thens_before (sentence.some h) d = present (thens_grow h (no_more d))

-- right-nested parts before the other tokens
field_before : {xs : List Token} {f : FieldTree} → IsField xs f → {w : Extent} {ss : List Symbol} {ys : List Token} → Derives w ss ys → Derives w (rule field ∷ ss) (xs ++ ys)
field_before (sentence.field {colon = c} {end = e} {xs = xs} {ys = bs} {zs = zs} {us = us} {vs = vs} n a k h t v s) {w} {ss} {ys} d =
    rw (append_assoc xs (c ∷ (bs ++ (zs ++ (us ++ (vs ++ e ∷ []))))) ys, append_assoc bs (zs ++ (us ++ (vs ++ e ∷ []))) ys, append_assoc zs (us ++ (vs ++ e ∷ [])) ys, append_assoc us (vs ++ e ∷ []) ys, append_assoc vs (e ∷ []) ys)
    (by_rule (in_turn (name_before n (in_turn (token a.such (in_turn (full_before k (in_turn (aspects_before h (in_turn (condition_before t (in_turn (maybe_thens_before v (token s.such d))))))))))))))

start_before : {xs : List Token} {trees : List ThenTree} → IsStart xs trees → {w : Extent} {ss : List Symbol} {ys : List Token} → Derives w ss ys → Derives w (start_thens ∷ ss) (xs ++ ys)
start_before sentence.none d = absent d
start_before (sentence.some {null = n} {end = e} {xs = xs} a h s) {w} {ss} {ys} d =
    rw (append_assoc xs (e ∷ []) ys) (present (in_turn (token a.such (in_turn (thens_grow h (no_more (token s.such d)))))))

order_before : {xs : List Token} {b : _} → IsByteOrder xs b → {w : Extent} {ss : List Symbol} {ys : List Token} → Derives w ss ys → Derives w (byte_order ∷ ss) (xs ++ ys)
order_before sentence.none d = absent d
order_before (sentence.high a b c t) d = present (in_turn (token a.such (in_turn (token b.such (in_turn (token c.such (by_rule (first (token t.such d)))))))))
order_before (sentence.low a b c t) d = present (in_turn (token a.such (in_turn (token b.such (in_turn (token c.such (by_rule (second (token t.such d)))))))))

-- at least one part
some_before : {A : Type 0} {P : List Token → A → Type 0} {s : Symbol} → BeforeAll P s → {xs : List Token} {trees : List A} → AtLeastOne P xs trees → {w : Extent} {ss : List Symbol} {ys : List Token} → Derives w (many s ∷ ss) ys → Derives w (some s ∷ ss) (xs ++ ys)
some_before p (sentence.one x) d = in_turn (p _ _ x _ _ _ d)
some_before {s = s} p (sentence.and_one {xs = xs} {ys = zs} h x) {w} {ss} {ys} d =
    subst (Derives w (some s ∷ ss)) (sym (append_assoc xs zs ys)) (some_before p h (one_more (p _ _ x _ _ _ d)))

message_before : {xs : List Token} {a : MessageTree} → IsMessage xs a → {w : Extent} {ss : List Symbol} {ys : List Token} → Derives w ss ys → Derives w (message_def ∷ ss) (xs ++ ys)
message_before (sentence.message {m = m} {end = e} {m' = m'} {xs = xs} {ys = bs} {zs = zs} a h f c b o) {w} {ss} {ys} d =
    rw (append_assoc xs (bs ++ (e ∷ m' ∷ zs)) ys, append_assoc bs (e ∷ m' ∷ zs) ys)
    (in_turn (token a.such (in_turn (start_before h (in_turn (some_before (λ xs x h' w ss ys d'. field_before h' d') f (no_more (in_turn (token c.such (in_turn (token b.such (order_before o d))))))))))))

plain_before : {xs : List Token} {a : LiteralTree} → IsPlainLiteral xs a → {w : Extent} {ss : List Symbol} {ys : List Token} → Derives w ss ys → Derives w (NAME ∷ ss) (xs ++ ys)
plain_before (sentence.plain n) d = name_before n d

numbered_before : {xs : List Token} {a : LiteralTree} → IsNumbered xs a → {w : Extent} {ss : List Symbol} {ys : List Token} → Derives w ss ys → Derives w (numbered ∷ ss) (xs ++ ys)
numbered_before (sentence.numbered {xs = xs} {ys = zs} {arrow = t} n a h) {w} {ss} {ys} d =
    rw (append_assoc xs (t ∷ zs) ys) (in_turn (name_before n (in_turn (token a.such (expr_before h d)))))

-- a name, an arrow and a number may be split otherwise
regroup : {w : Extent} {ss : List Symbol} {ts : List Token} → Derives w (numbered ∷ many (mark sign.Comma ▸ numbered) ∷ ss) ts → Derives w (rule literals ∷ ss) ts
regroup (in_turn d) = by_rule (second (in_turn (kept (NAME ∷ []) _ _ d (λ w' ts' x. again x))))
  where
    again : {w : Extent} {ss : List Symbol} {ts : List Token} → Derives w ((mark sign.Arrow ▸ rule expr) ∷ many (mark sign.Comma ▸ numbered) ∷ ss) ts → Derives w (numbered_literals ∷ ss) ts
    again x = in_turn x
regroup nothing = nothing

literals_before : {xs : List Token} {trees : List LiteralTree} → AreLiterals xs trees → {w : Extent} {ss : List Symbol} {ys : List Token} → Derives w ss ys → Derives w (rule literals ∷ ss) (xs ++ ys)
literals_before (sentence.plain h) d = by_rule (first (in_turn (listed_before (λ xs x h' w ss ys d'. plain_before h' d') h (no_more d))))
literals_before (sentence.numbered h) d = regroup (listed_before (λ xs x h' w ss ys d'. numbered_before h' d') h (no_more d))

easpect_before : {xs : List Token} {a : EnumAspect} → IsEnumAspect xs a → {w : Extent} {ss : List Symbol} {ys : List Token} → Derives w ss ys → Derives w (rule easpect ∷ ss) (xs ++ ys)
easpect_before (sentence.size a b h) d = by_rule (first (in_turn (token a.such (in_turn (token b.such (expr_before h d))))))
easpect_before (sentence.always a) d = by_rule (second (in_turn (token a.such (absent d))))
easpect_before (sentence.always_true a b v) d = by_rule (second (in_turn (token a.such (present (in_turn (token b.such (first (token v.such d))))))))
easpect_before (sentence.always_false a b v) d = by_rule (second (in_turn (token a.such (present (in_turn (token b.such (second (token v.such d))))))))

easpects_before : {xs : List Token} {trees : List EnumAspect} → AreEnumAspects xs trees → {w : Extent} {ss : List Symbol} {ys : List Token} → Derives w ss ys → Derives w (with_easpects ∷ ss) (xs ++ ys)
easpects_before sentence.absent d = absent d
easpects_before (sentence.present a h) d = present (in_turn (token a.such (in_turn (listed_before (λ xs x h' w ss ys d'. easpect_before h' d') h (no_more d)))))

def_before : {xs : List Token} {a : DefTree} → IsDef xs a → {w : Extent} {ss : List Symbol} {ys : List Token} → Derives w ss ys → Derives w (rule def ∷ ss) (xs ++ ys)
def_before (sentence.unsigned a h) d = by_rule (first (in_turn (token a.such (expr_before h d))))
def_before (sentence.range {t = t} {dots = o} {with_token = u} {size = s} {arrow = r} {xs = xs} {ys = bs} {zs = zs} a h b k c e f m) {w} {ss} {ys} d =
    rw (append_assoc xs (o ∷ (bs ++ (u ∷ s ∷ r ∷ zs))) ys, append_assoc bs (u ∷ s ∷ r ∷ zs) ys)
    (by_rule (second (first (in_turn (token a.such (in_turn (expr_before h (in_turn (token b.such (in_turn (expr_before k (in_turn (token c.such (in_turn (token e.such (in_turn (token f.such (expr_before m d))))))))))))))))))
def_before (sentence.enumeration {l = l} {r = r} {xs = xs} {ys = bs} a h b k) {w} {ss} {ys} d =
    rw (append_assoc xs (r ∷ bs) ys) (by_rule (second (second (first (in_turn (token a.such (in_turn (literals_before h (in_turn (token b.such (easpects_before k d)))))))))))
def_before (sentence.sequence a b n) d = by_rule (second (second (second (first (in_turn (token a.such (in_turn (token b.such (full_before n d)))))))))
def_before (sentence.derived a n) d = by_rule (second (second (second (second (first (in_turn (token a.such (full_before n d))))))))
def_before (sentence.null a b) d = by_rule (second (second (second (second (second (first (in_turn (token a.such (token b.such d)))))))))
def_before (sentence.message h) d = by_rule (second (second (second (second (second (second (message_before h d)))))))

inner_before : {xs : List Token} {n : Option NameTree} → IsInner xs n → {w : Extent} {ss : List Symbol} {ys : List Token} → Derives w ss ys → Derives w (inner ∷ ss) (xs ++ ys)
inner_before (sentence.holds n) d = first (full_before n d)
inner_before (sentence.null a) d = second (token a.such d)

refine_before : {xs : List Token} {a : RefineTree} → IsRefine xs a → {w : Extent} {ss : List Symbol} {ys : List Token} → Derives w ss ys → Derives w (rule refine ∷ ss) (xs ++ ys)
refine_before (sentence.refine {t = t} {u = u} {l = l} {arrow = r} {r = q} {end = e} {xs = xs} {ys = bs} {zs = zs} {us = us} a n b c f g h i k s) {w} {ss} {ys} d =
    rw (append_assoc xs (u ∷ l ∷ (bs ++ (r ∷ (zs ++ (q ∷ (us ++ e ∷ [])))))) ys, append_assoc bs (r ∷ (zs ++ (q ∷ (us ++ e ∷ [])))) ys, append_assoc zs (q ∷ (us ++ e ∷ [])) ys, append_assoc us (e ∷ []) ys)
    (by_rule (in_turn (token a.such (in_turn (full_before n (in_turn (token b.such (in_turn (token c.such (in_turn (name_before f (in_turn (token g.such (in_turn (inner_before h (in_turn (token i.such (in_turn (condition_before k (token s.such d))))))))))))))))))))

pub decl_before : {xs : List Token} {a : DeclTree} → IsDecl xs a → {w : Extent} {ss : List Symbol} {ys : List Token} → Derives w ss ys → Derives w (rule plain_decl ∷ ss) (xs ++ ys)
decl_before (sentence.defined {t = t} {is = i} {end = e} {xs = xs} {ys = bs} a n b h s) {w} {ss} {ys} d =
    rw (append_assoc xs (i ∷ (bs ++ e ∷ [])) ys, append_assoc bs (e ∷ []) ys)
    (by_rule (first (in_turn (token a.such (in_turn (name_before n (in_turn (token b.such (in_turn (def_before h (token s.such d)))))))))))
decl_before (sentence.refined h) d = by_rule (second (refine_before h d))

with_before : {xs : List Token} {n : Named} → IsWith xs n → {w : Extent} {ss : List Symbol} {ys : List Token} → Derives w ss ys → Derives w (with_clause ∷ ss) (xs ++ ys)
with_before (sentence.with_name {t = t} {end = e} {xs = xs} a n s) {w} {ss} {ys} d =
    rw (append_assoc xs (e ∷ []) ys) (in_turn (token a.such (in_turn (name_before n (token s.such d)))))

pub header_before : {xs : List Token} {a : HeaderTree} → IsHeader xs a → {w : Extent} {ss : List Symbol} {ys : List Token} → Derives w ss ys → Derives w (rule header ∷ ss) (xs ++ ys)
header_before (sentence.header {p = p} {is = i} {xs = xs} {ys = bs} h a n b) {w} {ss} {ys} d =
    rw (append_assoc xs (p ∷ (bs ++ i ∷ [])) ys, append_assoc bs (i ∷ []) ys)
    (by_rule (in_turn (each_before (λ xs x h' w ss ys d'. with_before h' d') h (no_more (in_turn (token a.such (in_turn (name_before n (token b.such d)))))))))

pub package_before : {xs : List Token} {a : PackageTree} → IsPackage xs a → {w : Extent} {ss : List Symbol} {ys : List Token} → Derives w ss ys → Derives w (rule plain_file ∷ ss) (xs ++ ys)
package_before (sentence.package_text {e = e} {end = f} {xs = xs} {ys = bs} {zs = zs} h k a n s) {w} {ss} {ys} d =
    rw (append_assoc xs (bs ++ (e ∷ (zs ++ f ∷ []))) ys, append_assoc bs (e ∷ (zs ++ f ∷ [])) ys, append_assoc zs (f ∷ []) ys)
    (by_rule (in_turn (header_before h (in_turn (each_before (λ xs x h' w ss ys d'. decl_before h' d') k (no_more (in_turn (token a.such (in_turn (name_before n (token s.such d)))))))))))
