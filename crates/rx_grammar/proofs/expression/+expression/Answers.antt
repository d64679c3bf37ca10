use Rattle.std.proofs.Common.{◌≡◌, ℕ, ◌+◌, ◌*◌, ◌<◌, ◌≤◌, true, false, List, [], ◌∷◌, ◌++◌, length, refl, sym, ap, ◌∙◌, subst, append_assoc, append-nil, arith, Option, Some, None}
use Rattle.rx_grammar.specs.First.{after, exactly, first_of}
use Rattle.rx_grammar.specs.Terminal.{is_such, is_one_of}
use Rattle.rx_syntax.specs.declared.mark.Mark.TheVariants as sign
use Rattle.rx_grammar.specs.declared.terminal.Terminal.TheVariants as terminal
use Rattle.rx_grammar.specs.declared.terminal.Keyword.TheVariants as word
use Rattle.rx_grammar.specs.declared.terminal.Quoted.TheVariants as quoted
use Rattle.rx_grammar.specs.declared.terminal.Choice.TheVariants as choice
use Rattle.rx_grammar.specs.Sentence as sentence
use Rattle.rx_grammar.proofs.Exit.{exit, out_of_memory}
use Rattle.rx_grammar.proofs.Sofar.{Sofar, from_start, call, call_by, fault, fault_by, whole, by_body, in_order, skips, enters, ends, repeats, takes_first, takes_second, takes_first_else, takes_second_ahead, shares}
use Rattle.rx_grammar.specs.Grammar.{rule, mark, key, NAME, NUM, choice_of, maybe, many, ◌▸◌, ◌∣◌, full_name, expr, conj, rel, sum, product, power, factor, operand, signed, attr, name_more, factor_more, power_more, product_more, sum_more, rel_more, conj_more, expr_more}
use Rattle.rx_grammar.proofs.expression.+expression.Goals as goal

pub factor-returns-in_err-token : goal.factor-returns-in_err-token
factor-returns-in_err-token t c =
    let a0 = from_start (rule factor) (after factor_more) c.args.cursor.rest.now c.args.cursor.limits in
    let a1 = by_body a0 in
    let a2 = takes_first (terminal.Number ∷ []) a1 refl refl c.if-sees.ensures in
    exit _ _ _ c.args.cursor _ _ c.from_residual.ensures.1 (fault a2 refl c.in_err-token.ensures)

pub factor-returns-then-sees : goal.factor-returns-then-sees
factor-returns-then-sees t c =
    let a0 = from_start (rule factor) (after factor_more) c.args.cursor.rest.now c.args.cursor.limits in
    let a1 = by_body a0 in
    let a2 = takes_first (terminal.Number ∷ []) a1 refl refl c.if-sees.ensures in
    let a3 = call a2 refl c.in_ok-token.ensures in
    rw c.number_tree.ensures (whole a3 (rw c.in_ok-token.ensures.sentence.whole (sentence.number c.in_ok-token.ensures.sentence.is)))

pub factor-returns-in_err-cursor : goal.factor-returns-in_err-cursor
factor-returns-in_err-cursor t c =
    let a0 = from_start (rule factor) (after factor_more) c.args.cursor.rest.now c.args.cursor.limits in
    let a1 = by_body a0 in
    let a2 = takes_second a1 refl c.if-sees.ensures in
    let a3 = takes_first (terminal.Mark sign.ParenLeft ∷ []) a2 refl refl c.if-sees-2.ensures in
    let a4 = in_order a3 in
    exit _ _ _ c.args.cursor _ _ c.from_residual-in_err-cursor.ensures.1 (fault a4 refl c.in_err-cursor.ensures)

pub factor-returns-in_err-tree : goal.factor-returns-in_err-tree
factor-returns-in_err-tree t c =
    let a0 = from_start (rule factor) (after factor_more) c.args.cursor.rest.now c.args.cursor.limits in
    let a1 = by_body a0 in
    let a2 = takes_second a1 refl c.if-sees.ensures in
    let a3 = takes_first (terminal.Mark sign.ParenLeft ∷ []) a2 refl refl c.if-sees-2.ensures in
    let a4 = in_order a3 in
    let a5 = call a4 refl c.in_ok-cursor.ensures in
    let a6 = in_order a5 in
    exit _ _ _ c.args.cursor _ _ c.from_residual-in_err-tree.ensures.1 (fault a6 refl c.in_err-tree.ensures)

pub factor-returns-in_err-cursor-2 : goal.factor-returns-in_err-cursor-2
factor-returns-in_err-cursor-2 t c =
    let a0 = from_start (rule factor) (after factor_more) c.args.cursor.rest.now c.args.cursor.limits in
    let a1 = by_body a0 in
    let a2 = takes_second a1 refl c.if-sees.ensures in
    let a3 = takes_first (terminal.Mark sign.ParenLeft ∷ []) a2 refl refl c.if-sees-2.ensures in
    let a4 = in_order a3 in
    let a5 = call a4 refl c.in_ok-cursor.ensures in
    let a6 = in_order a5 in
    let a7 = call a6 refl c.in_ok-tree.ensures in
    exit _ _ _ c.args.cursor _ _ c.from_residual-in_err-cursor-2.ensures.1 (fault a7 refl c.in_err-cursor-2.ensures)

pub factor-returns-then-sees-2 : goal.factor-returns-then-sees-2
factor-returns-then-sees-2 t c =
    let a0 = from_start (rule factor) (after factor_more) c.args.cursor.rest.now c.args.cursor.limits in
    let a1 = by_body a0 in
    let a2 = takes_second a1 refl c.if-sees.ensures in
    let a3 = takes_first (terminal.Mark sign.ParenLeft ∷ []) a2 refl refl c.if-sees-2.ensures in
    let a4 = in_order a3 in
    let a5 = call a4 refl c.in_ok-cursor.ensures in
    let a6 = in_order a5 in
    let a7 = call a6 refl c.in_ok-tree.ensures in
    let a8 = call a7 refl c.in_ok-cursor-2.ensures in
    whole a8 (rw (c.in_ok-cursor.ensures.sentence.whole, c.in_ok-cursor-2.ensures.sentence.whole) (sentence.brackets c.in_ok-cursor.ensures.sentence.is c.in_ok-tree.ensures.sentence c.in_ok-cursor-2.ensures.sentence.is))

pub factor-number_tree-requires : goal.factor-number_tree-requires
factor-number_tree-requires t c = c.in_ok-token.ensures.sentence.is.such

pub factor-returns-in_err-token-2 : goal.factor-returns-in_err-token-2
factor-returns-in_err-token-2 t c =
    let a0 = from_start (rule factor) (after factor_more) c.args.cursor.rest.now c.args.cursor.limits in
    let a1 = by_body a0 in
    let a2 = takes_second a1 refl c.if-sees.ensures in
    let a3 = takes_second a2 refl c.if-sees-2.ensures in
    let a4 = takes_first (terminal.Keyword word.Not ∷ []) a3 refl refl c.if-sees-3.ensures in
    let a5 = in_order a4 in
    exit _ _ _ c.args.cursor _ _ c.from_residual-in_err-token-2.ensures.1 (fault a5 refl c.in_err-token-2.ensures)

pub factor-returns-in_err-part : goal.factor-returns-in_err-part
factor-returns-in_err-part t c =
    let a0 = from_start (rule factor) (after factor_more) c.args.cursor.rest.now c.args.cursor.limits in
    let a1 = by_body a0 in
    let a2 = takes_second a1 refl c.if-sees.ensures in
    let a3 = takes_second a2 refl c.if-sees-2.ensures in
    let a4 = takes_first (terminal.Keyword word.Not ∷ []) a3 refl refl c.if-sees-3.ensures in
    let a5 = in_order a4 in
    let a6 = call a5 refl c.in_ok-token-2.ensures in
    exit _ _ _ c.args.cursor _ _ c.from_residual-in_err-part.ensures.1 (fault a6 refl c.in_err-part.ensures)

pub factor-returns-in_err-node : goal.factor-returns-in_err-node
factor-returns-in_err-node t c =
    out_of_memory _ _ _ c.args.cursor _ _ c.from_residual-in_err-node.ensures.1 c.in_err-node.ensures.memory

pub factor-returns-then-sees-3 : goal.factor-returns-then-sees-3
factor-returns-then-sees-3 t c =
    let a0 = from_start (rule factor) (after factor_more) c.args.cursor.rest.now c.args.cursor.limits in
    let a1 = by_body a0 in
    let a2 = takes_second a1 refl c.if-sees.ensures in
    let a3 = takes_second a2 refl c.if-sees-2.ensures in
    let a4 = takes_first (terminal.Keyword word.Not ∷ []) a3 refl refl c.if-sees-3.ensures in
    let a5 = in_order a4 in
    let a6 = call a5 refl c.in_ok-token-2.ensures in
    let a7 = call a6 refl c.in_ok-part.ensures in
    whole a7 (rw c.in_ok-token-2.ensures.sentence.whole (sentence.negation c.in_ok-token-2.ensures.sentence.is c.in_ok-part.ensures.sentence c.in_ok-node.ensures.tree))

pub factor-returns-in_err-name : goal.factor-returns-in_err-name
factor-returns-in_err-name t c =
    let a0 = from_start (rule factor) (after factor_more) c.args.cursor.rest.now c.args.cursor.limits in
    let a1 = by_body a0 in
    let a2 = takes_second a1 refl c.if-sees.ensures in
    let a3 = takes_second a2 refl c.if-sees-2.ensures in
    let a4 = takes_second a3 refl c.if-sees-3.ensures in
    exit _ _ _ c.args.cursor _ _ c.from_residual-in_err-name.ensures.1 (fault a4 refl c.in_err-name.ensures)

pub factor-returns : goal.factor-returns
factor-returns t c =
    let a0 = from_start (rule factor) (after factor_more) c.args.cursor.rest.now c.args.cursor.limits in
    let a1 = by_body a0 in
    let a2 = takes_second a1 refl c.if-sees.ensures in
    let a3 = takes_second a2 refl c.if-sees-2.ensures in
    let a4 = takes_second a3 refl c.if-sees-3.ensures in
    let a5 = call a4 refl c.in_ok-name.ensures in
    whole a5 (sentence.operand c.in_ok-name.ensures.sentence)

pub power-returns-in_err-left : goal.power-returns-in_err-left
power-returns-in_err-left t c =
    let a0 = from_start (rule power) (after power_more) c.args.cursor.rest.now c.args.cursor.limits in
    let a1 = by_body a0 in
    let a2 = in_order a1 in
    exit _ _ _ c.args.cursor _ _ c.from_residual.ensures.1 (fault a2 refl c.in_err-left.ensures)

pub power-returns-then-not-sees : goal.power-returns-then-not-sees
power-returns-then-not-sees t c =
    let a0 = from_start (rule power) (after power_more) c.args.cursor.rest.now c.args.cursor.limits in
    let a1 = by_body a0 in
    let a2 = in_order a1 in
    let a3 = call a2 refl c.in_ok-left.ensures in
    whole (skips a3 refl c.if-not-sees.ensures) (sentence.factor c.in_ok-left.ensures.sentence)

pub power-returns-in_err-token : goal.power-returns-in_err-token
power-returns-in_err-token t c =
    let a0 = from_start (rule power) (after power_more) c.args.cursor.rest.now c.args.cursor.limits in
    let a1 = by_body a0 in
    let a2 = in_order a1 in
    let a3 = call a2 refl c.in_ok-left.ensures in
    let a4 = enters a3 refl c.if-not-sees.ensures in
    let a5 = in_order a4 in
    exit _ _ _ c.args.cursor _ _ c.from_residual-in_err-token.ensures.1 (fault a5 refl c.in_err-token.ensures)

pub power-returns-in_err-right : goal.power-returns-in_err-right
power-returns-in_err-right t c =
    let a0 = from_start (rule power) (after power_more) c.args.cursor.rest.now c.args.cursor.limits in
    let a1 = by_body a0 in
    let a2 = in_order a1 in
    let a3 = call a2 refl c.in_ok-left.ensures in
    let a4 = enters a3 refl c.if-not-sees.ensures in
    let a5 = in_order a4 in
    let a6 = call a5 refl c.in_ok-token.ensures in
    exit _ _ _ c.args.cursor _ _ c.from_residual-in_err-right.ensures.1 (fault a6 refl c.in_err-right.ensures)

pub power-returns-in_err-node : goal.power-returns-in_err-node
power-returns-in_err-node t c =
    out_of_memory _ _ _ c.args.cursor _ _ c.from_residual-in_err-node.ensures.1 c.in_err-node.ensures.memory

pub power-returns : goal.power-returns
power-returns t c =
    let a0 = from_start (rule power) (after power_more) c.args.cursor.rest.now c.args.cursor.limits in
    let a1 = by_body a0 in
    let a2 = in_order a1 in
    let a3 = call a2 refl c.in_ok-left.ensures in
    let a4 = enters a3 refl c.if-not-sees.ensures in
    let a5 = in_order a4 in
    let a6 = call a5 refl c.in_ok-token.ensures in
    let a7 = call a6 refl c.in_ok-right.ensures in
    whole a7 (rw (c.in_ok-token.ensures.sentence.whole, append_assoc c.in_ok-left.ensures.used) (sentence.raised c.in_ok-left.ensures.sentence c.in_ok-token.ensures.sentence.is c.in_ok-right.ensures.sentence c.in_ok-node.ensures.tree))

pub rel-returns-in_err-left : goal.rel-returns-in_err-left
rel-returns-in_err-left t c =
    let a0 = from_start (rule rel) (after rel_more) c.args.cursor.rest.now c.args.cursor.limits in
    let a1 = by_body a0 in
    let a2 = in_order a1 in
    exit _ _ _ c.args.cursor _ _ c.from_residual.ensures.1 (fault a2 refl c.in_err-left.ensures)

pub rel-returns-then-not-sees_one : goal.rel-returns-then-not-sees_one
rel-returns-then-not-sees_one t c =
    let a0 = from_start (rule rel) (after rel_more) c.args.cursor.rest.now c.args.cursor.limits in
    let a1 = by_body a0 in
    let a2 = in_order a1 in
    let a3 = call a2 refl c.in_ok-left.ensures in
    whole (skips a3 refl c.if-not-sees_one.ensures) (sentence.sum c.in_ok-left.ensures.sentence)

pub rel-returns-in_err-token : goal.rel-returns-in_err-token
rel-returns-in_err-token t c =
    let a0 = from_start (rule rel) (after rel_more) c.args.cursor.rest.now c.args.cursor.limits in
    let a1 = by_body a0 in
    let a2 = in_order a1 in
    let a3 = call a2 refl c.in_ok-left.ensures in
    let a4 = enters a3 refl c.if-not-sees_one.ensures in
    let a5 = in_order a4 in
    exit _ _ _ c.args.cursor _ _ c.from_residual-in_err-token.ensures.1 (fault a5 refl c.in_err-token.ensures)

pub rel-returns-in_err-right : goal.rel-returns-in_err-right
rel-returns-in_err-right t c =
    let a0 = from_start (rule rel) (after rel_more) c.args.cursor.rest.now c.args.cursor.limits in
    let a1 = by_body a0 in
    let a2 = in_order a1 in
    let a3 = call a2 refl c.in_ok-left.ensures in
    let a4 = enters a3 refl c.if-not-sees_one.ensures in
    let a5 = in_order a4 in
    let a6 = call a5 refl c.in_ok-token.ensures in
    exit _ _ _ c.args.cursor _ _ c.from_residual-in_err-right.ensures.1 (fault a6 refl c.in_err-right.ensures)

pub rel-returns-in_err-node : goal.rel-returns-in_err-node
rel-returns-in_err-node t c =
    out_of_memory _ _ _ c.args.cursor _ _ c.from_residual-in_err-node.ensures.1 c.in_err-node.ensures.memory

pub rel-returns : goal.rel-returns
rel-returns t c =
    let a0 = from_start (rule rel) (after rel_more) c.args.cursor.rest.now c.args.cursor.limits in
    let a1 = by_body a0 in
    let a2 = in_order a1 in
    let a3 = call a2 refl c.in_ok-left.ensures in
    let a4 = enters a3 refl c.if-not-sees_one.ensures in
    let a5 = in_order a4 in
    let a6 = call a5 refl c.in_ok-token.ensures in
    let a7 = call a6 refl c.in_ok-right.ensures in
    whole a7 (rw (c.in_ok-token.ensures.sentence.whole, append_assoc c.in_ok-left.ensures.used) (sentence.compared c.in_ok-left.ensures.sentence c.in_ok-token.ensures.sentence.is c.in_ok-right.ensures.sentence c.in_ok-node.ensures.tree))

pub signed-returns-in_err-tree : goal.signed-returns-in_err-tree
signed-returns-in_err-tree t c =
    let a0 = from_start (signed) (after product_more) c.args.cursor.rest.now c.args.cursor.limits in
    let a1 = in_order a0 in
    let a2 = skips a1 refl c.if-not-sees.ensures in
    exit _ _ _ c.args.cursor _ _ c.from_residual.ensures.1 (fault a2 refl c.in_err-tree.ensures)

pub signed-returns-then-not-sees : goal.signed-returns-then-not-sees
signed-returns-then-not-sees t c =
    let a0 = from_start (signed) (after product_more) c.args.cursor.rest.now c.args.cursor.limits in
    let a1 = in_order a0 in
    let a2 = skips a1 refl c.if-not-sees.ensures in
    let a3 = call a2 refl c.in_ok-tree.ensures in
    whole a3 (sentence.product c.in_ok-tree.ensures.sentence)

pub signed-returns-in_err-token : goal.signed-returns-in_err-token
signed-returns-in_err-token t c =
    let a0 = from_start (signed) (after product_more) c.args.cursor.rest.now c.args.cursor.limits in
    let a1 = in_order a0 in
    let a2 = enters a1 refl c.if-not-sees.ensures in
    exit _ _ _ c.args.cursor _ _ c.from_residual-in_err-token.ensures.1 (fault a2 refl c.in_err-token.ensures)

pub signed-returns-in_err-part : goal.signed-returns-in_err-part
signed-returns-in_err-part t c =
    let a0 = from_start (signed) (after product_more) c.args.cursor.rest.now c.args.cursor.limits in
    let a1 = in_order a0 in
    let a2 = enters a1 refl c.if-not-sees.ensures in
    let a3 = call a2 refl c.in_ok-token.ensures in
    exit _ _ _ c.args.cursor _ _ c.from_residual-in_err-part.ensures.1 (fault a3 refl c.in_err-part.ensures)

pub signed-returns-in_err-node : goal.signed-returns-in_err-node
signed-returns-in_err-node t c =
    out_of_memory _ _ _ c.args.cursor _ _ c.from_residual-in_err-node.ensures.1 c.in_err-node.ensures.memory

pub signed-returns : goal.signed-returns
signed-returns t c =
    let a0 = from_start (signed) (after product_more) c.args.cursor.rest.now c.args.cursor.limits in
    let a1 = in_order a0 in
    let a2 = enters a1 refl c.if-not-sees.ensures in
    let a3 = call a2 refl c.in_ok-token.ensures in
    let a4 = call a3 refl c.in_ok-part.ensures in
    whole a4 (rw c.in_ok-token.ensures.sentence.whole (sentence.negative c.in_ok-token.ensures.sentence.is c.in_ok-part.ensures.sentence c.in_ok-node.ensures.tree))

pub product-returns-in_err-first : goal.product-returns-in_err-first
product-returns-in_err-first t c =
    let a0 = from_start (rule product) (after product_more) c.args.start.rest.now c.args.start.limits in
    let a1 = by_body a0 in
    let a2 = in_order a1 in
    exit _ _ _ c.args.start _ _ c.from_residual.ensures.1 (fault a2 refl c.in_err-first.ensures)

pub product-operators-init : goal.product-operators-init
product-operators-init t c =
    let a0 = from_start (rule product) (after product_more) c.args.start.rest.now c.args.start.limits in
    let a1 = by_body a0 in
    let a2 = in_order a1 in
    let a3 = call a2 refl c.in_ok-first.ensures in
    record { used = _; sofar = a3; sentence = sentence.power c.in_ok-first.ensures.sentence }

pub product-returns : goal.product-returns
product-returns t c =
    let a0 = c.operators.invariant.sofar in
    whole (ends a0 refl c.operators-test.ensures) c.operators.invariant.sentence

pub product-returns-in_err-token : goal.product-returns-in_err-token
product-returns-in_err-token t c =
    let a0 = c.operators.invariant.sofar in
    let a1 = repeats a0 refl c.operators-test.ensures in
    let a2 = in_order a1 in
    exit _ _ _ c.args.start _ _ c.from_residual-in_err-token.ensures.1 (fault a2 refl c.in_err-token.ensures)

pub product-returns-in_err-right : goal.product-returns-in_err-right
product-returns-in_err-right t c =
    let a0 = c.operators.invariant.sofar in
    let a1 = repeats a0 refl c.operators-test.ensures in
    let a2 = in_order a1 in
    let a3 = call a2 refl c.in_ok-token.ensures in
    exit _ _ _ c.args.start _ _ c.from_residual-in_err-right.ensures.1 (fault a3 refl c.in_err-right.ensures)

pub product-returns-in_err-tree : goal.product-returns-in_err-tree
product-returns-in_err-tree t c =
    out_of_memory _ _ _ c.args.start _ _ c.from_residual-in_err-tree.ensures.1 c.in_err-tree.ensures.memory

pub product-operators-preserved : goal.product-operators-preserved
product-operators-preserved t c =
    let a0 = c.operators.invariant.sofar in
    let a1 = repeats a0 refl c.operators-test.ensures in
    let a2 = in_order a1 in
    let a3 = call a2 refl c.in_ok-token.ensures in
    let a4 = call a3 refl c.in_ok-right.ensures in
    record { used = _; sofar = a4; sentence = rw (c.in_ok-token.ensures.sentence.whole, append_assoc c.operators.invariant.used) (sentence.multiplied c.operators.invariant.sentence c.in_ok-token.ensures.sentence.is c.in_ok-right.ensures.sentence c.in_ok-tree.ensures.tree) }

pub sum-returns-in_err-first : goal.sum-returns-in_err-first
sum-returns-in_err-first t c =
    let a0 = from_start (rule sum) (after sum_more) c.args.start.rest.now c.args.start.limits in
    let a1 = by_body a0 in
    let a2 = in_order a1 in
    exit _ _ _ c.args.start _ _ c.from_residual.ensures.1 (fault a2 refl c.in_err-first.ensures)

pub sum-operators-init : goal.sum-operators-init
sum-operators-init t c =
    let a0 = from_start (rule sum) (after sum_more) c.args.start.rest.now c.args.start.limits in
    let a1 = by_body a0 in
    let a2 = in_order a1 in
    let a3 = call a2 refl c.in_ok-first.ensures in
    record { used = _; sofar = a3; sentence = sentence.signed c.in_ok-first.ensures.sentence }

pub sum-returns : goal.sum-returns
sum-returns t c =
    let a0 = c.operators.invariant.sofar in
    whole (ends a0 refl c.operators-test.ensures) c.operators.invariant.sentence

pub sum-returns-in_err-token : goal.sum-returns-in_err-token
sum-returns-in_err-token t c =
    let a0 = c.operators.invariant.sofar in
    let a1 = repeats a0 refl c.operators-test.ensures in
    let a2 = in_order a1 in
    exit _ _ _ c.args.start _ _ c.from_residual-in_err-token.ensures.1 (fault a2 refl c.in_err-token.ensures)

pub sum-returns-in_err-right : goal.sum-returns-in_err-right
sum-returns-in_err-right t c =
    let a0 = c.operators.invariant.sofar in
    let a1 = repeats a0 refl c.operators-test.ensures in
    let a2 = in_order a1 in
    let a3 = call a2 refl c.in_ok-token.ensures in
    exit _ _ _ c.args.start _ _ c.from_residual-in_err-right.ensures.1 (fault a3 refl c.in_err-right.ensures)

pub sum-returns-in_err-tree : goal.sum-returns-in_err-tree
sum-returns-in_err-tree t c =
    out_of_memory _ _ _ c.args.start _ _ c.from_residual-in_err-tree.ensures.1 c.in_err-tree.ensures.memory

pub sum-operators-preserved : goal.sum-operators-preserved
sum-operators-preserved t c =
    let a0 = c.operators.invariant.sofar in
    let a1 = repeats a0 refl c.operators-test.ensures in
    let a2 = in_order a1 in
    let a3 = call a2 refl c.in_ok-token.ensures in
    let a4 = call a3 refl c.in_ok-right.ensures in
    record { used = _; sofar = a4; sentence = rw (c.in_ok-token.ensures.sentence.whole, append_assoc c.operators.invariant.used) (sentence.added c.operators.invariant.sentence c.in_ok-token.ensures.sentence.is c.in_ok-right.ensures.sentence c.in_ok-tree.ensures.tree) }

pub conj-returns-in_err-first : goal.conj-returns-in_err-first
conj-returns-in_err-first t c =
    let a0 = from_start (rule conj) (after conj_more) c.args.start.rest.now c.args.start.limits in
    let a1 = by_body a0 in
    let a2 = in_order a1 in
    exit _ _ _ c.args.start _ _ c.from_residual.ensures.1 (fault a2 refl c.in_err-first.ensures)

pub conj-operators-init : goal.conj-operators-init
conj-operators-init t c =
    let a0 = from_start (rule conj) (after conj_more) c.args.start.rest.now c.args.start.limits in
    let a1 = by_body a0 in
    let a2 = in_order a1 in
    let a3 = call a2 refl c.in_ok-first.ensures in
    record { used = _; sofar = a3; sentence = sentence.rel c.in_ok-first.ensures.sentence }

pub conj-returns : goal.conj-returns
conj-returns t c =
    let a0 = c.operators.invariant.sofar in
    whole (ends a0 refl c.operators-test.ensures) c.operators.invariant.sentence

pub conj-returns-in_err-token : goal.conj-returns-in_err-token
conj-returns-in_err-token t c =
    let a0 = c.operators.invariant.sofar in
    let a1 = repeats a0 refl c.operators-test.ensures in
    let a2 = in_order a1 in
    exit _ _ _ c.args.start _ _ c.from_residual-in_err-token.ensures.1 (fault a2 refl c.in_err-token.ensures)

pub conj-returns-in_err-right : goal.conj-returns-in_err-right
conj-returns-in_err-right t c =
    let a0 = c.operators.invariant.sofar in
    let a1 = repeats a0 refl c.operators-test.ensures in
    let a2 = in_order a1 in
    let a3 = call a2 refl c.in_ok-token.ensures in
    exit _ _ _ c.args.start _ _ c.from_residual-in_err-right.ensures.1 (fault a3 refl c.in_err-right.ensures)

pub conj-returns-in_err-tree : goal.conj-returns-in_err-tree
conj-returns-in_err-tree t c =
    out_of_memory _ _ _ c.args.start _ _ c.from_residual-in_err-tree.ensures.1 c.in_err-tree.ensures.memory

pub conj-operators-preserved : goal.conj-operators-preserved
conj-operators-preserved t c =
    let a0 = c.operators.invariant.sofar in
    let a1 = repeats a0 refl c.operators-test.ensures in
    let a2 = in_order a1 in
    let a3 = call a2 refl c.in_ok-token.ensures in
    let a4 = call a3 refl c.in_ok-right.ensures in
    record { used = _; sofar = a4; sentence = rw (c.in_ok-token.ensures.sentence.whole, append_assoc c.operators.invariant.used) (sentence.both c.operators.invariant.sentence c.in_ok-token.ensures.sentence.is c.in_ok-right.ensures.sentence c.in_ok-tree.ensures.tree) }

pub expr-returns-in_err-first : goal.expr-returns-in_err-first
expr-returns-in_err-first t c =
    let a0 = from_start (rule expr) (after expr_more) c.args.start.rest.now c.args.start.limits in
    let a1 = by_body a0 in
    let a2 = in_order a1 in
    exit _ _ _ c.args.start _ _ c.from_residual.ensures.1 (fault a2 refl c.in_err-first.ensures)

pub expr-operators-init : goal.expr-operators-init
expr-operators-init t c =
    let a0 = from_start (rule expr) (after expr_more) c.args.start.rest.now c.args.start.limits in
    let a1 = by_body a0 in
    let a2 = in_order a1 in
    let a3 = call a2 refl c.in_ok-first.ensures in
    record { used = _; sofar = a3; sentence = sentence.conj c.in_ok-first.ensures.sentence }

pub expr-returns : goal.expr-returns
expr-returns t c =
    let a0 = c.operators.invariant.sofar in
    whole (ends a0 refl c.operators-test.ensures) c.operators.invariant.sentence

pub expr-returns-in_err-token : goal.expr-returns-in_err-token
expr-returns-in_err-token t c =
    let a0 = c.operators.invariant.sofar in
    let a1 = repeats a0 refl c.operators-test.ensures in
    let a2 = in_order a1 in
    exit _ _ _ c.args.start _ _ c.from_residual-in_err-token.ensures.1 (fault a2 refl c.in_err-token.ensures)

pub expr-returns-in_err-right : goal.expr-returns-in_err-right
expr-returns-in_err-right t c =
    let a0 = c.operators.invariant.sofar in
    let a1 = repeats a0 refl c.operators-test.ensures in
    let a2 = in_order a1 in
    let a3 = call a2 refl c.in_ok-token.ensures in
    exit _ _ _ c.args.start _ _ c.from_residual-in_err-right.ensures.1 (fault a3 refl c.in_err-right.ensures)

pub expr-returns-in_err-tree : goal.expr-returns-in_err-tree
expr-returns-in_err-tree t c =
    out_of_memory _ _ _ c.args.start _ _ c.from_residual-in_err-tree.ensures.1 c.in_err-tree.ensures.memory

pub expr-operators-preserved : goal.expr-operators-preserved
expr-operators-preserved t c =
    let a0 = c.operators.invariant.sofar in
    let a1 = repeats a0 refl c.operators-test.ensures in
    let a2 = in_order a1 in
    let a3 = call a2 refl c.in_ok-token.ensures in
    let a4 = call a3 refl c.in_ok-right.ensures in
    record { used = _; sofar = a4; sentence = rw (c.in_ok-token.ensures.sentence.whole, append_assoc c.operators.invariant.used) (sentence.either c.operators.invariant.sentence c.in_ok-token.ensures.sentence.is c.in_ok-right.ensures.sentence c.in_ok-tree.ensures.tree) }
