use Rattle.std.proofs.Common.{◌≡◌, ℕ, ◌+◌, ◌*◌, ◌<◌, ◌≤◌, true, false, List, [], ◌∷◌, ◌++◌, length, refl, sym, ap, ◌∙◌, subst, append_assoc, append-nil, arith, Option, Some, None}
use Rattle.rx_grammar.specs.First.{after, exactly, first_of}
use Rattle.rx_grammar.specs.Terminal.{is_such, is_one_of}
use Rattle.rx_syntax.specs.declared.mark.Mark.TheVariants as sign
use Rattle.rx_grammar.specs.declared.terminal.Terminal.TheVariants as terminal
use Rattle.rx_grammar.specs.declared.terminal.Keyword.TheVariants as word
use Rattle.rx_grammar.specs.declared.terminal.Quoted.TheVariants as quoted
use Rattle.rx_grammar.specs.declared.terminal.Choice.TheVariants as choice
use Rattle.rx_grammar.specs.Sentence as sentence
use Rattle.rx_grammar.proofs.Exit.{exit, out_of_memory}
use Rattle.rx_grammar.proofs.Sofar.{Sofar, from_start, call, call_by, fault, fault_by, whole, by_body, in_order, skips, enters, ends, repeats, takes_first, takes_second, takes_first_else, takes_second_ahead, shares}
use Rattle.rx_grammar.specs.Grammar.{rule, mark, key, NAME, NUM, choice_of, maybe, many, ◌▸◌, ◌∣◌, full_name, expr, conj, rel, sum, product, power, factor, operand, signed, attr, name_more, factor_more, power_more, product_more, sum_more, rel_more, conj_more, expr_more}
use Rattle.rx_grammar.proofs.Ahead.{tick_or_dot, dot_ahead, neither}
use Rattle.rx_grammar.proofs.expression.operand.Goals as goal

pub returns-in_err-name : goal.returns-in_err-name
returns-in_err-name c =
    let a0 = from_start (operand) (after factor_more) c.args.cursor.rest.now c.args.cursor.limits in
    let a1 = in_order a0 in
    exit _ _ _ c.args.cursor _ _ c.from_residual.ensures.1 (fault a1 refl c.in_err-name.ensures)

pub returns-in_err-cursor : goal.returns-in_err-cursor
returns-in_err-cursor c =
    let a0 = from_start (operand) (after factor_more) c.args.cursor.rest.now c.args.cursor.limits in
    let a1 = in_order a0 in
    let a2 = call a1 refl c.in_ok-name.ensures in
    let a3 = enters a2 refl (tick_or_dot c.if-sees.ensures) in
    let a4 = takes_first (terminal.Mark sign.Tick ∷ []) a3 refl refl c.if-sees.ensures in
    let a5 = in_order a4 in
    exit _ _ _ c.args.cursor _ _ c.from_residual-in_err-cursor.ensures.1 (fault a5 refl c.in_err-cursor.ensures)

pub returns-in_err-token : goal.returns-in_err-token
returns-in_err-token c =
    let a0 = from_start (operand) (after factor_more) c.args.cursor.rest.now c.args.cursor.limits in
    let a1 = in_order a0 in
    let a2 = call a1 refl c.in_ok-name.ensures in
    let a3 = enters a2 refl (tick_or_dot c.if-sees.ensures) in
    let a4 = takes_first (terminal.Mark sign.Tick ∷ []) a3 refl refl c.if-sees.ensures in
    let a5 = in_order a4 in
    let a6 = call a5 refl c.in_ok-cursor.ensures in
    let a7 = by_body a6 in
    exit _ _ _ c.args.cursor _ _ c.from_residual-in_err-token.ensures.1 (fault a7 refl c.in_err-token.ensures)

pub returns-then-sees : goal.returns-then-sees
returns-then-sees c =
    let a0 = from_start (operand) (after factor_more) c.args.cursor.rest.now c.args.cursor.limits in
    let a1 = in_order a0 in
    let a2 = call a1 refl c.in_ok-name.ensures in
    let a3 = enters a2 refl (tick_or_dot c.if-sees.ensures) in
    let a4 = takes_first (terminal.Mark sign.Tick ∷ []) a3 refl refl c.if-sees.ensures in
    let a5 = in_order a4 in
    let a6 = call a5 refl c.in_ok-cursor.ensures in
    let a7 = by_body a6 in
    let a8 = call a7 refl c.in_ok-token.ensures in
    rw c.attr_of.ensures (whole a8 (rw (c.in_ok-cursor.ensures.sentence.whole, c.in_ok-token.ensures.sentence.whole, append_assoc c.in_ok-name.ensures.used) (sentence.attribute c.in_ok-name.ensures.sentence c.in_ok-cursor.ensures.sentence.is c.in_ok-token.ensures.sentence.is)))

pub returns-in_err-cursor-2 : goal.returns-in_err-cursor-2
returns-in_err-cursor-2 c =
    let a0 = from_start (operand) (after factor_more) c.args.cursor.rest.now c.args.cursor.limits in
    let a1 = in_order a0 in
    let a2 = call a1 refl c.in_ok-name.ensures in
    let a3 = enters a2 refl (dot_ahead c.if-sees-2.ensures) in
    let a4 = takes_second a3 refl c.if-sees.ensures in
    let a5 = in_order a4 in
    exit _ _ _ c.args.cursor _ _ c.from_residual-in_err-cursor-2.ensures.1 (fault a5 refl c.in_err-cursor-2.ensures)

pub returns-in_err-member : goal.returns-in_err-member
returns-in_err-member c =
    let a0 = from_start (operand) (after factor_more) c.args.cursor.rest.now c.args.cursor.limits in
    let a1 = in_order a0 in
    let a2 = call a1 refl c.in_ok-name.ensures in
    let a3 = enters a2 refl (dot_ahead c.if-sees-2.ensures) in
    let a4 = takes_second a3 refl c.if-sees.ensures in
    let a5 = in_order a4 in
    let a6 = call a5 refl c.in_ok-cursor-2.ensures in
    exit _ _ _ c.args.cursor _ _ c.from_residual-in_err-member.ensures.1 (fault a6 refl c.in_err-member.ensures)

pub returns-then-sees-2 : goal.returns-then-sees-2
returns-then-sees-2 c =
    let a0 = from_start (operand) (after factor_more) c.args.cursor.rest.now c.args.cursor.limits in
    let a1 = in_order a0 in
    let a2 = call a1 refl c.in_ok-name.ensures in
    let a3 = enters a2 refl (dot_ahead c.if-sees-2.ensures) in
    let a4 = takes_second a3 refl c.if-sees.ensures in
    let a5 = in_order a4 in
    let a6 = call a5 refl c.in_ok-cursor-2.ensures in
    let a7 = call a6 refl c.in_ok-member.ensures in
    whole a7 (rw (c.in_ok-cursor-2.ensures.sentence.whole, append_assoc c.in_ok-name.ensures.used) (sentence.member c.in_ok-name.ensures.sentence c.in_ok-cursor-2.ensures.sentence.is c.in_ok-member.ensures.sentence))

pub returns : goal.returns
returns c =
    let a0 = from_start (operand) (after factor_more) c.args.cursor.rest.now c.args.cursor.limits in
    let a1 = in_order a0 in
    let a2 = call a1 refl c.in_ok-name.ensures in
    whole (skips a2 refl (neither c.if-sees.ensures c.if-sees-2.ensures)) (sentence.name c.in_ok-name.ensures.sentence)
