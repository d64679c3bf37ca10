use Rattle.std.proofs.Common.{◌≡◌, ℕ, ◌+◌, ◌*◌, ◌<◌, ◌≤◌, true, false, List, [], ◌∷◌, ◌++◌, length, refl, sym, ap, ◌∙◌, subst, append_assoc, append-nil, arith, Option, Some, None}
use Rattle.rx_grammar.specs.First.{after, exactly, first_of}
use Rattle.rx_grammar.specs.Terminal.{is_such, is_one_of}
use Rattle.rx_syntax.specs.declared.mark.Mark.TheVariants as sign
use Rattle.rx_grammar.specs.declared.terminal.Terminal.TheVariants as terminal
use Rattle.rx_grammar.specs.declared.terminal.Keyword.TheVariants as word
use Rattle.rx_grammar.specs.declared.terminal.Quoted.TheVariants as quoted
use Rattle.rx_grammar.specs.declared.terminal.Choice.TheVariants as choice
use Rattle.rx_grammar.specs.Sentence as sentence
use Rattle.rx_grammar.proofs.Exit.{exit, out_of_memory}
use Rattle.rx_grammar.proofs.Sofar.{Sofar, from_start, call, call_by, fault, fault_by, whole, by_body, in_order, skips, enters, ends, repeats, takes_first, takes_second, takes_first_else, takes_second_ahead, shares}
use Rattle.rx_grammar.specs.Grammar.{rule, mark, key, NAME, NUM, choice_of, maybe, many, ◌▸◌, ◌∣◌, full_name, expr, conj, rel, sum, product, power, factor, operand, signed, attr, name_more, factor_more, power_more, product_more, sum_more, rel_more, conj_more, expr_more}
use Rattle.rx_grammar.proofs.expression.full_name.Goals as goal

pub returns-in_err-first : goal.returns-in_err-first
returns-in_err-first c =
    let a0 = from_start (rule full_name) (after name_more) c.args.cursor.rest.now c.args.cursor.limits in
    let a1 = by_body a0 in
    let a2 = in_order a1 in
    exit _ _ _ c.args.cursor _ _ c.from_residual.ensures.1 (fault a2 refl c.in_err-first.ensures)

pub returns-then-not-sees : goal.returns-then-not-sees
returns-then-not-sees c =
    let a0 = from_start (rule full_name) (after name_more) c.args.cursor.rest.now c.args.cursor.limits in
    let a1 = by_body a0 in
    let a2 = in_order a1 in
    let a3 = call a2 refl c.in_ok-first.ensures in
    whole (skips a3 refl c.if-not-sees.ensures) (sentence.plain c.in_ok-first.ensures.sentence)

pub returns-in_err-cursor : goal.returns-in_err-cursor
returns-in_err-cursor c =
    let a0 = from_start (rule full_name) (after name_more) c.args.cursor.rest.now c.args.cursor.limits in
    let a1 = by_body a0 in
    let a2 = in_order a1 in
    let a3 = call a2 refl c.in_ok-first.ensures in
    let a4 = enters a3 refl c.if-not-sees.ensures in
    let a5 = in_order a4 in
    exit _ _ _ c.args.cursor _ _ c.from_residual-in_err-cursor.ensures.1 (fault a5 refl c.in_err-cursor.ensures)

pub returns-in_err-second : goal.returns-in_err-second
returns-in_err-second c =
    let a0 = from_start (rule full_name) (after name_more) c.args.cursor.rest.now c.args.cursor.limits in
    let a1 = by_body a0 in
    let a2 = in_order a1 in
    let a3 = call a2 refl c.in_ok-first.ensures in
    let a4 = enters a3 refl c.if-not-sees.ensures in
    let a5 = in_order a4 in
    let a6 = call a5 refl c.in_ok-cursor.ensures in
    exit _ _ _ c.args.cursor _ _ c.from_residual-in_err-second.ensures.1 (fault a6 refl c.in_err-second.ensures)

pub returns : goal.returns
returns c =
    let a0 = from_start (rule full_name) (after name_more) c.args.cursor.rest.now c.args.cursor.limits in
    let a1 = by_body a0 in
    let a2 = in_order a1 in
    let a3 = call a2 refl c.in_ok-first.ensures in
    let a4 = enters a3 refl c.if-not-sees.ensures in
    let a5 = in_order a4 in
    let a6 = call a5 refl c.in_ok-cursor.ensures in
    let a7 = call a6 refl c.in_ok-second.ensures in
    whole a7 (rw (c.in_ok-cursor.ensures.sentence.whole, append_assoc c.in_ok-first.ensures.used) (sentence.qualified c.in_ok-first.ensures.sentence c.in_ok-cursor.ensures.sentence.is c.in_ok-second.ensures.sentence))
