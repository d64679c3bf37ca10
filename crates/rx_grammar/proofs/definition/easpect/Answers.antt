use Rattle.std.proofs.Common.{◌≡◌, ℕ, ◌+◌, ◌*◌, ◌<◌, ◌≤◌, true, false, List, [], ◌∷◌, ◌++◌, length, refl, sym, ap, ◌∙◌, subst, append_assoc, append-nil, arith, Option, Some, None}
use Rattle.rx_grammar.specs.First.{after, exactly, first_of}
use Rattle.rx_grammar.specs.Terminal.{is_such, is_one_of}
use Rattle.rx_syntax.specs.declared.mark.Mark.TheVariants as sign
use Rattle.rx_grammar.specs.declared.terminal.Terminal.TheVariants as terminal
use Rattle.rx_grammar.specs.declared.terminal.Keyword.TheVariants as word
use Rattle.rx_grammar.specs.declared.terminal.Quoted.TheVariants as quoted
use Rattle.rx_grammar.specs.declared.terminal.Choice.TheVariants as choice
use Rattle.rx_grammar.specs.Sentence as sentence
use Rattle.rx_grammar.proofs.Exit.{exit, out_of_memory}
use Rattle.rx_grammar.proofs.Sofar.{Sofar, from_start, call, call_by, fault, fault_by, whole, by_body, in_order, skips, enters, ends, repeats, takes_first, takes_second, takes_first_else, takes_second_ahead, shares}
use Rattle.rx_grammar.specs.Grammar.{Symbol, rule, mark, key, quote, NAME, NUM, choice_of, maybe, many, some, listed, ◌▸◌, ◌∣◌, condition, with_aspects, more_thens, aspect, aspects, one_then, thens, numbered, literals, easpect, def, plain_literals, numbered_literals, with_easpects, unsigned_def, range_def, enumeration_def, sequence_def, derived_def, null_def, message_def, field, start_thens, byte_order, inner, refine, type_decl, plain_decl, with_clause, header, plain_file, name_more, expr_more, condition_more, aspects_more, with_aspects_more, thens_more, easpect_more, literals_more, def_more}
use Rattle.rx_grammar.proofs.Nodes.{aspect_read, target_read, order_read, always_read, next_read, then_some, field_some, decl_some, with_some}
use Rattle.rx_grammar.proofs.Chain.{shorter, spread}
use Rattle.rx_grammar.proofs.definition.easpect.Goals as goal

pub returns-in_err-token : goal.returns-in_err-token
returns-in_err-token c =
    let a0 = from_start (rule easpect) (after easpect_more) c.args.cursor.rest.now c.args.cursor.limits in
    let a1 = by_body a0 in
    let a2 = takes_first (terminal.Quoted quoted.Size ∷ []) a1 refl refl c.if-sees.ensures in
    let a3 = in_order a2 in
    exit _ _ _ c.args.cursor _ _ c.from_residual.ensures.1 (fault a3 refl c.in_err-token.ensures)

pub returns-in_err-cursor : goal.returns-in_err-cursor
returns-in_err-cursor c =
    let a0 = from_start (rule easpect) (after easpect_more) c.args.cursor.rest.now c.args.cursor.limits in
    let a1 = by_body a0 in
    let a2 = takes_first (terminal.Quoted quoted.Size ∷ []) a1 refl refl c.if-sees.ensures in
    let a3 = in_order a2 in
    let a4 = call a3 refl c.in_ok-token.ensures in
    let a5 = in_order a4 in
    exit _ _ _ c.args.cursor _ _ c.from_residual-in_err-cursor.ensures.1 (fault a5 refl c.in_err-cursor.ensures)

pub returns-in_err-tree : goal.returns-in_err-tree
returns-in_err-tree c =
    let a0 = from_start (rule easpect) (after easpect_more) c.args.cursor.rest.now c.args.cursor.limits in
    let a1 = by_body a0 in
    let a2 = takes_first (terminal.Quoted quoted.Size ∷ []) a1 refl refl c.if-sees.ensures in
    let a3 = in_order a2 in
    let a4 = call a3 refl c.in_ok-token.ensures in
    let a5 = in_order a4 in
    let a6 = call a5 refl c.in_ok-cursor.ensures in
    exit _ _ _ c.args.cursor _ _ c.from_residual-in_err-tree.ensures.1 (fault a6 refl c.in_err-tree.ensures)

pub returns-then-sees : goal.returns-then-sees
returns-then-sees c =
    let a0 = from_start (rule easpect) (after easpect_more) c.args.cursor.rest.now c.args.cursor.limits in
    let a1 = by_body a0 in
    let a2 = takes_first (terminal.Quoted quoted.Size ∷ []) a1 refl refl c.if-sees.ensures in
    let a3 = in_order a2 in
    let a4 = call a3 refl c.in_ok-token.ensures in
    let a5 = in_order a4 in
    let a6 = call a5 refl c.in_ok-cursor.ensures in
    let a7 = call a6 refl c.in_ok-tree.ensures in
    whole a7 (rw (c.in_ok-token.ensures.sentence.whole, c.in_ok-cursor.ensures.sentence.whole) (sentence.size c.in_ok-token.ensures.sentence.is c.in_ok-cursor.ensures.sentence.is c.in_ok-tree.ensures.sentence))

pub returns-in_err-name : goal.returns-in_err-name
returns-in_err-name c =
    let a0 = from_start (rule easpect) (after easpect_more) c.args.cursor.rest.now c.args.cursor.limits in
    let a1 = by_body a0 in
    let a2 = takes_second a1 refl c.if-sees.ensures in
    let a3 = in_order a2 in
    exit _ _ _ c.args.cursor _ _ c.from_residual-in_err-name.ensures.1 (fault a3 refl c.in_err-name.ensures)

pub returns-then-not-sees : goal.returns-then-not-sees
returns-then-not-sees c =
    let a0 = from_start (rule easpect) (after easpect_more) c.args.cursor.rest.now c.args.cursor.limits in
    let a1 = by_body a0 in
    let a2 = takes_second a1 refl c.if-sees.ensures in
    let a3 = in_order a2 in
    let a4 = call a3 refl c.in_ok-name.ensures in
    whole (skips a4 refl c.if-not-sees.ensures) (rw (c.in_ok-name.ensures.sentence.whole) (sentence.always c.in_ok-name.ensures.sentence.is))

pub returns-in_err-cursor-2 : goal.returns-in_err-cursor-2
returns-in_err-cursor-2 c =
    let a0 = from_start (rule easpect) (after easpect_more) c.args.cursor.rest.now c.args.cursor.limits in
    let a1 = by_body a0 in
    let a2 = takes_second a1 refl c.if-sees.ensures in
    let a3 = in_order a2 in
    let a4 = call a3 refl c.in_ok-name.ensures in
    let a5 = enters a4 refl c.if-not-sees.ensures in
    let a6 = in_order a5 in
    exit _ _ _ c.args.cursor _ _ c.from_residual-in_err-cursor-2.ensures.1 (fault a6 refl c.in_err-cursor-2.ensures)

pub returns-in_err-truth : goal.returns-in_err-truth
returns-in_err-truth c =
    let a0 = from_start (rule easpect) (after easpect_more) c.args.cursor.rest.now c.args.cursor.limits in
    let a1 = by_body a0 in
    let a2 = takes_second a1 refl c.if-sees.ensures in
    let a3 = in_order a2 in
    let a4 = call a3 refl c.in_ok-name.ensures in
    let a5 = enters a4 refl c.if-not-sees.ensures in
    let a6 = in_order a5 in
    let a7 = call a6 refl c.in_ok-cursor-2.ensures in
    exit _ _ _ c.args.cursor _ _ c.from_residual-in_err-truth.ensures.1 (fault a7 refl c.in_err-truth.ensures)

pub returns : goal.returns
returns c =
    let a0 = from_start (rule easpect) (after easpect_more) c.args.cursor.rest.now c.args.cursor.limits in
    let a1 = by_body a0 in
    let a2 = takes_second a1 refl c.if-sees.ensures in
    let a3 = in_order a2 in
    let a4 = call a3 refl c.in_ok-name.ensures in
    let a5 = enters a4 refl c.if-not-sees.ensures in
    let a6 = in_order a5 in
    let a7 = call a6 refl c.in_ok-cursor-2.ensures in
    let a8 = call a7 refl c.in_ok-truth.ensures in
    rw c.is_such-value.ensures (whole a8 (rw (c.in_ok-name.ensures.sentence.whole, c.in_ok-cursor-2.ensures.sentence.whole, c.in_ok-truth.ensures.sentence.whole) (always_read c.in_ok-name.ensures.sentence.is c.in_ok-cursor-2.ensures.sentence.is c.in_ok-truth.ensures.sentence.is)))
