use Rattle.std.proofs.Common.{◌≡◌, ℕ, ◌+◌, ◌*◌, ◌<◌, ◌≤◌, true, false, List, [], ◌∷◌, ◌++◌, length, refl, sym, ap, ◌∙◌, subst, append_assoc, append-nil, arith, Option, Some, None}
use Rattle.rx_grammar.specs.First.{after, exactly, first_of}
use Rattle.rx_grammar.specs.Terminal.{is_such, is_one_of}
use Rattle.rx_syntax.specs.declared.mark.Mark.TheVariants as sign
use Rattle.rx_grammar.specs.declared.terminal.Terminal.TheVariants as terminal
use Rattle.rx_grammar.specs.declared.terminal.Keyword.TheVariants as word
use Rattle.rx_grammar.specs.declared.terminal.Quoted.TheVariants as quoted
use Rattle.rx_grammar.specs.declared.terminal.Choice.TheVariants as choice
use Rattle.rx_grammar.specs.Sentence as sentence
use Rattle.rx_grammar.proofs.Exit.{exit, out_of_memory}
use Rattle.rx_grammar.proofs.Sofar.{Sofar, from_start, call, call_by, fault, fault_by, whole, by_body, in_order, skips, enters, ends, repeats, takes_first, takes_second, takes_first_else, takes_second_ahead, shares}
use Rattle.rx_grammar.specs.Grammar.{Symbol, rule, mark, key, quote, NAME, NUM, choice_of, maybe, many, some, listed, ◌▸◌, ◌∣◌, condition, with_aspects, more_thens, aspect, aspects, one_then, thens, numbered, literals, easpect, def, plain_literals, numbered_literals, with_easpects, unsigned_def, range_def, enumeration_def, sequence_def, derived_def, null_def, message_def, field, start_thens, byte_order, inner, refine, type_decl, plain_decl, with_clause, header, plain_file, name_more, expr_more, condition_more, aspects_more, with_aspects_more, thens_more, easpect_more, literals_more, def_more}
use Rattle.rx_grammar.proofs.Nodes.{aspect_read, target_read, order_read, always_read, next_read, then_some, field_some, decl_some, with_some}
use Rattle.rx_grammar.proofs.Chain.{shorter, spread}
use Rattle.rx_grammar.proofs.package.refine.Goals as goal

pub returns-in_err-token : goal.returns-in_err-token
returns-in_err-token c =
    let a0 = from_start (rule refine) (after []) c.args.cursor.rest.now c.args.cursor.limits in
    let a1 = by_body a0 in
    let a2 = in_order a1 in
    exit _ _ _ c.args.cursor _ _ c.from_residual.ensures.1 (fault a2 refl c.in_err-token.ensures)

pub returns-in_err-message : goal.returns-in_err-message
returns-in_err-message c =
    let a0 = from_start (rule refine) (after []) c.args.cursor.rest.now c.args.cursor.limits in
    let a1 = by_body a0 in
    let a2 = in_order a1 in
    let a3 = call a2 refl c.in_ok-token.ensures in
    let a4 = in_order a3 in
    exit _ _ _ c.args.cursor _ _ c.from_residual-in_err-message.ensures.1 (fault a4 refl c.in_err-message.ensures)

pub returns-in_err-cursor : goal.returns-in_err-cursor
returns-in_err-cursor c =
    let a0 = from_start (rule refine) (after []) c.args.cursor.rest.now c.args.cursor.limits in
    let a1 = by_body a0 in
    let a2 = in_order a1 in
    let a3 = call a2 refl c.in_ok-token.ensures in
    let a4 = in_order a3 in
    let a5 = call a4 refl c.in_ok-message.ensures in
    let a6 = in_order a5 in
    exit _ _ _ c.args.cursor _ _ c.from_residual-in_err-cursor.ensures.1 (fault a6 refl c.in_err-cursor.ensures)

pub returns-in_err-cursor-2 : goal.returns-in_err-cursor-2
returns-in_err-cursor-2 c =
    let a0 = from_start (rule refine) (after []) c.args.cursor.rest.now c.args.cursor.limits in
    let a1 = by_body a0 in
    let a2 = in_order a1 in
    let a3 = call a2 refl c.in_ok-token.ensures in
    let a4 = in_order a3 in
    let a5 = call a4 refl c.in_ok-message.ensures in
    let a6 = in_order a5 in
    let a7 = call a6 refl c.in_ok-cursor.ensures in
    let a8 = in_order a7 in
    exit _ _ _ c.args.cursor _ _ c.from_residual-in_err-cursor-2.ensures.1 (fault a8 refl c.in_err-cursor-2.ensures)

pub returns-in_err-field : goal.returns-in_err-field
returns-in_err-field c =
    let a0 = from_start (rule refine) (after []) c.args.cursor.rest.now c.args.cursor.limits in
    let a1 = by_body a0 in
    let a2 = in_order a1 in
    let a3 = call a2 refl c.in_ok-token.ensures in
    let a4 = in_order a3 in
    let a5 = call a4 refl c.in_ok-message.ensures in
    let a6 = in_order a5 in
    let a7 = call a6 refl c.in_ok-cursor.ensures in
    let a8 = in_order a7 in
    let a9 = call a8 refl c.in_ok-cursor-2.ensures in
    let a10 = in_order a9 in
    exit _ _ _ c.args.cursor _ _ c.from_residual-in_err-field.ensures.1 (fault a10 refl c.in_err-field.ensures)

pub returns-in_err-cursor-3 : goal.returns-in_err-cursor-3
returns-in_err-cursor-3 c =
    let a0 = from_start (rule refine) (after []) c.args.cursor.rest.now c.args.cursor.limits in
    let a1 = by_body a0 in
    let a2 = in_order a1 in
    let a3 = call a2 refl c.in_ok-token.ensures in
    let a4 = in_order a3 in
    let a5 = call a4 refl c.in_ok-message.ensures in
    let a6 = in_order a5 in
    let a7 = call a6 refl c.in_ok-cursor.ensures in
    let a8 = in_order a7 in
    let a9 = call a8 refl c.in_ok-cursor-2.ensures in
    let a10 = in_order a9 in
    let a11 = call a10 refl c.in_ok-field.ensures in
    let a12 = in_order a11 in
    exit _ _ _ c.args.cursor _ _ c.from_residual-in_err-cursor-3.ensures.1 (fault a12 refl c.in_err-cursor-3.ensures)

pub returns-in_err-held : goal.returns-in_err-held
returns-in_err-held c =
    let a0 = from_start (rule refine) (after []) c.args.cursor.rest.now c.args.cursor.limits in
    let a1 = by_body a0 in
    let a2 = in_order a1 in
    let a3 = call a2 refl c.in_ok-token.ensures in
    let a4 = in_order a3 in
    let a5 = call a4 refl c.in_ok-message.ensures in
    let a6 = in_order a5 in
    let a7 = call a6 refl c.in_ok-cursor.ensures in
    let a8 = in_order a7 in
    let a9 = call a8 refl c.in_ok-cursor-2.ensures in
    let a10 = in_order a9 in
    let a11 = call a10 refl c.in_ok-field.ensures in
    let a12 = in_order a11 in
    let a13 = call a12 refl c.in_ok-cursor-3.ensures in
    let a14 = in_order a13 in
    exit _ _ _ c.args.cursor _ _ c.from_residual-in_err-held.ensures.1 (fault a14 refl c.in_err-held.ensures)

pub returns-in_err-cursor-4 : goal.returns-in_err-cursor-4
returns-in_err-cursor-4 c =
    let a0 = from_start (rule refine) (after []) c.args.cursor.rest.now c.args.cursor.limits in
    let a1 = by_body a0 in
    let a2 = in_order a1 in
    let a3 = call a2 refl c.in_ok-token.ensures in
    let a4 = in_order a3 in
    let a5 = call a4 refl c.in_ok-message.ensures in
    let a6 = in_order a5 in
    let a7 = call a6 refl c.in_ok-cursor.ensures in
    let a8 = in_order a7 in
    let a9 = call a8 refl c.in_ok-cursor-2.ensures in
    let a10 = in_order a9 in
    let a11 = call a10 refl c.in_ok-field.ensures in
    let a12 = in_order a11 in
    let a13 = call a12 refl c.in_ok-cursor-3.ensures in
    let a14 = in_order a13 in
    let a15 = call a14 refl c.in_ok-held.ensures in
    let a16 = in_order a15 in
    exit _ _ _ c.args.cursor _ _ c.from_residual-in_err-cursor-4.ensures.1 (fault a16 refl c.in_err-cursor-4.ensures)

pub returns-in_err-test : goal.returns-in_err-test
returns-in_err-test c =
    let a0 = from_start (rule refine) (after []) c.args.cursor.rest.now c.args.cursor.limits in
    let a1 = by_body a0 in
    let a2 = in_order a1 in
    let a3 = call a2 refl c.in_ok-token.ensures in
    let a4 = in_order a3 in
    let a5 = call a4 refl c.in_ok-message.ensures in
    let a6 = in_order a5 in
    let a7 = call a6 refl c.in_ok-cursor.ensures in
    let a8 = in_order a7 in
    let a9 = call a8 refl c.in_ok-cursor-2.ensures in
    let a10 = in_order a9 in
    let a11 = call a10 refl c.in_ok-field.ensures in
    let a12 = in_order a11 in
    let a13 = call a12 refl c.in_ok-cursor-3.ensures in
    let a14 = in_order a13 in
    let a15 = call a14 refl c.in_ok-held.ensures in
    let a16 = in_order a15 in
    let a17 = call a16 refl c.in_ok-cursor-4.ensures in
    let a18 = in_order a17 in
    exit _ _ _ c.args.cursor _ _ c.from_residual-in_err-test.ensures.1 (fault a18 refl c.in_err-test.ensures)

pub returns-in_err-cursor-5 : goal.returns-in_err-cursor-5
returns-in_err-cursor-5 c =
    let a0 = from_start (rule refine) (after []) c.args.cursor.rest.now c.args.cursor.limits in
    let a1 = by_body a0 in
    let a2 = in_order a1 in
    let a3 = call a2 refl c.in_ok-token.ensures in
    let a4 = in_order a3 in
    let a5 = call a4 refl c.in_ok-message.ensures in
    let a6 = in_order a5 in
    let a7 = call a6 refl c.in_ok-cursor.ensures in
    let a8 = in_order a7 in
    let a9 = call a8 refl c.in_ok-cursor-2.ensures in
    let a10 = in_order a9 in
    let a11 = call a10 refl c.in_ok-field.ensures in
    let a12 = in_order a11 in
    let a13 = call a12 refl c.in_ok-cursor-3.ensures in
    let a14 = in_order a13 in
    let a15 = call a14 refl c.in_ok-held.ensures in
    let a16 = in_order a15 in
    let a17 = call a16 refl c.in_ok-cursor-4.ensures in
    let a18 = in_order a17 in
    let a19 = call a18 refl c.in_ok-test.ensures in
    exit _ _ _ c.args.cursor _ _ c.from_residual-in_err-cursor-5.ensures.1 (fault a19 refl c.in_err-cursor-5.ensures)

pub returns : goal.returns
returns c =
    let a0 = from_start (rule refine) (after []) c.args.cursor.rest.now c.args.cursor.limits in
    let a1 = by_body a0 in
    let a2 = in_order a1 in
    let a3 = call a2 refl c.in_ok-token.ensures in
    let a4 = in_order a3 in
    let a5 = call a4 refl c.in_ok-message.ensures in
    let a6 = in_order a5 in
    let a7 = call a6 refl c.in_ok-cursor.ensures in
    let a8 = in_order a7 in
    let a9 = call a8 refl c.in_ok-cursor-2.ensures in
    let a10 = in_order a9 in
    let a11 = call a10 refl c.in_ok-field.ensures in
    let a12 = in_order a11 in
    let a13 = call a12 refl c.in_ok-cursor-3.ensures in
    let a14 = in_order a13 in
    let a15 = call a14 refl c.in_ok-held.ensures in
    let a16 = in_order a15 in
    let a17 = call a16 refl c.in_ok-cursor-4.ensures in
    let a18 = in_order a17 in
    let a19 = call a18 refl c.in_ok-test.ensures in
    let a20 = call a19 refl c.in_ok-cursor-5.ensures in
    whole a20 (simp append_assoc (rw (c.in_ok-token.ensures.sentence.whole, c.in_ok-cursor.ensures.sentence.whole, c.in_ok-cursor-2.ensures.sentence.whole, c.in_ok-cursor-3.ensures.sentence.whole, c.in_ok-cursor-4.ensures.sentence.whole, c.in_ok-cursor-5.ensures.sentence.whole) (sentence.refined (sentence.refine c.in_ok-token.ensures.sentence.is c.in_ok-message.ensures.sentence c.in_ok-cursor.ensures.sentence.is c.in_ok-cursor-2.ensures.sentence.is c.in_ok-field.ensures.sentence c.in_ok-cursor-3.ensures.sentence.is c.in_ok-held.ensures.sentence c.in_ok-cursor-4.ensures.sentence.is c.in_ok-test.ensures.sentence c.in_ok-cursor-5.ensures.sentence.is))))
