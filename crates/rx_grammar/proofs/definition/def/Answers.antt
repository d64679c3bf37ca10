use Rattle.std.proofs.Common.{◌≡◌, ℕ, ◌+◌, ◌*◌, ◌<◌, ◌≤◌, true, false, List, [], ◌∷◌, ◌++◌, length, refl, sym, ap, ◌∙◌, subst, append_assoc, append-nil, arith, Option, Some, None}
use Rattle.rx_grammar.specs.First.{after, exactly, first_of}
use Rattle.rx_grammar.specs.Terminal.{is_such, is_one_of}
use Rattle.rx_syntax.specs.declared.mark.Mark.TheVariants as sign
use Rattle.rx_grammar.specs.declared.terminal.Terminal.TheVariants as terminal
use Rattle.rx_grammar.specs.declared.terminal.Keyword.TheVariants as word
use Rattle.rx_grammar.specs.declared.terminal.Quoted.TheVariants as quoted
use Rattle.rx_grammar.specs.declared.terminal.Choice.TheVariants as choice
use Rattle.rx_grammar.specs.Sentence as sentence
use Rattle.rx_grammar.proofs.Exit.{exit, out_of_memory}
use Rattle.rx_grammar.proofs.Sofar.{Sofar, from_start, call, call_by, fault, fault_by, whole, by_body, in_order, skips, enters, ends, repeats, takes_first, takes_second, takes_first_else, takes_second_ahead, shares}
use Rattle.rx_grammar.specs.Grammar.{Symbol, rule, mark, key, quote, NAME, NUM, choice_of, maybe, many, some, listed, ◌▸◌, ◌∣◌, condition, with_aspects, more_thens, aspect, aspects, one_then, thens, numbered, literals, easpect, def, plain_literals, numbered_literals, with_easpects, unsigned_def, range_def, enumeration_def, sequence_def, derived_def, null_def, message_def, field, start_thens, byte_order, inner, refine, type_decl, plain_decl, with_clause, header, plain_file, name_more, expr_more, condition_more, aspects_more, with_aspects_more, thens_more, easpect_more, literals_more, def_more}
use Rattle.rx_grammar.proofs.Nodes.{aspect_read, target_read, order_read, always_read, next_read, then_some, field_some, decl_some, with_some}
use Rattle.rx_grammar.proofs.Chain.{shorter, spread}
use Rattle.rx_grammar.proofs.definition.def.Goals as goal

pub returns-in_err-unsigned : goal.returns-in_err-unsigned
returns-in_err-unsigned c =
    let a0 = from_start (rule def) (after def_more) c.args.cursor.rest.now c.args.cursor.limits in
    let a1 = by_body a0 in
    let a2 = takes_first (terminal.Keyword word.Unsigned ∷ []) a1 refl refl c.if-sees.ensures in
    exit _ _ _ c.args.cursor _ _ c.from_residual.ensures.1 (fault a2 refl c.in_err-unsigned.ensures)

pub returns-then-sees : goal.returns-then-sees
returns-then-sees c =
    let a0 = from_start (rule def) (after def_more) c.args.cursor.rest.now c.args.cursor.limits in
    let a1 = by_body a0 in
    let a2 = takes_first (terminal.Keyword word.Unsigned ∷ []) a1 refl refl c.if-sees.ensures in
    let a3 = call a2 refl c.in_ok-unsigned.ensures in
    whole a3 c.in_ok-unsigned.ensures.sentence

pub returns-in_err-range : goal.returns-in_err-range
returns-in_err-range c =
    let a0 = from_start (rule def) (after def_more) c.args.cursor.rest.now c.args.cursor.limits in
    let a1 = by_body a0 in
    let a2 = takes_second a1 refl c.if-sees.ensures in
    let a3 = takes_first (terminal.Keyword word.Range ∷ []) a2 refl refl c.if-sees-2.ensures in
    exit _ _ _ c.args.cursor _ _ c.from_residual-in_err-range.ensures.1 (fault a3 refl c.in_err-range.ensures)

pub returns-then-sees-2 : goal.returns-then-sees-2
returns-then-sees-2 c =
    let a0 = from_start (rule def) (after def_more) c.args.cursor.rest.now c.args.cursor.limits in
    let a1 = by_body a0 in
    let a2 = takes_second a1 refl c.if-sees.ensures in
    let a3 = takes_first (terminal.Keyword word.Range ∷ []) a2 refl refl c.if-sees-2.ensures in
    let a4 = call a3 refl c.in_ok-range.ensures in
    whole a4 c.in_ok-range.ensures.sentence

pub returns-in_err-enumeration : goal.returns-in_err-enumeration
returns-in_err-enumeration c =
    let a0 = from_start (rule def) (after def_more) c.args.cursor.rest.now c.args.cursor.limits in
    let a1 = by_body a0 in
    let a2 = takes_second a1 refl c.if-sees.ensures in
    let a3 = takes_second a2 refl c.if-sees-2.ensures in
    let a4 = takes_first (terminal.Mark sign.ParenLeft ∷ []) a3 refl refl c.if-sees-3.ensures in
    exit _ _ _ c.args.cursor _ _ c.from_residual-in_err-enumeration.ensures.1 (fault a4 refl c.in_err-enumeration.ensures)

pub returns-then-sees-3 : goal.returns-then-sees-3
returns-then-sees-3 c =
    let a0 = from_start (rule def) (after def_more) c.args.cursor.rest.now c.args.cursor.limits in
    let a1 = by_body a0 in
    let a2 = takes_second a1 refl c.if-sees.ensures in
    let a3 = takes_second a2 refl c.if-sees-2.ensures in
    let a4 = takes_first (terminal.Mark sign.ParenLeft ∷ []) a3 refl refl c.if-sees-3.ensures in
    let a5 = call a4 refl c.in_ok-enumeration.ensures in
    whole a5 c.in_ok-enumeration.ensures.sentence

pub returns-in_err-sequence : goal.returns-in_err-sequence
returns-in_err-sequence c =
    let a0 = from_start (rule def) (after def_more) c.args.cursor.rest.now c.args.cursor.limits in
    let a1 = by_body a0 in
    let a2 = takes_second a1 refl c.if-sees.ensures in
    let a3 = takes_second a2 refl c.if-sees-2.ensures in
    let a4 = takes_second a3 refl c.if-sees-3.ensures in
    let a5 = takes_first (terminal.Keyword word.Sequence ∷ []) a4 refl refl c.if-sees-4.ensures in
    exit _ _ _ c.args.cursor _ _ c.from_residual-in_err-sequence.ensures.1 (fault a5 refl c.in_err-sequence.ensures)

pub returns-then-sees-4 : goal.returns-then-sees-4
returns-then-sees-4 c =
    let a0 = from_start (rule def) (after def_more) c.args.cursor.rest.now c.args.cursor.limits in
    let a1 = by_body a0 in
    let a2 = takes_second a1 refl c.if-sees.ensures in
    let a3 = takes_second a2 refl c.if-sees-2.ensures in
    let a4 = takes_second a3 refl c.if-sees-3.ensures in
    let a5 = takes_first (terminal.Keyword word.Sequence ∷ []) a4 refl refl c.if-sees-4.ensures in
    let a6 = call a5 refl c.in_ok-sequence.ensures in
    whole a6 c.in_ok-sequence.ensures.sentence

pub returns-in_err-derived : goal.returns-in_err-derived
returns-in_err-derived c =
    let a0 = from_start (rule def) (after def_more) c.args.cursor.rest.now c.args.cursor.limits in
    let a1 = by_body a0 in
    let a2 = takes_second a1 refl c.if-sees.ensures in
    let a3 = takes_second a2 refl c.if-sees-2.ensures in
    let a4 = takes_second a3 refl c.if-sees-3.ensures in
    let a5 = takes_second a4 refl c.if-sees-4.ensures in
    let a6 = takes_first (terminal.Keyword word.New ∷ []) a5 refl refl c.if-sees-5.ensures in
    exit _ _ _ c.args.cursor _ _ c.from_residual-in_err-derived.ensures.1 (fault a6 refl c.in_err-derived.ensures)

pub returns-then-sees-5 : goal.returns-then-sees-5
returns-then-sees-5 c =
    let a0 = from_start (rule def) (after def_more) c.args.cursor.rest.now c.args.cursor.limits in
    let a1 = by_body a0 in
    let a2 = takes_second a1 refl c.if-sees.ensures in
    let a3 = takes_second a2 refl c.if-sees-2.ensures in
    let a4 = takes_second a3 refl c.if-sees-3.ensures in
    let a5 = takes_second a4 refl c.if-sees-4.ensures in
    let a6 = takes_first (terminal.Keyword word.New ∷ []) a5 refl refl c.if-sees-5.ensures in
    let a7 = call a6 refl c.in_ok-derived.ensures in
    whole a7 c.in_ok-derived.ensures.sentence

pub returns-in_err-nothing : goal.returns-in_err-nothing
returns-in_err-nothing c =
    let a0 = from_start (rule def) (after def_more) c.args.cursor.rest.now c.args.cursor.limits in
    let a1 = by_body a0 in
    let a2 = takes_second a1 refl c.if-sees.ensures in
    let a3 = takes_second a2 refl c.if-sees-2.ensures in
    let a4 = takes_second a3 refl c.if-sees-3.ensures in
    let a5 = takes_second a4 refl c.if-sees-4.ensures in
    let a6 = takes_second a5 refl c.if-sees-5.ensures in
    let a7 = takes_first (terminal.Keyword word.Null ∷ []) a6 refl refl c.if-sees-6.ensures in
    exit _ _ _ c.args.cursor _ _ c.from_residual-in_err-nothing.ensures.1 (fault a7 refl c.in_err-nothing.ensures)

pub returns-then-sees-6 : goal.returns-then-sees-6
returns-then-sees-6 c =
    let a0 = from_start (rule def) (after def_more) c.args.cursor.rest.now c.args.cursor.limits in
    let a1 = by_body a0 in
    let a2 = takes_second a1 refl c.if-sees.ensures in
    let a3 = takes_second a2 refl c.if-sees-2.ensures in
    let a4 = takes_second a3 refl c.if-sees-3.ensures in
    let a5 = takes_second a4 refl c.if-sees-4.ensures in
    let a6 = takes_second a5 refl c.if-sees-5.ensures in
    let a7 = takes_first (terminal.Keyword word.Null ∷ []) a6 refl refl c.if-sees-6.ensures in
    let a8 = call a7 refl c.in_ok-nothing.ensures in
    whole a8 c.in_ok-nothing.ensures.sentence

pub returns-in_err-message : goal.returns-in_err-message
returns-in_err-message c =
    let a0 = from_start (rule def) (after def_more) c.args.cursor.rest.now c.args.cursor.limits in
    let a1 = by_body a0 in
    let a2 = takes_second a1 refl c.if-sees.ensures in
    let a3 = takes_second a2 refl c.if-sees-2.ensures in
    let a4 = takes_second a3 refl c.if-sees-3.ensures in
    let a5 = takes_second a4 refl c.if-sees-4.ensures in
    let a6 = takes_second a5 refl c.if-sees-5.ensures in
    let a7 = takes_second a6 refl c.if-sees-6.ensures in
    exit _ _ _ c.args.cursor _ _ c.from_residual-in_err-message.ensures.1 (fault a7 refl c.in_err-message.ensures)

pub returns : goal.returns
returns c =
    let a0 = from_start (rule def) (after def_more) c.args.cursor.rest.now c.args.cursor.limits in
    let a1 = by_body a0 in
    let a2 = takes_second a1 refl c.if-sees.ensures in
    let a3 = takes_second a2 refl c.if-sees-2.ensures in
    let a4 = takes_second a3 refl c.if-sees-3.ensures in
    let a5 = takes_second a4 refl c.if-sees-4.ensures in
    let a6 = takes_second a5 refl c.if-sees-5.ensures in
    let a7 = takes_second a6 refl c.if-sees-6.ensures in
    let a8 = call a7 refl c.in_ok-message.ensures in
    whole a8 (sentence.message c.in_ok-message.ensures.sentence)
