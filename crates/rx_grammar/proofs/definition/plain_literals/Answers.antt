use Rattle.std.proofs.Common.{◌≡◌, ℕ, ◌+◌, ◌*◌, ◌<◌, ◌≤◌, true, false, List, [], ◌∷◌, ◌++◌, length, refl, sym, ap, ◌∙◌, subst, append_assoc, append-nil, arith, Option, Some, None}
use Rattle.rx_grammar.specs.First.{after, exactly, first_of}
use Rattle.rx_grammar.specs.Terminal.{is_such, is_one_of}
use Rattle.rx_syntax.specs.declared.mark.Mark.TheVariants as sign
use Rattle.rx_grammar.specs.declared.terminal.Terminal.TheVariants as terminal
use Rattle.rx_grammar.specs.declared.terminal.Keyword.TheVariants as word
use Rattle.rx_grammar.specs.declared.terminal.Quoted.TheVariants as quoted
use Rattle.rx_grammar.specs.declared.terminal.Choice.TheVariants as choice
use Rattle.rx_grammar.specs.Sentence as sentence
use Rattle.rx_grammar.proofs.Exit.{exit, out_of_memory}
use Rattle.rx_grammar.proofs.Sofar.{Sofar, from_start, call, call_by, fault, fault_by, whole, by_body, in_order, skips, enters, ends, repeats, takes_first, takes_second, takes_first_else, takes_second_ahead, shares}
use Rattle.rx_grammar.specs.Grammar.{Symbol, rule, mark, key, quote, NAME, NUM, choice_of, maybe, many, some, listed, ◌▸◌, ◌∣◌, condition, with_aspects, more_thens, aspect, aspects, one_then, thens, numbered, literals, easpect, def, plain_literals, numbered_literals, with_easpects, unsigned_def, range_def, enumeration_def, sequence_def, derived_def, null_def, message_def, field, start_thens, byte_order, inner, refine, type_decl, plain_decl, with_clause, header, plain_file, name_more, expr_more, condition_more, aspects_more, with_aspects_more, thens_more, easpect_more, literals_more, def_more}
use Rattle.rx_grammar.proofs.Nodes.{aspect_read, target_read, order_read, always_read, next_read, then_some, field_some, decl_some, with_some}
use Rattle.rx_grammar.proofs.Chain.{shorter, spread}
use Rattle.rx_grammar.proofs.definition.plain_literals.Goals as goal

pub returns-in_err-one : goal.returns-in_err-one
returns-in_err-one c =
    out_of_memory _ _ _ c.args.start _ _ c.from_residual.ensures.1 c.in_err-one.ensures.memory

pub parts-init : goal.parts-init
parts-init c =
    let a0 = from_start (plain_literals) (after (terminal.Mark sign.Comma ∷ [])) c.args.start.rest.now c.args.start.limits in
    record { used = []; sofar = a0; sentence = λ xs n. rw (c.in_ok-one.ensures.items, c.new-none.ensures.items, append-nil xs) (sentence.single (sentence.plain n)) }

pub returns : goal.returns
returns c =
    let a0 = c.parts.invariant.sofar in
    whole (ends a0 refl c.parts-test.ensures) c.parts.invariant.sentence

pub returns-in_err-behind : goal.returns-in_err-behind
returns-in_err-behind c =
    let a0 = c.parts.invariant.sofar in
    let a1 = repeats a0 refl c.parts-test.ensures in
    let a2 = in_order a1 in
    exit _ _ _ c.args.start _ _ c.from_residual-in_err-behind.ensures.1 (fault a2 refl c.in_err-behind.ensures)

pub returns-in_err-name : goal.returns-in_err-name
returns-in_err-name c =
    let a0 = c.parts.invariant.sofar in
    let a1 = repeats a0 refl c.parts-test.ensures in
    let a2 = in_order a1 in
    let a3 = call a2 refl c.in_ok-behind.ensures in
    exit _ _ _ c.args.start _ _ c.from_residual-in_err-name.ensures.1 (fault a3 refl c.in_err-name.ensures)

pub returns-in_err-list : goal.returns-in_err-list
returns-in_err-list c =
    out_of_memory _ _ _ c.args.start _ _ c.from_residual-in_err-list.ensures.1 c.in_err-list.ensures.memory

pub parts-preserved : goal.parts-preserved
parts-preserved c =
    let a0 = c.parts.invariant.sofar in
    let a1 = repeats a0 refl c.parts-test.ensures in
    let a2 = in_order a1 in
    let a3 = call a2 refl c.in_ok-behind.ensures in
    let a4 = call a3 refl c.in_ok-name.ensures in
    record { used = _; sofar = a4; sentence = λ xs n. rw (c.in_ok-behind.ensures.sentence.whole, c.in_ok-list.ensures.items, spread) (sentence.further (c.parts.invariant.sentence xs n) c.in_ok-behind.ensures.sentence.is (sentence.plain c.in_ok-name.ensures.sentence)) }
