use Rattle.std.proofs.lemmas.Result.{err_from_is_err_and}
use Rattle.rx_closure.specs.Closure.{IsRefused}
use Rattle.rx_closure.specs.Stop.{IsOfLexer, IsOfParser}
use Rattle.rx_closure.proofs.ClosureLemmas.{refused_for, lexer_refuses, parser_refuses}
use Rattle.rx_closure.proofs.NameLemmas.{withs_named}
use Rattle.rx_closure.proofs.closure.parse.Goals as goal

pub returns-clause-named : goal.returns-clause-named
returns-clause-named c = withs_named c.args.text.now c.in_ok-tokens.tokens.items.items c.in_ok-tokens.tokens.end c.in_ok-tree.tree c.in_ok-tokens.ensures.tokens c.in_ok-tree.ensures.tree

pub returns-in_err-tokens-clause-refused : goal.returns-in_err-tokens-clause-refused
returns-in_err-tokens-clause-refused c =
    let p = err_from_is_err_and c.from_residual.result c.from_residual.ensures.1 in
    rw (p.1, p.2) (refused_for c.args.name.now (IsOfLexer c.args.text.now) (IsRefused c.args.text.now) c.in_err-tokens.field-0.0 (lexer_refuses c.args.text.now) c.in_err-tokens.ensures.refused)

pub returns-in_err-tree-clause-refused : goal.returns-in_err-tree-clause-refused
returns-in_err-tree-clause-refused c =
    let tokens = c.in_ok-tokens.tokens.items.items in
    let last = c.in_ok-tokens.tokens.end in
    let p = err_from_is_err_and c.from_residual-in_err-tree.result c.from_residual-in_err-tree.ensures.1 in
    rw (p.1, p.2)
    (refused_for c.args.name.now (IsOfParser tokens last) (IsRefused c.args.text.now) c.in_err-tree.field-0.0 (parser_refuses c.args.text.now tokens last c.in_ok-tokens.ensures.tokens) c.in_err-tree.ensures.refused)
