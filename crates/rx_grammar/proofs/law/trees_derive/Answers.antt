use Rattle.std.proofs.Common.{List, [], ◌∷◌, ◌++◌, ◌≡◌, subst, append-nil}
use Rattle.rx_syntax.specs.declared.token.Token.{Token}
use Rattle.rx_grammar.specs.Grammar.{Symbol, Derives, Whole, finished}
use Rattle.rx_grammar.specs.Laws.{PackagesDerive, NoTreeAtFault}
use Rattle.rx_grammar.proofs.Complete.{package_before, header_before, decl_before, expr_before}
use Rattle.rx_grammar.proofs.law.trees_derive.Goals as goal

alone : (s : Symbol) (ts : List Token) → Derives Whole (s ∷ []) (ts ++ []) → Derives Whole (s ∷ []) ts
alone s ts d = subst (Derives Whole (s ∷ [])) (append-nil ts) d

packages : PackagesDerive
packages ts tree h = alone _ ts (package_before h finished)

pub returns-clause-package : goal.returns-clause-package
returns-clause-package c = packages

pub returns-clause-header : goal.returns-clause-header
returns-clause-header c = λ ts tree h. alone _ ts (header_before h finished)

pub returns-clause-declaration : goal.returns-clause-declaration
returns-clause-declaration c = λ ts tree h. alone _ ts (decl_before h finished)

pub returns-clause-expression : goal.returns-clause-expression
returns-clause-expression c = λ ts tree h. alone _ ts (expr_before h finished)

pub returns-clause-fault : goal.returns-clause-fault
returns-clause-fault c = λ ts last e tree s h. s.none (packages ts tree h)
