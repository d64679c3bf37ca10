use Rattle.std.proofs.Common.{true, List, [], ◌∷◌, ◌++◌, subst, append-nil}
use Rattle.rx_syntax.specs.declared.token.Place.{Place}
use Rattle.rx_syntax.specs.declared.token.Token.{Token}
use Rattle.rx_syntax.specs.declared.tree.PackageTree.{PackageTree}
use Rattle.rx_grammar.specs.declared.syntax.SyntaxFault.{SyntaxFault}
use Rattle.rx_grammar.specs.Grammar.{Derives, Whole, rule, plain_file, finished}
use Rattle.rx_grammar.specs.Limits.{Fits, no_limits}
use Rattle.rx_grammar.specs.Sentence.{IsPackage}
use Rattle.rx_grammar.specs.Syntax as syntax
use Rattle.rx_grammar.specs.Syntax.{IsSyntaxFault}
use Rattle.rx_grammar.proofs.Complete.{package_before}
use Rattle.rx_grammar.proofs.OneFault.{one_fault, fits_not_deep}
use Rattle.rx_grammar.proofs.law.one_answer.Goals as goal

derived : (ts : List Token) (tree : PackageTree) → IsPackage ts tree → Derives Whole (rule plain_file ∷ []) ts
derived ts tree h = subst (Derives Whole (rule plain_file ∷ [])) (append-nil ts) (package_before h finished)

pub returns-clause-tree : goal.returns-clause-tree
returns-clause-tree c = λ ts last e tree f h fits. elim f [ syntax.too_deep a ↦ fits_not_deep (rule plain_file) ts e a fits | syntax.stopped a ↦ a.none (derived ts tree h) ]

pub returns-clause-fault : goal.returns-clause-fault
returns-clause-fault c = one_fault
