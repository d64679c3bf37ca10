-- Whatever has a tree is derived by the grammar: `PackagesDerive`, `HeadersDerive`, `DeclsDerive`, `ExprsDerive`, `NoTreeAtFault`;
-- and tokens have a tree within the limits or one fault: `NoFaultOfTree`, `OneFault`.
use Rattle.std.specs.Prelude.{◌≡◌, Bool, true, List, [], ◌∷◌}
use Rattle.rx_syntax.specs.declared.token.Place.{Place}
use Rattle.rx_syntax.specs.declared.token.Token.{Token}
use Rattle.rx_syntax.specs.declared.tree.PackageTree.{PackageTree}
use Rattle.rx_syntax.specs.declared.tree.HeaderTree.{HeaderTree}
use Rattle.rx_syntax.specs.declared.tree.DeclTree.{DeclTree}
use Rattle.rx_syntax.specs.declared.tree.ExprTree.{ExprTree}
use Rattle.rx_grammar.specs.declared.syntax.SyntaxFault.{SyntaxFault}
use Rattle.rx_grammar.specs.Limits.{Fits, no_limits}
use Rattle.rx_grammar.specs.Grammar.{Symbol, Derives, Whole, rule, plain_file, header, plain_decl, expr}
use Rattle.rx_grammar.specs.Sentence.{IsPackage, IsHeader, IsDecl, IsExpr}
use Rattle.rx_grammar.specs.Syntax.{IsStopped, IsSyntaxFault}

abbrev pub PackagesDerive : Type 0
PackagesDerive = (ts : List Token) (tree : PackageTree) → IsPackage ts tree → Derives Whole (rule plain_file ∷ []) ts

abbrev pub HeadersDerive : Type 0
HeadersDerive = (ts : List Token) (tree : HeaderTree) → IsHeader ts tree → Derives Whole (rule header ∷ []) ts

abbrev pub DeclsDerive : Type 0
DeclsDerive = (ts : List Token) (tree : DeclTree) → IsDecl ts tree → Derives Whole (rule plain_decl ∷ []) ts

abbrev pub ExprsDerive : Type 0
ExprsDerive = (ts : List Token) (tree : ExprTree) → IsExpr ts tree → Derives Whole (rule expr ∷ []) ts

-- where the tokens stop to begin a package, no tree is theirs
abbrev pub NoTreeAtFault : Type 0
NoTreeAtFault = (ts : List Token) (last : Place) (e : SyntaxFault) (tree : PackageTree) → IsStopped (rule plain_file) true ts last e → IsPackage ts tree → ⊥

-- tokens of a package within the limits have no fault
abbrev pub NoFaultOfTree : Type 0
NoFaultOfTree = (ts : List Token) (last : Place) (e : SyntaxFault) (tree : PackageTree) → IsSyntaxFault (rule plain_file) true ts last e → IsPackage ts tree → Fits no_limits ts → ⊥

-- tokens have one fault
abbrev pub OneFault : Type 0
OneFault = (s : Symbol) (plain : Bool) (ts : List Token) (last : Place) (e e' : SyntaxFault) → IsSyntaxFault s plain ts last e → IsSyntaxFault s plain ts last e' → e ≡ e'
