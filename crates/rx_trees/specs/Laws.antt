-- Tokens have one tree, but for places in memory.
use Rattle.std.specs.Prelude.{List}
use Rattle.rx_syntax.specs.declared.token.Token.{Token}
use Rattle.rx_syntax.specs.declared.tree.PackageTree.{PackageTree}
use Rattle.rx_grammar.specs.Sentence.{IsPackage}
use Rattle.rx_trees.specs.Alike.{IsSamePackage}

-- two trees of the tokens of a package are the same package
abbrev pub OneTree : Type 0
OneTree = (ts : List Token) (one other : PackageTree) → IsPackage ts one → IsPackage ts other → IsSamePackage one other
