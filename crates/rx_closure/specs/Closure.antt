-- What the shelf has of a package, and the closure of a package: all that is named by `with`, from package to package.
--   Has, HasNone, HasLong, HasText          the text that the shelf has under a name
--   IsRefused, IsTree, HasRefused, HasTree  what the text is
--   withs_of, added, IsStep, Walked         the walk through the list of packages
--   Reaches, IsCrowded                      where it comes
--   AreFetched, IsClosure                   the packages that it has gone through in the end, with their trees
use Rattle.std.specs.Prelude.{◌≡◌, ℕ, suc, ◌<◌, ◌≤◌, List, [], ◌∷◌, ◌++◌, length, map, Some, None, slice_get, true, if◌then◌else◌}
use Rattle.std.specs.List.{list_any}
use Rattle.std.specs.Str.{str_to_ascii_lowercase}
use Rattle.rx_io.specs.Shelf.{Texts, text_of, text_limit}
use Rattle.rx_syntax.specs.declared.token.Place.{Place}
use Rattle.rx_syntax.specs.declared.token.Token.{Token}
use Rattle.rx_syntax.specs.declared.fault.LexFault.{LexFault}
use Rattle.rx_syntax.specs.declared.tree.PackageTree.{PackageTree}
use Rattle.rx_syntax.specs.Text.{AreTokens, IsFault}
use Rattle.rx_grammar.specs.declared.syntax.SyntaxFault.{SyntaxFault}
use Rattle.rx_grammar.specs.Grammar.{rule, plain_file}
use Rattle.rx_grammar.specs.Limits.{Fits, no_limits}
use Rattle.rx_grammar.specs.Sentence.{IsPackage}
use Rattle.rx_grammar.specs.Syntax.{IsSyntaxFault}
use Rattle.rx_syntax.specs.declared.rule.Refusal.{Refusal}
use Rattle.rx_closure.specs.Refusals.{lexer_refusal, parser_refusal}
use Rattle.rx_closure.specs.Names.{is_same}

-- how many packages a command may have
abbrev pub package_limit : ℕ
package_limit = 64

-- the shelf has this text under the name, whatever the name's case
abbrev pub Has : Texts → List ℕ → List ℕ → Type 0
Has texts name text = text_of (str_to_ascii_lowercase name) texts ≡ Some text

-- the shelf has no text of the package
abbrev pub HasNone : Texts → List ℕ → Type 0
HasNone texts name = text_of (str_to_ascii_lowercase name) texts ≡ None

-- the text of the package is too long
abbrev pub HasLong : Texts → List ℕ → Type 0
HasLong texts name = (text : List ℕ) × Has texts name text × (text_limit < length text)

-- the text of the package, which is not too long
pub record HasText (texts : Texts) (name text : List ℕ) : Type 0 where
  pub found : Has texts name text
  pub within : length text ≤ text_limit

-- the text is refused: it has a first fault, or its tokens have one
pub data IsRefused (text : List ℕ) (refusal : Refusal) : Type 0 where
  by_lexer : {e : LexFault} → IsFault text e → lexer_refusal e ≡ Some refusal → IsRefused text refusal
  by_parser : {tokens : List Token} {last : Place} {e : SyntaxFault} → AreTokens text tokens last → IsSyntaxFault (rule plain_file) true tokens last e → parser_refusal e ≡ Some refusal
      → IsRefused text refusal

-- the text has this tree
pub record IsTree (text : List ℕ) (tree : PackageTree) : Type 0 where
  pub tokens : List Token
  pub last : Place
  pub are : AreTokens text tokens last
  pub is : IsPackage tokens tree
  pub fits : Fits no_limits tokens

-- the shelf has the package, and its text is refused
pub record HasRefused (texts : Texts) (name : List ℕ) (refusal : Refusal) : Type 0 where
  pub text : List ℕ
  pub has : HasText texts name text
  pub is : IsRefused text refusal

-- the shelf has the package, with this tree
pub record HasTree (texts : Texts) (name : List ℕ) (tree : PackageTree) : Type 0 where
  pub text : List ℕ
  pub has : HasText texts name text
  pub is : IsTree text tree

-- the names that a package gives by `with`, in the order of its text
abbrev pub withs_of : PackageTree → List (List ℕ)
withs_of tree = map (λ named. named.word) tree.header.withs.items

-- a name that is not in the list, whatever its case, is put at its end
abbrev pub added_one : List (List ℕ) → List ℕ → List (List ℕ)
added_one names name = if list_any (λ other. is_same other name) names then names else names ++ name ∷ []

-- names are put at the end of the list, one after the other
abbrev pub added : List (List ℕ) → List (List ℕ) → List (List ℕ)
added names [] = names
added names (name ∷ more) = added (added_one names name) more

-- package `k` of the list, counted from 0, is passed over where the shelf has no text of it, but for the first one; or its tree gives names, which make no more than 64
pub data IsStep (texts : Texts) (k : ℕ) (names : List (List ℕ)) : List (List ℕ) → Type 0 where
  passes : {name : List ℕ} → 0 < k → slice_get names k ≡ Some name → HasNone texts name → IsStep texts k names names
  reads : {name : List ℕ} {tree : PackageTree} → slice_get names k ≡ Some name → HasTree texts name tree → length (added names (withs_of tree)) ≤ package_limit
      → IsStep texts k names (added names (withs_of tree))

-- the walk from this package has gone through the first `k` packages of the list, and the list is this one
pub data Walked (texts : Texts) (first : List ℕ) : ℕ → List (List ℕ) → Type 0 where
  begins : Walked texts first 0 (first ∷ [])
  goes_on : {k : ℕ} {names more : List (List ℕ)} → Walked texts first k names → IsStep texts k names more → Walked texts first (suc k) more

-- the walk comes to this package: it has gone through all packages before it
pub record Reaches (texts : Texts) (first name : List ℕ) : Type 0 where
  pub at : ℕ
  pub names : List (List ℕ)
  pub walked : Walked texts first at names
  pub there : slice_get names at ≡ Some name

-- the walk comes to a package that names a 65th one
pub record IsCrowded (texts : Texts) (first : List ℕ) : Type 0 where
  pub name : List ℕ
  pub reached : Reaches texts first name
  pub tree : PackageTree
  pub has : HasTree texts name tree
  pub more : package_limit < length (added reached.names (withs_of tree))

-- the packages of a list of names that the shelf has, in its order: the names under which they were fetched, and their trees
pub data AreFetched (texts : Texts) : List (List ℕ) → List (List ℕ) → List PackageTree → Type 0 where
  no_packages : AreFetched texts [] [] []
  one_absent : {names asked : List (List ℕ)} {trees : List PackageTree} (name : List ℕ) → AreFetched texts names asked trees → HasNone texts name → AreFetched texts (names ++ name ∷ []) asked trees
  one_fetched : {names asked : List (List ℕ)} {trees : List PackageTree} {name : List ℕ} {tree : PackageTree} → AreFetched texts names asked trees → HasTree texts name tree
      → AreFetched texts (names ++ name ∷ []) (asked ++ name ∷ []) (trees ++ tree ∷ [])

-- the walk from the first package has gone through all packages of the list, of which the shelf has these
pub record IsClosure (texts : Texts) (first : List ℕ) (asked : List (List ℕ)) (trees : List PackageTree) : Type 0 where
  pub names : List (List ℕ)
  pub walked : Walked texts first (length names) names
  pub fetched : AreFetched texts names asked trees

-- at least one package, each with its name
pub record ArePaired (asked : List (List ℕ)) (trees : List PackageTree) : Type 0 where
  pub some : 0 < length trees
  pub same : length asked ≡ length trees
