-- The parts of a package: `start_of`, `IsPart`, `NoLonger`, `IsWithinLimits`, `IsPartRead`, `IsPartFault`.
use Rattle.std.specs.Prelude.{◌≡◌, ℕ, ◌+◌, ◌≤◌, Bool, false, List, [], ◌∷◌, length, take}
use Rattle.rx_syntax.specs.declared.token.Place.{Place}
use Rattle.rx_syntax.specs.declared.token.Token.{Token}
use Rattle.rx_syntax.specs.declared.tree.HeaderTree.{HeaderTree}
use Rattle.rx_syntax.specs.declared.tree.DeclTree.{DeclTree}
use Rattle.rx_syntax.specs.declared.tree.ExprTree.{ExprTree}
use Rattle.rx_grammar.specs.declared.terminal.Terminal.{Terminal}
use Rattle.rx_grammar.specs.declared.part.Part.{Part}
use Rattle.rx_grammar.specs.declared.part.Part.TheVariants as part
use Rattle.rx_grammar.specs.declared.part.PartTree.{PartTree}
use Rattle.rx_grammar.specs.declared.part.PartTree.TheVariants as tree
use Rattle.rx_grammar.specs.declared.syntax.SyntaxFault.{SyntaxFault}
use Rattle.rx_grammar.specs.Grammar.{Symbol, Derives, Whole, rule, header, plain_decl, expr, expr_more}
use Rattle.rx_grammar.specs.Sentence.{IsHeader, IsDecl, IsExpr}
use Rattle.rx_grammar.specs.declared.fault.Fault.{Fault}
use Rattle.rx_grammar.specs.declared.fault.Fault.TheVariants as fault
use Rattle.rx_grammar.specs.Syntax.{IsTooDeep, IsStopped, IsFaultAlone}

-- the rule of a part
abbrev pub start_of : Part → Symbol
start_of part.Header = rule header
start_of part.Declaration = rule plain_decl
start_of part.Expression = rule expr

-- the tokens that may go on where a sentence of the part could end
abbrev pub more_of : Part → List Terminal
more_of part.Header = []
more_of part.Declaration = []
more_of part.Expression = expr_more

-- the tokens are a sentence of the part
pub data IsPart : Part → List Token → PartTree → Type 0 where
  is_header : {ts : List Token} {t : HeaderTree} → IsHeader ts t → IsPart part.Header ts (tree.Header t)
  is_declaration : {ts : List Token} {t : DeclTree} → IsDecl ts t → IsPart part.Declaration ts (tree.Declaration t)
  is_expression : {ts : List Token} {t : ExprTree} → IsExpr ts t → IsPart part.Expression ts (tree.Expression t)

-- no longer front of the tokens is a sentence
abbrev pub NoLonger : Symbol → List Token → ℕ → Type 0
NoLonger s ts n = (m : ℕ) → m ≤ length ts → Derives Whole (s ∷ []) (take m ts) → m ≤ n

-- no front of the tokens is a sentence
abbrev pub NoFront : Symbol → List Token → Type 0
NoFront s ts = (m : ℕ) → m ≤ length ts → Derives Whole (s ∷ []) (take m ts) → ⊥

-- no token with which a sentence could go on is past a limit
abbrev pub IsWithinLimits : Symbol → List Token → Type 0
IsWithinLimits s ts = (e : SyntaxFault) → IsTooDeep s ts e → ⊥

-- the longest sentence of the part, and the index of the next token
pub record IsPartRead (p : Part) (ts : List Token) (start : ℕ) (tree : PartTree) (next : ℕ) : Type 0 where
  pub len : ℕ
  pub within : len ≤ length ts
  pub next_is : next ≡ start + len
  pub sentence : IsPart p (take len ts) tree
  pub longest : NoLonger (start_of p) ts len
  pub limits : IsWithinLimits (start_of p) ts

-- why there is no sentence of the part, or a limit is passed
pub data IsPartFault (s : Symbol) (ts : List Token) (last : Place) (e : SyntaxFault) : Type 0 where
  too_deep : IsTooDeep s ts e → IsPartFault s ts last e
  stopped : IsStopped s false ts last e → NoFront s ts → IsPartFault s ts last e

-- the longest expression of the tokens, and its length
pub record IsLongestExpr (ts : List Token) (tree : ExprTree) (len : ℕ) : Type 0 where
  pub within : len ≤ length ts
  pub sentence : IsExpr (take len ts) tree
  pub longest : NoLonger (rule expr) ts len
  pub limits : IsWithinLimits (rule expr) ts

-- why a parser found no sentence of the part
pub record IsPartStop (s : Symbol) (ts : List Token) (e : Fault) : Type 0 where
  pub alone : IsFaultAlone s ts e
  pub none : (left : ℕ) → e ≡ fault.Expected left → NoFront s ts
