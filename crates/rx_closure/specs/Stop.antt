-- Why a walk through packages ends before all of them are read.
use Rattle.std.specs.Prelude.{◌≡◌, ℕ, ◌<◌, List, Some, true}
use Rattle.rx_io.specs.Shelf.{Texts}
use Rattle.rx_syntax.specs.Text.{IsFault}
use Rattle.rx_syntax.specs.declared.token.Place.{Place}
use Rattle.rx_syntax.specs.declared.token.Token.{Token}
use Rattle.rx_syntax.specs.declared.fault.LexFault.{LexFault}
use Rattle.rx_grammar.specs.declared.syntax.SyntaxFault.{SyntaxFault}
use Rattle.rx_grammar.specs.Grammar.{rule, plain_file}
use Rattle.rx_grammar.specs.Syntax.{IsSyntaxFault}
use Rattle.rx_syntax.specs.declared.rule.Refusal.{Refusal}
use Rattle.rx_closure.specs.declared.closure.Stop.{Stop}
use Rattle.rx_closure.specs.declared.closure.Stop.TheVariants.{Fault, NoPackage, TextLimit, Refused, PackageLimit, NoMemory}
use Rattle.rx_closure.specs.Refusals.{lexer_refusal, parser_refusal}
use Rattle.rx_closure.specs.Closure.{package_limit, HasNone, HasLong, HasRefused, Walked, Reaches, IsCrowded}

-- the package is refused for this
abbrev pub RefusedFor : List ℕ → (Refusal → Type 0) → Stop → Type 0
RefusedFor name Is (Refused other refusal) = (other ≡ name) × Is refusal
RefusedFor name Is NoMemory = Unit {0}
RefusedFor name Is stop = ⊥

-- the text has a first fault
abbrev pub IsOfLexer : List ℕ → Refusal → Type 0
IsOfLexer text refusal = (e : LexFault) × IsFault text e × (lexer_refusal e ≡ Some refusal)

-- the tokens have a fault
abbrev pub IsOfParser : List Token → Place → Refusal → Type 0
IsOfParser tokens last refusal = (e : SyntaxFault) × IsSyntaxFault (rule plain_file) true tokens last e × (parser_refusal e ≡ Some refusal)

-- why the package on the shelf was not read
abbrev pub IsUnread : Texts → List ℕ → Stop → Type 0
IsUnread texts name Fault = Unit {0}
IsUnread texts name NoPackage = ⊥
IsUnread texts name (TextLimit other) = (other ≡ name) × HasLong texts name
IsUnread texts name (Refused other refusal) = (other ≡ name) × HasRefused texts name refusal
IsUnread texts name PackageLimit = ⊥
IsUnread texts name NoMemory = Unit {0}

-- so many names are too many
abbrev pub IsTooMany : ℕ → Stop → Type 0
IsTooMany n PackageLimit = package_limit < n
IsTooMany n NoMemory = Unit {0}
IsTooMany n stop = ⊥

-- why the walk from this package ends
abbrev pub Stops : Texts → List ℕ → Stop → Type 0
Stops texts first Fault = Unit {0}
Stops texts first NoPackage = HasNone texts first
Stops texts first (TextLimit name) = Reaches texts first name × HasLong texts name
Stops texts first (Refused name refusal) = Reaches texts first name × HasRefused texts name refusal
Stops texts first PackageLimit = IsCrowded texts first
Stops texts first NoMemory = Unit {0}

-- why the walk ends at package `k` of the list, wherever it began
abbrev pub StopsAt : Texts → ℕ → List (List ℕ) → Stop → Type 0
StopsAt texts k names stop = (first : List ℕ) → Walked texts first k names → Stops texts first stop
