-- Laws of texts: each has one list of tokens or one first fault: `OneList`, `OneFault`, `NoFault`.
use Rattle.std.specs.Prelude.{◌≡◌, ℕ, List}
use Rattle.rx_syntax.specs.declared.token.Place.{Place}
use Rattle.rx_syntax.specs.declared.token.Token.{Token}
use Rattle.rx_syntax.specs.declared.fault.LexFault.{LexFault}
use Rattle.rx_syntax.specs.Text.{AreTokens, IsFault}

-- two lists of tokens of one text are the same
abbrev pub OneList : Type 0
OneList = (text : List ℕ) (tokens tokens' : List Token) (finish finish' : Place) → AreTokens text tokens finish → AreTokens text tokens' finish' → tokens ≡ tokens'

-- two first faults of one text are the same
abbrev pub OneFault : Type 0
OneFault = (text : List ℕ) (e e' : LexFault) → IsFault text e → IsFault text e' → e ≡ e'

-- a text that has tokens has no fault
abbrev pub NoFault : Type 0
NoFault = (text : List ℕ) (tokens : List Token) (finish : Place) (e : LexFault) → AreTokens text tokens finish → IsFault text e → ⊥
