-- The faults of a list of tokens: `IsLongest`, `unsupported_at`, `IsToldAt`, `IsSyntaxFault`.
use Rattle.std.specs.Prelude.{◌≡◌, ℕ, ◌+◌, ◌-◌, ◌≤◌, Bool, true, false, ◌||◌, ◌&&◌, codes, List, [], ◌∷◌, ◌++◌, length, take, drop, Option, Some, None, if◌then◌else◌, ◌⊎◌}
use Rattle.std.specs.List.{list_any}
use Rattle.std.specs.Str.{str_eq_ignore_ascii_case}
use Rattle.rx_syntax.specs.declared.token.Place.{Place}
use Rattle.rx_syntax.specs.declared.token.Token.{Token}
use Rattle.rx_syntax.specs.declared.token.TokenKind.{TokenKind}
use Rattle.rx_syntax.specs.declared.token.TokenKind.TheVariants as kind
use Rattle.rx_syntax.specs.declared.mark.Mark.TheVariants as sign
use Rattle.rx_grammar.specs.declared.terminal.Terminal.TheVariants as terminal
use Rattle.rx_grammar.specs.declared.terminal.Keyword.TheVariants as word
use Rattle.rx_grammar.specs.declared.syntax.SyntaxFault.{SyntaxFault}
use Rattle.rx_grammar.specs.declared.syntax.SyntaxFault.TheVariants.{Expected, TooDeep, Unsupported, NoMemory}
use Rattle.rx_grammar.specs.declared.fault.Fault.{Fault}
use Rattle.rx_grammar.specs.declared.fault.Fault.TheVariants as fault
use Rattle.rx_grammar.specs.Terminal.{is_such}
use Rattle.rx_grammar.specs.Grammar.{Symbol, Begins, Derives, Whole}
use Rattle.rx_grammar.specs.Reads.{Stops}
use Rattle.rx_grammar.specs.Limits.{exceeds, limits_behind, Fits, no_limits}

-- the place of the first token, or the end
abbrev pub place_of : List Token → Place → Place
place_of [] last = last
place_of (t ∷ ts) last = t.place

-- words of forms that other tools know and this one doesn't
abbrev pub unsupported_words : List (List ℕ)
unsupported_words = codes "Checksum" ∷ codes "Valid_Checksum" ∷ codes "Head" ∷ codes "function" ∷ codes "renames" ∷ codes "all" ∷ codes "some" ∷ codes "case" ∷ codes "when" ∷ codes "mod" ∷ codes "session" ∷ []

-- the same, where no machine may stand
abbrev pub machine_words : List (List ℕ)
machine_words = codes "machine" ∷ codes "generic" ∷ []

abbrev pub is_listed : List (List ℕ) → List ℕ → Bool
is_listed words w = list_any (λ u. str_eq_ignore_ascii_case w u) words

abbrev pub is_unsupported : Bool → List ℕ → Bool
is_unsupported plain w = is_listed unsupported_words w || plain && is_listed machine_words w

-- the two tokens are `type` and a name
abbrev pub is_type_name : List Token → Bool
is_type_name [] = false
is_type_name (a ∷ []) = false
is_type_name (a ∷ b ∷ ts) = is_such (terminal.Keyword word.Type) a.kind && is_such terminal.Name b.kind

-- what is not supported at the stop: one of the words, or parameters directly behind `type NAME`
abbrev pub unsupported : Bool → List Token → TokenKind → Option (List ℕ)
unsupported plain front (kind.Word w) = if is_unsupported plain w then Some w else None
unsupported plain front (kind.Mark sign.ParenLeft) = if is_type_name (drop (length front - 2) front) then Some (codes "parameters") else None
unsupported plain front _ = None

abbrev pub unsupported_at : Bool → List Token → List Token → Option (List ℕ)
unsupported_at plain front [] = None
unsupported_at plain front (t ∷ ts) = unsupported plain front t.kind

-- how a fault is told behind the front
pub data IsToldAt (plain : Bool) (front stop : List Token) (last : Place) : SyntaxFault → Type 0 where
  expected : unsupported_at plain front stop ≡ None → IsToldAt plain front stop last (Expected (place_of stop last))
  not_supported : {w : List ℕ} → unsupported_at plain front stop ≡ Some w → IsToldAt plain front stop last (Unsupported (place_of stop last) w)

-- the front is the longest one with which a sentence of the symbol begins
pub record IsLongest (s : Symbol) (front stop : List Token) : Type 0 where
  pub begins : Begins (s ∷ []) front
  pub longest : (n : ℕ) → n ≤ length (front ++ stop) → Begins (s ∷ []) (take n (front ++ stop)) → n ≤ length front

-- a token with which a sentence could go on is past a limit, and none before it is
pub record IsTooDeep (s : Symbol) (ts : List Token) (e : SyntaxFault) : Type 0 where
  pub front : List Token
  pub at : Token
  pub rest : List Token
  pub split : ts ≡ front ++ at ∷ rest
  pub begins : Begins (s ∷ []) (front ++ at ∷ [])
  pub fits : Fits no_limits front
  pub exceeds : exceeds (limits_behind no_limits front) at.kind ≡ true
  pub told : e ≡ TooDeep at.place

-- the tokens stop to begin a sentence behind the longest front, and are none
pub record IsStopped (s : Symbol) (plain : Bool) (ts : List Token) (last : Place) (e : SyntaxFault) : Type 0 where
  pub front : List Token
  pub stop : List Token
  pub split : ts ≡ front ++ stop
  pub longest : IsLongest s front stop
  pub fits : Fits no_limits front
  pub none : Derives Whole (s ∷ []) ts → ⊥
  pub told : IsToldAt plain front stop last e

-- the fault of the tokens of a text
pub data IsSyntaxFault (s : Symbol) (plain : Bool) (ts : List Token) (last : Place) (e : SyntaxFault) : Type 0 where
  too_deep : IsTooDeep s ts e → IsSyntaxFault s plain ts last e
  stopped : IsStopped s plain ts last e → IsSyntaxFault s plain ts last e

-- a parser's fault lies within the tokens
abbrev pub IsWithin : Fault → List Token → Type 0
IsWithin (fault.Expected left) ts = left ≤ length ts
IsWithin (fault.TooDeep left) ts = left ≤ length ts
IsWithin fault.NoMemory ts = Unit {0}

-- how a parser's fault is told
abbrev pub IsToldFault : Bool → List Token → Place → Fault → SyntaxFault → Type 0
IsToldFault plain ts last (fault.Expected left) e = (e ≡ NoMemory) ⊎ IsToldAt plain (take (length ts - left) ts) (drop (length ts - left) ts) last e
IsToldFault plain ts last (fault.TooDeep left) e = e ≡ TooDeep (place_of (drop (length ts - left) ts) last)
IsToldFault plain ts last fault.NoMemory e = e ≡ NoMemory

-- a parser's fault, where nothing stands behind its sentence
pub data IsFaultAlone (s : Symbol) (ts : List Token) : Fault → Type 0 where
  expected : (front stop : List Token) {left : ℕ} → ts ≡ front ++ stop → left ≡ length stop → Stops (s ∷ []) front stop → Fits no_limits front → IsFaultAlone s ts (fault.Expected left)
  too_deep : (front rest : List Token) (at : Token) {left : ℕ} → ts ≡ front ++ at ∷ rest → left ≡ length (at ∷ rest) → Begins (s ∷ []) (front ++ at ∷ []) → Fits no_limits front → exceeds (limits_behind no_limits front) at.kind ≡ true → IsFaultAlone s ts (fault.TooDeep left)
  no_memory : IsFaultAlone s ts fault.NoMemory
