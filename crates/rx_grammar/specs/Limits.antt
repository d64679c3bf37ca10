-- How many brackets are open, and how many operators an outermost expression has so far: `exceeds`, `limits_after`, `Fits`.
--
-- A token that can't stand in an expression ends the outermost expression before it.
use Rattle.std.specs.Prelude.{◌≡◌, ℕ, ◌+◌, ◌-◌, Bool, true, false, ◌&&◌, ◌||◌, not, nat_le, codes, List, [], ◌∷◌, if◌then◌else◌}
use Rattle.std.specs.List.{list_any}
use Rattle.std.specs.Str.{bytes_eq}
use Rattle.rx_syntax.specs.declared.token.Token.{Token}
use Rattle.rx_syntax.specs.declared.token.TokenKind.{TokenKind}
use Rattle.rx_syntax.specs.declared.token.TokenKind.TheVariants as kind
use Rattle.rx_syntax.specs.declared.mark.Mark.TheVariants.{ParenLeft, ParenRight, BracketLeft, BracketRight, Comma, Semicolon, Colon, Assign, Arrow, Equal, NotEqual, Slash, Less, LessEqual, Greater, GreaterEqual, Plus, Minus, Star, DoubleStar, DoubleDot}
use Rattle.rx_grammar.specs.Terminal.{reserved}
use Rattle.rx_grammar.specs.declared.cursor.Limits.{Limits}

-- the token opens a bracket
abbrev pub is_open : TokenKind → Bool
is_open (kind.Mark ParenLeft) = true
is_open (kind.Mark BracketLeft) = true
is_open _ = false

-- the token closes a bracket
abbrev pub is_close : TokenKind → Bool
is_close (kind.Mark ParenRight) = true
is_close (kind.Mark BracketRight) = true
is_close _ = false

-- the word is an operator
abbrev pub is_operator_word : List ℕ → Bool
is_operator_word w = bytes_eq w (codes "and") || bytes_eq w (codes "or") || bytes_eq w (codes "not") || bytes_eq w (codes "mod")

-- the token is an operator
abbrev pub is_operator : TokenKind → Bool
is_operator (kind.Word w) = is_operator_word w
is_operator (kind.Mark Equal) = true
is_operator (kind.Mark NotEqual) = true
is_operator (kind.Mark Less) = true
is_operator (kind.Mark LessEqual) = true
is_operator (kind.Mark Greater) = true
is_operator (kind.Mark GreaterEqual) = true
is_operator (kind.Mark Plus) = true
is_operator (kind.Mark Minus) = true
is_operator (kind.Mark Star) = true
is_operator (kind.Mark Slash) = true
is_operator (kind.Mark DoubleStar) = true
is_operator _ = false

-- the token stands in no expression
abbrev pub is_outside : TokenKind → Bool
is_outside (kind.Word w) = list_any (λ r. bytes_eq w r) reserved && not (is_operator_word w)
is_outside (kind.Mark Semicolon) = true
is_outside (kind.Mark Comma) = true
is_outside (kind.Mark Arrow) = true
is_outside (kind.Mark DoubleDot) = true
is_outside (kind.Mark Colon) = true
is_outside (kind.Mark Assign) = true
is_outside (kind.Mark BracketLeft) = true
is_outside (kind.Mark BracketRight) = true
is_outside _ = false

-- 64 brackets are open before one more, or 256 operators stand before one more
abbrev pub exceeds : Limits → TokenKind → Bool
exceeds l k = is_open k && nat_le 64 l.brackets || is_operator k && nat_le 256 l.operators

abbrev pub brackets_after : ℕ → TokenKind → ℕ
brackets_after n k = if is_open k then n + 1 else (if is_close k then n - 1 else n)

abbrev pub operators_after : ℕ → TokenKind → ℕ
operators_after n k = if is_operator k then n + 1 else (if is_outside k then 0 else n)

abbrev pub limits_after : Limits → TokenKind → Limits
limits_after l k = record { brackets = brackets_after l.brackets k; operators = operators_after l.operators k }

-- after all these tokens
abbrev pub limits_behind : Limits → List Token → Limits
limits_behind l [] = l
limits_behind l (t ∷ ts) = limits_behind (limits_after l t.kind) ts

-- no token exceeds the limits
abbrev pub Fits : Limits → List Token → Type 0
Fits l [] = Unit {0}
Fits l (t ∷ ts) = (exceeds l t.kind ≡ false) × Fits (limits_after l t.kind) ts

-- before the first token
abbrev pub no_limits : Limits
no_limits = record { brackets = 0; operators = 0 }
