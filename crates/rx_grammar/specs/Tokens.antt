-- Single tokens in a sentence: `Is`, `IsToken`, `IsOneOf`, `IsNamed`.
use Rattle.std.specs.Prelude.{◌≡◌, ℕ, ℤ, Bool, true, false, codes, pos, List, [], ◌∷◌, if◌then◌else◌}
use Rattle.std.proofs.Common.{Bor}
use Rattle.std.specs.Str.{bytes_eq, str_eq_ignore_ascii_case}
use Rattle.rx_syntax.specs.declared.token.Token.{Token}
use Rattle.rx_syntax.specs.declared.token.TokenKind.{TokenKind}
use Rattle.rx_syntax.specs.declared.token.TokenKind.TheVariants as kind
use Rattle.rx_syntax.specs.declared.mark.Mark.TheVariants as sign
use Rattle.rx_syntax.specs.declared.tree.Named.{Named}
use Rattle.rx_syntax.specs.declared.tree.Attr.{Attr}
use Rattle.rx_syntax.specs.declared.tree.Attr.TheVariants as attr
use Rattle.rx_syntax.specs.declared.tree.Operator.{Operator}
use Rattle.rx_syntax.specs.declared.tree.Operator.TheVariants as op
use Rattle.rx_grammar.specs.declared.terminal.Terminal.{Terminal}
use Rattle.rx_grammar.specs.declared.terminal.Terminal.TheVariants as terminal
use Rattle.rx_grammar.specs.declared.terminal.Choice.{Choice}
use Rattle.rx_grammar.specs.Terminal.{is_such, is_one_of}
use Rattle.rx_grammar.specs.Grammar.{Symbol, choice_of}
use Rattle.rx_grammar.specs.First.{first_of}

-- a token is such a one
pub record Is (c : Terminal) (t : Token) : Type 0 where
  pub such : is_such c t.kind ≡ true

-- one token, and it is such a one
pub record IsToken (c : Terminal) (ts : List Token) (t : Bor Token) : Type 0 where
  pub whole : ts ≡ t.now ∷ []
  pub is : Is c t.now

-- a token is one of a choice
pub record IsChosen (c : Choice) (t : Token) : Type 0 where
  pub such : is_one_of (first_of (choice_of c)) t.kind ≡ true

-- one token, and it is one of a choice
pub record IsOneOf (c : Choice) (ts : List Token) (t : Bor Token) : Type 0 where
  pub whole : ts ≡ t.now ∷ []
  pub is : IsChosen c t.now

-- the text of a word
abbrev pub word_of : TokenKind → List ℕ
word_of (kind.Word w) = w
word_of _ = []

-- the word of a token, at its place
abbrev pub named : Token → Named
named t = record { word = word_of t.kind; place = t.place }

abbrev pub number_of : TokenKind → ℤ
number_of (kind.Number n) = n
number_of _ = pos 0

-- the operator that a token is
abbrev pub operator_of : TokenKind → Operator
operator_of (kind.Mark sign.Equal) = op.Equal
operator_of (kind.Mark sign.NotEqual) = op.NotEqual
operator_of (kind.Mark sign.Less) = op.Less
operator_of (kind.Mark sign.LessEqual) = op.LessEqual
operator_of (kind.Mark sign.Greater) = op.Greater
operator_of (kind.Mark sign.GreaterEqual) = op.GreaterEqual
operator_of (kind.Mark sign.Plus) = op.Add
operator_of (kind.Mark sign.Minus) = op.Sub
operator_of (kind.Mark sign.Star) = op.Mul
operator_of (kind.Mark sign.Slash) = op.Div
operator_of (kind.Mark sign.DoubleStar) = op.Power
operator_of (kind.Word w) = if bytes_eq w (codes "or") then op.Or else (if bytes_eq w (codes "and") then op.And else op.Mod)
operator_of _ = op.Mod

-- the attribute that a token is
abbrev pub attr_named : List ℕ → Attr
attr_named w = if str_eq_ignore_ascii_case w (codes "First") then attr.First
    else (if str_eq_ignore_ascii_case w (codes "Last") then attr.Last
    else (if str_eq_ignore_ascii_case w (codes "Size") then attr.Size
    else (if str_eq_ignore_ascii_case w (codes "Valid") then attr.Valid
    else (if str_eq_ignore_ascii_case w (codes "Has_Data") then attr.HasData
    else attr.Opaque))))

abbrev pub attr_of : TokenKind → Attr
attr_of k = attr_named (word_of k)

-- one token that is a name
pub record IsNamed (ts : List Token) (n : Named) : Type 0 where
  pub name : Token
  pub whole : ts ≡ name ∷ []
  pub is : Is terminal.Name name
  pub named : n ≡ named name
