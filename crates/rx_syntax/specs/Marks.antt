-- Marks and how they are written: `marks`, `text_of`, `BeginsWithTwo`.
use Rattle.std.specs.Prelude.{◌≡◌, ℕ, List, [], ◌∷◌, codes}
use Rattle.rx_syntax.specs.declared.mark.Mark.{Mark}
use Rattle.rx_syntax.specs.declared.mark.Mark.TheVariants.{ParenLeft, ParenRight, BracketLeft, BracketRight, Comma, Semicolon, Colon, DoubleColon, Assign, Arrow, Equal, NotEqual, Slash, Less, LessEqual, Greater, GreaterEqual, Plus, Minus, Star, DoubleStar, Dot, DoubleDot, Tick}

-- every mark
abbrev pub marks : List Mark
marks = ParenLeft ∷ ParenRight ∷ BracketLeft ∷ BracketRight ∷ Comma ∷ Semicolon ∷ Colon ∷ DoubleColon ∷ Assign ∷ Arrow ∷ Equal ∷ NotEqual ∷ Slash ∷ Less ∷ LessEqual ∷ Greater ∷ GreaterEqual ∷ Plus ∷ Minus ∷ Star ∷ DoubleStar ∷ Dot ∷ DoubleDot ∷ Tick ∷ []

-- how a mark is written
abbrev pub text_of : Mark → List ℕ
text_of ParenLeft = codes "("
text_of ParenRight = codes ")"
text_of BracketLeft = codes "["
text_of BracketRight = codes "]"
text_of Comma = codes ","
text_of Semicolon = codes ";"
text_of Colon = codes ":"
text_of DoubleColon = codes "::"
text_of Assign = codes ":="
text_of Arrow = codes "=>"
text_of Equal = codes "="
text_of NotEqual = codes "/="
text_of Slash = codes "/"
text_of Less = codes "<"
text_of LessEqual = codes "<="
text_of Greater = codes ">"
text_of GreaterEqual = codes ">="
text_of Plus = codes "+"
text_of Minus = codes "-"
text_of Star = codes "*"
text_of DoubleStar = codes "**"
text_of Dot = codes "."
text_of DoubleDot = codes ".."
text_of Tick = codes "'"

-- a byte and a tail begin with a mark of two bytes
pub record BeginsWithTwo (m : Mark) (first : ℕ) (tail : List ℕ) : Type 0 where
  pub second : ℕ
  pub rest : List ℕ
  pub split : tail ≡ second ∷ rest
  pub text : text_of m ≡ first ∷ second ∷ []
