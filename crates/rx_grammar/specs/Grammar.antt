-- The grammar of packages and machines as data, and which tokens it derives: `Rule`, `Symbol`, `body`, `Derives`, `Begins`.
use Rattle.std.specs.Prelude.{◌≡◌, Bool, true, List, [], ◌∷◌}
use Rattle.rx_syntax.specs.declared.token.Token.{Token}
use Rattle.rx_syntax.specs.declared.mark.Mark.{Mark}
use Rattle.rx_syntax.specs.declared.mark.Mark.TheVariants as sign
use Rattle.rx_grammar.specs.declared.terminal.Terminal.{Terminal}
use Rattle.rx_grammar.specs.declared.terminal.Terminal.TheVariants as terminal
use Rattle.rx_grammar.specs.declared.terminal.Keyword.{Keyword}
use Rattle.rx_grammar.specs.declared.terminal.Keyword.TheVariants as word
use Rattle.rx_grammar.specs.declared.terminal.Quoted.{Quoted}
use Rattle.rx_grammar.specs.declared.terminal.Quoted.TheVariants as name
use Rattle.rx_grammar.specs.declared.terminal.Choice.{Choice}
use Rattle.rx_grammar.specs.declared.terminal.Choice.TheVariants as choice
use Rattle.rx_grammar.specs.Terminal.{is_such}

-- `plain_file` and `plain_decl` are `file` and `decl` without machines
pub data Rule : Type 0 where
  file : Rule
  plain_file : Rule
  header : Rule
  decl : Rule
  plain_decl : Rule
  def : Rule
  literals : Rule
  easpect : Rule
  order : Rule
  field : Rule
  thens : Rule
  one_then : Rule
  aspects : Rule
  aspect : Rule
  refine : Rule
  full_name : Rule
  expr : Rule
  conj : Rule
  rel : Rule
  sum : Rule
  product : Rule
  power : Rule
  factor : Rule
  attr : Rule
  machine : Rule
  channel : Rule
  mode : Rule
  var : Rule
  state : Rule
  target : Rule
  action : Rule
  rhs : Rule
  items : Rule
  item : Rule

infixr 30 ◌▸◌
infixr 20 ◌∣◌
-- a right side: a token, a rule, one after the other, one or the other, none or one, any number
pub data Symbol : Type 0 where
  one : Terminal → Symbol
  rule : Rule → Symbol
  ◌▸◌ : Symbol → Symbol → Symbol
  ◌∣◌ : Symbol → Symbol → Symbol
  maybe : Symbol → Symbol
  many : Symbol → Symbol

-- a name, a number, a reserved word, a quoted name, a mark
abbrev pub NAME : Symbol
NAME = one terminal.Name

abbrev pub NUM : Symbol
NUM = one terminal.Number

abbrev pub key : Keyword → Symbol
key k = one (terminal.Keyword k)

abbrev pub quote : Quoted → Symbol
quote q = one (terminal.Quoted q)

abbrev pub mark : Mark → Symbol
mark m = one (terminal.Mark m)

-- choices of one token
abbrev pub choice_of : Choice → Symbol
choice_of choice.Relation = mark sign.Equal ∣ mark sign.NotEqual ∣ mark sign.Less ∣ mark sign.LessEqual ∣ mark sign.Greater ∣ mark sign.GreaterEqual
choice_of choice.Sign = mark sign.Plus ∣ mark sign.Minus
choice_of choice.Multiplying = mark sign.Star ∣ mark sign.Slash ∣ key word.Mod
choice_of choice.Attribute = quote name.First ∣ quote name.Last ∣ quote name.Size ∣ quote name.Valid ∣ quote name.HasData ∣ quote name.Opaque
choice_of choice.Order = quote name.HighOrderFirst ∣ quote name.LowOrderFirst
choice_of choice.Truth = quote name.True ∣ quote name.False
choice_of choice.Target = NAME ∣ key word.Null
choice_of choice.Aspect = quote name.First ∣ quote name.Size
choice_of choice.Mode = quote name.Readable ∣ quote name.Writable

-- x, and any number of x behind a comma
abbrev pub listed : Symbol → Symbol
listed x = x ▸ many (mark sign.Comma ▸ x)

-- at least one x
abbrev pub some : Symbol → Symbol
some x = x ▸ many x

-- parts that may be absent
abbrev pub condition : Symbol
condition = maybe (key word.If ▸ rule expr)

abbrev pub with_aspects : Symbol
with_aspects = maybe (key word.With ▸ rule aspects)

-- a literal with its number, a field of an aggregate, a transition
abbrev pub numbered : Symbol
numbered = NAME ▸ mark sign.Arrow ▸ rule expr

abbrev pub item_of : Symbol
item_of = NAME ▸ mark sign.Arrow ▸ rule item

abbrev pub goto : Symbol
goto = key word.Goto ▸ rule target

-- the definitions of a type
abbrev pub unsigned_def : Symbol
unsigned_def = key word.Unsigned ▸ rule expr

abbrev pub range_def : Symbol
range_def = key word.Range ▸ rule expr ▸ mark sign.DoubleDot ▸ rule expr ▸ key word.With ▸ quote name.Size ▸ mark sign.Arrow ▸ rule expr

abbrev pub with_easpects : Symbol
with_easpects = maybe (key word.With ▸ listed (rule easpect))

abbrev pub enumeration_def : Symbol
enumeration_def = mark sign.ParenLeft ▸ rule literals ▸ mark sign.ParenRight ▸ with_easpects

abbrev pub sequence_def : Symbol
sequence_def = key word.Sequence ▸ key word.Of ▸ rule full_name

abbrev pub derived_def : Symbol
derived_def = key word.New ▸ rule full_name

abbrev pub null_def : Symbol
null_def = key word.Null ▸ key word.Message

abbrev pub start_thens : Symbol
start_thens = maybe (key word.Null ▸ rule thens ▸ mark sign.Semicolon)

abbrev pub byte_order : Symbol
byte_order = maybe (key word.With ▸ quote name.ByteOrder ▸ mark sign.Arrow ▸ rule order)

abbrev pub message_def : Symbol
message_def = key word.Message ▸ start_thens ▸ some (rule field) ▸ key word.End ▸ key word.Message ▸ byte_order

-- a name of another package, a type's declaration, a literal list, the first part of a sum, an operand
abbrev pub with_clause : Symbol
with_clause = key word.With ▸ NAME ▸ mark sign.Semicolon

abbrev pub type_decl : Symbol
type_decl = key word.Type ▸ NAME ▸ key word.Is ▸ rule def ▸ mark sign.Semicolon

abbrev pub plain_literals : Symbol
plain_literals = many (mark sign.Comma ▸ NAME)

abbrev pub numbered_literals : Symbol
numbered_literals = (mark sign.Arrow ▸ rule expr) ▸ many (mark sign.Comma ▸ numbered)

abbrev pub signed : Symbol
signed = maybe (mark sign.Minus) ▸ rule product

abbrev pub operand : Symbol
operand = rule full_name ▸ maybe (mark sign.Tick ▸ rule attr ∣ mark sign.Dot ▸ NAME)

-- what a refined field holds
abbrev pub inner : Symbol
inner = rule full_name ∣ key word.Null

abbrev pub more_thens : Symbol
more_thens = many (maybe (mark sign.Comma) ▸ rule one_then)

-- the right side of a rule
abbrev pub body : Rule → Symbol
body file = rule header ▸ many (rule decl) ▸ key word.End ▸ NAME ▸ mark sign.Semicolon
body plain_file = rule header ▸ many (rule plain_decl) ▸ key word.End ▸ NAME ▸ mark sign.Semicolon
body header = many with_clause ▸ key word.Package ▸ NAME ▸ key word.Is
body decl = rule plain_decl ∣ rule machine
body plain_decl = type_decl ∣ rule refine
body def = unsigned_def ∣ range_def ∣ enumeration_def ∣ sequence_def ∣ derived_def ∣ null_def ∣ message_def
body literals = NAME ▸ plain_literals ∣ NAME ▸ numbered_literals
body easpect = quote name.Size ▸ mark sign.Arrow ▸ rule expr ∣ quote name.AlwaysValid ▸ maybe (mark sign.Arrow ▸ choice_of choice.Truth)
body order = choice_of choice.Order
body field = NAME ▸ mark sign.Colon ▸ rule full_name ▸ with_aspects ▸ condition ▸ maybe (rule thens) ▸ mark sign.Semicolon
body thens = rule one_then ▸ more_thens
body one_then = key word.Then ▸ choice_of choice.Target ▸ with_aspects ▸ condition
body aspects = listed (rule aspect)
body aspect = choice_of choice.Aspect ▸ mark sign.Arrow ▸ rule expr
body refine = key word.For ▸ rule full_name ▸ key word.Use ▸ mark sign.ParenLeft ▸ NAME ▸ mark sign.Arrow ▸ inner ▸ mark sign.ParenRight ▸ condition ▸ mark sign.Semicolon
body full_name = NAME ▸ maybe (mark sign.DoubleColon ▸ NAME)
body expr = rule conj ▸ many (key word.Or ▸ rule conj)
body conj = rule rel ▸ many (key word.And ▸ rule rel)
body rel = rule sum ▸ maybe (choice_of choice.Relation ▸ rule sum)
body sum = signed ▸ many (choice_of choice.Sign ▸ rule product)
body product = rule power ▸ many (choice_of choice.Multiplying ▸ rule power)
body power = rule factor ▸ maybe (mark sign.DoubleStar ▸ rule factor)
body factor = NUM ∣ mark sign.ParenLeft ▸ rule expr ▸ mark sign.ParenRight ∣ key word.Not ▸ rule factor ∣ operand
body attr = choice_of choice.Attribute
body machine = maybe (key word.Generic ▸ many (rule channel)) ▸ key word.Machine ▸ NAME ▸ key word.Is ▸ many (rule var) ▸ key word.Begin ▸ some (rule state) ▸ key word.End ▸ NAME ▸ mark sign.Semicolon
body channel = NAME ▸ mark sign.Colon ▸ quote name.Channel ▸ key word.With ▸ listed (rule mode) ▸ mark sign.Semicolon
body mode = choice_of choice.Mode
body var = NAME ▸ mark sign.Colon ▸ rule full_name ▸ maybe (mark sign.Assign ▸ rule expr) ▸ mark sign.Semicolon
body state = key word.State ▸ NAME ▸ key word.Is ▸ key word.Begin ▸ many (rule action) ▸ key word.Transition ▸ many (goto ▸ key word.If ▸ rule expr) ▸ goto ▸ maybe (key word.Exception ▸ goto) ▸ key word.End ▸ NAME ▸ mark sign.Semicolon
body target = choice_of choice.Target
body action = NAME ▸ mark sign.Assign ▸ rule rhs ▸ mark sign.Semicolon
    ∣ NAME ▸ mark sign.Tick ▸ quote name.Read ▸ mark sign.ParenLeft ▸ NAME ▸ mark sign.ParenRight ▸ mark sign.Semicolon
    ∣ NAME ▸ mark sign.Tick ▸ quote name.Write ▸ mark sign.ParenLeft ▸ rule rhs ▸ mark sign.ParenRight ▸ mark sign.Semicolon
body rhs = rule expr ∣ rule full_name ▸ mark sign.Tick ▸ mark sign.ParenLeft ▸ rule items ▸ mark sign.ParenRight
body items = key word.Null ▸ key word.Message ∣ listed item_of
body item = rule expr ∣ mark sign.BracketLeft ▸ maybe (listed (rule expr)) ▸ mark sign.BracketRight

-- whether the tokens are all of a sentence, or a front of one
pub data Extent : Type 0 where
  Whole : Extent
  Front : Extent

-- a sentence of the symbols is the tokens, or begins with them
pub data Derives : Extent → List Symbol → List Token → Type 0 where
  nothing : {ss : List Symbol} → Derives Front ss []
  finished : Derives Whole [] []
  token : {w : Extent} {c : Terminal} {t : Token} {ss : List Symbol} {ts : List Token} → is_such c t.kind ≡ true → Derives w ss ts → Derives w (one c ∷ ss) (t ∷ ts)
  by_rule : {w : Extent} {r : Rule} {ss : List Symbol} {ts : List Token} → Derives w (body r ∷ ss) ts → Derives w (rule r ∷ ss) ts
  in_turn : {w : Extent} {a b : Symbol} {ss : List Symbol} {ts : List Token} → Derives w (a ∷ b ∷ ss) ts → Derives w ((a ▸ b) ∷ ss) ts
  first : {w : Extent} {a b : Symbol} {ss : List Symbol} {ts : List Token} → Derives w (a ∷ ss) ts → Derives w ((a ∣ b) ∷ ss) ts
  second : {w : Extent} {a b : Symbol} {ss : List Symbol} {ts : List Token} → Derives w (b ∷ ss) ts → Derives w ((a ∣ b) ∷ ss) ts
  absent : {w : Extent} {a : Symbol} {ss : List Symbol} {ts : List Token} → Derives w ss ts → Derives w (maybe a ∷ ss) ts
  present : {w : Extent} {a : Symbol} {ss : List Symbol} {ts : List Token} → Derives w (a ∷ ss) ts → Derives w (maybe a ∷ ss) ts
  no_more : {w : Extent} {a : Symbol} {ss : List Symbol} {ts : List Token} → Derives w ss ts → Derives w (many a ∷ ss) ts
  one_more : {w : Extent} {a : Symbol} {ss : List Symbol} {ts : List Token} → Derives w (a ∷ many a ∷ ss) ts → Derives w (many a ∷ ss) ts

-- some sentence of the symbols begins with the tokens
abbrev pub Begins : List Symbol → List Token → Type 0
Begins ss ts = Derives Front ss ts

-- the tokens that may go on where a sentence could end
abbrev pub name_more : List Terminal
name_more = terminal.Mark sign.DoubleColon ∷ []

abbrev pub factor_more : List Terminal
factor_more = terminal.Mark sign.Tick ∷ terminal.Mark sign.Dot ∷ name_more

abbrev pub power_more : List Terminal
power_more = terminal.Mark sign.DoubleStar ∷ factor_more

abbrev pub product_more : List Terminal
product_more = terminal.Mark sign.Star ∷ terminal.Mark sign.Slash ∷ terminal.Keyword word.Mod ∷ power_more

abbrev pub sum_more : List Terminal
sum_more = terminal.Mark sign.Plus ∷ terminal.Mark sign.Minus ∷ product_more

abbrev pub rel_more : List Terminal
rel_more = terminal.Mark sign.Equal ∷ terminal.Mark sign.NotEqual ∷ terminal.Mark sign.Less ∷ terminal.Mark sign.LessEqual ∷ terminal.Mark sign.Greater ∷ terminal.Mark sign.GreaterEqual ∷ sum_more

abbrev pub conj_more : List Terminal
conj_more = terminal.Keyword word.And ∷ rel_more

abbrev pub expr_more : List Terminal
expr_more = terminal.Keyword word.Or ∷ conj_more

abbrev pub condition_more : List Terminal
condition_more = terminal.Keyword word.If ∷ expr_more

abbrev pub aspects_more : List Terminal
aspects_more = terminal.Mark sign.Comma ∷ expr_more

abbrev pub with_aspects_more : List Terminal
with_aspects_more = terminal.Keyword word.With ∷ aspects_more

abbrev pub thens_more : List Terminal
thens_more = terminal.Mark sign.Comma ∷ terminal.Keyword word.Then ∷ terminal.Keyword word.If ∷ terminal.Keyword word.With ∷ expr_more

abbrev pub easpect_more : List Terminal
easpect_more = terminal.Mark sign.Arrow ∷ expr_more

abbrev pub literals_more : List Terminal
literals_more = terminal.Mark sign.Comma ∷ easpect_more

abbrev pub def_more : List Terminal
def_more = terminal.Keyword word.With ∷ literals_more
