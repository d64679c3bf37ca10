-- What a parser of a symbol answers: `Stops`, `Leads`, `Read`, `Fails`, `Exceeds`, `IsFault`, `Reads`.
use Rattle.std.specs.Prelude.{◌≡◌, ℕ, Bool, true, false, List, [], ◌∷◌, ◌++◌, length, Result, Ok, Err}
use Rattle.rx_syntax.specs.declared.token.Token.{Token}
use Rattle.rx_syntax.specs.declared.token.TokenKind.{TokenKind}
use Rattle.rx_grammar.specs.declared.terminal.Terminal.{Terminal}
use Rattle.rx_grammar.specs.declared.fault.Fault.{Fault}
use Rattle.rx_grammar.specs.declared.fault.Fault.TheVariants.{Expected, TooDeep, NoMemory}
use Rattle.rx_grammar.specs.declared.cursor.Cursor.{Cursor}
use Rattle.rx_grammar.specs.declared.cursor.Limits.{Limits}
use Rattle.rx_grammar.specs.Terminal.{is_one_of}
use Rattle.rx_grammar.specs.Grammar.{Symbol, Begins, Derives, Whole}
use Rattle.rx_grammar.specs.First.{first_of_all, Behind, after, exactly}
use Rattle.rx_grammar.specs.Limits.{exceeds, limits_behind, Fits}

-- the next token can't go on; at the end, the tokens are no sentence
abbrev pub IsBlocked : List Symbol → List Token → List Token → Type 0
IsBlocked ss front [] = Derives Whole ss front → ⊥
IsBlocked ss front (t ∷ more) = Begins ss (front ++ t ∷ []) → ⊥

-- a sentence of the symbols begins with the front, and no further
pub record Stops (ss : List Symbol) (front stop : List Token) : Type 0 where
  pub begins : Begins ss front
  pub blocked : IsBlocked ss front stop

-- the symbols can't begin with one of these
abbrev pub NoneBegins : List Terminal → List Symbol → Type 0
NoneBegins more ss = (k : TokenKind) → is_one_of more k ≡ true → is_one_of (first_of_all ss) k ≡ false

-- the symbols may stand behind
abbrev pub Follows : Behind → List Symbol → Type 0
Follows (after more) ss = NoneBegins more ss
Follows (exactly front more) ss = (rest : List Symbol) × (ss ≡ front ++ rest) × NoneBegins more rest

-- from the first symbols, these tokens lead to the second ones, and to no others that go further
pub record Leads (ss : List Symbol) (used : List Token) (ss' : List Symbol) (rest : List Token) : Type 0 where
  pub begins : (next : List Token) → Begins ss' next → Begins ss (used ++ next)
  pub stops : (front stop : List Token) → rest ≡ front ++ stop → Stops ss' front stop → Stops ss (used ++ front) stop

-- a sentence of the symbol was read
pub record Read {A : Type 0} (symbol : Symbol) (more : Behind) (IsSentence : List Token → A → Type 0) (ts : List Token) (l : Limits) (tree : A) (rest : List Token) (l' : Limits) : Type 0 where
  pub used : List Token
  pub split : ts ≡ used ++ rest
  pub sentence : IsSentence used tree
  pub leads : (ss : List Symbol) → Follows more ss → Leads (symbol ∷ ss) used ss rest
  pub fits : Fits l used
  pub limits : l' ≡ limits_behind l used

-- no sentence goes on at the stop
pub record Fails (symbol : Symbol) (more : Behind) (ts : List Token) (l : Limits) (left : ℕ) : Type 0 where
  pub front : List Token
  pub stop : List Token
  pub split : ts ≡ front ++ stop
  pub left_is : left ≡ length stop
  pub stops : (ss : List Symbol) → Follows more ss → Stops (symbol ∷ ss) front stop
  pub fits : Fits l front

-- a token that could go on exceeds the limits
pub record Exceeds (symbol : Symbol) (more : Behind) (ts : List Token) (l : Limits) (left : ℕ) : Type 0 where
  pub front : List Token
  pub at : Token
  pub rest : List Token
  pub split : ts ≡ front ++ at ∷ rest
  pub left_is : left ≡ length (at ∷ rest)
  pub begins : (ss : List Symbol) → Follows more ss → Begins (symbol ∷ ss) (front ++ at ∷ [])
  pub fits : Fits l front
  pub exceeds : exceeds (limits_behind l front) at.kind ≡ true

-- what is wrong, if it isn't memory that ran out
pub data IsFault (symbol : Symbol) (more : Behind) (ts : List Token) (l : Limits) : Fault → Type 0 where
  expected : {left : ℕ} → Fails symbol more ts l left → IsFault symbol more ts l (Expected left)
  too_deep : {left : ℕ} → Exceeds symbol more ts l left → IsFault symbol more ts l (TooDeep left)
  no_memory : IsFault symbol more ts l NoMemory

-- a parser of the symbol reads its sentence at the cursor, or tells where it stops to begin one
abbrev pub Reads : {A : Type 0} → Symbol → Behind → (List Token → A → Type 0) → Cursor → Result (A × Cursor) Fault → Type 0
Reads symbol more IsSentence c (Ok x) = Read symbol more IsSentence c.rest.now c.limits x.0 x.1.rest.now x.1.limits
Reads symbol more IsSentence c (Err e) = IsFault symbol more c.rest.now c.limits e
