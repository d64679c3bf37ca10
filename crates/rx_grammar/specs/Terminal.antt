-- What the grammar asks of one token: `keyword_text`, `reserved`, `quoted_text`, `is_such`, `is_one_of`.
use Rattle.std.specs.Prelude.{ℕ, Bool, true, false, ◌||◌, not, codes, List, [], ◌∷◌}
use Rattle.std.specs.List.{list_any}
use Rattle.std.specs.Str.{bytes_eq, str_eq_ignore_ascii_case}
use Rattle.rx_syntax.specs.declared.token.TokenKind.{TokenKind}
use Rattle.rx_syntax.specs.declared.token.TokenKind.TheVariants as kind
use Rattle.rx_syntax.specs.Marks.{text_of}
use Rattle.rx_grammar.specs.declared.terminal.Terminal.{Terminal}
use Rattle.rx_grammar.specs.declared.terminal.Terminal.TheVariants as terminal
use Rattle.rx_grammar.specs.declared.terminal.Keyword.{Keyword}
use Rattle.rx_grammar.specs.declared.terminal.Keyword.TheVariants as word
use Rattle.rx_grammar.specs.declared.terminal.Quoted.{Quoted}
use Rattle.rx_grammar.specs.declared.terminal.Quoted.TheVariants as quoted

-- how a reserved word is written
abbrev pub keyword_text : Keyword → List ℕ
keyword_text word.And = codes "and"
keyword_text word.Begin = codes "begin"
keyword_text word.End = codes "end"
keyword_text word.Exception = codes "exception"
keyword_text word.For = codes "for"
keyword_text word.Generic = codes "generic"
keyword_text word.Goto = codes "goto"
keyword_text word.If = codes "if"
keyword_text word.Is = codes "is"
keyword_text word.Machine = codes "machine"
keyword_text word.Message = codes "message"
keyword_text word.Mod = codes "mod"
keyword_text word.New = codes "new"
keyword_text word.Not = codes "not"
keyword_text word.Null = codes "null"
keyword_text word.Of = codes "of"
keyword_text word.Or = codes "or"
keyword_text word.Package = codes "package"
keyword_text word.Range = codes "range"
keyword_text word.Sequence = codes "sequence"
keyword_text word.Session = codes "session"
keyword_text word.State = codes "state"
keyword_text word.Then = codes "then"
keyword_text word.Transition = codes "transition"
keyword_text word.Type = codes "type"
keyword_text word.Unsigned = codes "unsigned"
keyword_text word.Use = codes "use"
keyword_text word.With = codes "with"

-- every reserved word
abbrev pub reserved : List (List ℕ)
reserved = codes "and" ∷ codes "begin" ∷ codes "end" ∷ codes "exception" ∷ codes "for" ∷ codes "generic" ∷ codes "goto" ∷ codes "if" ∷ codes "is" ∷ codes "machine" ∷ codes "message" ∷ codes "mod" ∷ codes "new" ∷ codes "not" ∷ codes "null" ∷ codes "of" ∷ codes "or" ∷ codes "package" ∷ codes "range" ∷ codes "sequence" ∷ codes "session" ∷ codes "state" ∷ codes "then" ∷ codes "transition" ∷ codes "type" ∷ codes "unsigned" ∷ codes "use" ∷ codes "with" ∷ []

-- how a quoted name is written; any other case of its letters will do
abbrev pub quoted_text : Quoted → List ℕ
quoted_text quoted.Size = codes "Size"
quoted_text quoted.AlwaysValid = codes "Always_Valid"
quoted_text quoted.True = codes "True"
quoted_text quoted.False = codes "False"
quoted_text quoted.ByteOrder = codes "Byte_Order"
quoted_text quoted.HighOrderFirst = codes "High_Order_First"
quoted_text quoted.LowOrderFirst = codes "Low_Order_First"
quoted_text quoted.First = codes "First"
quoted_text quoted.Last = codes "Last"
quoted_text quoted.Valid = codes "Valid"
quoted_text quoted.HasData = codes "Has_Data"
quoted_text quoted.Opaque = codes "Opaque"
quoted_text quoted.Channel = codes "Channel"
quoted_text quoted.Readable = codes "Readable"
quoted_text quoted.Writable = codes "Writable"
quoted_text quoted.Read = codes "Read"
quoted_text quoted.Write = codes "Write"

-- whether a token is such a one; a word that is not reserved is a name
abbrev pub is_such : Terminal → TokenKind → Bool
is_such terminal.Name (kind.Word w) = not (list_any (λ r. bytes_eq w r) reserved)
is_such terminal.Number (kind.Number n) = true
is_such (terminal.Mark a) (kind.Mark b) = bytes_eq (text_of b) (text_of a)
is_such (terminal.Keyword k) (kind.Word w) = bytes_eq w (keyword_text k)
is_such (terminal.Quoted q) (kind.Word w) = str_eq_ignore_ascii_case w (quoted_text q)
is_such _ _ = false

-- one of the terminals
abbrev pub is_one_of : List Terminal → TokenKind → Bool
is_one_of [] k = false
is_one_of (c ∷ cs) k = is_such c k || is_one_of cs k
