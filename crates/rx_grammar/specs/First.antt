-- The tokens with which the sentences of a symbol begin: `nullable`, `first_of`, `apart`, `Behind`, `can_follow`, `Ahead`.
use Rattle.std.specs.Prelude.{◌≡◌, Bool, true, false, ◌||◌, ◌&&◌, not, List, [], ◌∷◌, ◌++◌, if◌then◌else◌}
use Rattle.std.specs.Str.{bytes_eq, str_eq_ignore_ascii_case}
use Rattle.rx_syntax.specs.declared.token.Token.{Token}
use Rattle.rx_syntax.specs.declared.mark.Mark.TheVariants as sign
use Rattle.rx_syntax.specs.Marks.{text_of}
use Rattle.rx_grammar.specs.declared.terminal.Terminal.{Terminal}
use Rattle.rx_grammar.specs.declared.terminal.Terminal.TheVariants as terminal
use Rattle.rx_grammar.specs.declared.terminal.Keyword.TheVariants as word
use Rattle.rx_grammar.specs.declared.terminal.Quoted.TheVariants as quoted
use Rattle.rx_grammar.specs.Terminal.{keyword_text, quoted_text, is_such, is_one_of}
use Rattle.rx_grammar.specs.Grammar.{Rule, Symbol, one, rule, ◌▸◌, ◌∣◌, maybe, many, file, plain_file, header, decl, plain_decl, def, literals, easpect, order, field, thens, one_then, aspects, aspect, refine, full_name, expr, conj, rel, sum, product, power, factor, attr, machine, channel, mode, var, state, target, action, rhs, items, item}

-- the symbol may stand for no token
abbrev pub nullable : Symbol → Bool
nullable (one c) = false
nullable (rule r) = false
nullable (a ▸ b) = nullable a && nullable b
nullable (a ∣ b) = nullable a || nullable b
nullable (maybe a) = true
nullable (many a) = true

-- with which tokens a sentence of a factor begins
abbrev pub factor_first : List Terminal
factor_first = terminal.Number ∷ terminal.Mark sign.ParenLeft ∷ terminal.Keyword word.Not ∷ terminal.Name ∷ []

abbrev pub sum_first : List Terminal
sum_first = terminal.Mark sign.Minus ∷ factor_first

-- with which tokens a sentence of a rule begins
abbrev pub first_of_rule : Rule → List Terminal
first_of_rule file = terminal.Keyword word.With ∷ terminal.Keyword word.Package ∷ []
first_of_rule plain_file = terminal.Keyword word.With ∷ terminal.Keyword word.Package ∷ []
first_of_rule header = terminal.Keyword word.With ∷ terminal.Keyword word.Package ∷ []
first_of_rule decl = terminal.Keyword word.Type ∷ terminal.Keyword word.For ∷ terminal.Keyword word.Generic ∷ terminal.Keyword word.Machine ∷ []
first_of_rule plain_decl = terminal.Keyword word.Type ∷ terminal.Keyword word.For ∷ []
first_of_rule def = terminal.Keyword word.Unsigned ∷ terminal.Keyword word.Range ∷ terminal.Mark sign.ParenLeft ∷ terminal.Keyword word.Sequence ∷ terminal.Keyword word.New ∷ terminal.Keyword word.Null ∷ terminal.Keyword word.Message ∷ []
first_of_rule literals = terminal.Name ∷ terminal.Name ∷ []
first_of_rule easpect = terminal.Quoted quoted.Size ∷ terminal.Quoted quoted.AlwaysValid ∷ []
first_of_rule order = terminal.Quoted quoted.HighOrderFirst ∷ terminal.Quoted quoted.LowOrderFirst ∷ []
first_of_rule field = terminal.Name ∷ []
first_of_rule thens = terminal.Keyword word.Then ∷ []
first_of_rule one_then = terminal.Keyword word.Then ∷ []
first_of_rule aspects = terminal.Quoted quoted.First ∷ terminal.Quoted quoted.Size ∷ []
first_of_rule aspect = terminal.Quoted quoted.First ∷ terminal.Quoted quoted.Size ∷ []
first_of_rule refine = terminal.Keyword word.For ∷ []
first_of_rule full_name = terminal.Name ∷ []
first_of_rule expr = sum_first
first_of_rule conj = sum_first
first_of_rule rel = sum_first
first_of_rule sum = sum_first
first_of_rule product = factor_first
first_of_rule power = factor_first
first_of_rule factor = factor_first
first_of_rule attr = terminal.Quoted quoted.First ∷ terminal.Quoted quoted.Last ∷ terminal.Quoted quoted.Size ∷ terminal.Quoted quoted.Valid ∷ terminal.Quoted quoted.HasData ∷ terminal.Quoted quoted.Opaque ∷ []
first_of_rule machine = terminal.Keyword word.Generic ∷ terminal.Keyword word.Machine ∷ []
first_of_rule channel = terminal.Name ∷ []
first_of_rule mode = terminal.Quoted quoted.Readable ∷ terminal.Quoted quoted.Writable ∷ []
first_of_rule var = terminal.Name ∷ []
first_of_rule state = terminal.Keyword word.State ∷ []
first_of_rule target = terminal.Name ∷ terminal.Keyword word.Null ∷ []
first_of_rule action = terminal.Name ∷ terminal.Name ∷ terminal.Name ∷ []
first_of_rule rhs = sum_first ++ terminal.Name ∷ []
first_of_rule items = terminal.Keyword word.Null ∷ terminal.Name ∷ []
first_of_rule item = sum_first ++ terminal.Mark sign.BracketLeft ∷ []

abbrev pub first_of : Symbol → List Terminal
first_of (one c) = c ∷ []
first_of (rule r) = first_of_rule r
first_of (a ▸ b) = if nullable a then first_of a ++ first_of b else first_of a
first_of (a ∣ b) = first_of a ++ first_of b
first_of (maybe a) = first_of a
first_of (many a) = first_of a

-- the same for symbols one after the other
abbrev pub all_nullable : List Symbol → Bool
all_nullable [] = true
all_nullable (s ∷ ss) = nullable s && all_nullable ss

abbrev pub first_of_all : List Symbol → List Terminal
first_of_all [] = []
first_of_all (s ∷ ss) = if nullable s then first_of s ++ first_of_all ss else first_of s

-- no token is both
abbrev pub apart : Terminal → Terminal → Bool
apart terminal.Name terminal.Name = false
apart terminal.Name terminal.Number = true
apart terminal.Name (terminal.Mark b) = true
apart terminal.Name (terminal.Keyword b) = true
apart terminal.Name (terminal.Quoted b) = false
apart terminal.Number terminal.Name = true
apart terminal.Number terminal.Number = false
apart terminal.Number (terminal.Mark b) = true
apart terminal.Number (terminal.Keyword b) = true
apart terminal.Number (terminal.Quoted b) = true
apart (terminal.Mark a) terminal.Name = true
apart (terminal.Mark a) terminal.Number = true
apart (terminal.Mark a) (terminal.Mark b) = not (bytes_eq (text_of a) (text_of b))
apart (terminal.Mark a) (terminal.Keyword b) = true
apart (terminal.Mark a) (terminal.Quoted b) = true
apart (terminal.Keyword a) terminal.Name = true
apart (terminal.Keyword a) terminal.Number = true
apart (terminal.Keyword a) (terminal.Mark b) = true
apart (terminal.Keyword a) (terminal.Keyword b) = not (bytes_eq (keyword_text a) (keyword_text b))
apart (terminal.Keyword a) (terminal.Quoted b) = not (str_eq_ignore_ascii_case (keyword_text a) (quoted_text b))
apart (terminal.Quoted a) terminal.Name = false
apart (terminal.Quoted a) terminal.Number = true
apart (terminal.Quoted a) (terminal.Mark b) = true
apart (terminal.Quoted a) (terminal.Keyword b) = not (str_eq_ignore_ascii_case (keyword_text b) (quoted_text a))
apart (terminal.Quoted a) (terminal.Quoted b) = not (str_eq_ignore_ascii_case (quoted_text a) (quoted_text b))

abbrev pub apart_from_all : Terminal → List Terminal → Bool
apart_from_all a [] = true
apart_from_all a (b ∷ bs) = apart a b && apart_from_all a bs

abbrev pub all_apart : List Terminal → List Terminal → Bool
all_apart [] bs = true
all_apart (a ∷ cs) bs = apart_from_all a bs && all_apart cs bs

-- each token of the first is of the second
abbrev pub same_terminal : Terminal → Terminal → Bool
same_terminal terminal.Name terminal.Name = true
same_terminal terminal.Number terminal.Number = true
same_terminal (terminal.Mark a) (terminal.Mark b) = bytes_eq (text_of a) (text_of b)
same_terminal (terminal.Keyword a) (terminal.Keyword b) = bytes_eq (keyword_text a) (keyword_text b)
same_terminal (terminal.Quoted a) (terminal.Quoted b) = str_eq_ignore_ascii_case (quoted_text a) (quoted_text b)
same_terminal _ _ = false

abbrev pub is_among : Terminal → List Terminal → Bool
is_among a [] = false
is_among a (b ∷ bs) = same_terminal a b || is_among a bs

abbrev pub all_among : List Terminal → List Terminal → Bool
all_among [] bs = true
all_among (a ∷ cs) bs = is_among a bs && all_among cs bs

-- what may stand behind a symbol: nothing that begins with one of these; or these symbols, and behind them nothing that begins with one of these
pub data Behind : Type 0 where
  after : List Terminal → Behind
  exactly : List Symbol → List Terminal → Behind

abbrev pub follows_list : List Terminal → List Symbol → List Terminal → Bool
follows_list m front more = all_apart m (first_of_all front) && (not (all_nullable front) || all_among m more)

-- what may go on behind a part can't begin what stands behind it
abbrev pub can_follow : List Terminal → List Symbol → Behind → Bool
can_follow m front (after more) = follows_list m front more
can_follow m front (exactly ss more) = follows_list m (front ++ ss) more

-- there is a first token, and it is one of these
abbrev pub head_one_of : List Terminal → List Token → Bool
head_one_of cs [] = false
head_one_of cs (t ∷ ts) = is_one_of cs t.kind

-- whether the first token is one of these
pub record Ahead (cs : List Terminal) (ts : List Token) (b : Bool) : Type 0 where
  pub is : head_one_of cs ts ≡ b
