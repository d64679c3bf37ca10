-- Which fault of a text is which refusal.
--   lexer_refusal, parser_refusal        the refusal of a fault
use Rattle.std.specs.Prelude.{Option, Some, None}
use Rattle.rx_syntax.specs.declared.fault.LexFault.{LexFault}
use Rattle.rx_syntax.specs.declared.fault.LexFault.TheVariants as lexer
use Rattle.rx_syntax.specs.declared.rule.Rule.TheVariants as rule
use Rattle.rx_syntax.specs.declared.rule.Refusal.{Refusal}
use Rattle.rx_grammar.specs.declared.syntax.SyntaxFault.{SyntaxFault}
use Rattle.rx_grammar.specs.declared.syntax.SyntaxFault.TheVariants as parser

-- the refusal of a text with this first fault
abbrev pub lexer_refusal : LexFault → Option Refusal
lexer_refusal (lexer.BadByte place) = Some (record { rule = rule.BadByte; place = place; word = None })
lexer_refusal (lexer.BadNumber place) = Some (record { rule = rule.BadNumber; place = place; word = None })
lexer_refusal (lexer.BadName place) = Some (record { rule = rule.BadName; place = place; word = None })
lexer_refusal (lexer.TextLimit place) = Some (record { rule = rule.TextLimit; place = place; word = None })
lexer_refusal lexer.NoMemory = None

-- the refusal of tokens with this fault
abbrev pub parser_refusal : SyntaxFault → Option Refusal
parser_refusal (parser.Expected place) = Some (record { rule = rule.Expected; place = place; word = None })
parser_refusal (parser.TooDeep place) = Some (record { rule = rule.TooDeep; place = place; word = None })
parser_refusal (parser.Unsupported place word) = Some (record { rule = rule.Unsupported; place = place; word = Some word })
parser_refusal parser.NoMemory = None
