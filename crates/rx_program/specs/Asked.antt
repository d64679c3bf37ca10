-- What the code keeps of the words: `does_of`, `ask_of`.
use Rattle.rx_program.specs.Words.{Does, Ask, Checks, Decodes, Encodes}
use Rattle.rx_program.specs.declared.words.Does as code
use Rattle.rx_program.specs.declared.words.Does.TheVariants as does
use Rattle.rx_program.specs.declared.words.Ask as words

abbrev pub does_of : code.Does → Does
does_of does.Checks = Checks
does_of (does.Decodes message) = Decodes message
does_of (does.Encodes message) = Encodes message

abbrev pub ask_of : words.Ask → Ask
ask_of ask = record { name = ask.name; does = does_of ask.does; splits = ask.splits }
