-- What reading the words answers.
--   texts_of given          the values as texts
--   asked_of, wanted_of     a command and a request of the code
--   ReadsParts, ReadsWords  the answer is the form of the words, or a fault where they have none
use Rattle.std.specs.Prelude.{◌≡◌, Option, Some, None, Result, Ok, Err, option_map, ⊤}
use Rattle.rx_words.specs.declared.line.CommandName.{CommandName}
use Rattle.rx_words.specs.declared.line.Given.{Given}
use Rattle.rx_words.specs.declared.fault.WordsFault.{WordsFault}
use Rattle.rx_words.specs.declared.fault.WordsFault.TheVariants.{Form, NoMemory}
use Rattle.rx_words.specs.declared.request.Command.{Command}
use Rattle.rx_words.specs.declared.request.Command.TheVariants as code
use Rattle.rx_words.specs.declared.request.Request.{Request}
use Rattle.rx_words.specs.Form as form
use Rattle.rx_words.specs.Words.{Asked, Check, Decode, Encode, Run, Load, Wanted}

abbrev pub texts_of : Given → form.Given
texts_of g = record {
  operand_value = option_map (λ s. s.now) g.operand;
  splits_value = option_map (λ s. s.now) g.splits;
  deep_value = option_map (λ s. s.now) g.deep;
}

abbrev pub asked_of : Command → Asked
asked_of (code.Check name) = Check name.now
asked_of (code.Decode name message deep) = Decode name.now message.now (option_map (λ s. s.now) deep)
asked_of (code.Encode name message) = Encode name.now message.now
asked_of (code.Run name machine) = Run name.now machine.now
asked_of (code.Load count) = Load count

abbrev pub wanted_of : Request → Wanted
wanted_of r = record { command = asked_of r.command; splits = r.splits }

-- the parts that the words have, or a fault of form where they have none
abbrev pub ReadsParts : Option (CommandName × form.Given) → Result (CommandName × Given) WordsFault → Type 0
ReadsParts parts (Ok p) = parts ≡ Some (p.0, texts_of p.1)
ReadsParts parts (Err Form) = parts ≡ None
ReadsParts parts (Err NoMemory) = ⊤

-- what the words ask for, or a fault of form where they ask for nothing
abbrev pub ReadsWords : Option Wanted → Result Request WordsFault → Type 0
ReadsWords wanted (Ok request) = wanted ≡ Some (wanted_of request)
ReadsWords wanted (Err Form) = wanted ≡ None
ReadsWords wanted (Err NoMemory) = ⊤
