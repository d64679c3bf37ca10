-- What two commands over the same texts do with a message one after the other.
--   AskBoth             the one encodes a message, and the other decodes it
--   IsJsonOfText        a line is the JSON of the valuation that a text is
--   EncodedIsDecoded    what was encoded of a text is decoded as the text's valuation
--   DecodedIsEncoded    what was printed of a buffer is encoded as the buffer
use Rattle.std.specs.Prelude.{◌≡◌, ℕ, List, Some, Ok}
use Rattle.rx_io.specs.Shelf.{Texts}
use Rattle.rx_graph.specs.Graph.{Graph}
use Rattle.rx_graph.specs.Fits.{Assigned}
use Rattle.rx_forms.specs.Checkable.{TypedMessages}
use Rattle.rx_values.specs.Reading.{value_of}
use Rattle.rx_values.specs.Printing.{json_text}
use Rattle.rx_serial.specs.Laws.{AreBytes}
use Rattle.rx_program.specs.Words.{Does, Decodes, Encodes, asked_for}
use Rattle.rx_program.specs.Refusals.{Means}
use Rattle.rx_program.specs.Request.{Serves}
use Rattle.rx_program.specs.Answers.{Request, Asks}
use Rattle.rx_lines.specs.Lines.{line}
use Rattle.rx_program.specs.Outcome.{FaultCounts, Outcome}
use Rattle.rx_program.specs.declared.status.Status.TheVariants.{Done}

-- the words ask for this of the package, with whatever number of splits
abbrev pub AskThat : List (List ℕ) → List ℕ → Does → Type 0
AskThat words name does = (splits : ℕ) × (asked_for words ≡ Some (record { name = name; does = does; splits = splits }))

-- the words of a command that encodes a message of a package, and of one that decodes it
pub record AskBoth (encode decode : List (List ℕ)) : Type 0 where
  pub name : List ℕ
  pub message : List ℕ
  pub encodes : AskThat encode name (Encodes message)
  pub decodes : AskThat decode name (Decodes message)

-- the text is a valuation of the message that the words ask to encode, and the line is its JSON
pub record IsJsonOfText (words : List (List ℕ)) (texts : Texts) (text printed : List ℕ) : Type 0 where
  pub request : Request
  pub asks : Asks words texts request
  pub messages : TypedMessages
  pub means : Means request.asked request.trees messages
  pub name : List ℕ
  pub asked_is : request.ask.does ≡ Encodes name
  pub graph : Graph
  pub serves : Serves messages request.ask.name request.ask.splits name graph
  pub values : List Assigned
  pub valued : value_of messages.domains graph text ≡ Ok values
  pub printed_is : printed ≡ line (json_text messages.domains graph values)

-- what was encoded of a text is decoded as the JSON of the text's valuation
abbrev pub EncodedIsDecoded : Type 0
EncodedIsDecoded = (encode decode : List (List ℕ)) (texts : Texts) (text bytes printed : List ℕ) (one other : FaultCounts) → AskBoth encode decode
    → Outcome encode texts text one Done bytes → Outcome decode texts bytes other Done printed → IsJsonOfText encode texts text printed

-- the line that was printed of a buffer is encoded as the buffer
abbrev pub DecodedIsEncoded : Type 0
DecodedIsEncoded = (encode decode : List (List ℕ)) (texts : Texts) (bytes printed written : List ℕ) (one other : FaultCounts) → AskBoth encode decode → AreBytes bytes
    → Outcome decode texts bytes one Done printed → Outcome encode texts printed other Done written → written ≡ bytes
