-- Encoding and printing, one after the other.
--   IsBuffer e bytes    the answer is this buffer
--   PrintedIsEncoded    the JSON of the valuation that a buffer reads as is encoded as that buffer
--   EncodedReads        the buffer that a text is encoded as reads as the text's valuation, so that this is what is printed of it
use Rattle.std.specs.Prelude.{◌≡◌, ℕ, List, Ok}
use Rattle.rx_types.specs.Domain.{Domain}
use Rattle.rx_graph.specs.Graph.{Graph}
use Rattle.rx_graph.specs.Fits.{Assigned, IsAscending, ReadsAs}
use Rattle.rx_values.specs.Printing.{json_text}
use Rattle.rx_values.specs.Reading.{value_of}
use Rattle.rx_serial.specs.Laws.{AreBytes}
use Rattle.rx_encode.specs.declared.encoding.Encoded.{Encoded}
use Rattle.rx_encode.specs.declared.encoding.Encoded.TheVariants.{Bytes}
use Rattle.rx_encode.specs.Encoded.{IsEncoded}

abbrev pub IsBuffer : Encoded → List ℕ → Type 0
IsBuffer (Bytes held) bytes = held.items ≡ bytes
IsBuffer answer bytes = ⊥

module _ (domains : List Domain) (m : Graph) where
  abbrev pub PrintedIsEncoded : Type 0
  PrintedIsEncoded = (bytes : List ℕ) (values : List Assigned) (e : Encoded) → AreBytes bytes → IsAscending values → ReadsAs domains m bytes values → IsEncoded domains m (json_text domains m values) e → IsBuffer e bytes

  abbrev pub EncodedReads : Type 0
  EncodedReads = (text bytes : List ℕ) (e : Encoded) → IsEncoded domains m text e → IsBuffer e bytes → (values : List Assigned) × (value_of domains m text ≡ Ok values) × IsAscending values × ReadsAs domains m bytes values
