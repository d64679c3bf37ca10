-- Encoding what was printed, and reading what was encoded.
use Rattle.std.proofs.Common.{◌≡◌, ℕ, List, Ok, subst}
use Rattle.rx_types.specs.Domain.{Domain}
use Rattle.rx_graph.specs.Elaborated.{IsElaborated}
use Rattle.rx_graph.specs.Graph.{Graph}
use Rattle.rx_graph.specs.Fits.{ReadsAs}
use Rattle.rx_graph.specs.Laws.{FitsHaveLength}
use Rattle.rx_values.specs.Laws.{ReadsBack}
use Rattle.rx_values.specs.Printing.{json_text}
use Rattle.rx_values.specs.Reading.{value_of}
use Rattle.rx_serial.specs.Laws.{NoneFits, HasOneRefusal, HasOneBuffer}
use Rattle.rx_encode.specs.declared.encoding.Encoded.{Encoded}
use Rattle.rx_encode.specs.declared.encoding.Encoded.TheVariants.{Bytes, NotJson, NotObject, UnknownField, BadValue, Duplicate, TooLong, Unsatisfied, Unused}
use Rattle.rx_encode.specs.Laws.{IsBuffer, PrintedIsEncoded, EncodedReads}
use Rattle.rx_encode.proofs.OneAnswer.{Held, code, coded, one_code}
use Rattle.rx_encode.proofs.Printed.{valued}
use Rattle.rx_encode.proofs.Valued.{orderly}

buffer_from_code : (e : Encoded) (bytes : List ℕ) → code e ≡ Held bytes → IsBuffer e bytes
buffer_from_code (Bytes held) bytes h = cc
buffer_from_code e bytes h = cc

module _ (domains : List Domain) (m : Graph) where
  pub printed_is_encoded : IsElaborated domains m → ReadsBack domains m → NoneFits domains m → HasOneRefusal domains m → HasOneBuffer domains m → FitsHaveLength domains m → PrintedIsEncoded domains m
  printed_is_encoded el back none refusal buffer long bytes values e are ascending reads is =
      let text = json_text domains m values in
      let value : value_of domains m text ≡ Ok values = back values (valued domains m el bytes are values ascending reads) in
      buffer_from_code e bytes (one_code domains m none refusal buffer long text (code e) (Held bytes) (coded domains m none refusal buffer long text e is) (are, (values, value, reads)))

  pub encoded_reads : EncodedReads domains m
  encoded_reads text bytes (Bytes held) h e = (h.1.0, h.1.1, (orderly domains m text h.1.0 h.1.1).ascending, subst (λ b. ReadsAs domains m b h.1.0) e h.1.2)
  encoded_reads text bytes NotJson h e = absurd e
  encoded_reads text bytes NotObject h e = absurd e
  encoded_reads text bytes (UnknownField key) h e = absurd e
  encoded_reads text bytes (BadValue key) h e = absurd e
  encoded_reads text bytes (Duplicate key) h e = absurd e
  encoded_reads text bytes TooLong h e = absurd e
  encoded_reads text bytes (Unsatisfied field reason) h e = absurd e
  encoded_reads text bytes (Unused field) h e = absurd e
