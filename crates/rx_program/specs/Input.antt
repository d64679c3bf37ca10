-- What the input is of a message.
--   name_if_any m f            the name of a field, if there is one
--   stop_of d, refused_at e    the field that is told with it
--   DecodesTo, EncodesTo       what a buffer and a JSON text are, and the name of that field
--   IsReadAs, IsWrittenAs      what is left of an input is answered by this
use Rattle.std.specs.Prelude.{◌≡◌, ℕ, ◌<◌, ◌≤◌, List, length, Option, Some, None, slice_get}
use Rattle.std.specs.Option.{option_map}
use Rattle.rx_types.specs.Domain.{Domain}
use Rattle.rx_graph.specs.Graph.{Graph}
use Rattle.rx_decode.specs.Decoded.{IsDecoded}
use Rattle.rx_decode.specs.declared.decoding.Decoded.{Decoded}
use Rattle.rx_decode.specs.declared.decoding.Decoded.TheVariants as decoded
use Rattle.rx_encode.specs.Encoded.{IsEncoded}
use Rattle.rx_encode.specs.declared.encoding.Encoded.{Encoded}
use Rattle.rx_encode.specs.declared.encoding.Encoded.TheVariants as encoded
use Rattle.rx_program.specs.declared.answer.Answer.{Answer}
use Rattle.rx_program.specs.declared.answer.Answer.TheVariants as answer

-- the greatest length of an input, in bytes
abbrev pub input_limit : ℕ
input_limit = 16777215

-- the name of a field, if there is one
abbrev pub name_if_any : Graph → Option ℕ → Option (List ℕ)
name_if_any m None = None
name_if_any m (Some f) = option_map (λ x. x.name) (slice_get m.fields f)

-- the field at which a buffer is stuck, if any
abbrev pub stop_of : Decoded → Option ℕ
stop_of (decoded.Json text) = None
stop_of (decoded.Refused stuck) = stuck.field

-- the field at which a valuation fits no path, if any
abbrev pub refused_at : Encoded → Option ℕ
refused_at (encoded.Unsatisfied field reason) = field
refused_at (encoded.Unused field) = Some field
refused_at other = None

module _ (domains : List Domain) (m : Graph) (left : List ℕ) where
  -- the buffer is not too long, it is this, and the field has this name
  pub record DecodesTo (d : Decoded) (name : Option (List ℕ)) : Type 0 where
    pub short : length left ≤ input_limit
    pub is : IsDecoded domains m left d
    pub name_is : name ≡ name_if_any m (stop_of d)

  -- the text is not too long, it is this, and the field has this name
  pub record EncodesTo (e : Encoded) (name : Option (List ℕ)) : Type 0 where
    pub short : length left ≤ input_limit
    pub is : IsEncoded domains m left e
    pub name_is : name ≡ name_if_any m (refused_at e)

  -- what is left is decoded to this
  abbrev pub IsReadAs : Answer → Type 0
  IsReadAs answer.SourceFault = Unit {0}
  IsReadAs answer.InputLimit = input_limit < length left
  IsReadAs (answer.Decoded d name) = DecodesTo d name
  IsReadAs other = ⊥

  -- what is left is encoded to this
  abbrev pub IsWrittenAs : Answer → Type 0
  IsWrittenAs answer.SourceFault = Unit {0}
  IsWrittenAs answer.InputLimit = input_limit < length left
  IsWrittenAs (answer.Encoded e name) = EncodesTo e name
  IsWrittenAs other = ⊥
