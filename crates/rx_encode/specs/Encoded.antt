-- What a JSON text is of a message.
--   IsEncoded domains m text e    e is what the text is
--   HasOneAnswer domains m        a text is one thing at the most
use Rattle.std.specs.Prelude.{◌≡◌, ◌<◌, ℕ, List, Ok, Err}
use Rattle.rx_types.specs.Domain.{Domain}
use Rattle.rx_graph.specs.Graph.{Graph}
use Rattle.rx_graph.specs.Fits.{Assigned, ReadsAs, length_of}
use Rattle.rx_values.specs.Reading.{value_of, Refusal}
use Rattle.rx_values.specs.Reading.{NotJson as NoJson, NotObject as NoObject, UnknownField as NoField, BadValue as NoValue, Duplicate as Twice}
use Rattle.rx_serial.specs.Laws.{AreBytes}
use Rattle.rx_serial.specs.Unfit.{IsUnfit}
use Rattle.rx_serial.specs.declared.fault.WriteFault.TheVariants as fault
use Rattle.rx_encode.specs.declared.encoding.Encoded.{Encoded}
use Rattle.rx_encode.specs.declared.encoding.Encoded.TheVariants.{Bytes, NotJson, NotObject, UnknownField, BadValue, Duplicate, TooLong, Unsatisfied, Unused}

module _ (domains : List Domain) (m : Graph) where
  -- the text is this valuation, which is so
  abbrev pub IfValued : List ℕ → (List Assigned → Type 0) → Type 0
  IfValued text P = (values : List Assigned) × (value_of domains m text ≡ Ok values) × P values

  -- the text is no valuation, for this reason
  abbrev pub IsRefused : List ℕ → Refusal → Type 0
  IsRefused text refusal = value_of domains m text ≡ Err refusal

  -- the buffer, numbers below 256, that reads as the valuation; or why the text is no valuation; or why the valuation fits no path
  abbrev pub IsEncoded : List ℕ → Encoded → Type 0
  IsEncoded text (Bytes bytes) = AreBytes bytes.items × IfValued text (ReadsAs domains m bytes.items)
  IsEncoded text NotJson = IsRefused text NoJson
  IsEncoded text NotObject = IsRefused text NoObject
  IsEncoded text (UnknownField key) = IsRefused text (NoField key.items)
  IsEncoded text (BadValue key) = IsRefused text (NoValue key.items)
  IsEncoded text (Duplicate key) = IsRefused text (Twice key.items)
  IsEncoded text TooLong = IfValued text (λ values. 16777215 < length_of domains m values)
  IsEncoded text (Unsatisfied field reason) = IfValued text (λ values. IsUnfit domains m values (fault.Unsatisfied field reason))
  IsEncoded text (Unused field) = IfValued text (λ values. IsUnfit domains m values (fault.Unused field))

-- the same bytes, or the same refusal
abbrev pub IsSame : Encoded → Encoded → Type 0
IsSame (Bytes one) (Bytes other) = one.items ≡ other.items
IsSame (UnknownField one) (UnknownField other) = one.items ≡ other.items
IsSame (BadValue one) (BadValue other) = one.items ≡ other.items
IsSame (Duplicate one) (Duplicate other) = one.items ≡ other.items
IsSame one other = one ≡ other

abbrev pub HasOneAnswer : List Domain → Graph → Type 0
HasOneAnswer domains m = (text : List ℕ) (one other : Encoded) → IsEncoded domains m text one → IsEncoded domains m text other → IsSame one other
