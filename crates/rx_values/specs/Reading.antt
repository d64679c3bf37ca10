-- The valuation that a JSON text is, or its first refusal.
--   Refusal                        why a text is no valuation
--   content_from t d               what a JSON value is for a field of this type
--   with_member values key d       one member after those that were judged before it
--   values_from values members     all members, in the order of their keys
--   value_of text                  the valuation that the text is, or its first refusal
use Rattle.std.specs.Prelude.{◌≡◌, ℕ, Bool, true, false, ◌&&◌, ◌==◌, nat_le, nat_lt, ◌^◌, List, [], Option, Some, None, Result, Ok, Err, is_some, if◌then◌else◌, option_map}
use Rattle.std.specs.List.{list_any}
use Rattle.std.specs.Str.{is_utf8}
use Rattle.serde_json.specs.Data.{Data, null, boolean, number, string, array, object, Members, no_members, member, Num, unsigned, negative, float}
use Rattle.serde_json.specs.Read.{read}
use Rattle.hex.specs.Hex.{decode_of}
use Rattle.rx_types.specs.declared.scalar.Literal.{Literal}
use Rattle.rx_types.specs.Domain.{Domain, Integer, Enumeration}
use Rattle.rx_graph.specs.Graph.{Graph, type_of}
use Rattle.rx_graph.specs.Fits.{Content, Number, Bytes, Assigned, content_of}
use Rattle.rx_values.specs.Names.{field_named, literal_named}
use Rattle.rx_values.specs.Valuation.{inserted}

-- a member is told by its key
pub data Refusal : Type 0 where
  NotJson : Refusal
  NotObject : Refusal
  UnknownField : List ℕ → Refusal
  BadValue : List ℕ → Refusal
  Duplicate : List ℕ → Refusal

-- ---- one value

-- whether the number is one of the type's
abbrev pub is_literal : List Literal → ℕ → Bool → ℕ → Bool
is_literal literals size true n = nat_lt n (2 ^ size)
is_literal literals size false n = list_any (λ l. l.number == n) literals

abbrev pub is_in : Domain → ℕ → Bool
is_in (Integer first last size) n = nat_le first n && nat_le n last
is_in (Enumeration literals size always_valid) n = is_literal literals size always_valid n

abbrev pub if_in : Domain → ℕ → Option ℕ
if_in t n = if is_in t n then Some n else None

-- a number that has no sign, fraction or exponent
abbrev pub integer_from : Domain → Num → Option ℕ
integer_from t (unsigned n) = if_in t n
integer_from t (negative z) = None
integer_from t (float x) = None

-- the number of the literal that a text names
abbrev pub literal_of : Domain → List ℕ → Option ℕ
literal_of (Integer first last size) name = None
literal_of (Enumeration literals size always_valid) name = literal_named literals name

-- a number of the type, or the name of a literal
abbrev pub scalar_from : Domain → Data → Option ℕ
scalar_from t (number n) = integer_from t n
scalar_from t (string name) = literal_of t name
scalar_from t null = None
scalar_from t (boolean b) = None
scalar_from t (array ds) = None
scalar_from t (object ms) = None

abbrev pub ok_bytes : {E : Type 0} → Result (List ℕ) E → Option Content
ok_bytes (Ok bytes) = Some (Bytes bytes)
ok_bytes (Err e) = None

-- hexadecimal digits, an even count of them, in either case
abbrev pub bytes_from : Data → Option Content
bytes_from (string digits) = ok_bytes (decode_of digits)
bytes_from null = None
bytes_from (boolean b) = None
bytes_from (number n) = None
bytes_from (array ds) = None
bytes_from (object ms) = None

-- what the value is for a scalar, or for a field of bytes
abbrev pub content_from : Option Domain → Data → Option Content
content_from (Some t) d = option_map (λ n. Number n) (scalar_from t d)
content_from None d = bytes_from d

-- ---- all members

abbrev pub go_on : Result (List Assigned) Refusal → (List Assigned → Result (List Assigned) Refusal) → Result (List Assigned) Refusal
go_on (Err e) f = Err e
go_on (Ok values) f = f values

abbrev pub with_content : List Assigned → ℕ → List ℕ → Option Content → Result (List Assigned) Refusal
with_content values f key None = Err (BadValue key)
with_content values f key (Some c) = Ok (inserted f c values)

-- the object of a JSON value
abbrev pub members_in : Data → Result Members Refusal
members_in (object ms) = Ok ms
members_in null = Err NotObject
members_in (boolean b) = Err NotObject
members_in (number n) = Err NotObject
members_in (string s) = Err NotObject
members_in (array ds) = Err NotObject

-- the JSON value of a text
abbrev pub json_of : List ℕ → Option Data
json_of text = if is_utf8 text then read text else None

-- the refusal of a text that is no JSON value
abbrev pub IsNoJson : List ℕ → Refusal → Type 0
IsNoJson text r = (r ≡ NotJson) × (json_of text ≡ None)

module _ (domains : List Domain) (m : Graph) where
  -- the field that is named, then whether an earlier member named it, then the value
  abbrev pub with_field : List Assigned → List ℕ → Data → Option ℕ → Result (List Assigned) Refusal
  with_field values key d None = Err (UnknownField key)
  with_field values key d (Some f) = if is_some (content_of f values) then Err (Duplicate key) else with_content values f key (content_from (type_of domains m f) d)

  abbrev pub with_member : List Assigned → List ℕ → Data → Result (List Assigned) Refusal
  with_member values key d = with_field values key d (field_named m.fields key)

  abbrev pub values_from : List Assigned → Members → Result (List Assigned) Refusal
  values_from values no_members = Ok values
  values_from values (member key d rest) = go_on (with_member values key d) (λ more. values_from more rest)

  abbrev pub values_in : Result Members Refusal → Result (List Assigned) Refusal
  values_in (Err e) = Err e
  values_in (Ok ms) = values_from [] ms

  abbrev pub values_of : Option Data → Result (List Assigned) Refusal
  values_of None = Err NotJson
  values_of (Some d) = values_in (members_in d)

  abbrev pub value_of : List ℕ → Result (List Assigned) Refusal
  value_of text = values_of (json_of text)
