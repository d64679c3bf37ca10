-- What holds of every valuation.
--   HasKind t c         a number of the type, or bytes where the field is no scalar
--   IsValued values     ids ascend, and each field is one of the message's and holds what it may
--   AreNamed            the names of fields and literals are names
--   ReadsBack           what is printed of such a valuation reads as the same valuation
use Rattle.std.specs.Prelude.{◌≡◌, ℕ, ◌<◌, List, length, Option, Some, None, Ok}
use Rattle.std.specs.List.{AllByRecursion}
use Rattle.hex.specs.Hex.{IsBytes}
use Rattle.rx_types.specs.Names.{IsName}
use Rattle.rx_types.specs.Domain.{Domain, Integer, Enumeration, IsNumberOf}
use Rattle.rx_graph.specs.Graph.{Graph, type_of}
use Rattle.rx_graph.specs.Fits.{Content, Number, Bytes, Assigned, IsAscending}
use Rattle.rx_values.specs.Reading.{value_of}
use Rattle.rx_values.specs.Printing.{json_text}

abbrev pub HasKind : Option Domain → Content → Type 0
HasKind (Some t) (Number n) = IsNumberOf t n
HasKind (Some t) (Bytes bytes) = ⊥
HasKind None (Number n) = ⊥
HasKind None (Bytes bytes) = IsBytes bytes

-- the literals of a type have names
abbrev pub HasNames : Domain → Type 0
HasNames (Integer first last size) = Unit {0}
HasNames (Enumeration literals size always_valid) = AllByRecursion (λ l. IsName l.name) literals

module _ (domains : List Domain) (m : Graph) where
  pub record IsHeld (a : Assigned) : Type 0 where
    pub within : a.field < length m.fields
    pub kind : HasKind (type_of domains m a.field) a.content

  pub record IsValued (values : List Assigned) : Type 0 where
    pub ascending : IsAscending values
    pub held : AllByRecursion IsHeld values

  pub record AreNamed : Type 0 where
    pub fields : AllByRecursion (λ f. IsName f.name) m.fields
    pub literals : AllByRecursion HasNames domains

  abbrev pub ReadsBack : Type 0
  ReadsBack = (values : List Assigned) → IsValued values → value_of domains m (json_text domains m values) ≡ Ok values
