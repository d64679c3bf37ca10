-- Contents of fields, the valuations that fit a path, and what a buffer reads as.
--   Content, Assigned             a number or bytes, and a field with what it holds; a valuation is a list of these
--   content_of f values           what the field holds
--   by_valuation, by_buffer       the readers of a valuation and of a buffer
--   length_of values              the length of the message that a valuation makes, in bytes
--   Fits values total path fields    the valuation fits the path, whose fields these are
--   Reads, ReadsAs                a buffer has a whole path with these fields; it reads as the valuation
use Rattle.std.specs.Prelude.{◌≡◌, ◌↔◌, ℕ, ◌+◌, ◌*◌, ◌/◌, ◌<◌, ◌==◌, pos, ◌+ℤ◌, nat_abs, Bool, List, [], ◌∷◌, ◌++◌, length, Option, Some, None, slice_get, slice_range, IsSome, if◌then◌else◌}
use Rattle.std.specs.List.{AllByRecursion}
use Rattle.rx_model.specs.Bits.{bits}
use Rattle.rx_model.specs.Bits.{ordered}
use Rattle.rx_model.specs.Order.{number_in, number_bits}
use Rattle.rx_types.specs.declared.stuck.Reason.{Reason}
use Rattle.rx_types.specs.Domain.{Domain, size_of}
use Rattle.rx_types.specs.Environment.{Placed, IsAmong}
use Rattle.rx_graph.specs.Graph.{Graph, type_of, overlay_of}
use Rattle.rx_graph.specs.Paths.{Reader, IsWhole, IsReadBy}
use Rattle.rx_graph.specs.Stuck.{IsStuck}

-- ---- valuations

pub data Content : Type 0 where
  Number : ℕ → Content
  Bytes : List ℕ → Content

pub record Assigned : Type 0 where
  pub field : ℕ
  pub content : Content

abbrev pub content_of : ℕ → List Assigned → Option Content
content_of f [] = None
content_of f (a ∷ rest) = if a.field == f then Some a.content else content_of f rest

-- every id is above `least`, and they ascend
abbrev pub AscendFrom : ℕ → List Assigned → Type 0
AscendFrom least [] = Unit {0}
AscendFrom least (a ∷ rest) = (least < a.field) × AscendFrom a.field rest

-- the ids ascend, so no field stands twice
abbrev pub IsAscending : List Assigned → Type 0
IsAscending [] = Unit {0}
IsAscending (a ∷ rest) = AscendFrom a.field rest

-- ---- contents as bits

-- how many bits a field's content has
abbrev pub content_size : Option Domain → Content → ℕ
content_size (Some t) c = size_of t
content_size None (Number n) = 0
content_size None (Bytes bytes) = 8 * length bytes

-- the bits of a field's content, as they stand in a buffer
abbrev pub content_bits : Bool → Option Domain → Content → List ℕ
content_bits low (Some t) (Number n) = ordered low (number_bits (size_of t) n)
content_bits low t (Bytes bytes) = bits bytes
content_bits low None (Number n) = []

-- the content is a scalar's number, or bytes that are as long as their field
abbrev pub IsContent : Option Domain → Placed → Option Content → Type 0
IsContent (Some t) p given = given ≡ Some (Number p.number)
IsContent None p given = (bytes : List ℕ) × (given ≡ Some (Bytes bytes)) × (pos (8 * length bytes) ≡ p.size)

-- the content that stands at a field's place in a buffer
abbrev pub content_at : Bool → Option Domain → List ℕ → Placed → Content
content_at low (Some t) buffer p = Number (number_in low buffer (nat_abs p.first) (nat_abs p.size))
content_at low None buffer p = Bytes (slice_range buffer (nat_abs p.first / 8) (nat_abs (p.first +ℤ p.size) / 8))

-- ---- readers

abbrev pub number_or_zero : Option Content → ℕ
number_or_zero None = 0
number_or_zero (Some (Number n)) = n
number_or_zero (Some (Bytes bytes)) = 0

-- each scalar has the number that the valuation gives it
abbrev pub by_valuation : List Assigned → Reader
by_valuation values f first size = number_or_zero (content_of f values)

-- each scalar has the number of its bits in the buffer
abbrev pub by_buffer : Bool → List ℕ → Reader
by_buffer low buffer f first size = number_in low buffer (nat_abs first) (nat_abs size)

-- 0 for an overlay
abbrev pub unless_overlay : Option ℕ → ℕ → ℕ
unless_overlay None n = n
unless_overlay (Some x) n = 0

module _ (domains : List Domain) (m : Graph) where
  -- the sizes of a valuation's fields that are no overlays
  abbrev pub own_bits : List Assigned → ℕ
  own_bits [] = 0
  own_bits (a ∷ rest) = unless_overlay (overlay_of (slice_get m.fields a.field)) (content_size (type_of domains m a.field) a.content) + own_bits rest

  abbrev pub length_of : List Assigned → ℕ
  length_of values = own_bits values / 8

  -- an overlay of a field that stands before has that field's bits
  abbrev pub Agrees : List Assigned → List Placed → Placed → Type 0
  Agrees values before p =
      (x : ℕ) (a b : Content) → overlay_of (slice_get m.fields p.field) ≡ Some x → IsAmong x before → content_of p.field values ≡ Some a → content_of x values ≡ Some b
      → content_bits m.low_order (type_of domains m p.field) a ≡ content_bits m.low_order (type_of domains m x) b

  abbrev pub AllAgree : List Assigned → List Placed → List Placed → Type 0
  AllAgree values before [] = Unit {0}
  AllAgree values before (p ∷ more) = Agrees values before p × AllAgree values (before ++ p ∷ []) more

  -- The path is whole in a message of `total` bytes, and the valuation names exactly its fields.
  pub record Fits (values : List Assigned) (total : ℕ) (path : List ℕ) (fields : List Placed) : Type 0 where
    pub whole : IsWhole domains m total path fields
    pub named : (f : ℕ) → IsSome (content_of f values) ↔ IsAmong f fields
    pub contents : AllByRecursion (λ p. IsContent (type_of domains m p.field) p (content_of p.field values)) fields
    pub agree : AllAgree values [] fields

  -- the valuation fits some path
  abbrev pub FitsSome : List Assigned → ℕ → Type 0
  FitsSome values total = (path : List ℕ) × (fields : List Placed) × Fits values total path fields

  -- at most one path fits a valuation
  abbrev pub HasOneFit : Type 0
  HasOneFit = (values : List Assigned) (total : ℕ) (path other : List ℕ) (fields more : List Placed) → Fits values total path fields → Fits values total other more → (path ≡ other) × (fields ≡ more)

  -- ---- buffers

  -- some whole path of the buffer has these fields
  abbrev pub Reads : List ℕ → List Placed → Type 0
  Reads buffer fields = (path : List ℕ) × IsWhole domains m (length buffer) path fields × AllByRecursion (IsReadBy domains m (by_buffer m.low_order buffer)) fields

  abbrev pub ReadsNothing : List ℕ → Type 0
  ReadsNothing buffer = (fields : List Placed) → Reads buffer fields → ⊥

  -- where the reading of the buffer stops, and why
  abbrev pub StopsAt : List ℕ → Reason → Option ℕ → Type 0
  StopsAt buffer reason field = IsStuck domains m (by_buffer m.low_order buffer) (length buffer) reason field

  -- The valuation fits a path of the buffer's length, and each value is that of its place in the buffer.
  pub record ReadsAs (buffer : List ℕ) (values : List Assigned) : Type 0 where
    pub path : List ℕ
    pub fields : List Placed
    pub fits : Fits values (length buffer) path fields
    pub contents : AllByRecursion (λ p. content_of p.field values ≡ Some (content_at m.low_order (type_of domains m p.field) buffer p)) fields

  -- the fields of a path, in its order, with what stands in their places in the buffer
  abbrev pub contents_of : List ℕ → List Placed → List Assigned
  contents_of buffer [] = []
  contents_of buffer (p ∷ more) = record { field = p.field; content = content_at m.low_order (type_of domains m p.field) buffer p } ∷ contents_of buffer more
