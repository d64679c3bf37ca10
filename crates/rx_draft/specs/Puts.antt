-- One step of a draft: what may be put, why it is refused, and what a put does.
--   IsNext f                    the link that is taken leads to field f
--   IsAtNull, IsDone            it leads to null; and the last field ends with the message
--   Agrees before f c           an overlay of a field that was put has that field's bits
--   Refuses before f c fault    why the content can't be put; the faults are tried in this order
--   values_of d                 the valuation that was put so far
--   HasPut old new f c          the field was put
use Rattle.std.specs.Prelude.{◌≡◌, ℕ, ◌+◌, ◌*◌, ◌<◌, ◌≤◌, pos, nat_abs, List, [], ◌∷◌, ◌++◌, length, None, Some, IsSome, slice_get}
use Rattle.rx_bits.specs.Outside.{SameOutside}
use Rattle.rx_types.specs.Domain.{Domain, IsNumberOf}
use Rattle.rx_types.specs.Environment.{Placed, Environment, IsAmong, end_of, bits_of}
use Rattle.rx_graph.specs.Checks.{size_to}
use Rattle.rx_graph.specs.Fits.{Content, Number, Bytes, Assigned, content_of, content_bits, contents_of}
use Rattle.rx_graph.specs.Graph.{Arrow, Graph, type_of, overlay_of}
use Rattle.rx_graph.specs.Paths.{first_of, LiesWithin, Ends}
use Rattle.rx_context.specs.Plan.{Planned}
use Rattle.rx_context.specs.Steps.{Takes}
use Rattle.rx_draft.specs.Drafts.{Drafted, StandsForSound, end_node}
use Rattle.rx_draft.specs.declared.fault.PutFault.{PutFault}
use Rattle.rx_draft.specs.declared.fault.PutFault.TheVariants as fault

-- a scalar, or a field of bytes, of each message for which the plan stands
abbrev pub IsScalar : Planned → ℕ → Type 0
IsScalar p f = (domains : List Domain) (m : Graph) → StandsForSound domains m p → IsSome (type_of domains m f)

abbrev pub IsOpaque : Planned → ℕ → Type 0
IsOpaque p f = (domains : List Domain) (m : Graph) → StandsForSound domains m p → type_of domains m f ≡ None

-- the link that is taken leads to the field
abbrev pub TakesTo : Graph → Environment → ℕ → Arrow → Type 0
TakesTo m e f link = Takes m e (end_node e.fields) f link

abbrev pub IsNext : Graph → Environment → ℕ → Type 0
IsNext m e f = (link : Arrow) × TakesTo m e f link

module _ (domains : List Domain) (m : Graph) (e : Environment) where
  -- the link that is taken leads to null
  abbrev pub IsAtNull : Type 0
  IsAtNull = (i : ℕ) × Ends domains m e.total e.fields (end_node e.fields) i

  -- the path ends, and so does the message
  abbrev pub IsDone : Type 0
  IsDone = IsAtNull × (end_of e.fields ≡ bits_of e)

  -- a scalar's number is in its type
  abbrev pub HasValue : ℕ → Content → Type 0
  HasValue f c = (t : Domain) (n : ℕ) → type_of domains m f ≡ Some t → c ≡ Number n → IsNumberOf t n

  -- bytes are as long as their field
  abbrev pub HasSize : ℕ → Content → Type 0
  HasSize f c = (link : Arrow) (bytes : List ℕ) → TakesTo m e f link → c ≡ Bytes bytes → size_to domains m link e f ≡ pos (8 * length bytes)

  -- the field lies within the message
  abbrev pub Lies : ℕ → Type 0
  Lies f = (link : Arrow) → TakesTo m e f link → LiesWithin e (first_of link e) (size_to domains m link e f)

  -- an overlay of a field that was put has that field's bits
  abbrev pub Agrees : List Assigned → ℕ → Content → Type 0
  Agrees before f c =
      (x : ℕ) (b : Content) → overlay_of (slice_get m.fields f) ≡ Some x → IsAmong x e.fields → content_of x before ≡ Some b → content_bits m.low_order (type_of domains m f) c ≡ content_bits m.low_order (type_of domains m x) b

  abbrev pub Refuses : List Assigned → ℕ → Content → PutFault → Type 0
  Refuses before f c fault.NotNext = IsNext m e f → ⊥
  Refuses before f c fault.Value = IsNext m e f × (HasValue f c → ⊥)
  Refuses before f c fault.Size = IsNext m e f × HasValue f c × (HasSize f c → ⊥)
  Refuses before f c fault.Short = IsNext m e f × HasValue f c × HasSize f c × (Lies f → ⊥)
  Refuses before f c fault.Overlay = IsNext m e f × HasValue f c × HasSize f c × Lies f × (Agrees before f c → ⊥)

-- the valuation that was put so far
abbrev pub values_of : List Domain → Graph → Drafted → List Assigned
values_of domains m d = contents_of domains m d.bytes d.fields

-- The field was put behind the others, which hold what they held. No bit has changed outside its place.
pub record HasPut (domains : List Domain) (m : Graph) (old new : Drafted) (f : ℕ) (c : Content) : Type 0 where
  pub place : Placed
  pub field : place.field ≡ f
  pub fields : new.fields ≡ old.fields ++ place ∷ []
  pub others : SameOutside (nat_abs place.first) (nat_abs place.size) old.bytes new.bytes
  pub values : values_of domains m new ≡ values_of domains m old ++ record { field = f; content = c } ∷ []
