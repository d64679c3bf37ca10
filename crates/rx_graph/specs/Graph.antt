-- Messages without their places in memory.
--   Arrow, arrow_of         a link
--   Graph, graph_of         a message
--   NamedDomain             a scalar type with its names
--   domains_in, domains_of  the scalar types of a list, and of a specification
--   Refined, refined_of     a refinement
--   Specified, spec_of      a specification
--   field_at node           the field of a node, if it is one
--   type_of domains m f     the scalar type of field f, if it is a scalar
--   limit_of, kind_of       the greatest number of a field, and its kind in expressions
use Rattle.std.specs.Prelude.{◌≡◌, ℕ, zero, suc, Bool, List, [], ◌∷◌, Option, Some, None, map, slice_get}
use Rattle.rx_syntax.specs.declared.token.Place.{Place}
use Rattle.rx_types.specs.declared.kind.Kind.{Kind}
use Rattle.rx_types.specs.declared.kind.Kind.TheVariants as kind
use Rattle.rx_types.specs.declared.scalar.FieldType.TheVariants.{Scalar, Opaque, Sequence}
use Rattle.rx_types.specs.Domain.{Domain, Integer, Enumeration, domain_of, greatest_of}
use Rattle.rx_types.specs.Tree.{Tree, tree_of, tree_if_any}
use Rattle.rx_graph.specs.declared.message.Node.{Node}
use Rattle.rx_graph.specs.declared.message.Node.TheVariants.{Start, At, Null}
use Rattle.rx_graph.specs.declared.message.Field.{Field}
use Rattle.rx_graph.specs.declared.message.Link.{Link}
use Rattle.rx_graph.specs.declared.message.Message.{Message}
use Rattle.rx_graph.specs.declared.spec.Refinement.{Refinement}
use Rattle.rx_graph.specs.declared.spec.Scalar as code
use Rattle.rx_graph.specs.declared.spec.Spec.{Spec}

pub record Arrow : Type 0 where
  pub source : Node
  pub target : Node
  pub condition : Tree
  pub first : Option Tree
  pub size : Option Tree
  pub place : Place

pub record Graph : Type 0 where
  pub «package» : List ℕ
  pub name : List ℕ
  pub fields : List Field
  pub links : List Arrow
  pub low_order : Bool

abbrev pub arrow_of : Link → Arrow
arrow_of l = record { source = l.source; target = l.target; condition = tree_of l.condition; first = tree_if_any l.first; size = tree_if_any l.size; place = l.place }

abbrev pub arrows : List Link → List Arrow
arrows [] = []
arrows (l ∷ ls) = arrow_of l ∷ arrows ls

abbrev pub graph_of : Message → Graph
graph_of m = record { «package» = m.«package»; name = m.name; fields = m.fields.items; links = arrows m.links.items; low_order = m.low_order }

-- ---- specifications

pub record NamedDomain : Type 0 where
  pub «package» : List ℕ
  pub name : List ℕ
  pub domain : Domain

pub record Refined : Type 0 where
  pub message : ℕ
  pub field : ℕ
  pub inner : Option ℕ
  pub condition : Tree

pub record Specified : Type 0 where
  pub scalars : List NamedDomain
  pub messages : List Graph
  pub refinements : List Refined

abbrev pub named_domain_of : code.Scalar → NamedDomain
named_domain_of s = record { «package» = s.«package»; name = s.name; domain = domain_of s.kind }

abbrev pub refined_of : Refinement → Refined
refined_of r = record { message = r.«of»; field = r.field; inner = r.inner; condition = tree_of r.condition }

abbrev pub spec_of : Spec → Specified
spec_of s = record { scalars = map named_domain_of s.scalars.items; messages = map graph_of s.messages.items; refinements = map refined_of s.refinements.items }

-- the scalar types, each at the place that its id says
abbrev pub domains_in : List code.Scalar → List Domain
domains_in scalars = map (λ x. domain_of x.kind) scalars

abbrev pub domains_of : Spec → List Domain
domains_of s = domains_in s.scalars.items

-- ---- fields

-- the field of a node, if it is one
abbrev pub field_at : Node → Option ℕ
field_at Start = None
field_at (At f) = Some f
field_at Null = None

abbrev pub scalar_of : List Domain → Option Field → Option Domain
scalar_of domains None = None
scalar_of domains (Some field) = elim (field.kind) [ Scalar t ↦ slice_get domains t | Opaque ↦ None | Sequence t ↦ None ]

abbrev pub type_of : List Domain → Graph → ℕ → Option Domain
type_of domains m f = scalar_of domains (slice_get m.fields f)

abbrev pub overlay_of : Option Field → Option ℕ
overlay_of None = None
overlay_of (Some field) = field.overlay

-- the field is an overlay of x, or of none
abbrev pub IsOverlay : Graph → ℕ → ℕ → Type 0
IsOverlay m f x = overlay_of (slice_get m.fields f) ≡ Some x

abbrev pub IsNoOverlay : Graph → ℕ → Type 0
IsNoOverlay m f = overlay_of (slice_get m.fields f) ≡ None

-- the greatest number of a field, 0 where it is no scalar
abbrev pub greatest_if_any : Option Domain → ℕ
greatest_if_any None = 0
greatest_if_any (Some t) = greatest_of t

abbrev pub limit_of : List Domain → Graph → ℕ → ℕ
limit_of domains m f = greatest_if_any (type_of domains m f)

-- The first scalar type is Boolean, whose numbers are truth values.
abbrev pub kind_in : ℕ → Option Domain → Option Kind
kind_in zero (Some t) = Some kind.Truth
kind_in (suc id) (Some (Integer first last size)) = Some kind.Number
kind_in (suc id) (Some (Enumeration literals size always_valid)) = Some (kind.Of (suc id))
kind_in id None = None

abbrev pub kind_of_field : List Domain → Option Field → Option Kind
kind_of_field domains None = None
kind_of_field domains (Some field) = elim (field.kind) [ Scalar t ↦ kind_in t (slice_get domains t) | Opaque ↦ None | Sequence t ↦ None ]

abbrev pub kind_of : List Domain → Graph → ℕ → Option Kind
kind_of domains m f = kind_of_field domains (slice_get m.fields f)
