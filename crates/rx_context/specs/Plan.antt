-- What a plan keeps of a message, and the messages for which it stands.
--   Planned, planned          what a plan keeps
--   kept_type p f             the scalar type that it keeps for field f, if that is a scalar
--   AreSpans links spans      the links of each node stand where the node's span says
--   MayBePlanned domains m    the message can be decoded along one path, with bytes on whole bytes
--   StandsFor domains m p     the plan stands for the message
--   IsPlan p                  there is a message for which it stands
--   IsKnown p e               and its expressions have values in this environment
use Rattle.std.specs.Prelude.{◌≡◌, ℕ, ◌+◌, ◌<◌, ◌≤◌, List, Option, Some, None, slice_get}
use Rattle.rx_types.specs.declared.scalar.ScalarType.{ScalarType}
use Rattle.rx_types.specs.Domain.{Domain, domain_of}
use Rattle.rx_types.specs.Environment.{Environment}
use Rattle.rx_types.specs.Narrow.{IsNarrow, StaysWithin}
use Rattle.rx_types.specs.Tree.{Tree}
use Rattle.rx_graph.specs.declared.message.Node.{Node}
use Rattle.rx_graph.specs.declared.message.Node.TheVariants.{Start, At, Null}
use Rattle.rx_graph.specs.declared.message.Message.{Message}
use Rattle.rx_graph.specs.Graph.{Arrow, Graph, graph_of, type_of, limit_of}
use Rattle.rx_graph.specs.Paths.{Exclusive}
use Rattle.rx_graph.specs.Checks.{HasGrid, HasOverlay}
use Rattle.rx_graph.specs.Elaborated.{IsElaborated}
use Rattle.rx_context.specs.declared.kept.Span.{Span}
use Rattle.rx_context.specs.declared.kept.Kept.{Kept}

-- a scalar type for each field that is a scalar, where the links of each node stand, and a copy of the message
pub record Planned : Type 0 where
  pub kinds : List (Option ScalarType)
  pub spans : List Span
  pub message : Message

abbrev pub planned : Kept → Planned
planned k = record { kinds = k.kinds.items; spans = k.spans.items; message = k.message }

abbrev pub domain_if_any : Option ScalarType → Option Domain
domain_if_any None = None
domain_if_any (Some t) = Some (domain_of t)

abbrev pub kind_if_any : Option (Option ScalarType) → Option Domain
kind_if_any None = None
kind_if_any (Some kind) = domain_if_any kind

-- these are the types of the message's fields
abbrev pub KeepsTypes : List Domain → Graph → List (Option ScalarType) → Type 0
KeepsTypes domains m kinds = (f : ℕ) → kind_if_any (slice_get kinds f) ≡ type_of domains m f

abbrev pub kept_type : Planned → ℕ → Option Domain
kept_type p f = kind_if_any (slice_get p.kinds f)

-- ---- where the links of a node stand

-- the place of a node's span: that of the start is the first, then those of the fields follow
abbrev pub slot_of : Node → ℕ
slot_of Start = 0
slot_of (At f) = f + 1
slot_of Null = 0

abbrev pub span_or_none : Option Span → Span
span_or_none None = record { from = 0; end = 0 }
span_or_none (Some span) = span

abbrev pub span_at : Planned → Node → Span
span_at p at = span_or_none (slice_get p.spans (slot_of at))

pub record IsInSpan (i : ℕ) (span : Span) : Type 0 where
  pub from : span.from ≤ i
  pub before : i < span.end

-- each link of the node stands there
abbrev pub IsSpanOf : List Arrow → Node → Span → Type 0
IsSpanOf links node span = (i : ℕ) (link : Arrow) → slice_get links i ≡ Some link → link.source ≡ node → IsInSpan i span

abbrev pub AreSpans : List Arrow → List Span → Type 0
AreSpans links spans = (i : ℕ) (link : Arrow) → slice_get links i ≡ Some link → IsInSpan i (span_or_none (slice_get spans (slot_of link.source)))

-- ---- the messages for which a plan stands

-- The message is elaborated. No two links of a node are both true on a partial path to it, bytes lie on whole bytes,
-- and an overlay is as long as the field that it lies over.
pub record MayBePlanned (domains : List Domain) (m : Graph) : Type 0 where
  pub elaborated : IsElaborated domains m
  pub exclusive : Exclusive domains m
  pub grid : (node : Node) (n : ℕ) → HasGrid domains m node n
  pub overlays : (node : Node) (n : ℕ) → HasOverlay domains m node n

-- So it is with the message for which a plan stands, and the plan has the message's graph, the types of its fields and the
-- places of its links.
pub record StandsFor (domains : List Domain) (m : Graph) (p : Planned) : Type 0 where
  pub elaborated : IsElaborated domains m
  pub exclusive : Exclusive domains m
  pub grid : (node : Node) (n : ℕ) → HasGrid domains m node n
  pub overlays : (node : Node) (n : ℕ) → HasOverlay domains m node n
  pub graph : graph_of p.message ≡ m
  pub types : (f : ℕ) → kept_type p f ≡ type_of domains m f
  pub spans : AreSpans m.links p.spans

abbrev pub IsPlan : Planned → Type 0
IsPlan p = (domains : List Domain) × (m : Graph) × StandsFor domains m p

abbrev pub IsKnown : Planned → Environment → Type 0
IsKnown p e = (domains : List Domain) × (m : Graph) × StandsFor domains m p × StaysWithin (limit_of domains m) e

-- ---- what a link's expressions have to be, so that they have values

abbrev pub IsNarrowIfAny : (ℕ → ℕ) → Option Tree → Type 0
IsNarrowIfAny limit None = Unit {0}
IsNarrowIfAny limit (Some x) = IsNarrow limit x

pub record IsNarrowLink (limit : ℕ → ℕ) (link : Arrow) : Type 0 where
  pub condition : IsNarrow limit link.condition
  pub first : IsNarrowIfAny limit link.first
  pub size : IsNarrowIfAny limit link.size

-- the link's expressions have values in this environment
abbrev pub HasValues : Arrow → Environment → Type 0
HasValues link e = (limit : ℕ → ℕ) × IsNarrowLink limit link × StaysWithin limit e
