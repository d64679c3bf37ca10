-- One step along a path, by cases. Whoever decodes, encodes or runs a message's code takes it.
--   Takes e at f link         a link of the node is taken, and leads to the field
--   IsTaken e at taken        where the link leads that is taken
--   IsStep read e at step     one step of the decoder: to a field, done, or stopped with a reason
use Rattle.std.specs.Prelude.{◌≡◌, ℕ, ◌+◌, ◌*◌, ◌≤◌, pos, List}
use Rattle.rx_types.specs.Domain.{Domain}
use Rattle.rx_types.specs.Environment.{Environment, placed, end_of, bits_of}
use Rattle.rx_graph.specs.declared.message.Node.{Node}
use Rattle.rx_graph.specs.declared.message.Node.TheVariants as node
use Rattle.rx_graph.specs.Graph.{Arrow, Graph}
use Rattle.rx_graph.specs.Cycles.{IsLink}
use Rattle.rx_graph.specs.Checks.{size_to}
use Rattle.rx_graph.specs.Paths.{first_of, IsTrue, LiesWithin, Reader, Places, Ends, IsReadBy}
use Rattle.rx_graph.specs.Stuck.{IsReason}
use Rattle.rx_context.specs.declared.advance.Taken.{Taken}
use Rattle.rx_context.specs.declared.advance.Taken.TheVariants as taken
use Rattle.rx_context.specs.declared.step.Step.{Step}
use Rattle.rx_context.specs.declared.step.Step.TheVariants.{To, Done, Stop}

-- a link of the node is taken, and leads to the field
pub record Takes (m : Graph) (e : Environment) (at : Node) (f : ℕ) (link : Arrow) : Type 0 where
  pub index : ℕ
  pub is : IsLink m index link
  pub source : link.source ≡ at
  pub target : link.target ≡ node.At f
  pub taken : IsTrue link e

module _ (domains : List Domain) (m : Graph) where
  -- To: the link leads to the field, which lies within the message at this place. Short: this place does not lie within
  -- the message. Null: it leads to null. Nothing: no link of the node is taken.
  abbrev pub IsTaken : Environment → Node → Taken → Type 0
  IsTaken e at (taken.To f first size) = (link : Arrow) × Takes m e at f link × (first_of link e ≡ pos first) × (size_to domains m link e f ≡ pos size) × (first + size ≤ e.total * 8)
  IsTaken e at (taken.Short f first size) = (link : Arrow) × Takes m e at f link × (first_of link e ≡ first) × (size_to domains m link e f ≡ size) × (LiesWithin e first size → ⊥)
  IsTaken e at taken.Null = (i : ℕ) × Ends domains m e.total e.fields at i
  IsTaken e at taken.Nothing = (i : ℕ) (link : Arrow) → IsLink m i link → link.source ≡ at → IsTrue link e → ⊥

  -- To: a link is taken to the field, and its number is the one that is read. Done: the link to null is taken, and the
  -- message ends here. Stop: there is a reason to go no further.
  abbrev pub IsStep : Reader → Environment → Node → Step → Type 0
  IsStep read e at (To entry) = (i : ℕ) × (link : Arrow) × IsLink m i link × (link.source ≡ at) × Places domains m link e (placed entry) × IsReadBy domains m read (placed entry)
  IsStep read e at Done = ((i : ℕ) × Ends domains m e.total e.fields at i) × (end_of e.fields ≡ bits_of e)
  IsStep read e at (Stop stuck) = IsReason domains m read e at stuck.reason stuck.field
