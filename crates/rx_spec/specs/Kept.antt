-- What the code keeps, and the steps of definitions that functions of the code answer to.
--   parts_kept p            what is written, if anything
--   body_kept b             fields and links
--   paths_onward m          the links of the paths from the start to null
--   paths_and_few, counted_ways    the last steps of ways_stand
--   specified, typed               the last steps of elaborated
--   fault_in i e                       the fault of what stands in package i
use Rattle.std.specs.Prelude.{ℕ, List, [], length, Option, Some, None, Result, Ok}
use Rattle.rx_syntax.specs.declared.tree.Named.{Named}
use Rattle.rx_syntax.specs.declared.tree.MessageTree.{MessageTree}
use Rattle.rx_syntax.specs.declared.tree.PackageTree.{PackageTree}
use Rattle.rx_graph.specs.declared.message.Node.TheVariants.{Start, Null}
use Rattle.rx_graph.specs.Graph.{Graph, Specified, arrows}
use Rattle.rx_graph.specs.Onward.{onward}
use Rattle.rx_judge.specs.Meaning.{Meaning, ◌>>=◌}
use Rattle.rx_judge.specs.declared.fault.Fault.{Fault}
use Rattle.rx_judge.specs.declared.fault.Fault.TheVariants as fault
use Rattle.rx_links.specs.Counts.{counts_stand}
use Rattle.rx_links.specs.declared.links.Way.{Way}
use Rattle.rx_elab.specs.Parts.{Parts, no_parts, parts_of}
use Rattle.rx_elab.specs.Types.{Types, built_in_types}
use Rattle.rx_elab.specs.declared.parts.Parts as code
use Rattle.rx_spec.specs.Elaboration.{Told, package_types_in, package_messages_in, through_from}
use Rattle.rx_spec.specs.Messages.{Body}
use Rattle.rx_spec.specs.Shape.{paths_stand, few_stand}
use Rattle.rx_spec.specs.declared.body.Body as code_body
use Rattle.rx_spec.specs.declared.fault.ElabFault.{ElabFault}
use Rattle.rx_spec.specs.declared.fault.ElabFault.TheVariants.{Refused, NoMemory}

-- what is written, if anything
abbrev pub parts_kept : Option code.Parts → Parts
parts_kept None = no_parts
parts_kept (Some p) = parts_of p

-- fields and links
abbrev pub body_kept : code_body.Body → Body
body_kept b = record { fields = b.fields.items; links = arrows b.links.items }

-- the links of the paths from the start to null
abbrev pub paths_onward : Graph → List (List ℕ)
paths_onward m = onward m.links (length m.links) Null Start

-- the last two steps of ways_stand
abbrev pub paths_and_few : Named → MessageTree → List Way → Meaning (Unit {0})
paths_and_few name m ways = do
  w ← paths_stand name ways
  few_stand name m

-- the steps of ways_stand behind no_cycle
abbrev pub counted_ways : Named → MessageTree → List Way → Meaning (Unit {0})
counted_ways name m ways = do
  v ← counts_stand name (length m.fields.items) (length ways)
  paths_and_few name m ways

-- the last step of elaborated, where t has the types
abbrev pub specified : List PackageTree → Types → Result Specified Told
specified ps t = do
  gs ← through_from (package_messages_in t) 0 [] ps
  Ok (record { scalars = t.scalars; messages = gs; refinements = [] })

-- the steps of elaborated behind the names
abbrev pub typed : List PackageTree → Result Specified Told
typed ps = do
  t ← through_from package_types_in 0 built_in_types ps
  specified ps t

-- the fault of what stands in package i
abbrev pub fault_in : ℕ → Fault → ElabFault
fault_in i (fault.Refused r) = Refused i r
fault_in i fault.NoMemory = NoMemory
