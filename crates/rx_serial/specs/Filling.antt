-- A draft that is filled by a valuation.
--   Gives values d     what was put is what the valuation gives
--   reason_of fault    the reason of a put that is refused
--   IsRefused          a put is refused, and this is what is told of it
use Rattle.std.specs.Prelude.{◌≡◌, ℕ, List, Some}
use Rattle.std.specs.List.{AllByRecursion}
use Rattle.rx_types.specs.Domain.{Domain}
use Rattle.rx_graph.specs.Fits.{Content, Assigned, content_of}
use Rattle.rx_graph.specs.Graph.{Graph}
use Rattle.rx_draft.specs.declared.fault.PutFault.{PutFault}
use Rattle.rx_draft.specs.declared.fault.PutFault.TheVariants as fault
use Rattle.rx_draft.specs.Drafts.{Drafted, StandsForSound, environment_of}
use Rattle.rx_draft.specs.Puts.{Refuses, values_of}
use Rattle.rx_serial.specs.declared.fault.WriteFault.{WriteFault}
use Rattle.rx_serial.specs.declared.fault.WriteFault.TheVariants.{Unsatisfied}
use Rattle.rx_serial.specs.declared.fault.UnfitReason.{UnfitReason}
use Rattle.rx_serial.specs.declared.fault.UnfitReason.TheVariants as reason

abbrev pub Gives : List Assigned → Drafted → Type 0
Gives values d = (domains : List Domain) (m : Graph) → StandsForSound domains m d.plan → AllByRecursion (λ a. content_of a.field values ≡ Some a.content) (values_of domains m d)

abbrev pub reason_of : PutFault → UnfitReason
reason_of fault.NotNext = reason.Condition
reason_of fault.Value = reason.Value
reason_of fault.Size = reason.Size
reason_of fault.Short = reason.Short
reason_of fault.Overlay = reason.Overlay

abbrev pub IsRefused : List Domain → Graph → Drafted → ℕ → Content → WriteFault → Type 0
IsRefused domains m d f c why = (fault : PutFault) × (why ≡ Unsatisfied (Some f) (reason_of fault)) × Refuses domains m (environment_of d) (values_of domains m d) f c fault
