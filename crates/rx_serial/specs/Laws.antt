-- What holds of valuations that are written, and of those that are not.
--   NoneFits         a valuation that is unfit fits no path
--   HasOneRefusal    a valuation is unfit for one reason
--   HasOneBuffer     one buffer reads as a valuation
use Rattle.std.specs.Prelude.{◌≡◌, ℕ, ◌<◌, List, slice_index}
use Rattle.rx_types.specs.Domain.{Domain}
use Rattle.rx_graph.specs.Fits.{Assigned, IsAscending, length_of, FitsSome, ReadsAs}
use Rattle.rx_graph.specs.Graph.{Graph}
use Rattle.rx_serial.specs.declared.fault.WriteFault.{WriteFault}
use Rattle.rx_serial.specs.Unfit.{IsUnfit}

abbrev pub AreBytes : List ℕ → Type 0
AreBytes bytes = (i : ℕ) → slice_index bytes i < 256

module _ (domains : List Domain) (m : Graph) where
  abbrev pub NoneFits : Type 0
  NoneFits = (values : List Assigned) (why : WriteFault) → IsUnfit domains m values why → FitsSome domains m values (length_of domains m values) → ⊥

  abbrev pub HasOneRefusal : Type 0
  HasOneRefusal = (values : List Assigned) (why other : WriteFault) → IsUnfit domains m values why → IsUnfit domains m values other → why ≡ other

  abbrev pub HasOneBuffer : Type 0
  HasOneBuffer = (values : List Assigned) (one other : List ℕ) → IsAscending values → AreBytes one → AreBytes other → ReadsAs domains m one values → ReadsAs domains m other values → one ≡ other
