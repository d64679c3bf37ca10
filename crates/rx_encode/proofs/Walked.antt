-- Refusals of the walk, as they are told.
use Rattle.std.proofs.Common.{◌≡◌, ◌↔◌, ℕ, ◌<◌, ◌≤◌, Bool, true, false, List, sym, ◌∙◌, inl, inr, arith}
use Rattle.std.specs.Prelude.{IsTrue}
use Rattle.std.proofs.lemmas.Bool.{cases_lt}
use Rattle.rx_types.specs.Domain.{Domain}
use Rattle.rx_graph.specs.Graph.{Graph}
use Rattle.rx_graph.specs.Fits.{Assigned, length_of}
use Rattle.rx_serial.specs.Unfit.{IsUnfit, Tells}
use Rattle.rx_serial.specs.declared.fault.WriteFault.{WriteFault}
use Rattle.rx_serial.specs.declared.fault.WriteFault.TheVariants.{NoRoom, Unsatisfied, Unused}
use Rattle.rx_encode.specs.Walks.{IsOfWalk}

clash : true ≡ false → ⊥
clash e = cc

-- what is not within the limit is beyond it
pub beyond : (within : Bool) (n limit : ℕ) → IsTrue within ↔ n ≤ limit → within ≡ false → limit < n
beyond within n limit h e = elim (cases_lt limit n) [ inl lt ↦ lt | inr le ↦ absurd (clash (sym (h.1 le) ∙ e)) ]

module _ (domains : List Domain) (m : Graph) (values : List Assigned) where
  -- where there is room, what is told is the refusal of the walk
  pub told_unfit : (had : ℕ) (why : WriteFault) → length_of domains m values ≤ had → Tells domains m values had why → IsUnfit domains m values why
  told_unfit had (NoRoom needed room) le t = absurd (omega (arith, le, t.2))
  told_unfit had (Unsatisfied field reason) le t = t.1
  told_unfit had (Unused field) le t = t.1

  pub of_walk : (why : WriteFault) → IsUnfit domains m values why → IsOfWalk why
  of_walk (NoRoom needed room) u = absurd u.refuses
  of_walk (Unsatisfied field reason) u = tt
  of_walk (Unused field) u = tt
