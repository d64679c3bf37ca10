-- Refusals of the walk with a valuation: `IsOfWalk`.
use Rattle.rx_serial.specs.declared.fault.WriteFault.{WriteFault}
use Rattle.rx_serial.specs.declared.fault.WriteFault.TheVariants.{NoRoom, Unsatisfied, Unused}

-- any refusal but want of room
abbrev pub IsOfWalk : WriteFault → Type 0
IsOfWalk (NoRoom needed had) = ⊥
IsOfWalk (Unsatisfied field reason) = Unit {0}
IsOfWalk (Unused field) = Unit {0}
