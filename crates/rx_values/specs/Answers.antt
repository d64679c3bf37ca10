-- The refusal that a fault tells: `refusal_of`.
use Rattle.std.specs.Prelude.{Option, Some, None}
use Rattle.rx_values.specs.declared.fault.ValueFault.{ValueFault}
use Rattle.rx_values.specs.declared.fault.ValueFault.TheVariants as fault
use Rattle.rx_values.specs.Reading.{Refusal, NotJson, NotObject, UnknownField, BadValue, Duplicate}

-- the refusal of a fault; want of memory is none
abbrev pub refusal_of : ValueFault → Option Refusal
refusal_of fault.NotJson = Some NotJson
refusal_of fault.NotObject = Some NotObject
refusal_of (fault.UnknownField key) = Some (UnknownField key.items)
refusal_of (fault.BadValue key) = Some (BadValue key.items)
refusal_of (fault.Duplicate key) = Some (Duplicate key.items)
refusal_of fault.NoMemory = None
