-- A slot whose bytes are lent to be written to.
use Rattle.std.specs.Prelude.{ℕ, List}
use Rattle.std.specs.Borrow.{Lends, MutBor, Fml, Array, u8}
use Rattle.rx_pool.specs.Pool.{Pool, slot_of, with_slot, overwritten}
use Rattle.rx_pool.specs.contracts.region.Region.{the_row}

-- the region ends with what was written in this slot, and is as it was elsewhere
abbrev pub LendsSlot : MutBor Pool → ℕ → MutBor (List ℕ) → Fml
LendsSlot region n lent = Lends the_row (Array u8 0) region lent (λ written. with_slot region.now n (overwritten (slot_of region.now n) written))
