-- What is said of a result, by what is said of it already.
use Rattle.std.proofs.Common.{◌≡◌, ℕ, ◌≤◌, List, Result, Ok, Err, IfOk, IfErr, subst}
use Rattle.rx_types.specs.Domain.{Domain}
use Rattle.rx_graph.specs.Fits.{Assigned, length_of}
use Rattle.rx_graph.specs.Graph.{Graph}
use Rattle.rx_serial.specs.declared.fault.WriteFault.{WriteFault}
use Rattle.rx_serial.specs.declared.fault.WriteFault.TheVariants.{NoRoom, Unsatisfied, Unused}
use Rattle.rx_serial.specs.Unfit.{IsUnfit, Tells}

pub if_ok : {A B : Type 0} (r : Result A B) (P Q : A → Type 0) → ((a : A) → P a → Q a) → IfOk r P → IfOk r Q
if_ok (Ok a) P Q f h = f a h
if_ok (Err b) P Q f h = tt

pub if_err : {A B : Type 0} (r : Result A B) (P Q : B → Type 0) → ((b : B) → P b → Q b) → IfErr r P → IfErr r Q
if_err (Ok a) P Q f h = tt
if_err (Err b) P Q f h = f b h

-- a valuation that is unfit has room
pub tells : (domains : List Domain) (m : Graph) (values : List Assigned) (had : ℕ) (why : WriteFault) → length_of domains m values ≤ had → IsUnfit domains m values why → Tells domains m values had why
tells domains m values had (NoRoom needed room) fits u = absurd u.refuses
tells domains m values had (Unsatisfied field reason) fits u = (fits, u)
tells domains m values had (Unused field) fits u = (fits, u)

pub not_no_room : (domains : List Domain) (m : Graph) (values : List Assigned) (needed had : ℕ) (why : WriteFault) → why ≡ NoRoom needed had → IsUnfit domains m values why → ⊥
not_no_room domains m values needed had why is u = let v = subst (IsUnfit domains m values) is u in v.refuses
