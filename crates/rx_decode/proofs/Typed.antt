-- What stands at the place of a field, where it is known whether that is a scalar.
use Rattle.std.proofs.Common.{◌≡◌, ℕ, Bool, true, false, List, Option, Some, None, refl, sym}
use Rattle.std.specs.Prelude.{is_some}
use Rattle.rx_types.specs.Domain.{Domain}
use Rattle.rx_types.specs.Environment.{Placed}
use Rattle.rx_graph.specs.Fits.{Number, Bytes, content_at}
use Rattle.rx_decode.proofs.Contents.{clash}

pub number_there : (o : Option Domain) (low : Bool) (buffer : List ℕ) (p : Placed) (n : ℕ) → is_some o ≡ true → ((t : Domain) → o ≡ Some t → content_at low (Some t) buffer p ≡ Number n) → Number n ≡ content_at low o buffer p
number_there None low buffer p n h read = absurd (clash (sym h))
number_there (Some t) low buffer p n h read = sym (read t refl)

pub bytes_there : (o : Option Domain) (low : Bool) (buffer : List ℕ) (p : Placed) (part : List ℕ) → is_some o ≡ false → (o ≡ None → content_at low None buffer p ≡ Bytes part) → Bytes part ≡ content_at low o buffer p
bytes_there None low buffer p part h read = sym (read refl)
bytes_there (Some t) low buffer p part h read = absurd (clash h)
