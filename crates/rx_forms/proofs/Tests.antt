-- Conjunctions of tests.
use Rattle.std.proofs.Common.{◌≡◌, refl, Bool, true, false, ◌&&◌}

pub both : {a b : Bool} → (a && b) ≡ true → (a ≡ true) × (b ≡ true)
both {a = true} {b = b} e = (refl, e)
both {a = false} {b = b} e = absurd (cc)

pub and_true : {a b : Bool} → a ≡ true → b ≡ true → (a && b) ≡ true
and_true {a = true} {b = b} p q = q
and_true {a = false} {b = b} p q = p
