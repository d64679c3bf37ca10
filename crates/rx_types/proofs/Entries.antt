-- Entries as fields.
use Rattle.std.proofs.Common.{◌≡◌, List, [], ◌∷◌, ◌++◌, length, refl, ap, arith}
use Rattle.std.specs.List.{IsDistinct}
use Rattle.rx_types.specs.declared.env.Entry.{Entry}
use Rattle.rx_types.specs.Environment.{Placed, placed, places, AreDistinct}

pub length-places : (es : List Entry) → length (places es) ≡ length es
length-places [] = refl
length-places (e ∷ es) = omega (arith, length-places es)

pub places-append : (es fs : List Entry) → places (es ++ fs) ≡ places es ++ places fs
places-append [] fs = refl
places-append (e ∷ es) fs = ap (λ ps. placed e ∷ ps) (places-append es fs)

pub none_twice : AreDistinct []
unfolding IsDistinct
none_twice = tt

pub one_alone : (p : Placed) → AreDistinct (p ∷ [])
unfolding IsDistinct
one_alone p = (tt, tt)
