-- The end of the last entry.
use Rattle.std.proofs.Common.{◌≡◌, suc, ◌-◌, List, [], ◌∷◌, length, Some, None, sym, ap, ◌∙◌, arith}
use Rattle.std.specs.Prelude.{pos, ◌+ℤ◌, slice_get}
use Rattle.rx_types.specs.declared.env.Entry.{Entry}
use Rattle.rx_types.specs.Environment.{places, end_of}

none_some : (x : Entry) → None ≡ Some x → ⊥
none_some x h = cc

some_same : (x y : Entry) → Some x ≡ Some y → x ≡ y
some_same x y h = cc

pub end_at : (es : List Entry) (x : Entry) → slice_get es (length es - 1) ≡ Some x → end_of (places es) ≡ pos x.first +ℤ pos x.size
end_at [] x h = absurd (none_some x h)
end_at (e ∷ []) x h = let same = some_same e x h in ap (λ y. pos y.first +ℤ pos y.size) same
end_at (e ∷ f ∷ es) x h =
    let n : length (e ∷ f ∷ es) - 1 ≡ suc (length (f ∷ es) - 1) = omega arith in
    end_at (f ∷ es) x (sym (ap (λ k. slice_get (e ∷ f ∷ es) k) n) ∙ h)
