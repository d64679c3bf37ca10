-- Texts of a list's elements, one behind the other.
use Rattle.std.proofs.Common.{◌≡◌, sym, ap, ◌∙◌, ℕ, ◌+◌, ◌<◌, List, ◌++◌, length, get_or, drop}
use Rattle.std.specs.List.{flat_map}
use Rattle.std.proofs.lemmas.List.{append_assoc, drop_more}

-- the text of one element more
pub text_more : {X : Type 0} (f : X → List ℕ) (xs : List X) (i : ℕ) (x d : X) (now new : List ℕ) → i < length xs → x ≡ get_or xs i d → new ≡ now ++ f x → new ++ flat_map f (drop (i + 1) xs) ≡ now ++ flat_map f (drop i xs)
text_more {X} f xs i x d now new within is put =
    ap (λ (t : List ℕ). t ++ flat_map f (drop (i + 1) xs)) put
    ∙ append_assoc now (f x) (flat_map f (drop (i + 1) xs))
    ∙ ap (λ (y : X). now ++ (f y ++ flat_map f (drop (i + 1) xs))) is
    ∙ sym (ap (λ (ys : List X). now ++ flat_map f ys) (drop_more xs i d within))
