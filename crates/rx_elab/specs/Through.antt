-- Items in turn, each with what is known from those before it.
use Rattle.std.specs.Prelude.{List, [], ◌∷◌, Result, Ok}
use Rattle.rx_judge.specs.Meaning.{◌>>=◌}

abbrev pub through : {A S R : Type 0} → (S → A → Result S R) → S → List A → Result S R
through f s [] = Ok s
through f s (x ∷ xs) = f s x >>= (λ t. through f t xs)
