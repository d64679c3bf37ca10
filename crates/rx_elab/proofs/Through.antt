-- Items in turn, one after the other.
use Rattle.std.proofs.Common.{◌≡◌, ◌∙◌, refl, ℕ, ◌+◌, ◌<◌, ◌≤◌, List, [], ◌∷◌, length, get_or, drop, Result, Ok, Err}
use Rattle.std.proofs.lemmas.List.{at_drop_more, at_drop_all}
use Rattle.rx_judge.specs.Meaning.{Meaning, ◌>>=◌, Tells}
use Rattle.rx_judge.specs.declared.fault.Fault.{Fault}
use Rattle.rx_judge.specs.declared.fault.Fault.TheVariants.{Refused, NoMemory}
use Rattle.rx_elab.specs.Through.{through}

-- after the first i items, s is known
pub record Going {A S R : Type 0} (f : S → A → Result S R) (start : S) (xs : List A) (i : ℕ) (s : S) : Type 0 where
  pub rest : through f start xs ≡ through f s (drop i xs)

pub going_start : {A S R : Type 0} (f : S → A → Result S R) (s : S) (xs : List A) → Going f s xs 0 s
going_start f s xs = record { rest = refl }

pub goes_on : {A S R : Type 0} {f : S → A → Result S R} {start : S} {xs : List A} {i : ℕ} {s : S} (x : A) (t : S) → Going f start xs i s → i < length xs → x ≡ get_or xs i x → f s x ≡ Ok t → Going f start xs (i + 1) t
goes_on {f = f} {xs = xs} {i = i} {s = s} x t g h e k =
    let p = at_drop_more (λ zs. through f s zs) xs i x h in
    record { rest = g.rest ∙ p ∙ rw (← e, k) refl }

pub going_refuses : {A S : Type 0} {f : S → A → Meaning S} {start : S} {xs : List A} {i : ℕ} {s : S} (x : A) (e : Fault) → Going f start xs i s → i < length xs → x ≡ get_or xs i x → Tells e (f s x) → Tells e (through f start xs)
going_refuses {f = f} {xs = xs} {i = i} {s = s} x (Refused r) g h e k =
    let p = at_drop_more (λ zs. through f s zs) xs i x h in
    g.rest ∙ p ∙ rw (← e, k) refl
going_refuses x NoMemory g h e k = tt

pub going_ends : {A S R : Type 0} {f : S → A → Result S R} {start : S} {xs : List A} {i : ℕ} {s : S} → Going f start xs i s → length xs ≤ i → through f start xs ≡ Ok s
going_ends {f = f} {xs = xs} {i = i} {s = s} g h = g.rest ∙ at_drop_all (λ zs. through f s zs) xs i h
