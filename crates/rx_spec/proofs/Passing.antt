-- Packages in turn, one after the other, and what is told of one.
use Rattle.std.proofs.Common.{◌≡◌, ◌∙◌, refl, ℕ, ◌+◌, ◌<◌, ◌≤◌, List, length, get_or, drop, Result, Ok}
use Rattle.std.proofs.lemmas.List.{at_drop_more, at_drop_all}
use Rattle.rx_judge.specs.Meaning.{Meaning, ◌>>=◌, Tells, all_stand_from}
use Rattle.rx_judge.specs.declared.fault.Fault.{Fault}
use Rattle.rx_judge.specs.declared.fault.Fault.TheVariants as fault
use Rattle.rx_judge.proofs.Each.{Standing}
use Rattle.rx_spec.specs.Elaboration.{Told, in_package, through_from, TellsOf}
use Rattle.rx_spec.specs.Kept.{fault_in}
use Rattle.rx_spec.specs.declared.fault.ElabFault.{ElabFault}
use Rattle.rx_spec.specs.declared.fault.ElabFault.TheVariants.{Refused, NoMemory}

-- what a fault tells of a meaning, the package's fault tells of that of the package
pub tells_in : {A : Type 0} (i : ℕ) (e : Fault) (m : Meaning A) → Tells e m → TellsOf (fault_in i e) (in_package i m)
tells_in i (fault.Refused r) m h = rw h refl
tells_in i fault.NoMemory m h = tt

-- what stands, stands in its package
pub stands_in : {A : Type 0} (i : ℕ) (m : Meaning A) (x : A) → m ≡ Ok x → in_package i m ≡ Ok x
stands_in i m x h = rw h refl

-- a refusal of the first step is one of the whole, and so is one of a later step, where the first stands
pub first_tells : {A B : Type 0} (e : ElabFault) (m : Result A Told) (f : A → Result B Told) → TellsOf e m → TellsOf e (m >>= f)
first_tells (Refused at r) m f h = rw h refl
first_tells NoMemory m f h = tt

pub then_tells : {A B : Type 0} (e : ElabFault) (m : Result A Told) (a : A) (f : A → Result B Told) → m ≡ Ok a → TellsOf e (f a) → TellsOf e (m >>= f)
then_tells (Refused at r) m a f h k = rw h k
then_tells NoMemory m a f h k = tt

-- ---- packages that only stand or are refused

pub standing_tells : {A : Type 0} {f : ℕ → A → Result (Unit {0}) Told} {xs : List A} {i : ℕ} (x : A) (e : ElabFault) → Standing f xs i → i < length xs → x ≡ get_or xs i x → TellsOf e (f i x) → TellsOf e (all_stand_from f 0 xs)
standing_tells {f = f} {xs = xs} {i = i} x (Refused at r) s h e k =
    let p = at_drop_more (λ zs. all_stand_from f i zs) xs i x h in
    s.rest ∙ p ∙ rw (← e, k) refl
standing_tells x NoMemory s h e k = tt

-- ---- packages with what is known of those before

-- after the first i items, s is known
pub record Passing {A S R : Type 0} (f : ℕ → S → A → Result S R) (start : S) (xs : List A) (i : ℕ) (s : S) : Type 0 where
  pub rest : through_from f 0 start xs ≡ through_from f i s (drop i xs)

pub passing_start : {A S R : Type 0} (f : ℕ → S → A → Result S R) (s t : S) (xs : List A) → t ≡ s → Passing f s xs 0 t
passing_start f s t xs e = rw e (record { rest = refl })

pub passes_on : {A S R : Type 0} {f : ℕ → S → A → Result S R} {start : S} {xs : List A} {i : ℕ} {s : S} (x : A) (t : S) → Passing f start xs i s → i < length xs → x ≡ get_or xs i x → f i s x ≡ Ok t → Passing f start xs (i + 1) t
passes_on {f = f} {xs = xs} {i = i} {s = s} x t g h e k =
    let p = at_drop_more (λ zs. through_from f i s zs) xs i x h in
    record { rest = g.rest ∙ p ∙ rw (← e, k) refl }

pub passing_tells : {A S : Type 0} {f : ℕ → S → A → Result S Told} {start : S} {xs : List A} {i : ℕ} {s : S} (x : A) (e : ElabFault) → Passing f start xs i s → i < length xs → x ≡ get_or xs i x → TellsOf e (f i s x) → TellsOf e (through_from f 0 start xs)
passing_tells {f = f} {xs = xs} {i = i} {s = s} x (Refused at r) g h e k =
    let p = at_drop_more (λ zs. through_from f i s zs) xs i x h in
    g.rest ∙ p ∙ rw (← e, k) refl
passing_tells x NoMemory g h e k = tt

pub passing_ends : {A S R : Type 0} {f : ℕ → S → A → Result S R} {start : S} {xs : List A} {i : ℕ} {s : S} → Passing f start xs i s → length xs ≤ i → through_from f 0 start xs ≡ Ok s
passing_ends {f = f} {xs = xs} {i = i} {s = s} g h = g.rest ∙ at_drop_all (λ zs. through_from f i s zs) xs i h
