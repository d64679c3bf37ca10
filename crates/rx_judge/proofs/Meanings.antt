-- Meanings step by step.
use Rattle.std.proofs.Common.{◌≡◌, refl, Bool, true, false, not, Result, Ok, Err}
use Rattle.std.specs.Prelude.{if◌then◌else◌}
use Rattle.rx_judge.specs.Meaning.{Meaning, ◌>>=◌, Tells}
use Rattle.rx_judge.specs.declared.fault.Fault.{Fault}
use Rattle.rx_judge.specs.declared.fault.Fault.TheVariants.{Refused, NoMemory}

-- a refusal of the first step is one of the whole
pub first_refuses : {A B : Type 0} (e : Fault) (m : Meaning A) (f : A → Meaning B) → Tells e m → Tells e (m >>= f)
first_refuses (Refused r) m f h = rw h refl
first_refuses NoMemory m f h = tt

-- and one of a later step, where the first stands
pub then_refuses : {A B : Type 0} (e : Fault) (m : Meaning A) (a : A) (f : A → Meaning B) → m ≡ Ok a → Tells e (f a) → Tells e (m >>= f)
then_refuses (Refused r) m a f h k = rw h k
then_refuses NoMemory m a f h k = tt

-- where the first step stands, the whole is the rest
pub then_stands : {A B R : Type 0} (m : Result A R) (a : A) (f : A → Result B R) (y : B) → m ≡ Ok a → f a ≡ Ok y → (m >>= f) ≡ Ok y
then_stands m a f y h k = rw h k

abbrev good : {A R : Type 0} → A → Result A R
good x = Ok x

pub err_differs : {A R : Type 0} (r : R) (y : A) → Err r ≡ Ok y → ⊥
err_differs r y h = cc

pub ok_same : {A R : Type 0} (x y : A) → good {R = R} x ≡ Ok y → x ≡ y
ok_same x y h = cc

-- both steps stand
pub bind_ok : {A B R : Type 0} (m : Result A R) (f : A → Result B R) (y : B) → (m >>= f) ≡ Ok y → (x : A) × (m ≡ Ok x) × (f x ≡ Ok y)
bind_ok (Ok x) f y h = (x, refl, h)
bind_ok (Err r) f y h = absurd (err_differs r y h)

pub if_ok : {A R : Type 0} (b : Bool) (x y : A) (r : R) → (if b then Ok x else Err r) ≡ Ok y → (b ≡ true) × (x ≡ y)
if_ok true x y r h = (refl, ok_same x y h)
if_ok false x y r h = absurd (err_differs r y h)

pub unless_ok : {A R : Type 0} (b : Bool) (m : Result A R) (y : A) (r : R) → (if not b then Err r else m) ≡ Ok y → (b ≡ true) × (m ≡ Ok y)
unless_ok true m y r h = (refl, h)
unless_ok false m y r h = absurd (err_differs r y h)
