-- Meanings: a value, or the refusal that comes first.
--   m >>= f                      first m, then f of its value
--   refused, refused_at          a refusal at a place, or at a name
--   Tells e m                    the fault is the meaning's refusal, or want of memory
--   each_from f n xs             the meanings of all items, in order; item i is f (n + i)
--   all_stand_from f n xs        the same of items that only stand or are refused
use Rattle.std.specs.Prelude.{◌≡◌, ℕ, ◌+◌, List, [], ◌∷◌, Some, Result, Ok, Err, Bool, if◌then◌else◌}
use Rattle.rx_syntax.specs.declared.token.Place.{Place}
use Rattle.rx_syntax.specs.declared.rule.Rule.{Rule}
use Rattle.rx_syntax.specs.declared.rule.Refusal.{Refusal}
use Rattle.rx_syntax.specs.declared.tree.Named.{Named}
use Rattle.rx_syntax.specs.declared.rule.Rule.TheVariants as rule
use Rattle.rx_judge.specs.declared.fault.Fault.{Fault}
use Rattle.rx_judge.specs.declared.fault.Fault.TheVariants.{Refused, NoMemory}

-- a value, or the refusal that comes first
abbrev pub Meaning : Type 0 → Type 0
Meaning A = Result A Refusal

infixl 10 ◌>>=◌
abbrev pub ◌>>=◌ : {A B R : Type 0} → Result A R → (A → Result B R) → Result B R
Ok a >>= f = f a
Err r >>= f = Err r

-- refused at a place, where the name is that of what stands around it
abbrev pub refused : {A : Type 0} → Rule → Place → List ℕ → Meaning A
refused r place owner = Err (record { rule = r; place = place; word = Some owner })

-- refused at a name
abbrev pub refused_at : {A : Type 0} → Rule → Named → Meaning A
refused_at r name = refused r name.place name.word

-- the value where the test holds, else this refusal
abbrev pub stands_if : Bool → Refusal → Meaning (Unit {0})
stands_if b r = if b then Ok tt else Err r

-- the fault tells the refusal, unless memory ran out
abbrev pub Tells : {A : Type 0} → Fault → Meaning A → Type 0
Tells (Refused r) m = m ≡ Err r
Tells NoMemory m = Unit {0}

-- each item's meaning, in order; items are numbered
abbrev pub each_from : {A B R : Type 0} → (ℕ → A → Result B R) → ℕ → List A → Result (List B) R
each_from f n [] = Ok []
each_from f n (x ∷ xs) = do
  y ← f n x
  ys ← each_from f (n + 1) xs
  Ok (y ∷ ys)

-- whether each item stands, in order; items are numbered
abbrev pub all_stand_from : {A R : Type 0} → (ℕ → A → Result (Unit {0}) R) → ℕ → List A → Result (Unit {0}) R
all_stand_from f n [] = Ok tt
all_stand_from f n (x ∷ xs) = f n x >>= (λ u. all_stand_from f (n + 1) xs)
