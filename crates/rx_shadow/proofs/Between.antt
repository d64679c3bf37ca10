-- A whole number between lower and upper bounds, where of each two bounds one has the coefficient 1.
use Rattle.std.proofs.Common.{◌≡◌, sym, subst, ℕ, ◌<◌, List, [], ◌∷◌, ℤ, pos, ◌*ℤ◌, ◌≤ℤ◌, inl, inr, ◌⊎◌, arith}
use Rattle.std.proofs.lemmas.Int.{ints, by_lt_z}
use Rattle.rx_linear.specs.Divisors.{divided_up}
use Rattle.rx_model.proofs.Ring.{times_le}
use Rattle.rx_linear.proofs.Divisors.{divided_up_least, divided_up_enough}

-- `l ≤ a v` as a lower bound of v, and `a v ≤ u` as an upper one
pub record Bound : Type 0 where
  pub times : ℕ
  pub number : ℤ

abbrev pub EachBelow : ℤ → List Bound → Type 0
EachBelow v [] = Unit {0}
EachBelow v (b ∷ bs) = (b.number ≤ℤ (pos b.times *ℤ v)) × EachBelow v bs

abbrev pub EachAbove : ℤ → List Bound → Type 0
EachAbove v [] = Unit {0}
EachAbove v (b ∷ bs) = ((pos b.times *ℤ v) ≤ℤ b.number) × EachAbove v bs

-- an exact pair: one coefficient is 1, and the combination of the two is true
pub record ExactPair (low high : Bound) : Type 0 where
  pub low_positive : 0 < low.times
  pub high_positive : 0 < high.times
  pub one : (low.times ≡ 1) ⊎ (high.times ≡ 1)
  pub combination : (pos high.times *ℤ low.number) ≤ℤ (pos low.times *ℤ high.number)

abbrev pub ExactWith : Bound → List Bound → Type 0
ExactWith low [] = Unit {0}
ExactWith low (high ∷ highs) = ExactPair low high × ExactWith low highs

abbrev pub EachExact : List Bound → List Bound → Type 0
EachExact [] highs = Unit {0}
EachExact (low ∷ lows) highs = ((0 < low.times) × ExactWith low highs) × EachExact lows highs

first_one : (a b : ℕ) (l u : ℤ) → a ≡ 1 → (pos b *ℤ l) ≤ℤ (pos a *ℤ u) → (pos b *ℤ divided_up l a) ≤ℤ u
first_one a b l u e h =
    let P : ℕ → Type 0 = λ n. (pos b *ℤ divided_up l n) ≤ℤ u in
    let k : (pos b *ℤ l) ≤ℤ (pos 1 *ℤ u) = subst (λ (n : ℕ). (pos b *ℤ l) ≤ℤ (pos n *ℤ u)) e h in
    let d : divided_up l 1 ≤ℤ l = divided_up_least l l 1 (omega arith) (omega (arith, ints)) in
    let t = times_le (pos b) (divided_up l 1) l (omega (arith, ints)) d in
    subst P (sym e) (omega (arith, ints, k, t))

second_one : (a b : ℕ) (l u : ℤ) → 0 < a → b ≡ 1 → (pos b *ℤ l) ≤ℤ (pos a *ℤ u) → (pos b *ℤ divided_up l a) ≤ℤ u
second_one a b l u p e h =
    let P : ℕ → Type 0 = λ n. (pos n *ℤ divided_up l a) ≤ℤ u in
    let k : (pos 1 *ℤ l) ≤ℤ (pos a *ℤ u) = subst (λ (n : ℕ). (pos n *ℤ l) ≤ℤ (pos a *ℤ u)) e h in
    let d : divided_up l a ≤ℤ u = divided_up_least l u a p (omega (arith, ints, k)) in
    subst P (sym e) (omega (arith, ints, d))

pair_above : (low high : Bound) → ExactPair low high → (pos high.times *ℤ divided_up low.number low.times) ≤ℤ high.number
pair_above low high p =
    elim p.one [
      | inl e ↦ first_one low.times high.times low.number high.number e p.combination
      | inr e ↦ second_one low.times high.times low.number high.number p.low_positive e p.combination
    ]

all_above : (low : Bound) (highs : List Bound) → ExactWith low highs → EachAbove (divided_up low.number low.times) highs
all_above low [] p = tt
all_above low (high ∷ highs) p = (pair_above low high p.0, all_above low highs p.1)

grows : (v w : ℤ) (lows : List Bound) → v ≤ℤ w → EachBelow v lows → EachBelow w lows
grows v w [] h b = tt
grows v w (low ∷ lows) h b =
    ((let n : pos 0 ≤ℤ pos low.times = omega (arith, ints) in let t = times_le (pos low.times) v w n h in omega (arith, ints, b.0)), grows v w lows h b.1)

-- some whole number lies between them
pub between : (low : Bound) (lows highs : List Bound) → EachExact (low ∷ lows) highs → (v : ℤ) × EachBelow v (low ∷ lows) × EachAbove v highs
between low [] highs e = (divided_up low.number low.times, (divided_up_enough low.number low.times e.0.0, tt), all_above low highs e.0.1)
between low (next ∷ lows) highs e = choose (between next lows highs e.1)
  where
    choose : (v : ℤ) × EachBelow v (next ∷ lows) × EachAbove v highs → (v : ℤ) × EachBelow v (low ∷ next ∷ lows) × EachAbove v highs
    choose r =
        by_lt_z r.0 (divided_up low.number low.times)
        (λ l. (divided_up low.number low.times, (divided_up_enough low.number low.times e.0.0, grows r.0 (divided_up low.number low.times) (next ∷ lows) (let le : r.0 ≤ℤ divided_up low.number low.times = omega (arith, ints, l) in le) r.1), all_above low highs e.0.1))
        (λ g. (r.0, ((grows (divided_up low.number low.times) r.0 (low ∷ []) g (divided_up_enough low.number low.times e.0.0, tt)).0, r.1), r.2))
