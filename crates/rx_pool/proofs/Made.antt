-- A region just made.
use Rattle.std.proofs.Common.{◌≡◌, ℕ, suc, zero, ◌+◌, ◌-◌, ◌<◌, ◌≤◌, List, [], ◌∷◌, ◌++◌, length, map, replicate, refl, sym, ap, subst, ◌∙◌, arith, Vec, vec_capacity, inl, inr}
use Rattle.std.specs.Global.{Global}
use Rattle.std.specs.Prelude.{All}
use Rattle.std.proofs.lemmas.Bool.{cases_lt}
use Rattle.std.proofs.lemmas.Bool.Decides.{eqb_tells}
use Rattle.std.proofs.lemmas.List.{length-map, length-replicate, map-append, replicate_more}
use Rattle.std.proofs.lemmas.List.Elements.{All-append, All-replicate}
use Rattle.rx_pool.specs.Pool.{times}
use Rattle.rx_pool.specs.Rooms.{written, capacities, padded, IsKept}
use Rattle.rx_pool.proofs.Numbers.{times-last, times-other}

-- nothing was written yet
pub padded_empty : (size count : ℕ) → map (padded size) (replicate count []) ≡ replicate count (replicate size 0)
padded_empty size zero = refl
padded_empty size (suc count) =
    let all : size - 0 ≡ size = omega arith in
    ap (λ (ss : List (List ℕ)). padded size [] ∷ ss) (padded_empty size count) ∙ ap (λ k. replicate k 0 ∷ replicate count (replicate size 0)) all

-- one more room is reserved
pub rooms-more : (rooms : List (Vec ℕ Global)) (room : Vec ℕ Global) (count : ℕ) → room.items ≡ [] → written rooms ≡ replicate count [] → written (rooms ++ room ∷ []) ≡ replicate (count + 1) []
rooms-more rooms room count e h = map-append (λ (v : Vec ℕ Global). v.items) rooms (room ∷ []) ∙ ap (λ bs. bs ++ room.items ∷ []) h ∙ ap (λ b. replicate count [] ++ b ∷ []) e ∙ replicate_more count []

pub reserved-more : (size : ℕ) (rooms : List (Vec ℕ Global)) (room : Vec ℕ Global) → size ≤ vec_capacity room → All (λ c. size ≤ c) (capacities rooms) → All (λ c. size ≤ c) (capacities (rooms ++ room ∷ []))
reserved-more size rooms room c h = subst (All (λ k. size ≤ k)) (sym (map-append vec_capacity rooms (room ∷ []))) (All-append (λ k. size ≤ k) (capacities rooms) (vec_capacity room ∷ []) h (All-replicate (λ k. size ≤ k) 1 (vec_capacity room) c))

-- and its number is free
pub free-more : (free : List ℕ) (count : ℕ) → ((n : ℕ) → n < count → times n free ≡ 1) → ((n : ℕ) → count ≤ n → times n free ≡ 0) → (n : ℕ) → n < count + 1 → times n (free ++ count ∷ []) ≡ 1
free-more free count all none n l = elim (eqb_tells n count) [
  | inl e ↦ rw e.1 (omega (arith, times-last count free, none count (omega arith)))
  | inr e ↦ times-other n count free e.1 ∙ all n (omega (arith, l, e.1))
]

pub none-more : (free : List ℕ) (count : ℕ) → ((n : ℕ) → count ≤ n → times n free ≡ 0) → (n : ℕ) → count + 1 ≤ n → times n (free ++ count ∷ []) ≡ 0
none-more free count none n l = times-other n count free (λ e. omega (arith, e, l)) ∙ none n (omega (arith, l))

-- a region whose slots are all free
pub kept_new : (size count : ℕ) (rooms : List (List ℕ)) (free : List ℕ) → 0 < size → rooms ≡ replicate count [] → ((n : ℕ) → n < count → times n free ≡ 1) → ((n : ℕ) → count ≤ n → times n free ≡ 0) → IsKept size rooms free
kept_new size count rooms free some e all none =
    let slots : map (padded size) rooms ≡ replicate count (replicate size 0) = ap (map (padded size)) e ∙ padded_empty size count in
    let long : length rooms ≡ count = ap length e ∙ length-replicate {A = List ℕ} count [] in
    record {
      pool = record {
        some = some;
        slots_only = λ n l. none n (rw long at l);
        once = λ n. elim (cases_lt n count) [ inl l ↦ omega (arith, all n l) | inr l ↦ omega (arith, none n l) ];
        every = length-map rooms (padded size);
        whole = subst (All (λ bytes. length bytes ≡ size)) (sym slots) (All-replicate (λ bytes. length bytes ≡ size) count (replicate size 0) (length-replicate {A = ℕ} size 0));
      };
      filled = λ n out. absurd (omega (arith, out.1, all n (rw long at out.0)));
    }
