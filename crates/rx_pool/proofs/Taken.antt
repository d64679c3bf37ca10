-- A number that is taken out of the free ones, and its room.
use Rattle.std.proofs.Common.{◌≡◌, ℕ, ◌<◌, ◌≤◌, List, [], ◌∷◌, ◌++◌, length, map, get_or, set, sym, ap, subst, ◌∙◌, arith, Vec, vec_capacity, length-set}
use Rattle.std.specs.Global.{Global}
use Rattle.std.proofs.lemmas.List.{length-map, map-set, get_or-map}
use Rattle.rx_pool.specs.Pool.{times, IsOut}
use Rattle.rx_pool.specs.Rooms.{written, capacities, padded, pool_of, IsKept, IsReserved}
use Rattle.rx_pool.proofs.Numbers.{times-append, times-last}
use Rattle.rx_pool.proofs.Slots.{within, is_room, kept_taken, same_filled, reserved_set}
use Rattle.rx_pool.proofs.Written.{more_reserved}

-- the rooms of a region of which the number n is taken and the numbers in rest stay free
module _ (size : ℕ) (rooms : List (Vec ℕ Global)) (free rest : List ℕ) (n : ℕ) where
  parted : free ≡ rest ++ n ∷ [] → IsKept size (written rooms) free → IsKept size (written rooms) (rest ++ n ∷ [])
  parted e k = subst (λ ns. IsKept size (written rooms) ns) e k

  pub is_placed_room : free ≡ rest ++ n ∷ [] → IsKept size (written rooms) free → n < length rooms
  is_placed_room e k = rw (length-map rooms (λ (v : Vec ℕ Global). v.items)) at (is_room size (written rooms) rest n (parted e k))

  room_is : (room : Vec ℕ Global) → free ≡ rest ++ n ∷ [] → IsKept size (written rooms) free → room ≡ get_or rooms n room → room.items ≡ get_or (written rooms) n []
  room_is room e k is = ap (λ (v : Vec ℕ Global). v.items) is ∙ sym (get_or-map (λ (v : Vec ℕ Global). v.items) rooms n room [] (is_placed_room e k))

  pub short_room : (room : Vec ℕ Global) → free ≡ rest ++ n ∷ [] → IsKept size (written rooms) free → room ≡ get_or rooms n room → length room.items ≤ size
  short_room room e k is = rw (room_is room e k is) (within size (written rooms) (rest ++ n ∷ []) n (parted e k).pool (is_room size (written rooms) rest n (parted e k)))

  now_written : (room filled : Vec ℕ Global) → free ≡ rest ++ n ∷ [] → IsKept size (written rooms) free → room ≡ get_or rooms n room → filled.items ≡ padded size room.items → written (set rooms n filled) ≡ set (written rooms) n (padded size (get_or (written rooms) n []))
  now_written room filled e k is all = map-set (λ (v : Vec ℕ Global). v.items) rooms n filled ∙ ap (set (written rooms) n) (all ∙ ap (padded size) (room_is room e k is))

  pub kept_filled : (room filled : Vec ℕ Global) → free ≡ rest ++ n ∷ [] → IsKept size (written rooms) free → room ≡ get_or rooms n room → filled.items ≡ padded size room.items → IsKept size (written (set rooms n filled)) rest
  kept_filled room filled e k is all = subst (λ bs. IsKept size bs rest) (sym (now_written room filled e k is all)) (kept_taken size (written rooms) rest n (parted e k))

  pub same_slots : (room filled : Vec ℕ Global) → free ≡ rest ++ n ∷ [] → IsKept size (written rooms) free → room ≡ get_or rooms n room → filled.items ≡ padded size room.items → map (padded size) (written (set rooms n filled)) ≡ map (padded size) (written rooms)
  same_slots room filled e k is all = ap (map (padded size)) (now_written room filled e k is all) ∙ same_filled size (written rooms) n (within size (written rooms) (rest ++ n ∷ []) n (parted e k).pool (is_room size (written rooms) rest n (parted e k)))

  pub same_count : (filled : Vec ℕ Global) → length (written (set rooms n filled)) ≡ length (written rooms)
  same_count filled = length-map (set rooms n filled) (λ (v : Vec ℕ Global). v.items) ∙ length-set rooms n filled ∙ sym (length-map rooms (λ (v : Vec ℕ Global). v.items))

  pub is_out : (filled : Vec ℕ Global) → free ≡ rest ++ n ∷ [] → IsKept size (written rooms) free → IsOut (pool_of size (written (set rooms n filled)) rest) n
  is_out filled e k = (
    omega (arith, is_placed_room e k, length-map (set rooms n filled) (λ (v : Vec ℕ Global). v.items), length-set rooms n filled),
    omega (arith, (parted e k).pool.once n, times-last n rest),
  )

  pub still_out : (filled : Vec ℕ Global) (m : ℕ) → free ≡ rest ++ n ∷ [] → IsOut (pool_of size (written rooms) free) m → IsOut (pool_of size (written (set rooms n filled)) rest) m
  still_out filled m e out = (
    omega (arith, out.0, length-map rooms (λ (v : Vec ℕ Global). v.items), length-map (set rooms n filled) (λ (v : Vec ℕ Global). v.items), length-set rooms n filled),
    omega (arith, ap (times m) e, times-append m rest (n ∷ []), out.1),
  )

pub reserved_filled : (size : ℕ) (rooms : List (Vec ℕ Global)) (before after n : ℕ) (filled : Vec ℕ Global) → size ≤ vec_capacity filled → before ≤ after → IsReserved size (capacities rooms) before → IsReserved size (capacities (set rooms n filled)) after
reserved_filled size rooms before after n filled c h r = subst (λ (cs : List ℕ). IsReserved size cs after) (sym (map-set vec_capacity rooms n filled)) (reserved_set size (capacities rooms) after n (vec_capacity filled) c (more_reserved size (capacities rooms) before after h r))
