-- The rooms of a region: what is lent of one, what is written to it, and that a number fits that is given back.
use Rattle.std.proofs.Common.{◌≡◌, ℕ, suc, ◌-◌, ◌<◌, ◌≤◌, List, [], ◌∷◌, ◌++◌, length, replicate, get_or, set, take, drop, sym, ap, subst, ◌∙◌, arith, length-append, vec_capacity, Vec}
use Rattle.std.specs.Global.{Global}
use Rattle.std.specs.Vec.{with_items}
use Rattle.std.proofs.lemmas.List.{append_assoc, length-map, map-set, get_or-map}
use Rattle.rx_pool.specs.Pool.{IsOut, slot_of, with_slot, overwritten}
use Rattle.rx_pool.specs.Rooms.{written, capacities, padded, pool_of, IsKept, IsReserved}
use Rattle.rx_pool.proofs.Numbers.{fewer}
use Rattle.rx_pool.proofs.Slots.{slot_is, pool_set, kept_set, reserved_set}

-- one more zero is written
pub padded-more : (size : ℕ) (bytes : List ℕ) → length bytes < size → padded size (bytes ++ 0 ∷ []) ≡ padded size bytes
padded-more size bytes h =
    let left : size - length bytes ≡ suc (size - length (bytes ++ 0 ∷ [])) = omega (arith, length-append bytes (0 ∷ []), h) in
    rw left (append_assoc bytes (0 ∷ []) (replicate (size - length (bytes ++ 0 ∷ [])) 0))

-- every slot has a room
pub is_placed : (size : ℕ) (rooms : List (Vec ℕ Global)) (free : List ℕ) (n : ℕ) → IsOut (pool_of size (written rooms) free) n → n < length rooms
is_placed size rooms free n out = omega (arith, out.0, length-map rooms (λ (room : Vec ℕ Global). room.items))

-- the bytes of a slot that is out are those of its room
pub bytes_are : (size : ℕ) (rooms : List (Vec ℕ Global)) (free : List ℕ) (n : ℕ) (room : Vec ℕ Global) → IsKept size (written rooms) free → IsOut (pool_of size (written rooms) free) n → room ≡ get_or rooms n room → slot_of (pool_of size (written rooms) free) n ≡ room.items
bytes_are size rooms free n room k out e = slot_is size (written rooms) free n k out ∙ get_or-map (λ (r : Vec ℕ Global). r.items) rooms n room [] (is_placed size rooms free n out) ∙ sym (ap (λ (r : Vec ℕ Global). r.items) e)

pub length_is : (size : ℕ) (rooms : List (Vec ℕ Global)) (free : List ℕ) (n : ℕ) (room : Vec ℕ Global) → IsKept size (written rooms) free → IsOut (pool_of size (written rooms) free) n → room ≡ get_or rooms n room → length room.items ≡ size
length_is size rooms free n room k out e = ap length (sym (bytes_are size rooms free n room k out e) ∙ slot_is size (written rooms) free n k out) ∙ k.filled n out

-- a room can take its slot
pub capacity_is : (size : ℕ) (rooms : List (Vec ℕ Global)) (numbers n : ℕ) (room : Vec ℕ Global) → IsReserved size (capacities rooms) numbers → n < length rooms → room ≡ get_or rooms n room → size ≤ vec_capacity room
capacity_is size rooms numbers n room r l e =
    let at_n = rw (get_or-map vec_capacity rooms n room 0 l) at (r.bytes n 0 (rw (length-map rooms vec_capacity) l)) in
    subst (λ (v : Vec ℕ Global). size ≤ vec_capacity v) (sym e) at_n

-- a room that is written whole
pub kept_room : (size : ℕ) (rooms : List (Vec ℕ Global)) (free : List ℕ) (numbers n : ℕ) (room : Vec ℕ Global) → length room.items ≡ size → size ≤ vec_capacity room → n < length rooms → IsKept size (written rooms) free → IsReserved size (capacities rooms) numbers → IsKept size (written (set rooms n room)) free × IsReserved size (capacities (set rooms n room)) numbers
kept_room size rooms free numbers n room e c l k r = (
  subst (λ (bs : List (List ℕ)). IsKept size bs free) (sym (map-set (λ (v : Vec ℕ Global). v.items) rooms n room)) (kept_set size (written rooms) free n room.items e (rw (length-map rooms (λ (v : Vec ℕ Global). v.items)) l) k),
  subst (λ (cs : List ℕ). IsReserved size cs numbers) (sym (map-set vec_capacity rooms n room)) (reserved_set size (capacities rooms) numbers n (vec_capacity room) c r),
)

pub pool_room : (size : ℕ) (rooms : List (Vec ℕ Global)) (free : List ℕ) (n : ℕ) (room : Vec ℕ Global) → length room.items ≡ size → pool_of size (written (set rooms n room)) free ≡ with_slot (pool_of size (written rooms) free) n room.items
pool_room size rooms free n room e = ap (λ (bs : List (List ℕ)). pool_of size bs free) (map-set (λ (v : Vec ℕ Global). v.items) rooms n room) ∙ pool_set size (written rooms) free n room.items e

-- what is written through a slice
pub length-with_items : (room : Vec ℕ Global) (others : List ℕ) → length (with_items room others).items ≡ length room.items
length-with_items room others = sym (with_items room others).ok.0 ∙ room.ok.0

pub items_written : (room : Vec ℕ Global) (others : List ℕ) → (with_items room others).items ≡ overwritten room.items others
items_written room others = ap (λ k. take k (others ++ drop (length others) room.items)) room.ok.0

-- there is room for a number that is given back
pub fits : (size : ℕ) (rooms : List (Vec ℕ Global)) (free : List ℕ) (numbers n : ℕ) → IsKept size (written rooms) free → IsReserved size (capacities rooms) numbers → IsOut (pool_of size (written rooms) free) n → length free < numbers
fits size rooms free numbers n k r out = omega (arith, fewer (pool_of size (written rooms) free) n k.pool out, r.free, length-map rooms vec_capacity, length-map rooms (λ (v : Vec ℕ Global). v.items))

pub more_reserved : (size : ℕ) (rooms : List ℕ) (a b : ℕ) → a ≤ b → IsReserved size rooms a → IsReserved size rooms b
more_reserved size rooms a b h r = record { bytes = r.bytes; free = omega (arith, r.free, h) }
