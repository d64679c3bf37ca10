-- What becomes of a region where a room is written to, or a number moves.
use Rattle.std.proofs.Common.{◌≡◌, ℕ, ◌-◌, ◌<◌, ◌≤◌, List, [], ◌∷◌, ◌++◌, length, map, replicate, get_or, set, refl, sym, ap, subst, ◌∙◌, arith, length-append, length-set, inl, inr}
use Rattle.std.proofs.lemmas.Bool.{cases_lt}
use Rattle.std.proofs.lemmas.Bool.Decides.{eqb_tells}
use Rattle.std.proofs.lemmas.List.{append-nil, length-replicate, length-map, map-set, get_or-map, get_or-set_same, get_or-set_other}
use Rattle.std.proofs.lemmas.List.Elements.{All-set}
use Rattle.std.proofs.Math.Seq.{map-set_same}
use Rattle.rx_pool.specs.Pool.{Pool, IsOut, IsPool, slot_of, with_slot}
use Rattle.rx_pool.specs.Rooms.{padded, pool_of, IsKept, IsReserved}
use Rattle.rx_pool.proofs.Numbers.{times-append, times-last, times-other}

-- nothing is padded where all is written
pub padded_whole : (size : ℕ) (bytes : List ℕ) → length bytes ≡ size → padded size bytes ≡ bytes
padded_whole size bytes h =
    let none : size - length bytes ≡ 0 = omega (arith, h) in
    rw none (append-nil bytes)

-- where no more than its size was written, a slot has just its size
pub length-padded : (size : ℕ) (bytes : List ℕ) → length bytes ≤ size → length (padded size bytes) ≡ size
length-padded size bytes h = omega (arith, length-append bytes (replicate (size - length bytes) 0), length-replicate {A = ℕ} (size - length bytes) 0, h)

-- no room has more than the size
pub within : (size : ℕ) (rooms : List (List ℕ)) (free : List ℕ) (n : ℕ) → IsPool (pool_of size rooms free) → n < length rooms → length (get_or rooms n []) ≤ size
within size rooms free n h l =
    let whole = rw (get_or-map (padded size) rooms n [] [] l) at (h.whole n [] (rw (length-map rooms (padded size)) l)) in
    omega (arith, whole, length-append (get_or rooms n []) (replicate (size - length (get_or rooms n [])) 0))

-- the bytes of a slot are those of its room, once it is filled
pub slot_is : (size : ℕ) (rooms : List (List ℕ)) (free : List ℕ) (n : ℕ) → IsKept size rooms free → IsOut (pool_of size rooms free) n → slot_of (pool_of size rooms free) n ≡ get_or rooms n []
slot_is size rooms free n k out = get_or-map (padded size) rooms n [] [] out.0 ∙ padded_whole size (get_or rooms n []) (k.filled n out)

-- a room is written whole
pub pool_set : (size : ℕ) (rooms : List (List ℕ)) (free : List ℕ) (n : ℕ) (bytes : List ℕ) → length bytes ≡ size → pool_of size (set rooms n bytes) free ≡ with_slot (pool_of size rooms free) n bytes
pool_set size rooms free n bytes h =
    let slots : map (padded size) (set rooms n bytes) ≡ set (map (padded size) rooms) n bytes = map-set (padded size) rooms n bytes ∙ ap (set (map (padded size) rooms) n) (padded_whole size bytes h) in
    ap (λ (k : ℕ). record { size = size; count = k; free = free; slots = map (padded size) (set rooms n bytes) }) (length-set rooms n bytes)
    ∙ ap (λ (ss : List (List ℕ)). record { size = size; count = length rooms; free = free; slots = ss }) slots

pool_with_slot : (p : Pool) (n : ℕ) (bytes : List ℕ) → length bytes ≡ p.size → IsPool p → IsPool (with_slot p n bytes)
pool_with_slot p n bytes e h = record {
  some = h.some;
  slots_only = h.slots_only;
  once = h.once;
  every = length-set p.slots n bytes ∙ h.every;
  whole = All-set (λ b. length b ≡ p.size) p.slots n bytes e h.whole;
}

pub kept_set : (size : ℕ) (rooms : List (List ℕ)) (free : List ℕ) (n : ℕ) (bytes : List ℕ) → length bytes ≡ size → n < length rooms → IsKept size rooms free → IsKept size (set rooms n bytes) free
kept_set size rooms free n bytes e l k = record {
  pool = subst IsPool (sym (pool_set size rooms free n bytes e)) (pool_with_slot (pool_of size rooms free) n bytes e k.pool);
  filled = λ m out. elim (eqb_tells m n) [
    | inl h ↦ rw h.1 (rw (get_or-set_same rooms n bytes [] l) e)
    | inr h ↦ rw (get_or-set_other rooms n m bytes [] h.1) (k.filled m (rw length-set at out.0, out.1))
  ];
}

pub reserved_set : (size : ℕ) (rooms : List ℕ) (numbers n capacity : ℕ) → size ≤ capacity → IsReserved size rooms numbers → IsReserved size (set rooms n capacity) numbers
reserved_set size rooms numbers n capacity h r = record { bytes = All-set (λ c. size ≤ c) rooms n capacity h r.bytes; free = rw length-set r.free }

-- a room is filled
pub same_filled : (size : ℕ) (rooms : List (List ℕ)) (n : ℕ) → length (get_or rooms n []) ≤ size → map (padded size) (set rooms n (padded size (get_or rooms n []))) ≡ map (padded size) rooms
same_filled size rooms n h =
    let bytes = get_or rooms n [] in
    map-set_same (padded size) rooms n (padded size bytes) [] (padded_whole size (padded size bytes) (length-padded size bytes h))

-- a number that is free is that of a room
pub is_room : (size : ℕ) (rooms : List (List ℕ)) (rest : List ℕ) (n : ℕ) → IsKept size rooms (rest ++ n ∷ []) → n < length rooms
is_room size rooms rest n k = elim (cases_lt n (length rooms)) [
  | inl l ↦ l
  | inr l ↦ absurd (omega (arith, times-last n rest, k.pool.slots_only n l))
]

pool_taken : (p : Pool) (rest : List ℕ) (n : ℕ) → p.free ≡ rest ++ n ∷ [] → IsPool p → IsPool (record { size = p.size; count = p.count; free = rest; slots = p.slots })
pool_taken p rest n e h = record {
  some = h.some;
  slots_only = λ m l. omega (arith, times-append m rest (n ∷ []), rw e at (h.slots_only m l));
  once = λ m. omega (arith, times-append m rest (n ∷ []), rw e at (h.once m));
  every = h.every;
  whole = h.whole;
}

-- a number is taken, and its room filled
pub kept_taken : (size : ℕ) (rooms : List (List ℕ)) (rest : List ℕ) (n : ℕ) → IsKept size rooms (rest ++ n ∷ []) → IsKept size (set rooms n (padded size (get_or rooms n []))) rest
kept_taken size rooms rest n k =
    let l = is_room size rooms rest n k in
    let bytes = padded size (get_or rooms n []) in
    let short = within size rooms (rest ++ n ∷ []) n k.pool l in
    let slots = same_filled size rooms n short in
    record {
      pool = subst (λ (c : ℕ). IsPool (record { size = size; count = c; free = rest; slots = map (padded size) (set rooms n bytes) })) (sym (length-set rooms n bytes))
          (subst (λ (ss : List (List ℕ)). IsPool (record { size = size; count = length rooms; free = rest; slots = ss })) (sym slots) (pool_taken (pool_of size rooms (rest ++ n ∷ [])) rest n refl k.pool));
      filled = λ m out. elim (eqb_tells m n) [
        | inl h ↦ rw h.1 (rw (get_or-set_same rooms n bytes [] l) (length-padded size (get_or rooms n []) short))
        | inr h ↦ rw (get_or-set_other rooms n m bytes [] h.1) (k.filled m (rw length-set at out.0, times-other m n rest h.1 ∙ out.1))
      ];
    }

-- a number is given back
pub kept_given : (size : ℕ) (rooms : List (List ℕ)) (free : List ℕ) (n : ℕ) → IsOut (pool_of size rooms free) n → IsKept size rooms free → IsKept size rooms (free ++ n ∷ [])
kept_given size rooms free n out k = record {
  pool = record {
    some = k.pool.some;
    slots_only = λ m l. times-other m n free (λ e. omega (arith, e, l, out.0)) ∙ k.pool.slots_only m l;
    once = λ m. elim (eqb_tells m n) [
      | inl e ↦ rw e.1 (omega (arith, times-last n free, out.1))
      | inr e ↦ rw (times-other m n free e.1) (k.pool.once m)
    ];
    every = k.pool.every;
    whole = k.pool.whole;
  };
  filled = λ m gone. k.filled m (gone.0, omega (arith, times-append m free (n ∷ []), gone.1));
}
