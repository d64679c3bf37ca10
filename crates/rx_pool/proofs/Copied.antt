-- A slot that has got the bytes of another.
use Rattle.std.proofs.Common.{◌≡◌, ℕ, ◌<◌, List, [], length, get_or, set, sym, ap, subst, ◌∙◌, Vec, length-set}
use Rattle.std.specs.Global.{Global}
use Rattle.std.proofs.lemmas.List.{length-map}
use Rattle.rx_pool.specs.Pool.{IsOut, slot_of, with_slot}
use Rattle.rx_pool.specs.Rooms.{written, pool_of, IsKept}
use Rattle.rx_pool.proofs.Slots.{slot_is, pool_set, kept_set}
use Rattle.rx_pool.proofs.Written.{is_placed}

pub same_length : (old new : List (Vec ℕ Global)) (n : ℕ) (bytes : List ℕ) → written new ≡ set (written old) n bytes → length new ≡ length old
same_length old new n bytes e =
    let items = λ (v : Vec ℕ Global). v.items in
    sym (length-map new items) ∙ ap length e ∙ length-set (written old) n bytes ∙ length-map old items

module _ (size : ℕ) (rooms : List (Vec ℕ Global)) (free : List ℕ) (from to : ℕ) where
  pub kept_copied : (new : List (Vec ℕ Global)) → IsOut (pool_of size (written rooms) free) from → IsOut (pool_of size (written rooms) free) to → written new ≡ set (written rooms) to (get_or (written rooms) from []) → IsKept size (written rooms) free → IsKept size (written new) free
  kept_copied new there here e k =
      let inside : to < length (written rooms) = rw (length-map rooms (λ (v : Vec ℕ Global). v.items)) (is_placed size rooms free to here) in
      subst (λ bs. IsKept size bs free) (sym e) (kept_set size (written rooms) free to (get_or (written rooms) from []) (k.filled from there) inside k)

  pub pool_copied : (new : List (Vec ℕ Global)) → IsOut (pool_of size (written rooms) free) from → written new ≡ set (written rooms) to (get_or (written rooms) from []) → IsKept size (written rooms) free → pool_of size (written new) free ≡ with_slot (pool_of size (written rooms) free) to (slot_of (pool_of size (written rooms) free) from)
  pool_copied new there e k =
      ap (λ bs. pool_of size bs free) e
      ∙ pool_set size (written rooms) free to (get_or (written rooms) from []) (k.filled from there)
      ∙ ap (with_slot (pool_of size (written rooms) free) to) (sym (slot_is size (written rooms) free from k there))
