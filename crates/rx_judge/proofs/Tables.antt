-- Tables of names as lists of entries.
use Rattle.std.proofs.Common.{◌≡◌, ◌∙◌, ap, refl, ℕ, Bool, true, false, not, cond, ◌&&◌, ◌||◌, List, [], ◌∷◌, ◌++◌, Option, None, Some, is_some}
use Rattle.std.specs.Prelude.{find, if◌then◌else◌}
use Rattle.std.specs.Map.{lookup}
use Rattle.std.specs.Option.{option_map}
use Rattle.std.specs.Str.{bytes_eq}
use Rattle.std.proofs.lemmas.List.{map-append}
use Rattle.rx_judge.specs.Table.{Entry, entry, entry_of, entries_of, is_entry, IsKeyOf, lowered, found, has, added}
use Rattle.rx_judge.specs.declared.table.Key.{Key}

-- the test by which a key is looked up
abbrev pub is_key : Key → Key → Bool
is_key k j = bytes_eq k.«package».items j.«package».items && bytes_eq k.name.items j.name.items

same_test : {A : Type 0} (k : Key) (e : Key × A) (p w : List ℕ) → IsKeyOf k p w → is_key k e.0 ≡ is_entry p w (entry_of e)
same_test k e p w h =
    ap (λ z. bytes_eq z e.0.«package».items && bytes_eq k.name.items e.0.name.items) h.«package» ∙ ap (λ z. bytes_eq (lowered p) e.0.«package».items && bytes_eq z e.0.name.items) h.name

pick : {A : Type 0} (b : Bool) (e : Entry A) (rest : Option A) (others : Option (Entry A)) → rest ≡ option_map (λ (x : Entry A). x.thing) others → cond b (Some e.thing) rest ≡ option_map (λ (x : Entry A). x.thing) (if b then Some e else others)
pick true e rest others h = refl
pick false e rest others h = h

pub lookup_found : {A : Type 0} (es : List (Key × A)) (k : Key) (p w : List ℕ) → IsKeyOf k p w → lookup (is_key k) es ≡ found (entries_of es) p w
lookup_found [] k p w h = refl
lookup_found (e ∷ es) k p w h =
    ap (λ b. cond b (Some e.1) (lookup (is_key k) es)) (same_test k e p w h) ∙ pick (is_entry p w (entry_of e)) (entry_of e) (lookup (is_key k) es) (find (is_entry p w) (entries_of es)) (lookup_found es k p w h)

any_pick : {A : Type 0} (b : Bool) (e : A) (rest : Option A) (others : Bool) → is_some rest ≡ others → is_some (cond b (Some e) rest) ≡ (b || others)
any_pick true e rest others h = refl
any_pick false e rest others h = h

pub lookup_has : {A : Type 0} (es : List (Key × A)) (k : Key) (p w : List ℕ) → IsKeyOf k p w → is_some (lookup (is_key k) es) ≡ has (entries_of es) p w
lookup_has [] k p w h = refl
lookup_has (e ∷ es) k p w h =
    ap (λ b. is_some (cond b (Some e.1) (lookup (is_key k) es))) (same_test k e p w h) ∙ any_pick (is_entry p w (entry_of e)) e.1 (lookup (is_key k) es) (has (entries_of es) p w) (lookup_has es k p w h)

one_entry : {A : Type 0} (k : Key) (p w : List ℕ) (x : A) → IsKeyOf k p w → entry_of (k, x) ≡ entry p w x
one_entry k p w x h = rw (h.«package», h.name) refl

pub pushed : {A : Type 0} (es next : List (Key × A)) (k : Key) (p w : List ℕ) (x : A) → IsKeyOf k p w → next ≡ es ++ (k, x) ∷ [] → has (entries_of es) p w ≡ false → entries_of next ≡ added (entries_of es) p w x
pushed es next k p w x h e n = rw (n, e, map-append entry_of es ((k, x) ∷ []), one_entry k p w x h) refl

pub none_if : {A : Type 0} (o : Option A) → is_some o ≡ false → o ≡ None
none_if None h = refl
none_if (Some x) h = absurd (cc)

pub added_there : {A : Type 0} (t : List (Entry A)) (p w : List ℕ) (x : A) → has t p w ≡ true → t ≡ added t p w x
added_there t p w x h = rw h refl

pub not_new : (b : Bool) → b ≡ true → false ≡ not b
not_new b h = rw h refl

pub is_new : (b : Bool) → b ≡ false → true ≡ not b
is_new b h = rw h refl
