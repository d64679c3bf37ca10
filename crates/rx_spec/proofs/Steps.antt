-- Lists whose items stand one after the other, and tables of names.
use Rattle.std.proofs.Common.{◌≡◌, ◌∙◌, ap, sym, refl, subst, ℕ, zero, suc, ◌+◌, ◌<◌, Bool, true, false, List, [], ◌∷◌, ◌++◌, length, Option, Some, Result, Ok, Err, arith}
use Rattle.std.specs.Prelude.{slice_get, find, if◌then◌else◌}
use Rattle.std.specs.List.{AllByRecursion}
use Rattle.std.specs.Option.{option_map}
use Rattle.std.proofs.lemmas.Option.{none-some, same_Some}
use Rattle.rx_judge.specs.Meaning.{◌>>=◌, each_from, all_stand_from}
use Rattle.rx_judge.specs.Table.{Entry, entry, is_entry, found, has, added}
use Rattle.rx_judge.proofs.Meanings.{bind_ok, ok_same, err_differs}

-- ---- items of lists

pub get_within : {A : Type 0} (xs : List A) (k : ℕ) → k < length xs → (x : A) × (slice_get xs k ≡ Some x)
get_within [] k h = absurd (omega arith)
get_within (x ∷ xs) zero h = (x, refl)
get_within (x ∷ xs) (suc k) h = get_within xs k (omega arith)

pub all_push : {A : Type 0} (P : A → Type 0) (xs : List A) (x : A) → AllByRecursion P xs → P x → AllByRecursion P (xs ++ x ∷ [])
all_push P [] x h k = (k, tt)
all_push P (z ∷ xs) x h k = (h.0, all_push P xs x h.1 k)

pub all_of : {A : Type 0} (P Q : A → Type 0) (xs : List A) → ((x : A) → P x → Q x) → AllByRecursion P xs → AllByRecursion Q xs
all_of P Q [] f h = tt
all_of P Q (x ∷ xs) f h = (f x h.0, all_of P Q xs f h.1)

pub all_at : {A : Type 0} (P : A → Type 0) (xs : List A) (k : ℕ) (x : A) → AllByRecursion P xs → slice_get xs k ≡ Some x → P x
all_at P [] k x h e = absurd (none-some x e)
all_at P (z ∷ xs) zero x h e = subst (λ y. P y) (same_Some z x e) h.0
all_at P (z ∷ xs) (suc k) x h e = all_at P xs k x h.1 e

-- ---- items that mean something

pub taken : {A R : Type 0} (b : Bool) (m : Result A R) (y : A) (r : R) → (if b then m else Err r) ≡ Ok y → (b ≡ true) × (m ≡ Ok y)
taken true m y r h = (refl, h)
taken false m y r h = absurd (err_differs r y h)

pub each_length : {A B R : Type 0} (f : ℕ → A → Result B R) (n : ℕ) (xs : List A) (ys : List B) → each_from f n xs ≡ Ok ys → length ys ≡ length xs
each_length f n [] ys h = ap length (sym (ok_same [] ys h))
each_length {B = B} f n (x ∷ xs) ys h =
    let one = bind_ok (f n x) (λ (y : B). each_from f (n + 1) xs >>= (λ zs. Ok (y ∷ zs))) ys h in
    let rest = bind_ok (each_from f (n + 1) xs) (λ (zs : List B). Ok (one.0 ∷ zs)) ys one.2 in
    ap length (sym (ok_same (one.0 ∷ rest.0) ys rest.2)) ∙ ap suc (each_length f (n + 1) xs rest.0 rest.1)

-- item k of the list, which is number j, means item k of the other
pub each_at : {A B R : Type 0} (f : ℕ → A → Result B R) (n : ℕ) (xs : List A) (ys : List B) (j k : ℕ) (x : A) → each_from f n xs ≡ Ok ys → slice_get xs k ≡ Some x → j ≡ n + k → (y : B) × (slice_get ys k ≡ Some y) × (f j x ≡ Ok y)
each_at f n [] ys j k x h g e = absurd (none-some x g)
each_at {B = B} f n (a ∷ xs) ys j zero x h g e =
    let one = bind_ok (f n a) (λ (y : B). each_from f (n + 1) xs >>= (λ zs. Ok (y ∷ zs))) ys h in
    let rest = bind_ok (each_from f (n + 1) xs) (λ (zs : List B). Ok (one.0 ∷ zs)) ys one.2 in
    let same : j ≡ n = omega arith in
    (one.0, subst (λ (zs : List B). slice_get zs 0 ≡ Some one.0) (ok_same (one.0 ∷ rest.0) ys rest.2) refl, ap (λ i. f i x) same ∙ ap (λ z. f n z) (sym (same_Some a x g)) ∙ one.1)
each_at {B = B} f n (a ∷ xs) ys j (suc k) x h g e =
    let one = bind_ok (f n a) (λ (y : B). each_from f (n + 1) xs >>= (λ zs. Ok (y ∷ zs))) ys h in
    let rest = bind_ok (each_from f (n + 1) xs) (λ (zs : List B). Ok (one.0 ∷ zs)) ys one.2 in
    let later = each_at f (n + 1) xs rest.0 j k x rest.1 g (omega arith) in
    (later.0, subst (λ (zs : List B). slice_get zs (suc k) ≡ Some later.0) (ok_same (one.0 ∷ rest.0) ys rest.2) later.1, later.2)

-- item k of the list, which is number j, stands
pub stands_at : {A R : Type 0} (f : ℕ → A → Result (Unit {0}) R) (n : ℕ) (xs : List A) (u : Unit {0}) (j k : ℕ) (x : A) → all_stand_from f n xs ≡ Ok u → slice_get xs k ≡ Some x → j ≡ n + k → f j x ≡ Ok tt
stands_at f n [] u j k x h g e = absurd (none-some x g)
stands_at f n (a ∷ xs) u j zero x h g e =
    let one = bind_ok (f n a) (λ (v : Unit {0}). all_stand_from f (n + 1) xs) u h in
    let same : j ≡ n = omega arith in
    ap (λ i. f i x) same ∙ ap (λ z. f n z) (sym (same_Some a x g)) ∙ one.1
stands_at f n (a ∷ xs) u j (suc k) x h g e =
    let one = bind_ok (f n a) (λ (v : Unit {0}). all_stand_from f (n + 1) xs) u h in
    stands_at f (n + 1) xs u j k x one.2 g (omega arith)

-- ---- tables

added_if : {A : Type 0} (P : A → Type 0) (b : Bool) (table : List (Entry A)) (e : Entry A) → AllByRecursion (λ x. P x.thing) table → P e.thing → AllByRecursion (λ x. P x.thing) (if b then table else table ++ e ∷ [])
added_if P true table e h k = h
added_if P false table e h k = all_push (λ x. P x.thing) table e h k

-- what a table says of every entry it says with one more
pub all_added : {A : Type 0} (P : A → Type 0) (table : List (Entry A)) (p w : List ℕ) (x : A) → AllByRecursion (λ e. P e.thing) table → P x → AllByRecursion (λ e. P e.thing) (added table p w x)
all_added P table p w x h k = added_if P (has table p w) table (entry p w x) h k

found_if : {A : Type 0} (P : A → Type 0) (b : Bool) (e : Entry A) (rest : Option (Entry A)) (x : A) → P e.thing → (option_map (λ (y : Entry A). y.thing) rest ≡ Some x → P x) → option_map (λ (y : Entry A). y.thing) (if b then Some e else rest) ≡ Some x → P x
found_if P true e rest x h k q = subst (λ y. P y) (same_Some e.thing x q) h
found_if P false e rest x h k q = k q

-- and of what is found in it
pub all_found : {A : Type 0} (P : A → Type 0) (table : List (Entry A)) (p w : List ℕ) (x : A) → AllByRecursion (λ e. P e.thing) table → found table p w ≡ Some x → P x
all_found P [] p w x h q = absurd (none-some x q)
all_found P (e ∷ es) p w x h q = found_if P (is_entry p w e) e (find (is_entry p w) es) x h.0 (all_found P es p w x h.1) q
