-- A list in two parts, an element of one of which is replaced.
use Rattle.std.proofs.Common.{◌≡◌, ℕ, ◌-◌, ◌<◌, List, [], ◌++◌, length, get_or, set, take, drop, sym, ap, subst, ◌∙◌, arith, Vec, vec_capacity}
use Rattle.std.specs.Global.{Global}
use Rattle.std.proofs.lemmas.List.{set-append_left, set-append_right, get_or_append_left, get_or-append_right, map-set, get_or-map}
use Rattle.std.proofs.Math.Seq.{map-set_same, take-append_seam}
use Rattle.rx_pool.specs.Rooms.{written, capacities}

pub set_front : {X : Type 0} (xs front back : List X) (n : ℕ) (x : X) → xs ≡ front ++ back → n < length front → set front n x ++ back ≡ set xs n x
set_front xs front back n x e l = subst (λ ys. set front n x ++ back ≡ set ys n x) (sym e) (sym (set-append_left front back n x l))

pub set_back : {X : Type 0} (xs front back : List X) (n : ℕ) (x : X) → xs ≡ front ++ back → length front ≡ n → front ++ set back 0 x ≡ set xs n x
set_back xs front back n x e l =
    let none : n - n ≡ 0 = omega arith in
    subst (λ ys. front ++ set back 0 x ≡ set ys n x) (sym e) (subst (λ k. front ++ set back k x ≡ set (front ++ back) n x) none (sym (set-append_right front back n n x l (omega arith))))

pub get_front : {X : Type 0} (xs front back : List X) (n : ℕ) (x : X) → xs ≡ front ++ back → n < length front → get_or front n x ≡ get_or xs n x
get_front xs front back n x e l = subst (λ ys. get_or front n x ≡ get_or ys n x) (sym e) (sym (get_or_append_left front back x n l))

pub get_back : {X : Type 0} (xs front back : List X) (n : ℕ) (x : X) → xs ≡ front ++ back → length front ≡ n → get_or back 0 x ≡ get_or xs n x
get_back xs front back n x e l =
    let none : n - n ≡ 0 = omega arith in
    subst (λ ys. get_or back 0 x ≡ get_or ys n x) (sym e) (subst (λ k. get_or back k x ≡ get_or (front ++ back) n x) none (sym (get_or-append_right front back n n x l (omega arith))))

-- a room has what another has
pub written_over : (rooms : List (Vec ℕ Global)) (from to : ℕ) (source room : Vec ℕ Global) → source ≡ get_or rooms from source → from < length rooms → room.items ≡ source.items → written (set rooms to room) ≡ set (written rooms) to (get_or (written rooms) from [])
written_over rooms from to source room e l same =
    let items = λ (v : Vec ℕ Global). v.items in
    map-set items rooms to room ∙ ap (set (written rooms) to) (same ∙ ap items e ∙ sym (get_or-map items rooms from source [] l))

pub same_capacities : (rooms : List (Vec ℕ Global)) (n : ℕ) (old room : Vec ℕ Global) → old ≡ get_or rooms n old → vec_capacity room ≡ vec_capacity old → capacities (set rooms n room) ≡ capacities rooms
same_capacities rooms n old room e same = map-set_same vec_capacity rooms n room old (same ∙ ap vec_capacity e)

-- a slice that is written whole
pub refilled : {X : Type 0} (old new : List X) (n : ℕ) → length new ≡ n → take n (new ++ drop (length new) old) ≡ new
refilled old new n e = subst (λ k. take k (new ++ drop (length new) old) ≡ new) e (take-append_seam new (drop (length new) old))
