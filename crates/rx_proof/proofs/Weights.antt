-- How much room the queries that are open and the proofs need, and over how many variables the queries are.
use Rattle.std.proofs.Common.{◌≡◌, refl, sym, ap, ◌∙◌, ℕ, zero, suc, ◌+◌, ◌<◌, ◌≤◌, arith, List, [], ◌∷◌, ◌++◌, map, max, length, get_or, Bool, true, false, ◌&&◌, ◌==◌, Some, ℤ, drop}
use Rattle.std.specs.List.{list_all, slice_get, remove}
use Rattle.std.proofs.lemmas.List.Folds.{list_all-append}
use Rattle.std.proofs.lemmas.Bool.{eqb-true}
use Rattle.std.proofs.lemmas.Bool.Decides.{nat_tests}
use Rattle.std.proofs.lemmas.List.{drop_more}
use Rattle.rx_linear.proofs.Joining.{both, and_true}
use Rattle.rx_linear.specs.declared.step.Step.{Step}
use Rattle.rx_proof.specs.declared.query.Query.{Query, out-Query}
use Rattle.rx_proof.specs.declared.query.Query.TheFolds.{fold-Query, fold_out-Query}
use Rattle.rx_proof.specs.declared.proof.Proof.{Proof, Case, Halve, Close}
use Rattle.rx_proof.specs.declared.proof.Proof.TheVariants.{rolls-Close, rolls-Halve, rolls-Case}
use Rattle.rx_proof.specs.declared.proof.Proof.TheOpen.{Proof-F}
use Rattle.rx_proof.specs.declared.proof.Proof.TheFolds.{fold-roll-Proof}
use Rattle.rx_proof.specs.Queries.{has_variables, has_variables_step, each_has_variables}
use Rattle.rx_proof.specs.Room.{total, greatest_of, weight, weight_step, open_weight, depth, depth_step}

-- ---- weights

totals-map : (f : Query → ℕ) (either : List (List Query)) → total (map total (map (map f) either)) ≡ total (map (λ branches. total (map f branches)) either)
totals-map f [] = refl
totals-map f (bs ∷ either) = ap (λ (n : ℕ). total (map f bs) + n) (totals-map f either)

length-map_map : (f : Query → ℕ) (either : List (List Query)) → length (map (map f) either) ≡ length either
length-map_map f [] = refl
length-map_map f (bs ∷ either) = ap suc (length-map_map f either)

pub weight_is : (query : Query) → weight query ≡ length (out-Query query).system.rows + length (out-Query query).either + open_weight (out-Query query).either
unfolding weight
weight_is query =
    fold_out-Query ℕ weight_step query
    ∙ ap (λ (n : ℕ). length (out-Query query).system.rows + n + total (map total (map (map (fold-Query ℕ weight_step)) (out-Query query).either))) (length-map_map (fold-Query ℕ weight_step) (out-Query query).either)
    ∙ ap (λ (n : ℕ). length (out-Query query).system.rows + length (out-Query query).either + n) (totals-map (fold-Query ℕ weight_step) (out-Query query).either)

pub open_weight-append : (xs ys : List (List Query)) → open_weight (xs ++ ys) ≡ open_weight xs + open_weight ys
open_weight-append [] ys = omega arith
open_weight-append (x ∷ xs) ys = omega (arith, open_weight-append xs ys)

pub open_weight-remove : (either : List (List Query)) (i : ℕ) (branches : List Query) → slice_get either i ≡ Some branches → open_weight either ≡ open_weight (remove either i) + total (map weight branches)
open_weight-remove [] i branches e = cc
open_weight-remove (first ∷ either) zero branches e =
    let same : first ≡ branches = cc in
    let t : total (map weight first) ≡ total (map weight branches) = ap (λ (bs : List Query). total (map weight bs)) same in
    omega (arith, t)
open_weight-remove (first ∷ either) (suc i) branches e = omega (arith, open_weight-remove either i branches e)

pub weight_at : (branches : List Query) (i : ℕ) (d : Query) → i < length branches → weight (get_or branches i d) ≤ total (map weight branches)
weight_at [] i d h = absurd (omega arith)
weight_at (b ∷ branches) zero d h = omega arith
weight_at (b ∷ branches) (suc i) d h = let l : i < length branches = omega arith in omega (arith, weight_at branches i d l)

-- ---- depths

pub depth_close : (steps : List Step) → depth (Close steps) ≡ length steps
unfolding depth
depth_close steps = ap depth (sym (rolls-Close steps)) ∙ fold-roll-Proof ℕ depth_step (Proof-F.Close steps)

pub depth_halve : (x : ℕ) (c : ℤ) (low high : Proof) → depth (Halve x c low high) ≡ 1 + max (depth low) (depth high)
unfolding depth
depth_halve x c low high = ap depth (sym (rolls-Halve x c low high)) ∙ fold-roll-Proof ℕ depth_step (Proof-F.Halve x c low high)

pub depth_case : (i : ℕ) (proofs : List Proof) → depth (Case i proofs) ≡ greatest_of (map depth proofs)
unfolding depth
depth_case i proofs = ap depth (sym (rolls-Case i proofs)) ∙ fold-roll-Proof ℕ depth_step (Proof-F.Case i proofs)

pub depth_at : (proofs : List Proof) (i : ℕ) (d : Proof) → i < length proofs → depth (get_or proofs i d) ≤ greatest_of (map depth proofs)
depth_at [] i d h = absurd (omega arith)
depth_at (p ∷ proofs) zero d h = omega arith
depth_at (p ∷ proofs) (suc i) d h = let l : i < length proofs = omega arith in omega (arith, depth_at proofs i d l)

-- ---- variables

any-map : (f : Query → ℕ → Bool) (n : ℕ) (branches : List Query) → list_all (λ (b : ℕ → Bool). b n) (map f branches) ≡ list_all (λ b. f b n) branches
any-map f n [] = refl
any-map f n (b ∷ bs) = ap (λ (t : Bool). f b n && t) (any-map f n bs)

each-map : (f : Query → ℕ → Bool) (n : ℕ) (either : List (List Query)) → list_all (λ (bs : List (ℕ → Bool)). list_all (λ (b : ℕ → Bool). b n) bs) (map (map f) either) ≡ list_all (λ bs. list_all (λ b. f b n) bs) either
each-map f n [] = refl
each-map f n (bs ∷ either) = ap (λ (t : Bool). t && list_all (λ (bs : List (ℕ → Bool)). list_all (λ (b : ℕ → Bool). b n) bs) (map (map f) either)) (any-map f n bs) ∙ ap (λ (t : Bool). list_all (λ b. f b n) bs && t) (each-map f n either)

pub has_variables_out : (query : Query) (n : ℕ) → has_variables query n ≡ true → ((out-Query query).system.variables ≡ n) × (each_has_variables (out-Query query).either n ≡ true)
unfolding has_variables
has_variables_out query n h =
    let e = ap (λ (f : ℕ → Bool). f n) (fold_out-Query (ℕ → Bool) has_variables_step query) in
    let parts = both {a = (out-Query query).system.variables == n} {b = list_all (λ (bs : List (ℕ → Bool)). list_all (λ (b : ℕ → Bool). b n) bs) (map (map (fold-Query (ℕ → Bool) has_variables_step)) (out-Query query).either)} (sym e ∙ h) in
    (eqb-true (out-Query query).system.variables n parts.0, sym (each-map (fold-Query (ℕ → Bool) has_variables_step) n (out-Query query).either) ∙ parts.1)

pub each-append : (xs ys : List (List Query)) (n : ℕ) → each_has_variables xs n ≡ true → each_has_variables ys n ≡ true → each_has_variables (xs ++ ys) n ≡ true
each-append xs ys n p q = list_all-append (λ branches. list_all (λ branch. has_variables branch n) branches) xs ys ∙ and_true p q

pub each-remove : (either : List (List Query)) (i : ℕ) (branches : List Query) (n : ℕ) → slice_get either i ≡ Some branches → each_has_variables either n ≡ true
    → (list_all (λ branch. has_variables branch n) branches ≡ true) × (each_has_variables (remove either i) n ≡ true)
each-remove [] i branches n e h = cc
each-remove (first ∷ either) zero branches n e h =
    let parts = both {a = list_all (λ branch. has_variables branch n) first} {b = each_has_variables either n} h in
    let same : first ≡ branches = cc in
    (ap (list_all (λ branch. has_variables branch n)) (sym same) ∙ parts.0, parts.1)
each-remove (first ∷ either) (suc i) branches n e h =
    let parts = both {a = list_all (λ branch. has_variables branch n) first} {b = each_has_variables either n} h in
    let rest = each-remove either i branches n e parts.1 in
    (rest.0, and_true parts.0 rest.1)

pub all_at : {X : Type 0} (p : X → Bool) (xs : List X) (i : ℕ) (d : X) → i < length xs → list_all p xs ≡ true → p (get_or xs i d) ≡ true
all_at p [] i d l h = absurd (omega arith)
all_at p (x ∷ xs) zero d l h = (both {a = p x} {b = list_all p xs} h).0
all_at p (x ∷ xs) (suc i) d l h = let m : i < length xs = omega arith in all_at p xs i d m (both {a = p x} {b = list_all p xs} h).1

pub has_variables_is : (query : Query) (n : ℕ) → has_variables query n ≡ (((out-Query query).system.variables == n) && each_has_variables (out-Query query).either n)
unfolding has_variables
has_variables_is query n =
    ap (λ (f : ℕ → Bool). f n) (fold_out-Query (ℕ → Bool) has_variables_step query)
    ∙ ap (λ (t : Bool). ((out-Query query).system.variables == n) && t) (each-map (fold-Query (ℕ → Bool) has_variables_step) n (out-Query query).either)

same_test : (v n : ℕ) → v ≡ n → (v == n) ≡ true
same_test v n e = grind (arith, nat_tests)

other_test : (v n : ℕ) → (v ≡ n → ⊥) → (v == n) ≡ false
other_test v n h = grind (arith, nat_tests)

pub is_uneven : (query : Query) (n v : ℕ) → v ≡ (out-Query query).system.variables → (v ≡ n → ⊥) → false ≡ has_variables query n
is_uneven query n v e h =
    sym (has_variables_is query n ∙ ap (λ (k : ℕ). (k == n) && each_has_variables (out-Query query).either n) (sym e) ∙ ap (λ (t : Bool). t && each_has_variables (out-Query query).either n) (other_test v n h))

pub is_uneven_below : (query : Query) (n v : ℕ) → v ≡ (out-Query query).system.variables → v ≡ n → each_has_variables (out-Query query).either n ≡ false → false ≡ has_variables query n
is_uneven_below query n v e s h =
    sym (has_variables_is query n ∙ ap (λ (t : Bool). ((out-Query query).system.variables == n) && t) h ∙ right_false ((out-Query query).system.variables == n))
  where
    right_false : (t : Bool) → (t && false) ≡ false
    right_false true = refl
    right_false false = refl

pub is_even : (query : Query) (n v : ℕ) → v ≡ (out-Query query).system.variables → v ≡ n → each_has_variables (out-Query query).either n ≡ true → true ≡ has_variables query n
is_even query n v e s h = sym (has_variables_is query n ∙ and_true (same_test (out-Query query).system.variables n (sym e ∙ s)) h)

-- one disjunction is not over n variables
pub each_false : (items : List (List Query)) (i n : ℕ) (branches : List Query) (r : Bool) → i < length items → branches ≡ get_or items i branches → r ≡ list_all (λ b. has_variables b n) branches → r ≡ false
    → each_has_variables (drop i items) n ≡ each_has_variables items n → each_has_variables items n ≡ false
each_false items i n branches r l is e f inv =
    sym inv ∙ ap (λ (ds : List (List Query)). each_has_variables ds n) (drop_more items i branches l)
    ∙ ap (λ (bs : List Query). list_all (λ b. has_variables b n) bs && each_has_variables (drop (i + 1) items) n) (sym is)
    ∙ ap (λ (t : Bool). t && each_has_variables (drop (i + 1) items) n) (sym e ∙ f)
