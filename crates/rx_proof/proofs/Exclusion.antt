-- An accepted proof excludes every point.
use Rattle.std.proofs.Common.{◌≡◌, refl, sym, ap, subst, ◌∙◌, ℕ, zero, suc, List, [], ◌∷◌, map, replicate, Bool, true, false, ◌&&◌, ◌||◌, ℤ, pos, negsuc, neg_ℤ, ◌+ℤ◌, Option, Some, None, inl, inr, ◌⊎◌, arith}
use Rattle.std.specs.List.{list_all, list_any, slice_get, remove}
use Rattle.std.proofs.lemmas.Int.{ints, by_lt_z}
use Rattle.std.proofs.lemmas.List.Folds.{list_all-append}
use Rattle.std.proofs.Math.IntN.{zero-*ℤ}
use Rattle.rx_linear.specs.declared.row.Row.{Row}
use Rattle.rx_model.specs.Sums.{product_sum}
use Rattle.rx_linear.specs.Joining.{holds, all_hold}
use Rattle.rx_linear.proofs.Joining.{both, and_true, test-from_Holds, joined_holds}
use Rattle.rx_proof.specs.declared.query.Query.{Query, out-Query}
use Rattle.rx_proof.specs.declared.query.Query.TheFolds.{fold-Query, fold_out-Query}
use Rattle.rx_proof.specs.declared.proof.Proof.{Proof}
use Rattle.rx_proof.specs.declared.proof.Proof.TheOpen.{Proof-F}
use Rattle.rx_proof.specs.declared.proof.Proof.TheFolds.{ind-Proof, map-Proof, fold-roll-Proof}
use Rattle.rx_proof.specs.Queries.{satisfied, satisfied_step, each_satisfied}
use Rattle.rx_linear.specs.Units.{unit, at_most, at_least}
use Rattle.rx_linear.specs.Steps.{if_some}
use Rattle.rx_proof.specs.Acceptance.{Node, root, entered, with_row, each_accepts, accepted_step, accepted, accepts_proof}
use Rattle.rx_linear.proofs.Closing.{closes_sound}

-- ---- queries

abbrev some_branch : List ℤ → List Query → Bool
some_branch point branches = list_any (λ branch. satisfied branch point) branches

any-map : (f : Query → List ℤ → Bool) (point : List ℤ) (branches : List Query) → list_any (λ (b : List ℤ → Bool). b point) (map f branches) ≡ list_any (λ b. f b point) branches
any-map f point [] = refl
any-map f point (b ∷ bs) = ap (λ (t : Bool). f b point || t) (any-map f point bs)

each-map : (f : Query → List ℤ → Bool) (point : List ℤ) (either : List (List Query)) → list_all (λ (bs : List (List ℤ → Bool)). list_any (λ (b : List ℤ → Bool). b point) bs) (map (map f) either) ≡ list_all (λ bs. list_any (λ b. f b point) bs) either
each-map f point [] = refl
each-map f point (bs ∷ either) = ap (λ (t : Bool). t && list_all (λ (bs : List (List ℤ → Bool)). list_any (λ (b : List ℤ → Bool). b point) bs) (map (map f) either)) (any-map f point bs) ∙ ap (λ (t : Bool). list_any (λ b. f b point) bs && t) (each-map f point either)

satisfied_out : (query : Query) (point : List ℤ) → satisfied query point ≡ true → (all_hold point (out-Query query).system.rows ≡ true) × (each_satisfied (out-Query query).either point ≡ true)
unfolding satisfied
satisfied_out query point h =
    let e = ap (λ (f : List ℤ → Bool). f point) (fold_out-Query (List ℤ → Bool) satisfied_step query) in
    let parts = both {a = all_hold point (out-Query query).system.rows} {b = list_all (λ (bs : List (List ℤ → Bool)). list_any (λ (b : List ℤ → Bool). b point) bs) (map (map (fold-Query (List ℤ → Bool) satisfied_step)) (out-Query query).either)} (sym e ∙ h) in
    (parts.0, sym (each-map (fold-Query (List ℤ → Bool) satisfied_step) point (out-Query query).either) ∙ parts.1)

-- ---- one branch of each disjunction, with one disjunction taken out
same_some : {X : Type 0} (x y : X) → Some x ≡ Some y → x ≡ y
same_some x y e = cc

taken : (either : List (List Query)) (i : ℕ) (branches : List Query) (point : List ℤ) → slice_get either i ≡ Some branches → each_satisfied either point ≡ true → (some_branch point branches ≡ true) × (each_satisfied (remove either i) point ≡ true)
taken [] i branches point e h = cc
taken (first ∷ either) zero branches point e h =
    let parts = both {a = some_branch point first} {b = each_satisfied either point} h in
    (subst (λ (bs : List Query). some_branch point bs ≡ true) (same_some first branches e) parts.0, parts.1)
taken (first ∷ either) (suc i) branches point e h =
    let parts = both {a = some_branch point first} {b = each_satisfied either point} h in
    let rest = taken either i branches point e parts.1 in
    (rest.0, and_true parts.0 rest.1)

-- ---- unit rows

zeros : (n : ℕ) (point : List ℤ) → product_sum (replicate n (pos 0)) point ≡ pos 0
zeros zero point = refl
zeros (suc n) [] = refl
zeros (suc n) (x ∷ point) = omega (arith, ints, zeros n point, zero-*ℤ x)

opposite : (n x : ℕ) (point : List ℤ) → product_sum (unit n x (negsuc 0)) point ≡ neg_ℤ (product_sum (unit n x (pos 1)) point)
opposite zero x point = refl
opposite (suc n) zero [] = refl
opposite (suc n) (suc x) [] = refl
opposite (suc n) zero (y ∷ point) = omega (arith, ints, zeros n point)
opposite (suc n) (suc x) (y ∷ point) = omega (arith, ints, opposite n x point, zero-*ℤ y)

either_half : (n x : ℕ) (c : ℤ) (point : List ℤ) → (holds point (at_most n x c) ≡ true) ⊎ (holds point (at_least n x (c +ℤ pos 1)) ≡ true)
either_half n x c point =
    by_lt_z c (product_sum (unit n x (pos 1)) point)
    (λ above. inr (test-from_Holds point (at_least n x (c +ℤ pos 1)) (omega (arith, ints, above))))
    (λ below. inl (test-from_Holds point (at_most n x c) (omega (arith, ints, below, opposite n x point))))

-- ---- proofs

abbrev pub Excludes : Proof → Type 0
Excludes proof = (node : Node) (point : List ℤ) → accepted proof node ≡ true → all_hold point node.rows ≡ true → each_satisfied node.either point ≡ true → ⊥

abbrev LayerExcludes : Proof-F Proof → Type 0
LayerExcludes layer = (node : Node) (point : List ℤ) → accepted_step (map-Proof Proof (Node → Bool) accepted layer) node ≡ true → all_hold point node.rows ≡ true → each_satisfied node.either point ≡ true → ⊥

branches_exclude : (proofs : List ((p : Proof) × Excludes p)) (branches : List Query) (node : Node) (i : ℕ) (point : List ℤ) → each_accepts node i (map accepted (map (λ e. e.0) proofs)) branches ≡ true → all_hold point node.rows ≡ true → each_satisfied (remove node.either i) point ≡ true → some_branch point branches ≡ true → ⊥
branches_exclude [] [] node i point a h s b = cc
branches_exclude [] (branch ∷ branches) node i point a h s b = cc
branches_exclude (p ∷ ps) [] node i point a h s b = cc
branches_exclude (p ∷ ps) (branch ∷ branches) node i point a h s b =
    let parts = both {a = accepted p.0 (entered node i branch)} {b = each_accepts node i (map accepted (map (λ e. e.0) ps)) branches} a in
    by_test (satisfied branch point) refl b
    (λ t. let inner = satisfied_out branch point t in
    p.1 (entered node i branch) point parts.0 (joined_holds point node.rows (out-Query branch).system.rows h inner.0)
    (list_all-append (some_branch point) (remove node.either i) (out-Query branch).either ∙ and_true s inner.1))
    (λ r. branches_exclude ps branches node i point parts.1 h s r)
  where
    by_test : (t : Bool) → satisfied branch point ≡ t → (t || some_branch point branches) ≡ true → (satisfied branch point ≡ true → ⊥) → (some_branch point branches ≡ true → ⊥) → ⊥
    by_test true e b first rest = first e
    by_test false e b first rest = rest b

case_excludes : (proofs : List ((p : Proof) × Excludes p)) (node : Node) (i : ℕ) (point : List ℤ) (found : Option (List Query)) → slice_get node.either i ≡ found → if_some found (λ branches. each_accepts node i (map accepted (map (λ e. e.0) proofs)) branches) ≡ true → all_hold point node.rows ≡ true → each_satisfied node.either point ≡ true → ⊥
case_excludes proofs node i point None e a h s = cc
case_excludes proofs node i point (Some branches) e a h s =
    let t = taken node.either i branches point e s in
    branches_exclude proofs branches node i point a h t.1 t.0

with_holds : (point : List ℤ) (node : Node) (row : Row) → all_hold point node.rows ≡ true → holds point row ≡ true → all_hold point (with_row node row).rows ≡ true
with_holds point node row h r = joined_holds point node.rows (row ∷ []) h (and_true r refl)

layer_excludes : (y : Proof-F ((p : Proof) × Excludes p)) → LayerExcludes (map-Proof ((p : Proof) × Excludes p) Proof (λ e. e.0) y)
layer_excludes (Proof-F.Case i proofs) node point a h s = case_excludes proofs node i point (slice_get node.either i) refl a h s
layer_excludes (Proof-F.Halve x c low high) node point a h s =
    let last = both {b = accepted high.0 (with_row node (at_least node.variables x (c +ℤ pos 1)))} a in
    let before = both {b = accepted low.0 (with_row node (at_most node.variables x c))} last.0 in
    elim (either_half node.variables x c point) [
      | inl r ↦ low.1 (with_row node (at_most node.variables x c)) point before.1 (with_holds point node (at_most node.variables x c) h r) s
      | inr r ↦ high.1 (with_row node (at_least node.variables x (c +ℤ pos 1))) point last.1 (with_holds point node (at_least node.variables x (c +ℤ pos 1)) h r) s
    ]
layer_excludes (Proof-F.Close steps) node point a h s = closes_sound point node.rows steps a h

pub accepted_excludes : (proof : Proof) → Excludes proof
unfolding accepted
accepted_excludes = ind-Proof Excludes (λ x y is. λ node point a h s. subst LayerExcludes is (layer_excludes y) node point (sym (ap (λ (f : Node → Bool). f node) (fold-roll-Proof (Node → Bool) accepted_step x)) ∙ a) h s)

pub accepts_sound : (query : Query) (proof : Proof) → accepts_proof query proof ≡ true → (point : List ℤ) → satisfied query point ≡ true → ⊥
accepts_sound query proof a point t =
    let parts = satisfied_out query point t in
    accepted_excludes proof (root query) point a (joined_holds point [] (out-Query query).system.rows refl parts.0) parts.1
