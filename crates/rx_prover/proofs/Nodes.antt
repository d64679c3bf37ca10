-- The rows and open disjunctions of a child, put on and taken off again.
use Rattle.std.proofs.Common.{◌≡◌, refl, sym, ap, ◌∙◌, subst, ℕ, zero, suc, ◌+◌, ◌<◌, ◌≤◌, arith, List, [], ◌∷◌, ◌++◌, map, take, drop, length, length-append, get_or, add-one, true, pos, negsuc}
use Rattle.std.specs.List.{list_any, remove}
use Rattle.std.proofs.lemmas.List.{take-append-drop, drop-append-le, take-append-le, map-append, take_more}
use Rattle.rx_linear.specs.declared.row.Row.{Row}
use Rattle.rx_linear.specs.Systems.{LinearSystem}
use Rattle.rx_linear.specs.Units.{is_unit_row}
use Rattle.rx_linear.specs.Joining.{joined}
use Rattle.rx_linear.proofs.Joining.{both, and_true}
use Rattle.rx_proof.specs.declared.query.Query.{Query, out-Query}
use Rattle.rx_proof.specs.Acceptance.{entered, with_row}
use Rattle.rx_proof.specs.Queries.{each_has_variables}
use Rattle.rx_proof.proofs.Weights.{each-append}
use Rattle.rx_proof.proofs.Nodes.{joined_front}
use Rattle.rx_shadow.specs.Bounds.{HasUnitRows}
use Rattle.rx_shadow.proofs.Points.{any_joined}
use Rattle.rx_prover.specs.Walked.{node_of}

abbrev pub system_of : ℕ → List Row → LinearSystem
system_of n rows = record { variables = n; rows = rows }

pub unit_rows_joined : (n : ℕ) (rows more : List Row) → HasUnitRows n rows → HasUnitRows n (joined rows more)
unit_rows_joined n rows more h x l =
    let parts = both {a = list_any (is_unit_row x (pos 1)) rows} {b = list_any (is_unit_row x (negsuc 0)) rows} (h x l) in
    and_true (any_joined (is_unit_row x (pos 1)) rows more parts.0) (any_joined (is_unit_row x (negsuc 0)) rows more parts.1)

-- rows that were joined leave the unit rows there
pub bounded_after : (s after : LinearSystem) (more : List Row) → HasUnitRows s.variables s.rows → after ≡ system_of s.variables (joined s.rows more) → HasUnitRows after.variables after.rows
bounded_after s after more h e = subst (λ (t : LinearSystem). HasUnitRows t.variables t.rows) (sym e) (unit_rows_joined s.variables s.rows more h)

-- the rows that were there, once those that were joined are taken off
pub cut_rows : (s after last cut : LinearSystem) (more : List Row) (count : ℕ) → after ≡ system_of s.variables (joined s.rows more) → last ≡ after → count ≡ length s.rows → cut ≡ system_of last.variables (take count last.rows) → cut ≡ s
cut_rows s after last cut more count a l c e =
    e
    ∙ ap (λ (t : LinearSystem). system_of t.variables (take count t.rows)) (l ∙ a)
    ∙ ap (λ (k : ℕ). system_of s.variables (take k (joined s.rows more))) c
    ∙ ap (system_of s.variables) (joined_front s.rows more)

-- the open disjunctions from place k on, once more were put at the end
pub put_after : {X Y : Type 0} (f : X → Y) (old new : List X) (more : List Y) (k : ℕ) → k ≤ length old → take (length old) new ≡ old → map f (drop (length old) new) ≡ more → map f (drop k new) ≡ map f (drop k old) ++ more
put_after f old new more k h t m =
    ap (λ xs. map f (drop k xs)) (sym (take-append-drop (length old) new) ∙ ap (λ xs. xs ++ drop (length old) new) t)
    ∙ ap (map f) (drop-append-le k old (drop (length old) new) h)
    ∙ map-append f (drop k old) (drop (length old) new)
    ∙ ap (λ ys. map f (drop k old) ++ ys) m

taken_first : {X Y : Type 0} (f : X → Y) (xs : List X) (k : ℕ) → remove (map f (drop k xs)) 0 ≡ map f (drop (suc k) xs)
taken_first f [] zero = refl
taken_first f [] (suc k) = refl
taken_first f (x ∷ xs) zero = refl
taken_first f (x ∷ xs) (suc k) = taken_first f xs k

pub first_taken : {X Y : Type 0} (f : X → Y) (xs : List X) (k : ℕ) → remove (map f (drop k xs)) 0 ≡ map f (drop (k + 1) xs)
first_taken f xs k = taken_first f xs k ∙ ap (λ j. map f (drop j xs)) (sym (add-one k))

pub none_even : {X : Type 0} (f : X → List Query) (xs : List X) (n : ℕ) → xs ≡ [] → each_has_variables (map f xs) n ≡ true
none_even f xs n e = ap (λ ys. each_has_variables (map f ys) n) e

-- the open disjunctions of a branch
pub branch_even : {X : Type 0} (f : X → List Query) (old new : List X) (more : List (List Query)) (k n m : ℕ) → k ≤ length old → take (length old) new ≡ old → map f (drop (length old) new) ≡ more → n ≡ m → each_has_variables (map f (drop k old)) m ≡ true → each_has_variables more m ≡ true → each_has_variables (map f (drop k new)) n ≡ true
branch_even f old new more k n m h t a e p q =
    ap (each_has_variables (map f (drop k new))) e
    ∙ ap (λ ds. each_has_variables ds m) (put_after f old new more k h t a)
    ∙ each-append (map f (drop k old)) more m p q

pub branch_node : (s after : LinearSystem) (either others : List (List Query)) (branch : Query) (more : List Row) → after ≡ system_of s.variables (joined s.rows more) → more ≡ (out-Query branch).system.rows → others ≡ remove either 0 ++ (out-Query branch).either → node_of after others ≡ entered (node_of s either) 0 branch
branch_node s after either others branch more a m o =
    ap (λ (t : LinearSystem). node_of t others) a
    ∙ ap (λ (rs : List Row). node_of (system_of s.variables (joined s.rows rs)) others) m
    ∙ ap (node_of (system_of s.variables (joined s.rows (out-Query branch).system.rows))) o

pub half_node : (s after : LinearSystem) (row : Row) → after ≡ system_of s.variables (joined s.rows (row ∷ [])) → node_of after [] ≡ with_row (node_of s []) row
half_node s after row a = ap (λ (t : LinearSystem). node_of t []) a

-- one more open disjunction is put at the end
pub put_more : {X Y : Type 0} (f : X → Y) (old xs ys : List X) (more : List Y) (i : ℕ) (r : X) → ys ≡ xs ++ r ∷ [] → i < length more → f r ≡ get_or more i (f r) → take (length old) xs ≡ old → length old ≤ length xs → map f (drop (length old) xs) ≡ take i more → (take (length old) ys ≡ old) × (length old ≤ length ys) × (map f (drop (length old) ys) ≡ take (i + 1) more)
put_more f old xs ys more i r e l g t h m = (
  ap (take (length old)) e ∙ take-append-le (length old) xs (r ∷ []) h ∙ t,
  omega (arith, ap length e, length-append xs (r ∷ []), h),
  ap (λ zs. map f (drop (length old) zs)) e
      ∙ ap (map f) (drop-append-le (length old) xs (r ∷ []) h)
      ∙ map-append f (drop (length old) xs) (r ∷ [])
      ∙ ap (λ zs. zs ++ f r ∷ []) m
      ∙ ap (λ z. take i more ++ z ∷ []) g
      ∙ sym (take_more more i (f r) l),
)

pub same_branch : {X : Type 0} (f : X → List Query) (s last : LinearSystem) (xs ys : List X) (k : ℕ) (branch : Query) → s ≡ last → xs ≡ ys → entered (node_of s (map f (drop k xs))) 0 branch ≡ entered (node_of last (map f (drop k ys))) 0 branch
same_branch f s last xs ys k branch e d =
    ap (λ (r : LinearSystem). entered (node_of r (map f (drop k xs))) 0 branch) e
    ∙ ap (λ zs. entered (node_of last (map f (drop k zs))) 0 branch) d

pub none_after : {X : Type 0} (xs ys : List X) (k : ℕ) → xs ≡ ys → drop k ys ≡ [] → drop k xs ≡ []
none_after xs ys k e n = ap (drop k) e ∙ n
