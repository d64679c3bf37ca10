-- A point of a branch is a point of the node.
use Rattle.std.proofs.Common.{◌≡◌, refl, sym, ap, ◌∙◌, ℕ, ◌<◌, List, [], ◌∷◌, ◌++◌, map, length, get_or, Bool, true, ◌&&◌, ◌||◌, ℤ}
use Rattle.std.specs.List.{list_all, list_any, remove}
use Rattle.std.proofs.lemmas.List.Folds.{list_all-append, list_any_at}
use Rattle.rx_linear.specs.declared.row.Row.{Row}
use Rattle.rx_linear.specs.Joining.{all_hold}
use Rattle.rx_linear.proofs.Joining.{both, and_true}
use Rattle.rx_proof.specs.declared.query.Query.{Query, out-Query}
use Rattle.rx_proof.specs.declared.query.Query.TheFolds.{fold-Query, fold_out-Query}
use Rattle.rx_proof.specs.Queries.{satisfied, satisfied_step, each_satisfied}
use Rattle.rx_proof.specs.Acceptance.{Node, root, entered, with_row}
use Rattle.rx_shadow.proofs.Values.{joined_back}
use Rattle.rx_prover.specs.Walked.{IsPointAt}
use Rattle.rx_prover.specs.Answers.{IsPointOf}

abbrev pub some_branch : List ℤ → List Query → Bool
some_branch point branches = list_any (λ branch. satisfied branch point) branches

any-map : (f : Query → List ℤ → Bool) (point : List ℤ) (branches : List Query) → list_any (λ (b : List ℤ → Bool). b point) (map f branches) ≡ list_any (λ b. f b point) branches
any-map f point [] = refl
any-map f point (b ∷ bs) = ap (λ (t : Bool). f b point || t) (any-map f point bs)

each-map : (f : Query → List ℤ → Bool) (point : List ℤ) (either : List (List Query)) → list_all (λ (bs : List (List ℤ → Bool)). list_any (λ (b : List ℤ → Bool). b point) bs) (map (map f) either) ≡ list_all (λ bs. list_any (λ b. f b point) bs) either
each-map f point [] = refl
each-map f point (bs ∷ either) = ap (λ (t : Bool). t && list_all (λ (bs : List (List ℤ → Bool)). list_any (λ (b : List ℤ → Bool). b point) bs) (map (map f) either)) (any-map f point bs) ∙ ap (λ (t : Bool). list_any (λ b. f b point) bs && t) (each-map f point either)

pub satisfied_is : (query : Query) (point : List ℤ) → satisfied query point ≡ (all_hold point (out-Query query).system.rows && each_satisfied (out-Query query).either point)
unfolding satisfied
satisfied_is query point =
    ap (λ (f : List ℤ → Bool). f point) (fold_out-Query (List ℤ → Bool) satisfied_step query)
    ∙ ap (λ (b : Bool). all_hold point (out-Query query).system.rows && b) (each-map (fold-Query (List ℤ → Bool) satisfied_step) point (out-Query query).either)

pub point_back : (node : Node) (branches : List Query) (rest : List (List Query)) (branch : Query) (i : ℕ) (point : List ℤ) → node.either ≡ branches ∷ rest → i < length branches → branch ≡ get_or branches i branch → IsPointAt (entered node 0 branch) point → IsPointAt node point
point_back node branches rest branch i point e h b p =
    let rows = joined_back point node.rows (out-Query branch).system.rows p.holds in
    let each : each_satisfied (rest ++ (out-Query branch).either) point ≡ true = ap (λ (ds : List (List Query)). each_satisfied (remove ds 0 ++ (out-Query branch).either) point) (sym e) ∙ p.satisfies in
    let parts = both {a = each_satisfied rest point} {b = each_satisfied (out-Query branch).either point} (sym (list_all-append (some_branch point) rest (out-Query branch).either) ∙ each) in
    let here : satisfied branch point ≡ true = satisfied_is branch point ∙ and_true rows.1 parts.1 in
    let some : some_branch point branches ≡ true = list_any_at (λ (q : Query). satisfied q point) branches i branch h (ap (λ (q : Query). satisfied q point) (sym b) ∙ here) in
    record {
      whole = p.whole;
      holds = rows.0;
      satisfies = ap (λ (ds : List (List Query)). each_satisfied ds point) e ∙ and_true some parts.0;
    }

pub half_back : (node : Node) (row : Row) (point : List ℤ) → IsPointAt (with_row node row) point → IsPointAt node point
half_back node row point p = record { whole = p.whole; holds = (joined_back point node.rows (row ∷ []) p.holds).0; satisfies = p.satisfies }

pub root_point : (query : Query) (point : List ℤ) → IsPointAt (root query) point → IsPointOf query point
root_point query point p = record {
  whole = p.whole;
  satisfies = satisfied_is query point ∙ and_true (joined_back point [] (out-Query query).system.rows p.holds).1 p.satisfies;
}
