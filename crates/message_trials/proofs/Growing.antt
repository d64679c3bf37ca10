-- One field more behind others.
use Rattle.std.proofs.Common.{◌≡◌, ℕ, true, false, List, [], ◌∷◌, ◌++◌, inl, inr}
use Rattle.std.specs.Prelude.{◌==◌, eqb}
use Rattle.std.specs.List.{AllByRecursion, IsDistinct}
use Rattle.std.proofs.lemmas.Bool.Decides.{Decides-eqb}
use Rattle.rx_types.specs.Environment.{Placed, fields_of, IsAmong, AreDistinct}
use Rattle.rx_graph.proofs.Distinct.{not_true}

-- what holds of the fields and of one more holds of all
all_more : (P : ℕ → Type 0) (ps : List Placed) (p : Placed) → AllByRecursion P (fields_of ps) → P p.field → AllByRecursion P (fields_of (ps ++ p ∷ []))
all_more P [] p all last = (last, tt)
all_more P (q ∷ ps) p all last = (all.0, all_more P ps p all.1 last)

pub new_is_distinct : (ps : List Placed) (p : Placed) → AreDistinct ps → (IsAmong p.field ps → ⊥) → AreDistinct (ps ++ p ∷ [])
unfolding IsDistinct
new_is_distinct [] p distinct new = (tt, tt)
new_is_distinct (q ∷ ps) p distinct new =
    (all_more (λ y. eqb q.field y ≡ false) ps p distinct.0 (not_true (q.field == p.field) (λ t. new (inl ((Decides-eqb q.field p.field).0 t)))), new_is_distinct ps p distinct.1 (λ h. new (inr h)))

pub clash : true ≡ false → ⊥
clash h = cc
