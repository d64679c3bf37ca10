-- Verdicts from the walks of paths, one after the other.
use Rattle.std.proofs.Common.{◌≡◌, refl, sym, subst, ℕ, zero, suc, ◌<◌, arith, List, [], ◌∷◌, ◌++◌, length, get_or}
use Rattle.std.specs.Prelude.{◌≢◌, IfOk, Result, Ok, Err}
use Rattle.std.specs.List.{AllByRecursion}
use Rattle.rx_types.specs.Domain.{Domain}
use Rattle.rx_graph.specs.Graph.{Graph}
use Rattle.rx_proof.specs.declared.query.Query.{Query}
use Rattle.rx_proof.specs.declared.proof.Proof.{Proof}
use Rattle.rx_proof.specs.Acceptance.{root}
use Rattle.rx_prover.specs.declared.answer.Answer.{Answer}
use Rattle.rx_prover.specs.declared.answer.Answer.TheVariants.{NoPoint, Point, Undecided}
use Rattle.rx_prover.specs.declared.tree.OpenTree.{OpenTree}
use Rattle.rx_prover.specs.Answers.{IsClosed, IsProper, IsPointOf, AnswersReached}
use Rattle.rx_prover.specs.Walk.{Reached, Past, AtPoint, Over}
use Rattle.rx_layout.specs.declared.goal.Goal.{Goal}
use Rattle.rx_layout.specs.QueryOf.{query_for}
use Rattle.rx_checks.specs.declared.verdict.Verdict.{Verdict}
use Rattle.rx_checks.specs.declared.verdict.Verdict.TheVariants as verdict
use Rattle.rx_checks.specs.Told
use Rattle.rx_checks.specs.Verdicts
use Rattle.rx_checks.specs.Verdicts.{IsFirst}

-- ---- what the answer says of the walk

abbrev pub Says : Query → ℕ → Answer → Reached → Type 0
Says q splits (NoPoint proof) r = (left : ℕ) × (r ≡ Past left) × IsClosed (root q) splits proof left
Says q splits (Point point) r = (r ≡ AtPoint) × IsPointOf q point.items
Says q splits (Undecided tree) r = (r ≡ Over) × IsProper (root q) splits tree

pub says : (q : Query) (splits : ℕ) (answer : Answer) (r : Reached) → AnswersReached q splits answer r → Says q splits answer r
says q splits (NoPoint proof) (Past left) h = (left, refl, h)
says q splits (NoPoint proof) AtPoint h = absurd h
says q splits (NoPoint proof) Over h = absurd h
says q splits (Point point) (Past left) h = absurd h
says q splits (Point point) AtPoint h = (refl, h)
says q splits (Point point) Over h = absurd h
says q splits (Undecided tree) (Past left) h = absurd h
says q splits (Undecided tree) AtPoint h = absurd h
says q splits (Undecided tree) Over h = (refl, h)

pub past_no_point : (r : Reached) (left : ℕ) → r ≡ Past left → r ≢ AtPoint
past_no_point r left e h = absurd (cc)

pub over_no_point : (r : Reached) → r ≡ Over → r ≢ AtPoint
over_no_point r e h = absurd (cc)

past_not_over : (r : Reached) (left : ℕ) → r ≡ Past left → r ≡ Over → ⊥
past_not_over r left e h = absurd (cc)

-- ---- results and lists

pub if_ok : {X E : Type 0} (r : Result X E) (P Q : X → Type 0) → ((x : X) → P x → Q x) → IfOk r P → IfOk r Q
if_ok (Ok x) P Q h p = h x p
if_ok (Err e) P Q h p = p

pub all_index : {X : Type 0} (P : X → Type 0) (xs : List X) (i : ℕ) (d : X) → AllByRecursion P xs → i < length xs → P (get_or xs i d)
all_index P [] i d a l = absurd (omega (arith, l))
all_index P (x ∷ xs) zero d a l = a.0
all_index P (x ∷ xs) (suc i) d a l = all_index P xs i d a.1 (omega (arith, l))

pub all_append : {X : Type 0} (P : X → Type 0) (xs ys : List X) → AllByRecursion P xs → AllByRecursion P ys → AllByRecursion P (xs ++ ys)
all_append P [] ys a b = b
all_append P (x ∷ xs) ys a b = (a.0, all_append P xs ys a.1 b)

-- what none before is so is the first
first_last : (P : List ℕ → Type 0) (before : List (List ℕ)) (path : List ℕ) → AllByRecursion (λ p. P p → ⊥) before → P path → IsFirst P (before ++ path ∷ []) path
first_last P before path none h = record { before = before; after = []; is = refl; has = h; none = none }

-- ---- verdicts

module _ (domains : List Domain) (m : Graph) (splits : ℕ) (goal : Goal) where
  abbrev walk_of : List ℕ → Reached
  walk_of p = Verdicts.walk_of domains m splits goal p

  abbrev NoneAtPoint : List (List ℕ) → Type 0
  NoneAtPoint paths = Told.NoneAtPoint domains m splits goal paths

  abbrev NoneOver : List (List ℕ) → Type 0
  NoneOver paths = AllByRecursion (λ p. walk_of p ≡ Over → ⊥) paths

  abbrev AreClosed : List (List ℕ) → List Proof → Type 0
  AreClosed paths proofs = Verdicts.AreClosed domains m splits goal paths proofs

  pub closed_none : (paths : List (List ℕ)) (proofs : List Proof) → AreClosed paths proofs → NoneAtPoint paths
  closed_none [] proofs h = tt
  closed_none (path ∷ paths) [] h = absurd h
  closed_none (path ∷ paths) (proof ∷ proofs) h = (past_no_point (walk_of path) h.0.left h.0.past, closed_none paths proofs h.1)

  closed_never_over : (paths : List (List ℕ)) (proofs : List Proof) → AreClosed paths proofs → NoneOver paths
  closed_never_over [] proofs h = tt
  closed_never_over (path ∷ paths) [] h = absurd h
  closed_never_over (path ∷ paths) (proof ∷ proofs) h = (past_not_over (walk_of path) h.0.left h.0.past, closed_never_over paths proofs h.1)

  closed_more : (paths : List (List ℕ)) (proofs : List Proof) (path : List ℕ) (proof : Proof) → AreClosed paths proofs → Verdicts.IsClosedBy domains m splits goal path proof → AreClosed (paths ++ path ∷ []) (proofs ++ proof ∷ [])
  closed_more [] [] path proof h c = (c, tt)
  closed_more [] (q ∷ proofs) path proof h c = absurd h
  closed_more (p ∷ paths) [] path proof h c = absurd h
  closed_more (p ∷ paths) (q ∷ proofs) path proof h c = (h.0, closed_more paths proofs path proof h.1 c)

  -- one more path is closed
  pub closed_push : (before : List (List ℕ)) (path : List ℕ) (proof : Proof) (old new : List Proof) → AreClosed before old
      → AnswersReached (query_for domains m goal path) splits (NoPoint proof) (walk_of path) → new ≡ old ++ proof ∷ [] → AreClosed (before ++ path ∷ []) new
  closed_push before path proof old new h a n =
      let p = says (query_for domains m goal path) splits (NoPoint proof) (walk_of path) a in
      let c : Verdicts.IsClosedBy domains m splits goal path proof = record { left = p.0; past = p.1; closed = p.2 } in
      subst (λ (ps : List Proof). AreClosed (before ++ path ∷ []) ps) (sym n) (closed_more before old path proof h c)

  abbrev IsVerdict : List (List ℕ) → Verdict → Type 0
  IsVerdict paths v = Verdicts.IsVerdict domains m splits goal paths v

  -- a walk is over behind paths that are closed
  pub undecided_last : (before : List (List ℕ)) (path : List ℕ) (proofs : List Proof) (tree : OpenTree) → AreClosed before proofs → walk_of path ≡ Over → IsProper (root (query_for domains m goal path)) splits tree → IsVerdict (before ++ path ∷ []) (verdict.Undecided path tree)
  undecided_last before path proofs tree c o t = (
    all_append (λ p. walk_of p ≢ AtPoint) before (path ∷ []) (closed_none before proofs c) (over_no_point (walk_of path) o, tt),
    first_last (λ p. walk_of p ≡ Over) before path (closed_never_over before proofs c) o,
    t,
  )
