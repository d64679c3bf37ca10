-- Two reports of a message with as many splits tell the same.
use Rattle.std.proofs.Common.{◌≡◌, refl, sym, ap, subst, ◌∙◌, ℕ, suc, List, [], ◌∷◌, map, length, Bool, true, false, not}
use Rattle.std.specs.List.{AllByRecursion}
use Rattle.rx_types.specs.Domain.{Domain}
use Rattle.rx_graph.specs.Graph.{Graph}
use Rattle.rx_graph.proofs.OneList.{one_list}
use Rattle.rx_proof.specs.declared.proof.Proof.{Proof}
use Rattle.rx_prover.specs.Walk.{Reached, Past, AtPoint, Over}
use Rattle.rx_layout.specs.declared.goal.Goal.{Goal}
use Rattle.rx_layout.specs.Goals.{source, is_universal}
use Rattle.rx_checks.specs.declared.verdict.Evidence.{Evidence}
use Rattle.rx_checks.specs.declared.verdict.Evidence.TheVariants.{Proofs, Found}
use Rattle.rx_checks.specs.declared.verdict.Verdict.{Verdict}
use Rattle.rx_checks.specs.declared.verdict.Verdict.TheVariants.{Passed, Failed, Undecided}
use Rattle.rx_checks.specs.declared.report.Line.{Line}
use Rattle.rx_checks.specs.Verdicts
use Rattle.rx_checks.specs.Verdicts.{IsFirst}
use Rattle.rx_checks.specs.Laws.{IsSameKind, IsSameVerdict, AreSameLines, ReportsAreOne}
use Rattle.rx_checks.proofs.FirstOnes.{same_head, same_tail, first_has, one_first}

past_no_point : (r : Reached) (left : ℕ) → r ≡ Past left → r ≡ AtPoint → ⊥
past_no_point r left e f = cc

past_not_over : (r : Reached) (left : ℕ) → r ≡ Past left → r ≡ Over → ⊥
past_not_over r left e f = cc

module _ (domains : List Domain) (m : Graph) (splits : ℕ) where
  module _ (goal : Goal) where
    abbrev Shown : Bool → List (List ℕ) → Evidence → Type 0
    Shown b paths evidence = Verdicts.IsShownBy domains m splits goal b paths evidence

    abbrev Ends : Reached → List ℕ → Type 0
    Ends r path = Verdicts.walk_of domains m splits goal path ≡ r

    abbrev IsPast : List ℕ → Type 0
    IsPast path = (left : ℕ) × Ends (Past left) path

    -- ---- proofs for all paths

    as_many : (paths : List (List ℕ)) (proofs : List Proof) → Verdicts.AreClosed domains m splits goal paths proofs → length proofs ≡ length paths
    as_many [] [] h = refl
    as_many [] (proof ∷ proofs) h = absurd h
    as_many (path ∷ paths) [] h = absurd h
    as_many (path ∷ paths) (proof ∷ proofs) h = ap (λ (n : ℕ). suc n) (as_many paths proofs h.1)

    all_past : (paths : List (List ℕ)) (proofs : List Proof) → Verdicts.AreClosed domains m splits goal paths proofs → AllByRecursion IsPast paths
    all_past [] [] h = tt
    all_past [] (proof ∷ proofs) h = absurd h
    all_past (path ∷ paths) [] h = absurd h
    all_past (path ∷ paths) (proof ∷ proofs) h = ((h.0.left, h.0.past), all_past paths proofs h.1)

    no_point : (paths : List (List ℕ)) (path : List ℕ) → AllByRecursion IsPast paths → IsFirst (Ends AtPoint) paths path → ⊥
    no_point paths path past f =
        let p = first_has (Ends AtPoint) IsPast paths path f past in
        past_no_point (Verdicts.walk_of domains m splits goal path) p.0 p.1 f.has

    none_over : (paths : List (List ℕ)) (path : List ℕ) → AllByRecursion IsPast paths → IsFirst (Ends Over) paths path → ⊥
    none_over paths path past f =
        let p = first_has (Ends Over) IsPast paths path f past in
        past_not_over (Verdicts.walk_of domains m splits goal path) p.0 p.1 f.has

    -- ---- what shows a verdict

    same_kind : (b : Bool) (paths : List (List ℕ)) (e f : Evidence) → Shown b paths e → Shown b paths f → IsSameKind e f
    same_kind true paths (Proofs p) (Proofs q) h k = as_many paths p.items h ∙ sym (as_many paths q.items k)
    same_kind true paths (Proofs p) (Found path n ns) h k = absurd k
    same_kind true paths (Found path n ns) f h k = absurd h
    same_kind false paths (Proofs p) f h k = absurd h
    same_kind false paths (Found path n ns) (Proofs q) h k = absurd k
    same_kind false paths (Found path n ns) (Found other o os) h k = one_first (Ends AtPoint) paths path other h.0 k.0

    -- a verdict is shown by proofs or by a point
    not_both : (b : Bool) (paths : List (List ℕ)) (e f : Evidence) → Shown b paths e → Shown (not b) paths f → ⊥
    not_both true paths (Proofs p) (Proofs q) h k = k
    not_both true paths (Proofs p) (Found path n ns) h k = no_point paths path (all_past paths p.items h) k.0
    not_both true paths (Found path n ns) f h k = h
    not_both false paths (Proofs p) f h k = h
    not_both false paths (Found path n ns) (Proofs q) h k = no_point paths path (all_past paths q.items k) h.0
    not_both false paths (Found path n ns) (Found other o os) h k = k

    not_undecided : (b : Bool) (paths : List (List ℕ)) (e : Evidence) (path : List ℕ) → Shown b paths e → AllByRecursion (λ p. Ends AtPoint p → ⊥) paths → IsFirst (Ends Over) paths path → ⊥
    not_undecided true paths (Proofs p) path h none f = none_over paths path (all_past paths p.items h) f
    not_undecided true paths (Found other n ns) path h none f = h
    not_undecided false paths (Proofs p) path h none f = h
    not_undecided false paths (Found other n ns) path h none f = first_has (Ends AtPoint) (λ p. Ends AtPoint p → ⊥) paths other h.0 none h.0.has

    -- ---- verdicts

    same_verdict : (paths : List (List ℕ)) (v w : Verdict) → Verdicts.IsVerdict domains m splits goal paths v → Verdicts.IsVerdict domains m splits goal paths w → IsSameVerdict v w
    same_verdict paths (Passed e) (Passed f) h k = same_kind (is_universal goal) paths e f h k
    same_verdict paths (Passed e) (Failed f) h k = absurd (not_both (is_universal goal) paths e f h k)
    same_verdict paths (Passed e) (Undecided path tree) h k = absurd (not_undecided (is_universal goal) paths e path h k.0 k.1)
    same_verdict paths (Failed e) (Passed f) h k = absurd (not_both (is_universal goal) paths f e k h)
    same_verdict paths (Failed e) (Failed f) h k = same_kind (not (is_universal goal)) paths e f h k
    same_verdict paths (Failed e) (Undecided path tree) h k = absurd (not_undecided (not (is_universal goal)) paths e path h k.0 k.1)
    same_verdict paths (Undecided path tree) (Passed f) h k = absurd (not_undecided (is_universal goal) paths f path k h.0 h.1)
    same_verdict paths (Undecided path tree) (Failed f) h k = absurd (not_undecided (not (is_universal goal)) paths f path k h.0 h.1)
    same_verdict paths (Undecided path tree) (Undecided other more) h k = one_first (Ends Over) paths path other h.1 k.1

    one_verdict : (v w : Verdict) → Verdicts.StandsFor domains m splits goal v → Verdicts.StandsFor domains m splits goal w → IsSameVerdict v w
    one_verdict v w h k =
        same_verdict h.0 v w h.2 (subst (λ ps. Verdicts.IsVerdict domains m splits goal ps w) (sym (one_list m (source goal) h.0 k.0 h.1 k.1)) k.2)

  -- ---- lines

  abbrev Stands : Line → Type 0
  Stands line = Verdicts.StandsFor domains m splits line.goal line.verdict

  no_shorter : {X : Type 0} (x : X) (xs : List X) → [] ≡ x ∷ xs → ⊥
  no_shorter x xs e = cc

  pub same_lines : (ks ls : List Line) → map (λ line. line.goal) ks ≡ map (λ line. line.goal) ls → AllByRecursion Stands ks → AllByRecursion Stands ls → AreSameLines ks ls
  same_lines [] [] e h k = tt
  same_lines [] (l ∷ ls) e h k = absurd (no_shorter l.goal (map (λ line. line.goal) ls) e)
  same_lines (l ∷ ls) [] e h k = absurd (no_shorter l.goal (map (λ line. line.goal) ls) (sym e))
  same_lines (x ∷ xs) (y ∷ ys) e h k =
      let goals = same_head x.goal y.goal (map (λ line. line.goal) xs) (map (λ line. line.goal) ys) e in
      (goals, one_verdict x.goal x.verdict y.verdict h.0 (subst (λ g. Verdicts.StandsFor domains m splits g y.verdict) (sym goals) k.0), same_lines xs ys (same_tail x.goal y.goal (map (λ line. line.goal) xs) (map (λ line. line.goal) ys) e) h.1 k.1)

pub are_one : (domains : List Domain) (m : Graph) → ReportsAreOne domains m
are_one domains m splits r s h k = same_lines domains m splits r.lines.items s.lines.items (h.goals ∙ sym k.goals) h.stand k.stand
