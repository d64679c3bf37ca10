use Rattle.std.proofs.Common.{◌≡◌, ◌∷◌, [], ◌++◌, sym, subst, List, ℕ}
use Rattle.rx_prover.specs.declared.answer.Answer.{Answer}
use Rattle.rx_prover.specs.declared.answer.Answer.TheVariants.{Point, Undecided}
use Rattle.rx_prover.specs.Answers.{AnswersReached}
use Rattle.rx_prover.specs.Walk.{AtPoint}
use Rattle.rx_checks.specs.declared.verdict.Verdict.{Verdict}
use Rattle.rx_checks.specs.declared.verdict.Verdict.TheVariants as verdict
use Rattle.rx_checks.specs.ReachedPath.{query_at}
use Rattle.rx_checks.specs.Verdicts.{walk_of, AreClosed, IsVerdict}
use Rattle.rx_checks.specs.Told.{NoneAtPoint}
use Rattle.rx_checks.proofs.Judged.{says, if_ok, closed_none, closed_push, undecided_last}
use Rattle.rx_checks.proofs.judging.behind_proofs.Goals as goal

pub returns-in_ok-push-in-NoPoint : goal.returns-in_ok-push-in-NoPoint
returns-in_ok-push-in-NoPoint c =
    let p = c.args.path.now in
    let goal = c.args.goal.now in
    let q = query_at p goal in
    let r = walk_of p.domains p.graph c.args.splits goal p.path in
    let a = subst (λ (x : Answer). AnswersReached q c.args.splits x r) c.in-NoPoint.is c.in_ok-proof.ensures in
    λ before h. c.closed.ensures p.domains p.graph c.args.splits (before ++ p.path ∷ [])
    (closed_push p.domains p.graph c.args.splits goal before p.path c.in-NoPoint.proof c.args.proofs.items c.push.new.self.items h a c.in_ok-push-in-NoPoint.ensures.items)

pub returns-in-Point : goal.returns-in-Point
returns-in-Point c =
    let p = c.args.path.now in
    let goal = c.args.goal.now in
    let q = query_at p goal in
    let r = walk_of p.domains p.graph c.args.splits goal p.path in
    let a = says q c.args.splits (Point c.in-Point.point) r (subst (λ (x : Answer). AnswersReached q c.args.splits x r) c.in-Point.is c.in_ok-proof.ensures) in
    if_ok c.found.result
    (λ (v : Verdict). (splits : ℕ) (before : List (List ℕ)) → NoneAtPoint p.domains p.graph splits goal before → walk_of p.domains p.graph splits goal p.path ≡ AtPoint → IsVerdict p.domains p.graph splits goal (before ++ p.path ∷ []) v)
    (λ (v : Verdict). (before : List (List ℕ)) → AreClosed p.domains p.graph c.args.splits goal before c.args.proofs.items → IsVerdict p.domains p.graph c.args.splits goal (before ++ p.path ∷ []) v)
    (λ v f before h. f c.args.splits before (closed_none p.domains p.graph c.args.splits goal before c.args.proofs.items h) a.0)
    c.found.ensures

pub returns-in-Undecided : goal.returns-in-Undecided
returns-in-Undecided c =
    let p = c.args.path.now in
    let goal = c.args.goal.now in
    let q = query_at p goal in
    let r = walk_of p.domains p.graph c.args.splits goal p.path in
    let a = says q c.args.splits (Undecided c.in-Undecided.tree) r (subst (λ (x : Answer). AnswersReached q c.args.splits x r) c.in-Undecided.is c.in_ok-proof.ensures) in
    if_ok c.undecided.result (λ (v : Verdict). v ≡ verdict.Undecided p.path c.in-Undecided.tree)
    (λ (v : Verdict). (before : List (List ℕ)) → AreClosed p.domains p.graph c.args.splits goal before c.args.proofs.items → IsVerdict p.domains p.graph c.args.splits goal (before ++ p.path ∷ []) v)
    (λ v e before h. subst (λ (x : Verdict). IsVerdict p.domains p.graph c.args.splits goal (before ++ p.path ∷ []) x) (sym e)
    (undecided_last p.domains p.graph c.args.splits goal before p.path c.args.proofs.items c.in-Undecided.tree h a.0 a.1))
    c.undecided.ensures
