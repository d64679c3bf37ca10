-- What the walk of the root says of the query.
use Rattle.std.proofs.Common.{◌≡◌, sym, ap, ◌∙◌, subst, ℕ, arith, List, [], true, map, drop, length}
use Rattle.rx_linear.specs.declared.row.Row.{Row}
use Rattle.rx_linear.specs.Systems.{LinearSystem}
use Rattle.rx_linear.specs.Joining.{joined}
use Rattle.rx_proof.specs.declared.query.Query.{Query, out-Query}
use Rattle.rx_proof.specs.Queries.{each_has_variables}
use Rattle.rx_proof.specs.Acceptance.{root}
use Rattle.rx_proof.proofs.Exclusion.{accepts_sound}
use Rattle.rx_prover.specs.declared.answer.Answer.{Answer}
use Rattle.rx_prover.specs.declared.answer.Answer.TheVariants.{NoPoint, Point, Undecided}
use Rattle.rx_prover.specs.declared.walked.Walked.{Walked}
use Rattle.rx_prover.specs.declared.walked.Walked.TheVariants.{Closed, Found, Unfinished}
use Rattle.rx_prover.specs.Walk.{Reached, Past, AtPoint, Over, walk}
use Rattle.rx_prover.specs.Walked.{node_of, Goes, AnswerOf}
use Rattle.rx_prover.specs.Answers.{AnswersReached, AnswersWalk, HasNoPoint, IfNoPoint}
use Rattle.rx_prover.proofs.Branches.{root_point}
use Rattle.rx_prover.proofs.Nodes.{system_of}

pub answers_walk : (query : Query) (splits : ℕ) (walked : Walked) (answer : Answer) → AnswerOf walked answer → Goes (root query) splits walked → AnswersWalk query splits answer
answers_walk query splits (Closed proof left) answer e g =
    subst (λ (a : Answer). AnswersReached query splits a (walk query splits)) (sym e)
    (subst (AnswersReached query splits (NoPoint proof)) (sym (g.ends splits (omega arith))) g.evidence)
answers_walk query splits (Found point) answer e g =
    subst (λ (a : Answer). AnswersReached query splits a (walk query splits)) (sym e)
    (subst (AnswersReached query splits (Point point)) (sym (g.ends splits (omega arith))) (root_point query point.items g.evidence))
answers_walk query splits (Unfinished tree) answer e g =
    subst (λ (a : Answer). AnswersReached query splits a (walk query splits)) (sym e)
    (subst (AnswersReached query splits (Undecided tree)) (sym (g.ends splits (omega arith))) g.evidence)

pub no_point : (query : Query) (splits : ℕ) (answer : Answer) → AnswersWalk query splits answer → IfNoPoint answer (HasNoPoint query)
no_point query splits (Point point) h = tt
no_point query splits (Undecided tree) h = tt
no_point query splits (NoPoint proof) h = by_end (walk query splits) h
  where
    by_end : (r : Reached) → AnswersReached query splits (NoPoint proof) r → HasNoPoint query
    by_end (Past left) a = accepts_sound query proof a.is_accepted
    by_end AtPoint a = absurd a
    by_end Over a = absurd a

-- the root's node, from what the code joins and puts
pub root_node : (query : Query) (n : ℕ) (start after : LinearSystem) (rows : List Row) (either more : List (List Query)) → n ≡ (out-Query query).system.variables → start ≡ system_of n [] → rows ≡ (out-Query query).system.rows → after ≡ system_of start.variables (joined start.rows rows) → either ≡ more → more ≡ (out-Query query).either → node_of after either ≡ root query
root_node query n start after rows either more v s r a e m =
    ap (λ (x : LinearSystem). node_of x either) (root_rows query n start after rows v s r a)
    ∙ ap (node_of (system_of (out-Query query).system.variables (joined [] (out-Query query).system.rows))) (e ∙ m)
  where
    root_rows : (query : Query) (n : ℕ) (start after : LinearSystem) (rows : List Row) → n ≡ (out-Query query).system.variables → start ≡ system_of n [] → rows ≡ (out-Query query).system.rows → after ≡ system_of start.variables (joined start.rows rows) → after ≡ system_of (out-Query query).system.variables (joined [] (out-Query query).system.rows)
    root_rows query n start after rows v s r a =
        a ∙ ap (λ (x : LinearSystem). system_of x.variables (joined x.rows rows)) s ∙ ap (λ (k : ℕ). system_of k (joined [] rows)) v ∙ ap (λ (rs : List Row). system_of (out-Query query).system.variables (joined [] rs)) r

pub put_all : {X : Type 0} (f : X → List Query) (old new : List X) (more : List (List Query)) → old ≡ [] → map f (drop (length old) new) ≡ more → map f new ≡ more
put_all f old new more e a = ap (λ xs. map f (drop (length xs) new)) (sym e) ∙ a

pub root_even : (either more : List (List Query)) (n m : ℕ) → n ≡ m → either ≡ more → each_has_variables more m ≡ true → each_has_variables either n ≡ true
root_even either more n m e d h = ap (each_has_variables either) e ∙ ap (λ (ds : List (List Query)). each_has_variables ds m) d ∙ h
