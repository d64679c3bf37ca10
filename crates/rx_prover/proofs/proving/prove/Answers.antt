use Rattle.std.proofs.Common.{ap, ◌∙◌, subst, map}
use Rattle.rx_linear.specs.Systems.{LinearSystem}
use Rattle.rx_proof.specs.declared.query.Query.{out-Query}
use Rattle.rx_proof.specs.Acceptance.{Node}
use Rattle.rx_proof.proofs.Weights.{has_variables_out}
use Rattle.rx_prover.specs.Walked.{Goes}
use Rattle.rx_prover.proofs.Outcomes.{answers_walk, no_point, root_node, root_even, put_all}
use Rattle.rx_prover.proofs.proving.prove.Goals as goal

pub walk-requires-clause-even : goal.walk-requires-clause-even
walk-requires-clause-even c =
    root_even (map (λ d. d.now) c.put.new.pending.items) (out-Query c.args.query.now).either c.join_all.new.self.variables (out-Query c.args.query.now).system.variables
    (ap (λ (s : LinearSystem). s.variables) c.in_ok-join_all.ensures ∙ ap (λ (s : LinearSystem). s.variables) c.new-rows.ensures ∙ c.variables.ensures.value)
    (put_all (λ d. d.now) c.new-pending.result.items c.put.new.pending.items c.as_slice.result.now c.new-pending.ensures.items c.in_ok-put.ensures.added ∙ c.as_slice.ensures)
    (has_variables_out c.args.query.now (out-Query c.args.query.now).system.variables c.requires.even).1

pub returns-clause-value : goal.returns-clause-value
returns-clause-value c =
    answers_walk c.args.query.now c.args.splits c.in_ok-walked.walked c.answer.result c.answer.ensures
    (subst (λ (node : Node). Goes node c.args.splits c.in_ok-walked.walked)
    (root_node c.args.query.now c.variables.result c.new-rows.result c.join_all.new.self c.rows.result.now (map (λ d. d.now) c.put.new.pending.items) c.as_slice.result.now c.variables.ensures.value c.new-rows.ensures c.rows.ensures.value c.in_ok-join_all.ensures
    (put_all (λ d. d.now) c.new-pending.result.items c.put.new.pending.items c.as_slice.result.now c.new-pending.ensures.items c.in_ok-put.ensures.added) c.as_slice.ensures)
    c.in_ok-walked.ensures.goes)

pub returns-clause-sound : goal.returns-clause-sound
returns-clause-sound c =
    no_point c.args.query.now c.args.splits c.answer.result
    (answers_walk c.args.query.now c.args.splits c.in_ok-walked.walked c.answer.result c.answer.ensures
    (subst (λ (node : Node). Goes node c.args.splits c.in_ok-walked.walked)
    (root_node c.args.query.now c.variables.result c.new-rows.result c.join_all.new.self c.rows.result.now (map (λ d. d.now) c.put.new.pending.items) c.as_slice.result.now c.variables.ensures.value c.new-rows.ensures c.rows.ensures.value c.in_ok-join_all.ensures
    (put_all (λ d. d.now) c.new-pending.result.items c.put.new.pending.items c.as_slice.result.now c.new-pending.ensures.items c.in_ok-put.ensures.added) c.as_slice.ensures)
    c.in_ok-walked.ensures.goes))
