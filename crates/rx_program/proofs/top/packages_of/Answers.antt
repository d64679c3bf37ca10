use Rattle.rx_program.proofs.AnswerLemmas.{stop_ends}
use Rattle.rx_program.proofs.top.packages_of.Goals as goal

pub returns-in_ok-answer-in-Err-clause-ends : goal.returns-in_ok-answer-in-Err-clause-ends
returns-in_ok-answer-in-Err-clause-ends g c =
    stop_ends (g.H.Shelf.texts c.args.shelf.now) c.args.name.now c.in-Err.stop c.in_ok-answer-in-Err.answer c.in-Err.ensures.stopped c.in_ok-answer-in-Err.ensures.ends
