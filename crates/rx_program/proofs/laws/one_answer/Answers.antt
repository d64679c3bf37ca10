use Rattle.rx_program.proofs.OneAnswer.{one_answer}
use Rattle.rx_program.proofs.laws.one_answer.Goals as goal

pub returns : goal.returns
returns c = one_answer c.one_tree.ensures c.one_meaning.ensures
