use Rattle.rx_program.proofs.OperandLemmas.{OthersSofar}
use Rattle.rx_program.proofs.operand.find_message.Given as goal

abbrev pub invariant-loop-place : goal.invariant-loop-place
invariant-loop-place l = OthersSofar l.owner l.name l.spec.graphs l.place
