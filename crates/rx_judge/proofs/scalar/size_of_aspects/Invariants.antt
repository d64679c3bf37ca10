use Rattle.rx_judge.specs.Scalar.{size_of_aspect}
use Rattle.rx_judge.proofs.Each.{Sofar}
use Rattle.rx_judge.proofs.scalar.size_of_aspects.Given as goal

abbrev pub invariant-loop-aspect : goal.invariant-loop-aspect
invariant-loop-aspect l = Sofar (λ i a. size_of_aspect l.owner a) l.aspects l.aspect-index l.sizes.items
