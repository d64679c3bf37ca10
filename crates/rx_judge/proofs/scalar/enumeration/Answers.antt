use Rattle.std.proofs.Common.{◌≡◌, ◌∙◌, sym, true}
use Rattle.rx_judge.specs.Scalar.{are_literals}
use Rattle.rx_judge.proofs.Sizes.{literals_fit}
use Rattle.rx_judge.proofs.Products.{passed}
use Rattle.rx_judge.proofs.scalar.enumeration.Goals as goal

pub literals_of-requires : goal.literals_of-requires
literals_of-requires c =
    let h : are_literals (passed c.in-Some.size) c.deref-2.result.now ≡ true = sym c.in_ok-are_literals.ensures ∙ c.if-not-branch.false in
    rw c.deref-3.ensures.value (literals_fit (passed c.in-Some.size) c.in_ok-numbers.numbers.items (rw c.deref-2.ensures.value at h))
