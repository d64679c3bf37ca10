use Rattle.rx_shadow.proofs.RowTests.{on_ok}
use Rattle.rx_shadow.proofs.known.Derived.join_value.Goals as goal

pub returns-then-is_positive-clause-derived : goal.returns-then-is_positive-clause-derived
returns-then-is_positive-clause-derived c = on_ok c.join_sum.result _ _ (λ h given others l g r d. h given others r g d) c.join_sum.ensures.derived

pub returns-else-is_positive-clause-derived : goal.returns-else-is_positive-clause-derived
returns-else-is_positive-clause-derived c = on_ok c.join_sum-else-is_positive.result _ _ (λ h given others l g r d. h given others r l d) c.join_sum-else-is_positive.ensures.derived
