-- Expressions that are the same have one meaning, one root and as many operators.
use Rattle.std.proofs.Common.{◌≡◌, ap, refl, ℕ, ◌+◌, List}
use Rattle.rx_syntax.specs.declared.tree.ExprTree.{ExprTree}
use Rattle.rx_judge.specs.Names.{Names}
use Rattle.rx_judge.specs.Kinds.{operator_of}
use Rattle.rx_judge.specs.Judged.{judged, negative, opposite, joined}
use Rattle.rx_judge.specs.Scalar.{root_place}
use Rattle.rx_judge.specs.Sound.{operators_of}
use Rattle.rx_trees.specs.Alike as alike
use Rattle.rx_trees.specs.Alike.{IsSameExpr}
use Rattle.rx_meaning.proofs.Lists.{ap_two, bind_same, first_same}

pub judged_same : (ns : Names) (owner : List ℕ) {e f : ExprTree} → IsSameExpr e f → judged ns owner e ≡ judged ns owner f
judged_same ns owner alike.number = refl
judged_same ns owner alike.name = refl
judged_same ns owner alike.attribute = refl
judged_same ns owner alike.member = refl
judged_same ns owner (alike.negative {at = at} h) = first_same (λ a. negative owner at a) (judged_same ns owner h)
judged_same ns owner (alike.negation {at = at} h) = first_same (λ a. opposite owner at a) (judged_same ns owner h)
judged_same ns owner (alike.binary {o = o} {at = at} h k) = bind_same (judged_same ns owner h) (λ l. first_same (λ r. joined owner (operator_of o) at l r) (judged_same ns owner k))

pub root_place_same : {e f : ExprTree} → IsSameExpr e f → root_place e ≡ root_place f
root_place_same alike.number = refl
root_place_same alike.name = refl
root_place_same alike.attribute = refl
root_place_same alike.member = refl
root_place_same (alike.negative h) = refl
root_place_same (alike.negation h) = refl
root_place_same (alike.binary h k) = refl

pub operators_same : {e f : ExprTree} → IsSameExpr e f → operators_of e ≡ operators_of f
operators_same alike.number = refl
operators_same alike.name = refl
operators_same alike.attribute = refl
operators_same alike.member = refl
operators_same (alike.negative h) = ap (λ n. n + 1) (operators_same h)
operators_same (alike.negation h) = ap (λ n. n + 1) (operators_same h)
operators_same (alike.binary h k) = ap_two (λ m n. m + n + 1) (operators_same h) (operators_same k)
