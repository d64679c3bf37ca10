use Rattle.std.proofs.Common.{ℕ, ◌<◌, ◌≤◌, length, take, [], ◌∷◌}
use Rattle.rx_grammar.specs.Grammar.{rule, expr, Derives, Whole}
use Rattle.rx_grammar.proofs.part.longest_front.Given as goal

-- no longer front is an expression
abbrev pub invariant-fronts : goal.invariant-fronts
invariant-fronts l = record {
  within : l.len ≤ length l.items;
  none : (m : ℕ) → l.len < m → m ≤ length l.items → Derives Whole (rule expr ∷ []) (take m l.items) → ⊥;
}

abbrev pub decreases-fronts : goal.decreases-fronts
decreases-fronts l = l.len
