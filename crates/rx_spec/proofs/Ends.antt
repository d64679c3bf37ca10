-- Whether the only link of a field goes to null, link by link.
use Rattle.std.proofs.Common.{ℕ, Bool, true, false, List, [], ◌∷◌}
use Rattle.std.specs.List.{filter}
use Rattle.rx_graph.specs.declared.message.Node.TheVariants.{At}
use Rattle.rx_graph.specs.Checks.{is_node}
use Rattle.rx_graph.specs.Graph.{Arrow}
use Rattle.rx_spec.specs.Sizes.{is_one_end}

-- with `ends` a link to null was seen, and no other may follow
abbrev pub ends_after : Bool → List Arrow → Bool
ends_after false ls = is_one_end ls
ends_after true [] = true
ends_after true (l ∷ ls) = false

abbrev pub ends_from : Bool → ℕ → List Arrow → Bool
ends_from ends i ls = ends_after ends (filter (λ l. is_node (At i) l.source) ls)
