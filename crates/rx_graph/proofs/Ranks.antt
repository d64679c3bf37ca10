-- A graph whose links all lead upwards by some rank has no cycle.
use Rattle.std.proofs.Common.{◌≡◌, ℕ, zero, suc, ◌<◌, ◌≤◌, List, [], ◌∷◌, Some, ap, subst, arith}
use Rattle.std.specs.Prelude.{slice_get}
use Rattle.std.specs.List.{AllByRecursion}
use Rattle.rx_graph.specs.declared.message.Node.{Node}
use Rattle.rx_graph.specs.Graph.{Arrow, Graph}
use Rattle.rx_graph.specs.Cycles.{IsPath, HasNoCycle}

-- the link leads upwards
abbrev pub Rises : (Node → ℕ) → Arrow → Type 0
Rises rank link = rank link.source < rank link.target

rises_at : (rank : Node → ℕ) (links : List Arrow) → AllByRecursion (Rises rank) links → (i : ℕ) (link : Arrow) → slice_get links i ≡ Some link → Rises rank link
rises_at rank [] h i link is = absurd (none_at i link is)
  where
    none_at : (i : ℕ) (link : Arrow) → slice_get [] i ≡ Some link → ⊥
    none_at zero link is = cc
    none_at (suc i) link is = cc
rises_at rank (l ∷ links) h zero link is = let same : l ≡ link = cc in subst (λ x. Rises rank x) same h.0
rises_at rank (l ∷ links) h (suc i) link is = rises_at rank links h.1 i link is

module _ (m : Graph) (rank : Node → ℕ) (rises : AllByRecursion (Rises rank) m.links) where
  upwards : (path : List ℕ) (at end : Node) → IsPath m at path end → rank at ≤ rank end
  upwards [] at end h = subst (λ n. rank at ≤ rank n) h (omega arith)
  upwards (i ∷ path) at end h =
      let up : rank h.0.source < rank h.0.target = rises_at rank m.links rises i h.0 h.1 in
      omega (arith, up, ap rank h.2, upwards path h.0.target end h.3)

  pub no_cycle : HasNoCycle m
  no_cycle at i path h =
      let up : rank h.0.source < rank h.0.target = rises_at rank m.links rises i h.0 h.1 in
      omega (arith, up, ap rank h.2, upwards path h.0.target at h.3)
