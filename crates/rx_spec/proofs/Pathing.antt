-- Paths depend on the ends of links alone, so those of the bare links are those of the message.
use Rattle.std.proofs.Common.{◌≡◌, ◌∙◌, ap, sym, refl, subst, ℕ, zero, suc, ◌+◌, ◌≤◌, true, List, [], ◌∷◌, ◌++◌, length, map, Ok, arith}
use Rattle.std.specs.Prelude.{nat_le, if◌then◌else◌}
use Rattle.std.proofs.lemmas.Bool.Decides.{nat_tests}
use Rattle.std.proofs.lemmas.List.{length-map}
use Rattle.rx_syntax.specs.declared.tree.Named.{Named}
use Rattle.rx_graph.specs.declared.message.Node.{Node}
use Rattle.rx_graph.specs.declared.message.Node.TheVariants.{Start, Null}
use Rattle.rx_graph.specs.Graph.{Arrow, Graph}
use Rattle.rx_graph.specs.Checks.{is_node}
use Rattle.rx_graph.specs.Cycles.{HasNoCycle, HasPathsUpTo}
use Rattle.rx_graph.specs.Onward.{onward, by_each}
use Rattle.rx_graph.proofs.Listed.{listed}
use Rattle.rx_judge.proofs.Meanings.{if_ok}
use Rattle.rx_links.specs.declared.links.Way.{Way}
use Rattle.rx_spec.specs.Shape.{bare_arrow, whole_paths, paths_stand}

pub at_most : (a b : ℕ) → nat_le a b ≡ true → a ≤ b
at_most a b h = grind (arith, nat_tests)

module _ (f g : Way → Arrow) (sources : (w : Way) → (f w).source ≡ (g w).source) (targets : (w : Way) → (f w).target ≡ (g w).target) where
  same_each : (go other : Node → List (List ℕ)) → ((n : Node) → go n ≡ other n) → (at : Node) (i : ℕ) (ws : List Way) → by_each go at i (map f ws) ≡ by_each other at i (map g ws)
  same_each go other same at i [] = refl
  same_each go other same at i (w ∷ ws) =
      ap (λ (n : Node). (if is_node n at then map (λ p. i ∷ p) (go (f w).target) else []) ++ by_each go at (i + 1) (map f ws)) (sources w)
      ∙ ap (λ (n : Node). (if is_node (g w).source at then map (λ p. i ∷ p) (go n) else []) ++ by_each go at (i + 1) (map f ws)) (targets w)
      ∙ ap (λ (ps : List (List ℕ)). (if is_node (g w).source at then map (λ p. i ∷ p) ps else []) ++ by_each go at (i + 1) (map f ws)) (same (g w).target)
      ∙ ap (λ (rest : List (List ℕ)). (if is_node (g w).source at then map (λ p. i ∷ p) (other (g w).target) else []) ++ rest) (same_each go other same at (i + 1) ws)

  same_onward : (ws : List Way) (k : ℕ) (end at : Node) → onward (map f ws) k end at ≡ onward (map g ws) k end at
  unfolding onward
  same_onward ws zero end at = refl
  same_onward ws (suc k) end at =
      ap (λ (rest : List (List ℕ)). if is_node at end then [] ∷ [] else rest) (same_each (onward (map f ws) k end) (onward (map g ws) k end) (λ n. same_onward ws k end n) at 0 ws)

-- a message with these links has few paths
pub few_paths : (name : Named) (ways : List Way) (f : Way → Arrow) (g : Graph) → ((w : Way) → (f w).source ≡ (bare_arrow name.place w).source) → ((w : Way) → (f w).target ≡ (bare_arrow name.place w).target) → g.links ≡ map f ways → paths_stand name ways ≡ Ok tt → HasNoCycle g → HasPathsUpTo g Null 4096
few_paths name ways f g sources targets arrows stands none =
    let few = at_most (length (whole_paths name.place ways)) 4096 (if_ok (nat_le (length (whole_paths name.place ways)) 4096) tt tt _ stands).0 in
    let same : onward g.links (length g.links) Null Start ≡ whole_paths name.place ways =
    ap (λ (ls : List Arrow). onward ls (length ls) Null Start) arrows
    ∙ ap (λ (k : ℕ). onward (map f ways) k Null Start) (length-map ways f)
    ∙ same_onward f (bare_arrow name.place) sources targets ways (length ways) Null Start in
    (onward g.links (length g.links) Null Start, listed g Null none, subst (λ (ps : List (List ℕ)). length ps ≤ 4096) (sym same) few)
