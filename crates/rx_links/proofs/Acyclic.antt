-- Messages whose links do not lead back.
use Rattle.std.proofs.Common.{◌≡◌, ◌∙◌, ap, sym, refl, subst, ℕ, zero, suc, ◌+◌, ◌<◌, List, [], ◌∷◌, map, Option, Some, None, Ok, arith}
use Rattle.std.specs.Prelude.{slice_get}
use Rattle.std.specs.Option.{option_map}
use Rattle.std.proofs.lemmas.Option.{slice_get-map, none-some, same_Some}
use Rattle.rx_syntax.specs.declared.tree.Named.{Named}
use Rattle.rx_syntax.specs.declared.tree.ThenTree.{ThenTree}
use Rattle.rx_syntax.specs.declared.tree.FieldTree.{FieldTree}
use Rattle.rx_cycle.specs.declared.ends.Ends.{Ends}
use Rattle.rx_cycle.specs.Graph as numbered
use Rattle.rx_cycle.proofs.Leading.{told}
use Rattle.rx_graph.specs.declared.message.Node.{Node}
use Rattle.rx_graph.specs.declared.message.Node.TheVariants as node
use Rattle.rx_graph.specs.Graph.{Graph}
use Rattle.rx_graph.specs.Cycles.{IsPath}
use Rattle.rx_judge.proofs.Meanings.{err_differs}
use Rattle.rx_links.specs.declared.links.Stop.{Stop}
use Rattle.rx_links.specs.declared.links.Stop.TheVariants.{Start, At, Null}
use Rattle.rx_links.specs.declared.links.Way.{Way}
use Rattle.rx_links.specs.Cycle.{IsStop, AreWithin, node_number, ends_of, node_of, HasEnds, unless_returning, StandsWithoutCycle}

number : Node → ℕ
number node.Start = 0
number node.Null = 1
number (node.At i) = i + 2

same_number : (s : Stop) → node_number s ≡ number (node_of s)
unfolding number
same_number Start = refl
same_number (At i) = refl
same_number Null = refl

path_by_number : (m : Graph) (ways : List Way) → HasEnds m ways → (at : Node) (path : List ℕ) (end : Node) → IsPath m at path end → numbered.IsPath (map ends_of ways) (number at) path (number end)
path_by_number m ways h at [] end p = ap number p
path_by_number m ways h at (i ∷ path) end p =
    let w = h i p.0 p.1 in
    let link : slice_get (map ends_of ways) i ≡ Some (ends_of w.0) = slice_get-map ends_of ways i ∙ ap (λ (o : Option Way). option_map ends_of o) w.1 in
    let source : node_number w.0.source ≡ number at = same_number w.0.source ∙ ap number (sym w.2 ∙ p.2) in
    let target : number p.0.target ≡ node_number w.0.target = ap number w.3 ∙ sym (same_number w.0.target) in
    (ends_of w.0, link, source, subst (λ (x : ℕ). numbered.IsPath (map ends_of ways) x path (number end)) target (path_by_number m ways h p.0.target path end p.3))

none_returning : (name : Named) (start : List ThenTree) (fields : List FieldTree) (ways : List Way) (links : List Ends) (first : Option ℕ) → numbered.TellsFirst links first → unless_returning name start fields ways first ≡ Ok tt → numbered.HasNoCycle links
none_returning name start fields ways links None t e = t
none_returning name start fields ways links (Some i) t e = absurd (err_differs _ _ e)

pub acyclic : StandsWithoutCycle
acyclic name start fields ways m e h =
    let none = none_returning name start fields ways (map ends_of ways) _ (told (map ends_of ways)) e in
    λ at i path p. none (number at) i path (path_by_number m ways h at (i ∷ path) at p)

-- ---- numbers of nodes

number_below : (count : ℕ) (s : Stop) → IsStop count s → node_number s < count + 2
number_below count Start h = omega arith
number_below count Null h = omega arith
number_below count (At i) h = omega arith

mapped_link : (ways : List Way) (i : ℕ) (link : Ends) → slice_get (map ends_of ways) i ≡ Some link → (w : Way) × (slice_get ways i ≡ Some w) × (ends_of w ≡ link)
mapped_link [] i link h = absurd (none-some link h)
mapped_link (w ∷ ways) zero link h = (w, refl, same_Some (ends_of w) link h)
mapped_link (w ∷ ways) (suc i) link h = mapped_link ways i link h

pub ends_below : (count : ℕ) (ways : List Way) → AreWithin count ways → numbered.AreBelow (count + 2) (map ends_of ways)
ends_below count ways a = record {
  source = λ i link h. let w = mapped_link ways i link h in subst (λ (x : Ends). x.source < count + 2) w.2 (number_below count w.0.source (a.source i w.0 w.1));
  target = λ i link h. let w = mapped_link ways i link h in subst (λ (x : Ends). x.target < count + 2) w.2 (number_below count w.0.target (a.target i w.0 w.1));
}
