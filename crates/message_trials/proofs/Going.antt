-- One link more in front of a path.
use Rattle.std.proofs.Common.{◌≡◌, ℕ, List, [], ◌∷◌, ◌++◌, Option, Some, None, sym, ap, ◌∙◌, subst, append_assoc}
use Rattle.std.specs.Prelude.{IfSome}
use Rattle.rx_types.specs.Domain.{Domain}
use Rattle.rx_types.specs.Environment.{Placed, Environment, in_message}
use Rattle.rx_graph.specs.declared.message.Node.{Node}
use Rattle.rx_graph.specs.declared.message.Node.TheVariants.{At}
use Rattle.rx_graph.specs.Graph.{Arrow, Graph}
use Rattle.rx_graph.specs.Cycles.{IsLink}
use Rattle.rx_graph.specs.Paths.{Places, Leads}

module _ (domains : List Domain) (m : Graph) where
  -- what follows a path from a node comes to
  abbrev pub ComesTo : Environment → Node → List ℕ → (Environment × Node) → Type 0
  ComesTo e at path r = (fields : List Placed) × (r.0 ≡ in_message e.total (e.fields ++ fields)) × Leads domains m e.total e.fields at path fields r.1

  step : (e : Environment) (at : Node) (i : ℕ) (link : Arrow) (p : Placed) (path : List ℕ) → IsLink m i link → link.source ≡ at → Places domains m link e p → (r : Environment × Node) → ComesTo (in_message e.total (e.fields ++ p ∷ [])) (At p.field) path r → ComesTo e at (i ∷ path) r
  step e at i link p path is source places r h =
      (p ∷ h.0, h.1 ∙ ap (λ fs. in_message e.total fs) (append_assoc e.fields (p ∷ []) h.0), (link, is, source, places, h.2))

  pub goes_on : (e more : Environment) (at : Node) (i : ℕ) (link : Arrow) (p : Placed) (path whole : List ℕ) → IsLink m i link → link.source ≡ at → Places domains m link e p → more ≡ in_message e.total (e.fields ++ p ∷ []) → whole ≡ i ∷ path → (o : Option (Environment × Node)) → IfSome o (ComesTo more (At p.field) path) → IfSome o (ComesTo e at whole)
  goes_on e more at i link p path whole is source places grown same None h = tt
  goes_on e more at i link p path whole is source places grown same (Some r) h =
      subst (λ w. ComesTo e at w r) (sym same) (step e at i link p path is source places r (subst (λ x. ComesTo x (At p.field) path r) grown h))
