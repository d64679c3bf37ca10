-- At most one path fits a valuation.
use Rattle.std.proofs.Common.{◌≡◌, ℕ, List, [], ◌∷◌, Some, sym, ap, subst}
use Rattle.std.specs.List.{AllByRecursion}
use Rattle.rx_types.specs.Domain.{Domain}
use Rattle.rx_types.specs.Environment.{Placed}
use Rattle.rx_graph.specs.Graph.{Graph, type_of}
use Rattle.rx_graph.specs.Paths.{Exclusive, IsReadBy}
use Rattle.rx_graph.proofs.Unique.{one_path}
use Rattle.rx_graph.specs.Fits.{Assigned, content_of, number_or_zero, by_valuation, IsContent, Fits}

module _ (domains : List Domain) (m : Graph) (values : List Assigned) where
  -- what a path's domains have is what the valuation gives them
  pub read : (fields : List Placed) → AllByRecursion (λ p. IsContent (type_of domains m p.field) p (content_of p.field values)) fields → AllByRecursion (IsReadBy domains m (by_valuation values)) fields
  read [] h = tt
  read (p ∷ ps) h =
      let number : (t : Domain) → type_of domains m p.field ≡ Some t → p.number ≡ number_or_zero (content_of p.field values) =
      λ t is. sym (ap number_or_zero (let k : IsContent (Some t) p (content_of p.field values) = subst (λ o. IsContent o p (content_of p.field values)) is h.0 in k)) in
      (number, read ps h.1)

  pub one_fit : Exclusive domains m → (total : ℕ) (path other : List ℕ) (fields more : List Placed) → Fits domains m values total path fields → Fits domains m values total other more → (path ≡ other) × (fields ≡ more)
  one_fit exclusive total path other fields more f g =
      one_path domains m exclusive (by_valuation values) total path other fields more f.whole g.whole (read fields f.contents) (read more g.contents)
