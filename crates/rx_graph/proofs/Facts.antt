-- What an elaborated message has, as other proofs ask for it.
use Rattle.std.proofs.Common.{◌≡◌, ℕ, ◌<◌, ◌≤◌, List, length, Option, Some, None, ◌∙◌, subst, arith}
use Rattle.std.specs.Prelude.{slice_get}
use Rattle.rx_types.specs.Domain.{Domain}
use Rattle.rx_types.specs.Tree.{Tree, Number, Truth, Field, First, Last, Size, Total, Neg, Not, Binary}
use Rattle.rx_types.proofs.Greatest.{number-le_greatest}
use Rattle.rx_graph.specs.declared.message.Node.{Node}
use Rattle.rx_graph.specs.declared.message.Node.TheVariants.{At}
use Rattle.rx_graph.specs.Graph.{Arrow, Graph, overlay_of, greatest_if_any}
use Rattle.rx_graph.specs.Cycles.{IsLink, TargetsAreFields}
use Rattle.rx_graph.specs.Paths.{HasNumber}
use Rattle.rx_graph.specs.Elaborated.{laid_over, IsTarget, IsElaborated}

-- no number of a field is above the field's limit
pub number-le_limit : (t : Option Domain) (n : ℕ) → HasNumber t n → n ≤ greatest_if_any t
number-le_limit None n h = omega (arith, h)
number-le_limit (Some t) n h = number-le_greatest t n h

-- a First that lays the target over x is the First of x
pub laid_over_first : (first : Option Tree) (x : ℕ) → laid_over first ≡ Some x → first ≡ Some (First x)
laid_over_first None x h = cc
laid_over_first (Some (Number n)) x h = cc
laid_over_first (Some (Truth b)) x h = cc
laid_over_first (Some (Field f)) x h = cc
laid_over_first (Some (First f)) x h = cc
laid_over_first (Some (Last f)) x h = cc
laid_over_first (Some (Size f)) x h = cc
laid_over_first (Some Total) x h = cc
laid_over_first (Some (Neg a)) x h = cc
laid_over_first (Some (Not a)) x h = cc
laid_over_first (Some (Binary o a b)) x h = cc

module _ (domains : List Domain) (m : Graph) (e : IsElaborated domains m) where
  at_target : (node : Node) (f : ℕ) → node ≡ At f → IsTarget domains m node → f < length m.fields
  at_target node f same h = let t : IsTarget domains m (At f) = subst (λ n. IsTarget domains m n) same h in t

  pub targets_are_fields : TargetsAreFields m
  targets_are_fields i link f is target = at_target link.target f target (e.links i link is).target

  pub laid_over_overlay : (i : ℕ) (link : Arrow) (f x : ℕ) → IsLink m i link → link.target ≡ At f → overlay_of (slice_get m.fields f) ≡ Some x → link.first ≡ Some (First x)
  laid_over_overlay i link f x is target overlay = laid_over_first link.first x (((e.links i link is).placing f target).over ∙ overlay)
