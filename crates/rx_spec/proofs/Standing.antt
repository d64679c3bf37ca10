-- What is known of the fields of a message, and what is shown of its links.
--   FieldsStand     each field has what was found of its type
--   LinksStand      the links of an elaborated message
use Rattle.std.specs.Prelude.{◌≡◌, ℕ, ◌<◌, ◌≤◌, List, length, None, Some, slice_get}
use Rattle.rx_syntax.specs.declared.tree.HeaderTree.{HeaderTree}
use Rattle.rx_syntax.specs.declared.tree.MessageTree.{MessageTree}
use Rattle.rx_types.specs.Domain.{Domain}
use Rattle.rx_graph.specs.declared.message.Node.TheVariants.{Start, At, Null}
use Rattle.rx_graph.specs.Cycles.{IsLink, HasNoCycle, HasPathsUpTo}
use Rattle.rx_graph.specs.Elaborated.{GoesOn, IsElaboratedLink}
use Rattle.rx_graph.specs.Graph.{Arrow, Graph, type_of, overlay_of, kind_of, limit_of}
use Rattle.rx_judge.specs.Sound.{FitScope}
use Rattle.rx_elab.specs.Firsts.{overlay_in}
use Rattle.rx_elab.specs.Types.{Types}
use Rattle.rx_elab.specs.declared.fields.Held.{Held}
use Rattle.rx_elab.specs.declared.fields.Held.TheVariants as holds
use Rattle.rx_elab.specs.declared.layings.Laying.{Laying}
use Rattle.rx_elab.specs.declared.types.KnownScalar.{KnownScalar}
use Rattle.rx_spec.specs.Messages.{scope_in}

-- the fields of message g, which hold these, and which links lay so
pub record FieldsStand (domains : List Domain) (t : Types) (h : HeaderTree) (held : List Held) (ls : List Laying) (m : MessageTree) (g : Graph) : Type 0 where
  pub count : length g.fields ≡ length m.fields.items
  pub held_count : length held ≡ length m.fields.items
  pub scope : FitScope (kind_of domains g) (limit_of domains g) (length g.fields) (scope_in t h held m)
  pub scalar : (i : ℕ) (s : KnownScalar) → slice_get held i ≡ Some (holds.Scalar s) → (d : Domain) × (type_of domains g i ≡ Some d)
  pub opaque : (i : ℕ) → slice_get held i ≡ Some holds.Opaque → type_of domains g i ≡ None
  pub overlay : (i : ℕ) → i < length g.fields → overlay_of (slice_get g.fields i) ≡ overlay_in ls i

-- the links of message g
pub record LinksStand (domains : List Domain) (g : Graph) : Type 0 where
  pub few_fields : length g.fields ≤ 128
  pub few_links : length g.links ≤ 512
  pub few_paths : HasPathsUpTo g Null 4096
  pub links : (i : ℕ) (link : Arrow) → IsLink g i link → IsElaboratedLink domains g link
  pub begins : GoesOn g Start
  pub goes_on : (f : ℕ) → f < length g.fields → GoesOn g (At f)
  pub acyclic : HasNoCycle g
