-- What a check of one link asks.
use Rattle.std.proofs.Common.{◌≡◌, ℕ, List, refl}
use Rattle.rx_types.specs.Domain.{Domain}
use Rattle.rx_graph.specs.declared.message.Node.{Node}
use Rattle.rx_graph.specs.Graph.{Graph}
use Rattle.rx_forms.specs.Normal.{Formed}
use Rattle.rx_layout.specs.declared.checklist.LinkCheck.{LinkCheck}
use Rattle.rx_layout.specs.declared.checklist.LinkCheck.TheVariants.{Taken, Position, Grid, Overlay, Cover, Whole}
use Rattle.rx_layout.specs.Listed.{goal_of}
use Rattle.rx_layout.specs.Laid.{asked_link}
use Rattle.rx_layout.specs.QueryOf.{asked_by, link_numbered, with_link}

module _ (domains : List Domain) (m : Graph) (node : Node) (n : ℕ) (fields : List Formed) (division : ℕ) where
  abbrev Asks : LinkCheck → Type 0
  Asks check = with_link domains m (link_numbered m node n) fields division (λ l. asked_link domains m check fields division l) ≡ asked_by domains m (goal_of check node n) fields division

  by_check : (check : LinkCheck) → Asks check
  by_check Taken = refl
  by_check Position = refl
  by_check Grid = refl
  by_check Overlay = refl
  by_check Cover = refl
  by_check Whole = refl

pub link_asked : (domains : List Domain) (m : Graph) (check : LinkCheck) (node : Node) (n : ℕ) (fields : List Formed) (division : ℕ) → with_link domains m (link_numbered m node n) fields division (λ l. asked_link domains m check fields division l) ≡ asked_by domains m (goal_of check node n) fields division
link_asked domains m check node n fields division = by_check domains m node n fields division check
