-- The links of messages that are the same are the same.
use Rattle.std.proofs.Common.{◌≡◌, ap, List, Option}
use Rattle.rx_syntax.specs.declared.tree.Named.{Named}
use Rattle.rx_syntax.specs.declared.tree.FieldTree.{FieldTree}
use Rattle.rx_syntax.specs.declared.tree.ThenTree.{ThenTree}
use Rattle.rx_syntax.specs.declared.tree.MessageTree.{MessageTree}
use Rattle.rx_links.specs.declared.links.Stop.{Stop}
use Rattle.rx_links.specs.declared.links.Way.{Way}
use Rattle.rx_elab.specs.Parts.{MessageParts}
use Rattle.rx_spec.specs.Arrows.{place_at, place_of_way, arrow_of_way}
use Rattle.rx_trees.specs.Alike as alike
use Rattle.rx_trees.specs.Alike.{AreSame, IsSameIfAny, IsSameThen, IsSameField, IsSameMessage}
use Rattle.rx_meaning.proofs.Links.{clause_same, told_by_field_same}

place_at_same : {fs gs : List FieldTree} {o p : Option ThenTree} (name : Named) (target : Stop) → AreSame IsSameField fs gs → IsSameIfAny IsSameThen o p → place_at name fs target o ≡ place_at name gs target p
place_at_same name target h alike.none = ap (λ r. r.place) (told_by_field_same name target h)
place_at_same name target h (alike.some k) = k.place

place_same : {m n : MessageTree} (name : Named) (w : Way) → IsSameMessage m n → place_of_way name m w ≡ place_of_way name n w
place_same name w h = place_at_same name w.target h.fields (clause_same w h.start h.fields)

pub arrow_same : {m n : MessageTree} (name : Named) (ps : MessageParts) (w : Way) → IsSameMessage m n → arrow_of_way name m ps w ≡ arrow_of_way name n ps w
arrow_same {m} name ps w h = ap (λ p. record (arrow_of_way name m ps w) { place = p }) (place_same name w h)
