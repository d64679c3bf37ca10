-- Links that are made one for one.
use Rattle.std.proofs.Common.{◌≡◌, ◌∙◌, sym, ap, refl, ℕ, ◌+◌, ◌<◌, List, [], ◌∷◌, ◌++◌, length, get_or, take, map}
use Rattle.std.proofs.lemmas.List.{take_more, length-map}
use Rattle.rx_graph.specs.declared.message.Link.{Link}
use Rattle.rx_graph.specs.Graph.{Arrow, arrow_of, arrows}
use Rattle.rx_graph.proofs.Ways.{arrows-append, length-arrows}
use Rattle.rx_links.specs.declared.links.Way.{Way}

map_push : (f : Way → Arrow) (ways : List Way) (w : Way) → map f (ways ++ w ∷ []) ≡ map f ways ++ f w ∷ []
map_push f [] w = refl
map_push f (v ∷ ways) w = ap (λ (xs : List Arrow). f v ∷ xs) (map_push f ways w)

-- one link more
pub one_more : (f : Way → Arrow) (links pushed : List Link) (link : Link) (ways : List Way) (i : ℕ) (d : Way) → i < length ways → arrow_of link ≡ f (get_or ways i d) → pushed ≡ links ++ link ∷ [] → arrows links ≡ map f (take i ways) → arrows pushed ≡ map f (take (i + 1) ways)
one_more f links pushed link ways i d h made p inv =
    ap arrows p ∙ arrows-append links (link ∷ [])
    ∙ ap (λ (xs : List Arrow). xs ++ arrow_of link ∷ []) inv
    ∙ ap (λ (x : Arrow). map f (take i ways) ++ x ∷ []) made
    ∙ sym (map_push f (take i ways) (get_or ways i d))
    ∙ ap (map f) (sym (take_more ways i d h))

-- there are as many of them
pub as_many : (f : Way → Arrow) (links : List Link) (ways : List Way) → arrows links ≡ map f ways → length links ≡ length ways
as_many f links ways e = sym (length-arrows links) ∙ ap (λ (xs : List Arrow). length xs) e ∙ length-map ways f
