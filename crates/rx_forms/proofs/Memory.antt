-- The messages of a specification, as they stand in memory and without their places there.
use Rattle.std.proofs.Common.{◌≡◌, refl, sym, ap, ◌∙◌, ℕ, zero, suc, ◌≤◌, arith, List, [], ◌∷◌, length, Option, Some, None, option_map, map, Bor}
use Rattle.std.specs.List.{ItemBy, slice_get}
use Rattle.std.proofs.lemmas.Option.{slice_get-get_or}
use Rattle.rx_graph.specs.declared.message.Message.{Message}
use Rattle.rx_graph.specs.Graph.{graph_of}

gone : (ms : List Message) (i : ℕ) → length ms ≤ i → slice_get ms i ≡ None
gone [] i end = refl
gone (m ∷ ms) zero end = absurd (omega arith)
gone (m ∷ ms) (suc i) end = let less : length ms ≤ i = omega arith in gone ms i less

slice_get-graphs : (ms : List Message) (i : ℕ) → slice_get (map graph_of ms) i ≡ option_map graph_of (slice_get ms i)
slice_get-graphs [] i = refl
slice_get-graphs (m ∷ ms) zero = refl
slice_get-graphs (m ∷ ms) (suc i) = slice_get-graphs ms i

-- what `get` finds
pub graph_found : (ms : List Message) (i : ℕ) (found : Option (Bor Message)) → ItemBy (λ (m : Bor Message). m.now) ms i i found → option_map (λ m. graph_of m.now) found ≡ slice_get (map graph_of ms) i
graph_found ms i None item = sym (slice_get-graphs ms i ∙ ap (option_map graph_of) (gone ms i item.3))
graph_found ms i (Some m) item = sym (slice_get-graphs ms i ∙ ap (option_map graph_of) (slice_get-get_or ms i m.now item.3.0 ∙ ap Some (sym item.1)))
