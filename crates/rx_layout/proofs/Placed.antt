-- The fields of a partial path lie in the message, so the last end does.
use Rattle.std.proofs.Common.{ℕ, ◌*◌, arith, List, [], ◌∷◌, ◌++◌, pos, ◌+ℤ◌, ◌≤ℤ◌}
use Rattle.std.specs.List.{AllByRecursion}
use Rattle.std.proofs.lemmas.Int.{ints}
use Rattle.rx_types.specs.Domain.{Domain}
use Rattle.rx_types.specs.Environment.{Placed, in_message, end_of}
use Rattle.rx_graph.specs.declared.message.Node.{Node}
use Rattle.rx_graph.specs.declared.message.Node.TheVariants.{At}
use Rattle.rx_graph.specs.Graph.{Graph}
use Rattle.rx_graph.specs.Paths.{LiesWithin, Leads}

abbrev pub EndsWithin : ℕ → List Placed → Type 0
EndsWithin total fields = AllByRecursion (λ p. (pos 0 ≤ℤ (p.first +ℤ p.size)) × ((p.first +ℤ p.size) ≤ℤ pos (total * 8))) fields

end_within : (total : ℕ) (before : List Placed) (p : Placed) → LiesWithin (in_message total before) p.first p.size → (pos 0 ≤ℤ (p.first +ℤ p.size)) × ((p.first +ℤ p.size) ≤ℤ pos (total * 8))
end_within total before p w = (omega (arith, ints, w.begins, w.long), w.ends)

pub last_within : (total : ℕ) (fields : List Placed) → EndsWithin total fields → (pos 0 ≤ℤ end_of fields) × (end_of fields ≤ℤ pos (total * 8))
last_within total [] w = (omega (arith, ints), omega (arith, ints))
last_within total (p ∷ []) w = w.0
last_within total (p ∷ q ∷ ps) w = last_within total (q ∷ ps) w.1

pub only_above : (total : ℕ) (fields : List Placed) → EndsWithin total fields → AllByRecursion (λ p. pos 0 ≤ℤ (p.first +ℤ p.size)) fields
only_above total [] w = tt
only_above total (p ∷ ps) w = (w.0.0, only_above total ps w.1)

module _ (domains : List Domain) (m : Graph) where
  pub ends_within : (total : ℕ) (before : List Placed) (at : Node) (path : List ℕ) (fields : List Placed) (end : Node) → Leads domains m total before at path fields end → EndsWithin total fields
  ends_within total before at [] [] end h = tt
  ends_within total before at [] (p ∷ fields) end h = absurd h
  ends_within total before at (i ∷ path) [] end h = absurd h
  ends_within total before at (i ∷ path) (p ∷ fields) end h = (end_within total before p h.3.within, ends_within total (before ++ p ∷ []) (At p.field) path fields end h.4)
