-- Links as they stand in memory, and without their places there.
use Rattle.std.proofs.Common.{◌≡◌, refl, sym, ap, ◌∙◌, ℕ, zero, suc, ◌≤◌, arith, Bool, List, [], ◌∷◌, length, take, Option, Some, None, option_map, Bor}
use Rattle.std.specs.List.{ItemBy, slice_get, count_by}
use Rattle.std.proofs.lemmas.Option.{slice_get-get_or}
use Rattle.rx_graph.specs.declared.message.Link.{Link}
use Rattle.rx_graph.specs.Graph.{Arrow, arrow_of, arrows}

pub slice_get-arrows : (links : List Link) (i : ℕ) → slice_get (arrows links) i ≡ option_map arrow_of (slice_get links i)
slice_get-arrows [] i = refl
slice_get-arrows (link ∷ links) zero = refl
slice_get-arrows (link ∷ links) (suc i) = slice_get-arrows links i

pub take-arrows : (links : List Link) (i : ℕ) → arrows (take i links) ≡ take i (arrows links)
take-arrows links zero = refl
take-arrows [] (suc i) = refl
take-arrows (link ∷ links) (suc i) = ap (λ (ls : List Arrow). arrow_of link ∷ ls) (take-arrows links i)

-- a link that is there stands within the list
pub within_links : (links : List Link) (i : ℕ) (a : Arrow) → Some a ≡ slice_get (arrows links) i → i ≤ length links
within_links [] i a is = cc
within_links (link ∷ links) zero a is = omega arith
within_links (link ∷ links) (suc i) a is = let rest = within_links links i a is in omega (arith, rest)

past : (links : List Link) (i : ℕ) → length links ≤ i → slice_get links i ≡ None
past [] i end = refl
past (link ∷ links) zero end = absurd (omega arith)
past (link ∷ links) (suc i) end = let less : length links ≤ i = omega arith in past links i less

-- what `get` finds
pub arrow_found : (links : List Link) (i : ℕ) (found : Option (Bor Link)) → ItemBy (λ (l : Bor Link). l.now) links i i found → option_map (λ l. arrow_of l.now) found ≡ slice_get (arrows links) i
arrow_found links i None item = sym (slice_get-arrows links i ∙ ap (option_map arrow_of) (past links i item.3))
arrow_found links i (Some link) item = sym (slice_get-arrows links i ∙ ap (option_map arrow_of) (slice_get-get_or links i link.now item.3.0 ∙ ap Some (sym item.1)))

pub count_front : (p : Arrow → Bool) (links : List Link) (i : ℕ) → count_by p (arrows (take i links)) ≡ count_by p (take i (arrows links))
count_front p links i = ap (λ (ls : List Arrow). count_by p ls) (take-arrows links i)
