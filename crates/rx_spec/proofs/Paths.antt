-- Whether a message has few whole paths.
use Rattle.std.proofs.Common.{◌≡◌, ◌∙◌, sym, ap, subst, refl, ℕ, ◌<◌, ◌≤◌, Bool, true, false, List, length, arith, zero, suc, map, Some, [], ◌∷◌}
use Rattle.std.specs.Prelude.{nat_le, slice_get}
use Rattle.std.proofs.lemmas.Bool.{le-leb, leb-true}
use Rattle.rx_graph.specs.declared.message.Node.TheVariants.{Null}
use Rattle.rx_graph.specs.Cycles.{HasNoCycle, AreWholePaths, HasMorePathsTo}
use Rattle.rx_graph.specs.Graph.{Arrow, Graph}
use Rattle.rx_graph.proofs.Listed.{listed}
use Rattle.rx_graph.proofs.OneList.{one_list}
use Rattle.rx_syntax.specs.declared.token.Place.{Place}
use Rattle.rx_links.specs.Cycle.{HasEnds}
use Rattle.rx_links.specs.declared.links.Way.{Way}
use Rattle.rx_spec.specs.Kept.{paths_onward}
use Rattle.rx_spec.specs.Shape.{bare_arrow}

not_true : (b : Bool) → (b ≡ true → ⊥) → b ≡ false
not_true true h = absurd (h refl)
not_true false h = refl

pub few_listed : (m : Graph) (ps : List (List ℕ)) → HasNoCycle m → AreWholePaths m ps → length ps ≤ 4096 → true ≡ nat_le (length (paths_onward m)) 4096
few_listed m ps none a few =
    let e : ps ≡ paths_onward m = one_list m Null ps (paths_onward m) a (listed m Null none) in
    sym (le-leb (length (paths_onward m)) 4096 (subst (λ (qs : List (List ℕ)). length qs ≤ 4096) e few))

pub many_listed : (m : Graph) → HasNoCycle m → HasMorePathsTo m Null 4096 → false ≡ nat_le (length (paths_onward m)) 4096
many_listed m none h =
    let e : h.0 ≡ paths_onward m = one_list m Null h.0 (paths_onward m) h.1 (listed m Null none) in
    let many : 4096 < length (paths_onward m) = subst (λ (qs : List (List ℕ)). 4096 < length qs) e h.2 in
    sym (not_true (nat_le (length (paths_onward m)) 4096) (λ t. let le : length (paths_onward m) ≤ 4096 = leb-true (length (paths_onward m)) 4096 t in absurd (omega arith)))

-- ---- a message of bare links has the ends of its links

mapped : (p : Place) (ways : List Way) (i : ℕ) (link : Arrow) → slice_get (map (bare_arrow p) ways) i ≡ Some link → (w : Way) × (slice_get ways i ≡ Some w) × (bare_arrow p w ≡ link)
mapped p [] i link h = cc
mapped p (w ∷ ways) zero link h = (w, refl, cc)
mapped p (w ∷ ways) (suc i) link h = mapped p ways i link h

pub bare_ends : (p : Place) (ways : List Way) (m : Graph) → m.links ≡ map (bare_arrow p) ways → HasEnds m ways
bare_ends p ways m e i link h =
    let f = mapped p ways i link (ap (λ (ls : List Arrow). slice_get ls i) (sym e) ∙ h) in
    (f.0, f.1, ap (λ (l : Arrow). l.source) (sym f.2), ap (λ (l : Arrow). l.target) (sym f.2))
