-- Links that return, and ranks that tell that a link does not.
use Rattle.std.proofs.Common.{◌≡◌, ℕ, ◌<◌, ◌≤◌, List, [], ◌∷◌, length, get_or, sym, ap, subst, arith}
use Rattle.std.specs.Prelude.{◌↔◌}
use Rattle.std.proofs.lemmas.Option.{slice_get_within}
use Rattle.rx_cycle.specs.declared.ends.Ends.{Ends}
use Rattle.rx_cycle.specs.Graph.{IsLink, IsPath, LeadsTo, Returns, HasNoCycle}
use Rattle.rx_cycle.specs.Ways.{NeverRises}
use Rattle.rx_cycle.proofs.Searching.{same_link}

falls_along : (ranks : List ℕ) (links : List Ends) → NeverRises ranks links → (at : ℕ) (path : List ℕ) (end : ℕ) → IsPath links at path end → get_or ranks end 0 ≤ get_or ranks at 0
falls_along ranks links n at [] end p = subst (λ (x : ℕ). get_or ranks x 0 ≤ get_or ranks at 0) p (omega arith)
falls_along ranks links n at (i ∷ path) end p =
    let one = n i p.0 p.1 in
    let more = falls_along ranks links n p.0.target path end p.3 in
    let same : get_or ranks p.0.source 0 ≡ get_or ranks at 0 = ap (λ (x : ℕ). get_or ranks x 0) p.2 in
    omega arith

-- where the rank falls along a link, it does not return
pub falls_for_good : (ranks : List ℕ) (links : List Ends) (i : ℕ) (link : Ends) → NeverRises ranks links → IsLink links i link → get_or ranks link.target 0 < get_or ranks link.source 0 → Returns links i → ⊥
falls_for_good ranks links i link n l h r =
    let same = same_link links i link r.0 l r.1 in
    let back = falls_along ranks links n r.0.target r.2.0 r.0.source r.2.1 in
    let a : get_or ranks link.target 0 ≡ get_or ranks r.0.target 0 = ap (λ (x : Ends). get_or ranks x.target 0) same in
    let b : get_or ranks link.source 0 ≡ get_or ranks r.0.source 0 = ap (λ (x : Ends). get_or ranks x.source 0) same in
    absurd (omega arith)

-- a link returns where its target leads to its source
pub by_leading : (links : List Ends) (i : ℕ) (link : Ends) → IsLink links i link → LeadsTo links link.target link.source ↔ Returns links i
by_leading links i link l = (
  λ w. (link, l, w),
  λ r. subst (λ (x : Ends). LeadsTo links x.target x.source) (sym (same_link links i link r.0 l r.1)) r.2,
)

-- where no link returns there is no cycle
pub no_cycle : (links : List Ends) → ((i : ℕ) → i < length links → Returns links i → ⊥) → HasNoCycle links
no_cycle links none at i path p = none i (slice_get_within links i p.0 p.1) (p.0, p.1, (path, subst (λ (x : ℕ). IsPath links p.0.target path x) (sym p.2) p.3))
