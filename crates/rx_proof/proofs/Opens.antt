-- The open disjunctions that the check keeps, one link at a time.
use Rattle.std.proofs.Common.{subst, ◌≡◌, sym, ap, ◌∙◌, ℕ, ◌+◌, ◌≤◌, arith, List, ◌++◌, length, length-append, Bor}
use Rattle.std.specs.List.{remove}
use Rattle.rx_proof.specs.declared.query.Query.{Query}
use Rattle.rx_proof.specs.declared.open.Open.{Open, Own, Entered, roll-Open}
use Rattle.rx_proof.specs.declared.open.Open.TheFolds.{ind-Open, map-Open, fold-roll-Open}
use Rattle.rx_proof.specs.declared.open.Open.TheVariants.{rolls-Own, rolls-Entered}
use Rattle.rx_proof.specs.declared.open.Open.TheOpen.{Open-F}
use Rattle.rx_proof.specs.Open.{disjunctions, disjunctions_step, size, size_step}
use Rattle.rx_proof.proofs.Places.{length-remove_at_most}

pub disjunctions_own : (list : Bor (List (List Query))) → disjunctions (Own list) ≡ list.now
disjunctions_own list = ap disjunctions (sym (rolls-Own list)) ∙ fold-roll-Open (List (List Query)) disjunctions_step (Open-F.Own list)

pub disjunctions_entered : (inner : Bor Open) (i : ℕ) (more : Bor (List (List Query))) → disjunctions (Entered inner i more) ≡ remove (disjunctions inner.now) i ++ more.now
disjunctions_entered inner i more = ap disjunctions (sym (rolls-Entered inner i more)) ∙ fold-roll-Open (List (List Query)) disjunctions_step (Open-F.Entered inner i more)

pub size_own : (list : Bor (List (List Query))) → size (Own list) ≡ length list.now
size_own list = ap size (sym (rolls-Own list)) ∙ fold-roll-Open ℕ size_step (Open-F.Own list)

pub size_entered : (inner : Bor Open) (i : ℕ) (more : Bor (List (List Query))) → size (Entered inner i more) ≡ size inner.now + length more.now
size_entered inner i more = ap size (sym (rolls-Entered inner i more)) ∙ fold-roll-Open ℕ size_step (Open-F.Entered inner i more)

abbrev AtMost : Open → Type 0
AtMost chain = length (disjunctions chain) ≤ size chain

abbrev LayerAtMost : Open-F Open → Type 0
LayerAtMost layer = length (disjunctions_step (map-Open Open (List (List Query)) disjunctions layer)) ≤ size_step (map-Open Open ℕ size layer)

layer_at_most : (y : Open-F ((p : Open) × AtMost p)) → LayerAtMost (map-Open ((p : Open) × AtMost p) Open (λ e. e.0) y)
layer_at_most (Open-F.Own list) = omega arith
layer_at_most (Open-F.Entered inner i more) =
    omega (arith, length-append (remove (disjunctions inner.now.0) i) more.now, length-remove_at_most (disjunctions inner.now.0) i, inner.now.1)

pub length_at_most : (chain : Open) → AtMost chain
length_at_most = ind-Open AtMost (λ x y is. at_layer x (subst LayerAtMost is (layer_at_most y)))
  where
    at_layer : (x : Open-F Open) → LayerAtMost x → AtMost (roll-Open x)
    at_layer x h = omega (arith, ap length (fold-roll-Open (List (List Query)) disjunctions_step x), fold-roll-Open ℕ size_step x, h)
