-- A put changes no bit outside the places of the fields.
use Rattle.std.proofs.Common.{◌≡◌, ℕ, List, [], ◌∷◌, ◌++◌, length, Result, Ok, Err, OnOk, OnErr, sym, ap, ◌∙◌, subst}
use Rattle.std.specs.List.{AllByRecursion}
use Rattle.rx_types.specs.Domain.{Domain}
use Rattle.rx_types.specs.Environment.{Placed, Environment}
use Rattle.rx_graph.specs.Fits.{Content}
use Rattle.rx_graph.specs.Graph.{Graph}
use Rattle.rx_context.specs.Plan.{Planned}
use Rattle.rx_draft.specs.Drafts.{Drafted, drafted, StandsForSound, IsSoundPlan}
use Rattle.rx_draft.specs.Puts.{HasPut}
use Rattle.rx_draft.specs.Seals.{IsOutside, KeepsRest}

split : (P : Placed → Type 0) (ps : List Placed) (p : Placed) → AllByRecursion P (ps ++ p ∷ []) → AllByRecursion P ps × P p
split P [] p h = (tt, h.0)
split P (q ∷ ps) p h = let r = split P ps p h.1 in ((h.0, r.0), r.1)

kept_by : (domains : List Domain) (m : Graph) (old new : Drafted) (f : ℕ) (c : Content) → HasPut domains m old new f c → length new.bytes ≡ length old.bytes → (start : List ℕ) → KeepsRest start old → KeepsRest start new
kept_by domains m old new f c put long start h =
    record {
      long = long ∙ h.long;
      bits = λ i out.
          let parts = split (IsOutside i) old.fields put.place (subst (λ l. AllByRecursion (IsOutside i) l) put.fields out) in
          put.others i parts.1 ∙ h.bits i parts.0;
    }

-- whether the field was put or not
pub keeps : {A B : Type 0} (r : Result A B) (p : Planned) (old new : List ℕ) (e k : Environment) (f : ℕ) (c : Content) → OnOk r ((domains : List Domain) (m : Graph) → StandsForSound domains m p → HasPut domains m (drafted old p e) (drafted new p k) f c)
    → OnErr r ((new ≡ old) × (k ≡ e)) → length new ≡ length old → IsSoundPlan p → (start : List ℕ) → KeepsRest start (drafted old p e) → KeepsRest start (drafted new p k)
keeps (Ok u) p old new e k f c put same long plan start h = kept_by plan.0 plan.1 (drafted old p e) (drafted new p k) f c (put plan.0 plan.1 plan.2) long start h
keeps (Err u) p old new e k f c put same long plan start h =
    subst (λ x. KeepsRest start (drafted new p x)) (sym same.1) (subst (λ b. KeepsRest start (drafted b p e)) (sym same.0) h)
