use Rattle.std.proofs.Common.{sym, ap, ◌∙◌, subst}
use Rattle.rx_graph.specs.Fits.{Reads}
use Rattle.rx_context.specs.Plan.{StandsFor}
use Rattle.rx_context.specs.Contexts.{ReadsNothingBy}
use Rattle.rx_draft.specs.Drafts.{StandsForSound}
use Rattle.rx_draft.proofs.sealed.Sealed.verified.Goals as goal

pub unreachable-requires : goal.unreachable-requires
unreachable-requires c =
    let q = c.self.invariant.plan in
    let none = subst (λ o. ReadsNothingBy o.plan o.bytes) c.over.ensures c.in-Err.ensures.none in
    none q.0 q.1 q.2.stands c.args.self.now.fields (c.whole.ensures.reads q.0 q.1 (subst (λ d. StandsForSound q.0 q.1 d.plan) c.self.view_is q.2))

pub returns-clause-fields : goal.returns-clause-fields
returns-clause-fields c =
    let q = c.self.invariant.plan in
    let same = c.in-Ok.ensures.same in
    let stands = subst (StandsFor q.0 q.1) (sym (same.1 ∙ ap (λ o. o.plan) c.over.ensures)) q.2.stands in
    let reads = subst (λ b. Reads q.0 q.1 b c.args.self.now.fields) (sym (same.0 ∙ ap (λ o. o.bytes) c.over.ensures)) (c.whole.ensures.reads q.0 q.1 (subst (λ d. StandsForSound q.0 q.1 d.plan) c.self.view_is q.2)) in
    sym (c.in-Ok.ensures.only q.0 q.1 c.args.self.now.fields stands reads)
