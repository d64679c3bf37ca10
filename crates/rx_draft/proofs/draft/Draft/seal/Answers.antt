use Rattle.std.proofs.Common.{List, sym, subst, take}
use Rattle.rx_types.specs.Domain.{Domain}
use Rattle.rx_graph.specs.Fits.{ReadsAs}
use Rattle.rx_graph.specs.Graph.{Graph}
use Rattle.rx_draft.specs.Drafts.{StandsForSound, drafted, environment_of}
use Rattle.rx_draft.specs.Puts.{IsDone, values_of}
use Rattle.rx_draft.proofs.Whole.{reads_done, reads_as_put}
use Rattle.rx_draft.proofs.draft.Draft.seal.Goals as goal

pub of-requires : goal.of-requires
of-requires c =
    let d = drafted c.self.inside.buffer.now c.self.inside.plan.now c.self.inside.env in
    let h = c.self.invariant in
    let q = h.underway.plan in
    record {
      plan = q;
      room = h.room;
      short = (h.underway.on q.0 q.1 q.2).1.short;
      reads = λ domains m s.
          let done = subst (λ x. IsDone domains m (environment_of x)) (sym c.self.view_is) ((c.is_done.ensures domains m (subst (λ x. StandsForSound domains m x.plan) c.self.view_is s)).0 c.if-is_done.true) in
          reads_done d h domains m s done;
    }

pub returns-then-is_done-clause-reads : goal.returns-then-is_done-clause-reads
returns-then-is_done-clause-reads c =
    let d = drafted c.self.inside.buffer.now c.self.inside.plan.now c.self.inside.env in
    subst (λ x. (domains : List Domain) (m : Graph) → StandsForSound domains m x.plan → ReadsAs domains m (take x.total x.bytes) (values_of domains m x)) (sym c.of.ensures)
    (λ domains m s.
    let done = subst (λ x. IsDone domains m (environment_of x)) (sym c.self.view_is) ((c.is_done.ensures domains m (subst (λ x. StandsForSound domains m x.plan) c.self.view_is s)).0 c.if-is_done.true) in
    reads_as_put d c.self.invariant domains m s done)
