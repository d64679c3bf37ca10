use Rattle.std.proofs.Common.{◌≡◌, true, false, List, take, sym, subst}
use Rattle.rx_types.specs.Domain.{Domain}
use Rattle.rx_graph.specs.Fits.{ReadsAs}
use Rattle.rx_graph.specs.Graph.{Graph}
use Rattle.rx_draft.specs.Drafts.{StandsForSound}
use Rattle.rx_serial.proofs.Finished.{is_done, reads_written, unused}
use Rattle.rx_serial.proofs.writing.finish.Goals as goal

not_ok : false ≡ true → ⊥
not_ok e = cc

pub unreachable-requires : goal.unreachable-requires
unreachable-requires c =
    let q = c.requires.draft.underway.plan in
    let done = is_done q.0 q.1 c.args.draft q.2 c.requires.draft c.args.valuation.now (c.requires.gives q.0 q.1 q.2) (c.requires.length q.0 q.1 q.2) (c.requires.null q.0 q.1 q.2) c.first_unused.ensures.ascending c.in-None.ensures.none in
    not_ok ((c.in-Err.ensures.done q.0 q.1 q.2).1 done)

pub returns-in-Some-clause-told : goal.returns-in-Some-clause-told
returns-in-Some-clause-told c =
    λ domains m s.
    unused domains m c.args.draft s c.requires.draft c.args.valuation.now (c.requires.gives domains m s) (c.requires.length domains m s) (c.requires.null domains m s) c.in-Some.field c.in-Some.ensures.some.0 c.in-Some.ensures.some.1

pub returns-in-Ok-clause-reads : goal.returns-in-Ok-clause-reads
returns-in-Ok-clause-reads c =
    subst (λ x. (domains : List Domain) (m : Graph) → StandsForSound domains m c.args.draft.plan → ReadsAs domains m (take x.total x.bytes) c.args.valuation.now) (sym c.in-Ok.ensures.sealed)
    (λ domains m s. reads_written domains m c.args.draft s c.requires.draft c.args.valuation.now (c.requires.gives domains m s) (c.requires.length domains m s) (c.requires.null domains m s) c.first_unused.ensures.ascending c.in-None.ensures.none)
