use Rattle.std.proofs.Common.{◌≡◌, List, length, IfErr, sym, subst, rules}
use Rattle.rx_types.specs.Domain.{Domain}
use Rattle.rx_graph.specs.Fits.{Bytes}
use Rattle.rx_graph.specs.Graph.{Graph}
use Rattle.rx_draft.specs.Drafts.{StandsForSound, environment_of}
use Rattle.rx_draft.specs.Puts.{Refuses, values_of}
use Rattle.rx_draft.specs.Seals.{KeepsRest}
use Rattle.rx_draft.proofs.Keeping.{keeps}
use Rattle.rx_draft.proofs.draft.Draft.put_bytes.Goals as goal

pub returns-clause-refused : goal.returns-clause-refused
returns-clause-refused c =
    subst (λ d. IfErr c.put_bytes.result (λ fault. (domains : List Domain) (m : Graph) → StandsForSound domains m d.plan → Refuses domains m (environment_of d) (values_of domains m d) c.args.field (Bytes c.args.bytes.now) fault)) c.self.view_is c.put_bytes.ensures.refused

pub returns-clause-rest : goal.returns-clause-rest
returns-clause-rest c =
    λ start h.
    let long : length c.put_bytes.new.buffer ≡ length c.self.inside.buffer.now = search rules in
    keeps c.put_bytes.result c.self.inside.plan.now c.self.inside.buffer.now c.put_bytes.new.buffer c.self.inside.env c.put_bytes.new.env c.args.field (Bytes c.args.bytes.now) c.put_bytes.ensures.put c.put_bytes.ensures.same long c.self.invariant.underway.plan start (subst (λ d. KeepsRest start d) (sym c.self.view_is) h)
