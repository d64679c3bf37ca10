use Rattle.std.proofs.Common.{◌≡◌, List, length, IfErr, sym, subst, rules}
use Rattle.rx_types.specs.Domain.{Domain}
use Rattle.rx_graph.specs.Fits.{Number}
use Rattle.rx_graph.specs.Graph.{Graph}
use Rattle.rx_draft.specs.Drafts.{StandsForSound, environment_of}
use Rattle.rx_draft.specs.Puts.{Refuses, values_of}
use Rattle.rx_draft.specs.Seals.{KeepsRest}
use Rattle.rx_draft.proofs.Keeping.{keeps}
use Rattle.rx_draft.proofs.draft.Draft.put_number.Goals as goal

pub returns-clause-refused : goal.returns-clause-refused
returns-clause-refused c =
    subst (λ d. IfErr c.put_number.result (λ fault. (domains : List Domain) (m : Graph) → StandsForSound domains m d.plan → Refuses domains m (environment_of d) (values_of domains m d) c.args.field (Number c.args.number) fault)) c.self.view_is c.put_number.ensures.refused

pub returns-clause-rest : goal.returns-clause-rest
returns-clause-rest c =
    λ start h.
    let long : length c.put_number.new.buffer ≡ length c.self.inside.buffer.now = search rules in
    keeps c.put_number.result c.self.inside.plan.now c.self.inside.buffer.now c.put_number.new.buffer c.self.inside.env c.put_number.new.env c.args.field (Number c.args.number) c.put_number.ensures.put c.put_number.ensures.same long c.self.invariant.underway.plan start (subst (λ d. KeepsRest start d) (sym c.self.view_is) h)
