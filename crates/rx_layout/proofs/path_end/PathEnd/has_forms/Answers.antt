use Rattle.std.proofs.Common.{subst}
use Rattle.rx_graph.specs.Typed.{Typed}
use Rattle.rx_forms.specs.Code.{limits}
use Rattle.rx_forms.specs.Links.{IsFormable, IsNarrowLink, AreFormable, AreNarrow}
use Rattle.rx_layout.specs.TypedPath.{TypedEnd, message_of, path_of}
use Rattle.rx_layout.proofs.path_end.PathEnd.has_forms.Goals as goal

pub returns-clause-formable : goal.returns-clause-formable
returns-clause-formable c =
    subst (λ (e : TypedEnd). IsFormable (limits (message_of (path_of e))) e.arrow) c.self.view_is
    (subst (λ (t : Typed). AreFormable (limits t) t.graph) c.message.ensures c.links_have_forms.ensures.formable c.self.invariant.0 _ c.self.invariant.1)

pub returns-clause-narrow : goal.returns-clause-narrow
returns-clause-narrow c =
    subst (λ (e : TypedEnd). IsNarrowLink (limits (message_of (path_of e))) e.arrow) c.self.view_is
    (subst (λ (t : Typed). AreNarrow (limits t) t.graph) c.message.ensures c.links_have_forms.ensures.narrow c.self.invariant.0 _ c.self.invariant.1)
