-- What is asked of the scalar types of the code is asked of those that are known.
use Rattle.std.proofs.Common.{◌∙◌, sym, ap, subst, List, rules}
use Rattle.rx_types.specs.Domain.{Domain}
use Rattle.rx_graph.specs.Elaborated.{IsElaborated}
use Rattle.rx_graph.specs.Graph.{graph_of}
use Rattle.rx_graph.specs.Typed.{Typed}
use Rattle.rx_forms.specs.PathLimit.{keeps_limit}
use Rattle.rx_spec.proofs.Limits.{domains_same, boolean_first}
use Rattle.rx_spec.proofs.limit.limit_is_kept.Goals as goal

pub with-message-requires : goal.with-message-requires
with-message-requires c = record {
  elaborated = subst (λ (ds : List Domain). IsElaborated ds (graph_of c.args.message.now)) (sym (domains_same c.args.types.now c.deref.result.now (search rules))) c.requires.elaborated;
  boolean = λ d h. boolean_first c.args.types.now c.deref.result.now d (search rules) c.requires.boolean h;
}

pub returns-in-Ok : goal.returns-in-Ok
returns-in-Ok c =
    c.in-Ok.ensures
    ∙ ap (λ (t : Typed). keeps_limit t.domains t.graph) c.with-message.ensures
    ∙ ap (λ (ds : List Domain). keeps_limit ds (graph_of c.args.message.now)) (domains_same c.args.types.now c.deref.result.now (search rules))
