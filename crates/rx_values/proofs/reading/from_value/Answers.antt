use Rattle.std.proofs.Common.{◌≡◌, List, Result, Ok, Err, IfOk, IfErr, IfSome, sym, ap, subst}
use Rattle.serde_json.specs.View.{view, members_view}
use Rattle.rx_graph.specs.Graph.{domains_in, graph_of}
use Rattle.rx_graph.specs.Fits.{Assigned}
use Rattle.rx_values.specs.Reading.{Refusal, values_in}
use Rattle.rx_values.specs.Answers.{refusal_of}
use Rattle.rx_values.proofs.Judging.{object_in, no_object}
use Rattle.rx_values.proofs.reading.from_value.Goals as goal

pub returns-in-Some-clause-ok : goal.returns-in-Some-clause-ok
returns-in-Some-clause-ok c =
    let same = ap (values_in (domains_in c.args.scalars.now) (graph_of c.args.message.now)) (object_in (view c.args.value.now) (members_view c.in-Some.members.now.entries) c.in-Some.ensures) in
    subst (λ (x : Result (List Assigned) Refusal). IfOk c.read_members.result (λ v. x ≡ Ok v)) (sym same) c.read_members.ensures.ok

pub returns-in-Some-clause-refused : goal.returns-in-Some-clause-refused
returns-in-Some-clause-refused c =
    let same = ap (values_in (domains_in c.args.scalars.now) (graph_of c.args.message.now)) (object_in (view c.args.value.now) (members_view c.in-Some.members.now.entries) c.in-Some.ensures) in
    subst (λ (x : Result (List Assigned) Refusal). IfErr c.read_members.result (λ e. IfSome (refusal_of e) (λ r. x ≡ Err r))) (sym same) c.read_members.ensures.refused

pub returns-in-None-clause-refused : goal.returns-in-None-clause-refused
returns-in-None-clause-refused c = ap (values_in (domains_in c.args.scalars.now) (graph_of c.args.message.now)) (no_object (view c.args.value.now) c.in-None.ensures)
