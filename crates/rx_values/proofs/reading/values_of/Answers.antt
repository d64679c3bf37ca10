use Rattle.std.proofs.Common.{◌≡◌, List, Result, Ok, Err, IfOk, IfErr, IfSome, sym, ap, subst}
use Rattle.rx_graph.specs.Graph.{domains_in, graph_of}
use Rattle.rx_graph.specs.Fits.{Assigned}
use Rattle.rx_values.specs.Reading.{Refusal, values_of}
use Rattle.rx_values.specs.Answers.{refusal_of}
use Rattle.rx_values.proofs.Judging.{told_no_json}
use Rattle.rx_values.proofs.reading.values_of.Goals as goal

pub returns-in-Ok-clause-ok : goal.returns-in-Ok-clause-ok
returns-in-Ok-clause-ok c =
    let same = ap (values_of (domains_in c.args.scalars.now) (graph_of c.args.message.now)) c.in-Ok.ensures.ok in
    subst (λ (x : Result (List Assigned) Refusal). IfOk c.from_value.result (λ v. x ≡ Ok v)) (sym same) c.from_value.ensures.ok

pub returns-in-Ok-clause-refused : goal.returns-in-Ok-clause-refused
returns-in-Ok-clause-refused c =
    let same = ap (values_of (domains_in c.args.scalars.now) (graph_of c.args.message.now)) c.in-Ok.ensures.ok in
    subst (λ (x : Result (List Assigned) Refusal). IfErr c.from_value.result (λ e. IfSome (refusal_of e) (λ r. x ≡ Err r))) (sym same) c.from_value.ensures.refused

pub returns-in-Err-clause-refused : goal.returns-in-Err-clause-refused
returns-in-Err-clause-refused c = told_no_json (domains_in c.args.scalars.now) (graph_of c.args.message.now) c.args.text.now (refusal_of c.in-Err.fault) c.in-Err.ensures.refused
