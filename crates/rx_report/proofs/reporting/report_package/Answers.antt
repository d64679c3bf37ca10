use Rattle.std.proofs.Common.{◌<◌, subst, List, length, take, arith}
use Rattle.std.specs.Str.{str_eq_ignore_ascii_case}
use Rattle.rx_graph.specs.Graph.{Graph}
use Rattle.rx_report.specs.Reported.{messages_of}
use Rattle.rx_report.proofs.Messages.{IsToldOf, told_none, told_next, told_whole, messages_next, messages_all, message_there}
use Rattle.rx_report.proofs.reporting.report_package.Goals as goal

pub loop-place-init : goal.loop-place-init
loop-place-init c = record {
  told = told_none c.args.spec.now.domains c.args.splits c.new-reported.result c.new-reported.ensures.counts c.new-reported.ensures.text;
  bounded = c.new-reported.ensures.bounded;
}

pub loop-place-preserved : goal.loop-place-preserved
loop-place-preserved c =
    let domains = c.args.spec.now.domains in
    let name = c.args.name.now in
    let ms = c.args.spec.now.graphs in
    let i = c.loop-place.place in
    let within : i < length ms = omega (arith, c.loop-place-test.true, c.count-place-end.ensures) in
    let there = message_there ms i within in
    let m = there.0 in
    record {
      told =
          subst (λ (ns : List Graph). IsToldOf domains c.args.splits ns c.add_at.new.reported) (messages_next name ms i m there.1)
          (told_next domains c.args.splits (str_eq_ignore_ascii_case m.«package» name) (messages_of name (take i ms)) m c.loop-place.reported c.add_at.new.reported c.loop-place.invariant.told (c.in_ok-add_at.ensures.adds m there.1));
      bounded = c.in_ok-add_at.ensures.bounded;
    }

pub returns : goal.returns
returns c =
    let domains = c.args.spec.now.domains in
    let ms = c.args.spec.now.graphs in
    let all = messages_all c.args.name.now ms c.loop-place.place (omega (arith, c.loop-place-test.false, c.count-place-end.ensures)) in
    told_whole domains c.args.splits _ c.loop-place.reported c.close.new.self (subst (λ (ns : List Graph). IsToldOf domains c.args.splits ns c.loop-place.reported) all c.loop-place.invariant.told) c.close.ensures.counts c.in_ok-close.ensures.text
