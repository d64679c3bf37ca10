use Rattle.std.proofs.Common.{◌∙◌, ◌≡◌, sym, subst, ap, Bool, slice_get}
use Rattle.std.specs.Str.{str_eq_ignore_ascii_case}
use Rattle.rx_graph.specs.Typed.{Typed}
use Rattle.rx_report.specs.Reported.{AddsIf}
use Rattle.rx_report.proofs.Messages.{none_there, one_there}
use Rattle.rx_report.proofs.reporting.add_at.Goals as goal

pub returns-in_default-clause-adds : goal.returns-in_default-clause-adds
returns-in_default-clause-adds c = λ m is.
    absurd (none_there c.args.spec.now.domains (slice_get c.args.spec.now.graphs c.args.place) m (sym c.in_default.is ∙ c.message.ensures) is)

pub returns-clause-adds : goal.returns-clause-adds
returns-clause-adds c = λ m is.
    let spec = c.args.spec.now in
    let name = c.args.name.now in
    let old = c.args.reported.now in
    let new = c.add_if_asked.new.reported in
    let same = one_there spec.domains (slice_get spec.graphs c.args.place) c.in-Some.message m (sym c.in-Some.is ∙ c.message.ensures) is in
    let test : c.is_of-asked.result ≡ str_eq_ignore_ascii_case m.«package» name =
    c.is_of-asked.ensures ∙ ap (λ (t : Typed). str_eq_ignore_ascii_case t.graph.«package» name) (c.elaborated.ensures ∙ same) in
    let adds = subst (λ (t : Typed). AddsIf t.domains c.args.splits c.is_of-asked.result t.graph old new) same c.in_ok-add_if_asked.ensures.adds in
    subst (λ (b : Bool). AddsIf spec.domains c.args.splits b m old new) test adds
