use Rattle.std.proofs.Common.{map}
use Rattle.std.specs.Prelude.{string_bytes}
use Rattle.std.specs.Io.KnownBytes.{Appends}
use Rattle.rx_program.proofs.AnswerLemmas.{AnsweredOf, outcome_of}
use Rattle.rx_program.proofs.ReadLemmas.{in_answer, leaves_input, reads_all, usage_of, shelf_fault_of, source_fault_of, may_refuse}
use Rattle.rx_program.proofs.top.run.Goals as goal

pub returns-in-Ok-clause-outcome : goal.returns-in-Ok-clause-outcome
returns-in-Ok-clause-outcome g c =
    let told = in_answer _ c.answer.result c.settled.result c.in-Ok.answer c.settled.ensures c.in-Ok.is c.answer.ensures.told in
    let heard = in_answer _ c.answer.result c.settled.result c.in-Ok.answer c.settled.ensures c.in-Ok.is c.answer.ensures.heard in
    let answers = in_answer (λ a. AnsweredOf (map string_bytes c.args.words.now) (g.H.Shelf.texts c.args.shelf.now) (g.I.Source.left c.args.input.now) a) c.answer.result c.settled.result c.in-Ok.answer c.settled.ensures c.in-Ok.is c.answer.ensures.answers in
    outcome_of (g.H.Shelf.texts c.args.shelf.now) (g.I.Source.left c.args.input.now) (map string_bytes c.args.words.now)
    (record { shelf_before = g.H.Shelf.faults c.args.shelf.now; shelf_after = g.H.Shelf.faults c.answer.new.shelf; source_before = g.I.Source.faults c.args.input.now; source_after = g.I.Source.faults c.answer.new.input })
    c.in-Ok.answer c.print.result (Appends (g.O.Sink.written c.args.out.now) _) told.shelf heard.source answers c.print.ensures.written

pub returns-in-Ok-clause-usage : goal.returns-in-Ok-clause-usage
returns-in-Ok-clause-usage g c is =
    let told = in_answer _ c.answer.result c.settled.result c.in-Ok.answer c.settled.ensures c.in-Ok.is c.answer.ensures.told in
    told.usage (usage_of c.in-Ok.answer c.print.result c.print.ensures.status is)

pub returns-in-Ok-clause-no_form : goal.returns-in-Ok-clause-no_form
returns-in-Ok-clause-no_form g c none =
    let told = in_answer _ c.answer.result c.settled.result c.in-Ok.answer c.settled.ensures c.in-Ok.is c.answer.ensures.told in
    may_refuse c.in-Ok.answer c.print.result c.print.ensures.status (told.no_form none)

pub returns-in-Ok-clause-shelf_fault : goal.returns-in-Ok-clause-shelf_fault
returns-in-Ok-clause-shelf_fault g c is =
    let told = in_answer _ c.answer.result c.settled.result c.in-Ok.answer c.settled.ensures c.in-Ok.is c.answer.ensures.told in
    told.shelf (shelf_fault_of c.in-Ok.answer c.print.result c.print.ensures.status is)

pub returns-in-Ok-clause-source_fault : goal.returns-in-Ok-clause-source_fault
returns-in-Ok-clause-source_fault g c is =
    let heard = in_answer _ c.answer.result c.settled.result c.in-Ok.answer c.settled.ensures c.in-Ok.is c.answer.ensures.heard in
    heard.source (source_fault_of c.in-Ok.answer c.print.result c.print.ensures.status is)

pub returns-in-Ok-clause-at_end : goal.returns-in-Ok-clause-at_end
returns-in-Ok-clause-at_end g c has =
    let heard = in_answer _ c.answer.result c.settled.result c.in-Ok.answer c.settled.ensures c.in-Ok.is c.answer.ensures.heard in
    reads_all c.in-Ok.answer c.print.result _ _ _ (map string_bytes c.args.words.now) c.print.ensures.status heard has

pub returns-in-Ok-clause-unread : goal.returns-in-Ok-clause-unread
returns-in-Ok-clause-unread g c =
    let heard = in_answer _ c.answer.result c.settled.result c.in-Ok.answer c.settled.ensures c.in-Ok.is c.answer.ensures.heard in
    leaves_input c.in-Ok.answer c.print.result _ _ _ _ c.print.ensures.status heard
