use Rattle.std.proofs.Common.{ap, refl, Ok}
use Rattle.std.proofs.lemmas.Result.{err_from_is_err_and}
use Rattle.rx_program.specs.Asked.{does_of}
use Rattle.rx_program.specs.Words.{message_asked}
use Rattle.rx_program.proofs.AnswerLemmas.{answers_checked, answers_denied_decoding, answers_denied_encoding, answers_read, answers_written}
use Rattle.rx_program.proofs.ReadLemmas.{early_weaker, input_of_messages, denied_quiet, denied_of_messages, heard_of_input, heard_before, heard_quiet}
use Rattle.rx_program.proofs.serving.serve.Goals as goal

-- ---- Checks

pub returns-in_ok-reported-in-Checks-clause-answers : goal.returns-in_ok-reported-in-Checks-clause-answers
returns-in_ok-reported-in-Checks-clause-answers g c =
    answers_checked c.args.ask.now c.args.spec.now (g.I.Source.left c.args.input.now) c.in_ok-reported-in-Checks.reported (ap does_of c.in-Checks.is) c.in_ok-reported-in-Checks.ensures

pub returns-in_ok-reported-in-Checks-clause-heard : goal.returns-in_ok-reported-in-Checks-clause-heard
returns-in_ok-reported-in-Checks-clause-heard g c = heard_before _ _ _ _ _ (λ h. h) (λ h. ap (λ d. message_asked (does_of d)) c.in-Checks.is) refl

-- ---- Decodes

pub returns-in_err-message-in-Decodes-clause-answers : goal.returns-in_err-message-in-Decodes-clause-answers
returns-in_err-message-in-Decodes-clause-answers g c =
    let p = err_from_is_err_and c.from_residual-in_err-message-in-Decodes.result c.from_residual-in_err-message-in-Decodes.ensures.1 in
    rw (p.1, p.2)
    (early_weaker _ _ c.in_err-message-in-Decodes.field-0.0 (λ a is. answers_denied_decoding c.args.ask.now c.args.spec.now (g.I.Source.left c.args.input.now) _ a (ap does_of c.in-Decodes.is) is) c.in_err-message-in-Decodes.ensures.denied)

pub returns-in_err-message-in-Decodes-clause-kind : goal.returns-in_err-message-in-Decodes-clause-kind
returns-in_err-message-in-Decodes-clause-kind g c =
    let p = err_from_is_err_and c.from_residual-in_err-message-in-Decodes.result c.from_residual-in_err-message-in-Decodes.ensures.1 in
    rw (p.1, p.2) (early_weaker _ _ c.in_err-message-in-Decodes.field-0.0 (λ a is. denied_of_messages c.args.spec.now c.args.ask.now.name c.args.ask.now.splits _ a is) c.in_err-message-in-Decodes.ensures.denied)

pub returns-in_err-message-in-Decodes-clause-heard : goal.returns-in_err-message-in-Decodes-clause-heard
returns-in_err-message-in-Decodes-clause-heard g c =
    let p = err_from_is_err_and c.from_residual-in_err-message-in-Decodes.result c.from_residual-in_err-message-in-Decodes.ensures.1 in
    rw (p.1, p.2)
    (early_weaker _ _ c.in_err-message-in-Decodes.field-0.0 (λ a is. heard_quiet _ _ _ _ a (denied_quiet c.args.spec.now c.args.ask.now.name c.args.ask.now.splits _ a is) refl) c.in_err-message-in-Decodes.ensures.denied)

pub returns-in_ok-answer-in-Decodes-clause-answers : goal.returns-in_ok-answer-in-Decodes-clause-answers
returns-in_ok-answer-in-Decodes-clause-answers g c =
    answers_read c.args.ask.now c.args.spec.now (g.I.Source.left c.args.input.now) _ c.in_ok-message-in-Decodes.message c.in_ok-answer-in-Decodes.answer (ap does_of c.in-Decodes.is) c.in_ok-message-in-Decodes.ensures.types c.in_ok-message-in-Decodes.ensures.serves
    c.in_ok-answer-in-Decodes.ensures.read

pub returns-in_ok-answer-in-Decodes-clause-kind : goal.returns-in_ok-answer-in-Decodes-clause-kind
returns-in_ok-answer-in-Decodes-clause-kind g c = input_of_messages c.in_ok-answer-in-Decodes.answer c.in_ok-answer-in-Decodes.ensures.kind

pub returns-in_ok-answer-in-Decodes-clause-heard : goal.returns-in_ok-answer-in-Decodes-clause-heard
returns-in_ok-answer-in-Decodes-clause-heard g c =
    heard_of_input _ _ _ _ c.in_ok-answer-in-Decodes.answer c.in_ok-answer-in-Decodes.ensures.kind c.in_ok-answer-in-Decodes.ensures.at_end (λ e. c.in_ok-answer-in-Decodes.ensures.cause (ap Ok e))

-- ---- Encodes

pub returns-in_err-message-in-Encodes-clause-answers : goal.returns-in_err-message-in-Encodes-clause-answers
returns-in_err-message-in-Encodes-clause-answers g c =
    let p = err_from_is_err_and c.from_residual-in_err-message-in-Encodes.result c.from_residual-in_err-message-in-Encodes.ensures.1 in
    rw (p.1, p.2)
    (early_weaker _ _ c.in_err-message-in-Encodes.field-0.0 (λ a is. answers_denied_encoding c.args.ask.now c.args.spec.now (g.I.Source.left c.args.input.now) _ a (ap does_of c.in-Encodes.is) is) c.in_err-message-in-Encodes.ensures.denied)

pub returns-in_err-message-in-Encodes-clause-kind : goal.returns-in_err-message-in-Encodes-clause-kind
returns-in_err-message-in-Encodes-clause-kind g c =
    let p = err_from_is_err_and c.from_residual-in_err-message-in-Encodes.result c.from_residual-in_err-message-in-Encodes.ensures.1 in
    rw (p.1, p.2) (early_weaker _ _ c.in_err-message-in-Encodes.field-0.0 (λ a is. denied_of_messages c.args.spec.now c.args.ask.now.name c.args.ask.now.splits _ a is) c.in_err-message-in-Encodes.ensures.denied)

pub returns-in_err-message-in-Encodes-clause-heard : goal.returns-in_err-message-in-Encodes-clause-heard
returns-in_err-message-in-Encodes-clause-heard g c =
    let p = err_from_is_err_and c.from_residual-in_err-message-in-Encodes.result c.from_residual-in_err-message-in-Encodes.ensures.1 in
    rw (p.1, p.2)
    (early_weaker _ _ c.in_err-message-in-Encodes.field-0.0 (λ a is. heard_quiet _ _ _ _ a (denied_quiet c.args.spec.now c.args.ask.now.name c.args.ask.now.splits _ a is) refl) c.in_err-message-in-Encodes.ensures.denied)

pub returns-in_ok-answer-in-Encodes-clause-answers : goal.returns-in_ok-answer-in-Encodes-clause-answers
returns-in_ok-answer-in-Encodes-clause-answers g c =
    answers_written c.args.ask.now c.args.spec.now (g.I.Source.left c.args.input.now) _ c.in_ok-message-in-Encodes.message c.in_ok-answer-in-Encodes.answer (ap does_of c.in-Encodes.is) c.in_ok-message-in-Encodes.ensures.types c.in_ok-message-in-Encodes.ensures.serves
    c.in_ok-answer-in-Encodes.ensures.written

pub returns-in_ok-answer-in-Encodes-clause-kind : goal.returns-in_ok-answer-in-Encodes-clause-kind
returns-in_ok-answer-in-Encodes-clause-kind g c = input_of_messages c.in_ok-answer-in-Encodes.answer c.in_ok-answer-in-Encodes.ensures.kind

pub returns-in_ok-answer-in-Encodes-clause-heard : goal.returns-in_ok-answer-in-Encodes-clause-heard
returns-in_ok-answer-in-Encodes-clause-heard g c =
    heard_of_input _ _ _ _ c.in_ok-answer-in-Encodes.answer c.in_ok-answer-in-Encodes.ensures.kind c.in_ok-answer-in-Encodes.ensures.at_end (λ e. c.in_ok-answer-in-Encodes.ensures.cause (ap Ok e))
