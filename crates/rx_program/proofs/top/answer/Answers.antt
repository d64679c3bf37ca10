use Rattle.std.proofs.Common.{map, refl}
use Rattle.std.specs.Prelude.{string_bytes}
use Rattle.std.proofs.lemmas.Result.{err_from_is_err_and}
use Rattle.rx_program.specs.Asked.{ask_of}
use Rattle.rx_program.specs.Answers.{Request}
use Rattle.rx_program.proofs.AnswerLemmas.{usage_answers, walk_answers, refusal_answers, messages_answer}
use Rattle.rx_program.proofs.ReadLemmas.{answered_weaker, early_weaker, early_both, walk_quiet, refused_walks, told_usage, told_walk, told_refused, told_messages, no_input_of, have_no_input, heard_usage, heard_quiet, heard_weaker}
use Rattle.rx_program.proofs.top.answer.Goals as goal

-- ---- the words have no form

pub returns-in_err-ask-clause-answers : goal.returns-in_err-ask-clause-answers
returns-in_err-ask-clause-answers g c =
    let p = err_from_is_err_and c.from_residual.result c.from_residual.ensures.1 in
    rw (p.1, p.2)
    (early_both _ _ _ c.in_err-ask.field-0.0 (λ a none is. usage_answers (map string_bytes c.args.words.now) (g.H.Shelf.texts c.args.shelf.now) (g.I.Source.left c.args.input.now) a none is) c.in_err-ask.ensures.none c.in_err-ask.ensures.usage)

pub returns-in_err-ask-clause-told : goal.returns-in_err-ask-clause-told
returns-in_err-ask-clause-told g c =
    let p = err_from_is_err_and c.from_residual.result c.from_residual.ensures.1 in
    rw (p.1, p.2) (early_both _ _ _ c.in_err-ask.field-0.0 (λ a none is. told_usage (map string_bytes c.args.words.now) _ a none is) c.in_err-ask.ensures.none c.in_err-ask.ensures.usage)

pub returns-in_err-ask-clause-heard : goal.returns-in_err-ask-clause-heard
returns-in_err-ask-clause-heard g c =
    let p = err_from_is_err_and c.from_residual.result c.from_residual.ensures.1 in
    rw (p.1, p.2) (early_weaker _ _ c.in_err-ask.field-0.0 (λ a is. heard_usage _ _ _ _ a is refl) c.in_err-ask.ensures.usage)

-- ---- the walk ends

pub returns-in_err-packages-clause-answers : goal.returns-in_err-packages-clause-answers
returns-in_err-packages-clause-answers g c =
    let p = err_from_is_err_and c.from_residual-in_err-packages.result c.from_residual-in_err-packages.ensures.1 in
    rw (p.1, p.2)
    (early_weaker _ _ c.in_err-packages.field-0.0 (λ a ends. walk_answers (map string_bytes c.args.words.now) (g.H.Shelf.texts c.args.shelf.now) (g.I.Source.left c.args.input.now) (ask_of c.in_ok-ask.ask) a c.in_ok-ask.ensures.some ends) c.in_err-packages.ensures.ends)

pub returns-in_err-packages-clause-told : goal.returns-in_err-packages-clause-told
returns-in_err-packages-clause-told g c =
    let p = err_from_is_err_and c.from_residual-in_err-packages.result c.from_residual-in_err-packages.ensures.1 in
    rw (p.1, p.2)
    (early_both _ _ _ c.in_err-packages.field-0.0 (λ a kind fault. told_walk (map string_bytes c.args.words.now) (ask_of c.in_ok-ask.ask) c.in_ok-ask.ensures.some _ a kind fault) c.in_err-packages.ensures.kind c.in_err-packages.ensures.cause)

pub returns-in_err-packages-clause-heard : goal.returns-in_err-packages-clause-heard
returns-in_err-packages-clause-heard g c =
    let p = err_from_is_err_and c.from_residual-in_err-packages.result c.from_residual-in_err-packages.ensures.1 in
    rw (p.1, p.2) (early_weaker _ _ c.in_err-packages.field-0.0 (λ a kind. heard_quiet _ _ _ _ a (walk_quiet a kind) refl) c.in_err-packages.ensures.kind)

-- ---- the packages are refused

pub returns-in_err-spec-clause-answers : goal.returns-in_err-spec-clause-answers
returns-in_err-spec-clause-answers g c =
    let p = err_from_is_err_and c.from_residual-in_err-spec.result c.from_residual-in_err-spec.ensures.1 in
    let packages = c.in_ok-packages.packages in
    let r : Request = record { ask = ask_of c.in_ok-ask.ask; asked = packages.asked.items; trees = packages.trees.items } in
    rw (p.1, p.2)
    (early_weaker _ _ c.in_err-spec.field-0.0 (λ a refused. refusal_answers (map string_bytes c.args.words.now) r c.in_ok-ask.ensures.some (g.H.Shelf.texts c.args.shelf.now) (g.I.Source.left c.args.input.now) a c.in_ok-packages.ensures.closed refused) c.in_err-spec.ensures.refused)

pub returns-in_err-spec-clause-told : goal.returns-in_err-spec-clause-told
returns-in_err-spec-clause-told g c =
    let p = err_from_is_err_and c.from_residual-in_err-spec.result c.from_residual-in_err-spec.ensures.1 in
    let packages = c.in_ok-packages.packages in
    rw (p.1, p.2)
    (early_weaker _ _ c.in_err-spec.field-0.0 (λ a refused. told_refused (map string_bytes c.args.words.now) (ask_of c.in_ok-ask.ask) c.in_ok-ask.ensures.some _ packages.asked.items packages.trees.items a refused) c.in_err-spec.ensures.refused)

pub returns-in_err-spec-clause-heard : goal.returns-in_err-spec-clause-heard
returns-in_err-spec-clause-heard g c =
    let p = err_from_is_err_and c.from_residual-in_err-spec.result c.from_residual-in_err-spec.ensures.1 in
    let packages = c.in_ok-packages.packages in
    rw (p.1, p.2)
    (early_weaker _ _ c.in_err-spec.field-0.0 (λ a refused. heard_quiet _ _ _ _ a (walk_quiet a (refused_walks packages.asked.items packages.trees.items a refused)) refl) c.in_err-spec.ensures.refused)

-- ---- the messages answer

pub returns-clause-answers : goal.returns-clause-answers
returns-clause-answers g c =
    let packages = c.in_ok-packages.packages in
    let r : Request = record { ask = ask_of c.in_ok-ask.ask; asked = packages.asked.items; trees = packages.trees.items } in
    answered_weaker _ _ c.serve.result (λ a is. messages_answer (map string_bytes c.args.words.now) r c.in_ok-ask.ensures.some (g.H.Shelf.texts c.args.shelf.now) (g.I.Source.left c.args.input.now) c.in_ok-spec.spec a c.in_ok-packages.ensures.closed c.in_ok-spec.ensures.means is) c.serve.ensures.answers

pub returns-clause-told : goal.returns-clause-told
returns-clause-told g c = answered_weaker _ _ c.serve.result (λ a kind. told_messages (map string_bytes c.args.words.now) (ask_of c.in_ok-ask.ask) c.in_ok-ask.ensures.some _ a kind) c.serve.ensures.kind

pub returns-clause-heard : goal.returns-clause-heard
returns-clause-heard g c = answered_weaker _ _ c.serve.result (λ a h. heard_weaker _ _ _ _ a _ (λ none. have_no_input (map string_bytes c.args.words.now) (ask_of c.in_ok-ask.ask) c.in_ok-ask.ensures.some none) h) c.serve.ensures.heard

pub returns-clause-untouched : goal.returns-clause-untouched
returns-clause-untouched g c none = c.serve.ensures.untouched (no_input_of (map string_bytes c.args.words.now) (ask_of c.in_ok-ask.ask) c.in_ok-ask.ensures.some none)
