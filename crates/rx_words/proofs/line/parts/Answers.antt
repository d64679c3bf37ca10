use Rattle.std.proofs.Common.{sym, ap, map, Some, ◌∙◌, ◌≡◌}
use Rattle.std.specs.String.{string_bytes}
use Rattle.clap.specs.Words.{app_of, found_of}
use Rattle.rx_words.specs.Form.{operand, splits, deep, parts_of}
use Rattle.rx_words.proofs.FromClap.{each_utf8, err_reads, given_read, names_command, or_nothing, refused, taken}
use Rattle.rx_words.proofs.line.parts.Goals as goal

pub returns-in-Err : goal.returns-in-Err
returns-in-Err c =
    err_reads _ _ (λ is. refused (map string_bytes c.args.words.now) (app_of c.in_ok-application.field-0) c.in-Err.error (each_utf8 c.args.words.now) c.in_ok-application.ensures c.in-Err.ensures.kinds (c.fault_in.ensures is))

pub returns-in_default-command_of : goal.returns-in_default-command_of
returns-in_default-command_of c =
    let words = map string_bytes c.args.words.now in
    let t = taken words (app_of c.in_ok-application.field-0) c.in-Ok.matches (each_utf8 c.args.words.now) c.in_ok-application.ensures c.in-Ok.ensures.kinds c.in-Ok.ensures.matches in
    let named = names_command words c.in-Ok.matches t c.in-Some.name.now c.in-Some.ensures.name in
    absurd (c.in_default-command_of.not-Some t.command (c.command_of.ensures ∙ named))

pub returns : goal.returns
returns c =
    let words = map string_bytes c.args.words.now in
    let t = taken words (app_of c.in_ok-application.field-0) c.in-Ok.matches (each_utf8 c.args.words.now) c.in_ok-application.ensures c.in-Ok.ensures.kinds c.in-Ok.ensures.matches in
    let named = names_command words c.in-Ok.matches t c.in-Some.name.now c.in-Some.ensures.name in
    let read = given_read words c.in-Ok.matches t (found_of c.in-Some.inner.now) c.in-Some.ensures.rows in
    let command : t.command ≡ c.in-Some-command_of.command = ap (or_nothing t.command) (sym named ∙ sym c.in-Some-command_of.ensures) in
    let operand_is = c.get_str.ensures ∙ read operand in
    let splits_is = c.get_str-2.ensures ∙ read splits in
    let deep_is = c.get_str-3.ensures ∙ read deep in
    t.parts ∙ sym (λ i. Some (sym command i, record { operand_value = operand_is i; splits_value = splits_is i; deep_value = deep_is i }))
