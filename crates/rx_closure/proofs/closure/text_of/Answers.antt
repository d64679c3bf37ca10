use Rattle.std.proofs.Common.{◌≡◌, ◌∙◌}
use Rattle.std.specs.Str.{str_to_ascii_lowercase}
use Rattle.rx_closure.proofs.ClosureLemmas.{text_by, none_by, long_by}
use Rattle.rx_closure.proofs.closure.text_of.Goals as goal

pub returns-in-Ok-Text-clause-some : goal.returns-in-Ok-Text-clause-some
returns-in-Ok-Text-clause-some g c =
    let name = c.args.name.now in
    let lower : c.as_str.result.now ≡ str_to_ascii_lowercase name = c.as_str.ensures.value ∙ c.in_ok-lower.ensures in
    text_by (g.H.Shelf.texts c.args.shelf.now) name c.as_str.result.now c.fetch.new.into.items _ lower c.in-Ok-Text.field-0-is c.in-Ok-Text.ensures.within c.in-Ok-Text.ensures.found

pub returns-in-Ok-Absent-clause-none : goal.returns-in-Ok-Absent-clause-none
returns-in-Ok-Absent-clause-none g c =
    let name = c.args.name.now in
    let lower : c.as_str.result.now ≡ str_to_ascii_lowercase name = c.as_str.ensures.value ∙ c.in_ok-lower.ensures in
    none_by (g.H.Shelf.texts c.args.shelf.now) name c.as_str.result.now c.fetch.new.into.items _ lower c.in-Ok-Absent.field-0-is c.in-Ok-Absent.ensures.found

pub returns-in-Ok-TooLong-clause-stopped : goal.returns-in-Ok-TooLong-clause-stopped
returns-in-Ok-TooLong-clause-stopped g c =
    let name = c.args.name.now in
    let lower : c.as_str.result.now ≡ str_to_ascii_lowercase name = c.as_str.ensures.value ∙ c.in_ok-lower.ensures in
    long_by (g.H.Shelf.texts c.args.shelf.now) name c.as_str.result.now c.fetch.new.into.items _ c.in_ok-too_long-in-Ok-TooLong.field-0 lower c.in-Ok-TooLong.field-0-is c.in_ok-too_long-in-Ok-TooLong.ensures c.in-Ok-TooLong.ensures.found
