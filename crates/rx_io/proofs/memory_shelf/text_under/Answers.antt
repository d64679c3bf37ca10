use Rattle.std.proofs.Common.{sym, ap, ◌∙◌}
use Rattle.std.specs.Option.{option_map, option_copied}
use Rattle.rx_io.specs.declared.memory_shelf.Entry.{Entry}
use Rattle.rx_io.proofs.ShelfLemmas.{text_of-map}
use Rattle.rx_io.proofs.memory_shelf.text_under.Goals as goal

pub returns-in-Some-clause-some : goal.returns-in-Some-clause-some
returns-in-Some-clause-some c = text_of-map c.args.name.now c.args.entries.now ∙ ap (option_map (λ (e : Entry). e.text.items)) (sym c.entry_at.ensures ∙ ap option_copied c.in-Some.is)

pub returns-in-None-clause-none : goal.returns-in-None-clause-none
returns-in-None-clause-none c = text_of-map c.args.name.now c.args.entries.now ∙ ap (option_map (λ (e : Entry). e.text.items)) (sym c.entry_at.ensures ∙ ap option_copied c.in-None.is)
