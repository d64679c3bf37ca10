use Rattle.std.proofs.Common.{◌≡◌, ◌≤◌, ◌<◌, List, length, map, string_bytes, refl, sym, ap, ◌∙◌, subst, arith}
use Rattle.std.specs.List.{position_or_len}
use Rattle.rx_io.specs.declared.memory_shelf.Entry.{Entry}
use Rattle.rx_io.specs.Entries.{entry_of, is_named}
use Rattle.rx_io.specs.Shelf.{Puts}
use Rattle.rx_io.proofs.ShelfLemmas.{Puts-set, Puts-push}
use Rattle.rx_io.proofs.memory_shelf.put.Goals as goal

pub returns-then-place-len-clause-puts : goal.returns-then-place-len-clause-puts
returns-then-place-len-clause-puts c =
    let first : c.place_of-place.result ≡ position_or_len (is_named (string_bytes c.args.entry.name)) c.args.entries.now.items =
    c.place_of-place.ensures ∙ ap (λ n. position_or_len (is_named n) c.deref.result.now) c.as_str.ensures.value ∙ ap (position_or_len (is_named (string_bytes c.args.entry.name))) c.deref.ensures.value in
    let inside : c.place_of-place.result < length c.args.entries.now.items = omega arith in
    Puts-set _ _ c.args.entries.now.items c.args.entry c.place_of-place.result refl refl first inside

pub returns-in-Ok-clause-puts : goal.returns-in-Ok-clause-puts
returns-in-Ok-clause-puts c =
    let first : c.place_of-place.result ≡ position_or_len (is_named (string_bytes c.args.entry.name)) c.args.entries.now.items =
    c.place_of-place.ensures ∙ ap (λ n. position_or_len (is_named n) c.deref.result.now) c.as_str.ensures.value ∙ ap (position_or_len (is_named (string_bytes c.args.entry.name))) c.deref.ensures.value in
    let past : length c.args.entries.now.items ≤ position_or_len (is_named (string_bytes c.args.entry.name)) c.args.entries.now.items = omega arith in
    let puts = Puts-push (string_bytes c.args.entry.name) c.args.entry.text.items c.args.entries.now.items c.args.entry refl refl past in
    subst (λ (es : List Entry). Puts (string_bytes c.args.entry.name) c.args.entry.text.items (map entry_of c.args.entries.now.items) (map entry_of es)) (sym c.in-Ok.ensures.items) puts
