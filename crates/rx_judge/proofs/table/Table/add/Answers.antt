use Rattle.std.proofs.Common.{◌≡◌, ◌∙◌, ap, sym, true, false}
use Rattle.indexmap.proofs.CallerLemmas.{insert_entry-new}
use Rattle.rx_judge.specs.Table.{has, added, entries_of}
use Rattle.rx_judge.proofs.Tables.{lookup_has, pushed, none_if, added_there, not_new, is_new}
use Rattle.rx_judge.proofs.table.Table.add.Goals as goal

pub returns-then-contains_key-clause-added : goal.returns-then-contains_key-clause-added
returns-then-contains_key-clause-added c d =
    let p = d.args.prefix.now in
    let w = d.args.name.now in
    let h : has d.args.self.now p w ≡ true = sym (d.contains_key.ensures ∙ lookup_has d.self.inside.map.entries d.in_ok-key.key p w d.in_ok-key.ensures ∙ ap (λ t. has t p w) d.self.view_is) ∙ d.if-contains_key.true in
    added_there d.args.self.now p w d.args.thing h

pub returns-then-contains_key-clause-is_new : goal.returns-then-contains_key-clause-is_new
returns-then-contains_key-clause-is_new c d =
    let p = d.args.prefix.now in
    let w = d.args.name.now in
    let h : has d.args.self.now p w ≡ true = sym (d.contains_key.ensures ∙ lookup_has d.self.inside.map.entries d.in_ok-key.key p w d.in_ok-key.ensures ∙ ap (λ t. has t p w) d.self.view_is) ∙ d.if-contains_key.true in
    not_new (has d.args.self.now p w) h

pub returns-clause-added : goal.returns-clause-added
returns-clause-added c d =
    let p = d.args.prefix.now in
    let w = d.args.name.now in
    let m = d.self.inside.map in
    let k = d.in_ok-key.key in
    let h : has (entries_of m.entries) p w ≡ false = sym (d.contains_key.ensures ∙ lookup_has m.entries k p w d.in_ok-key.ensures) ∙ d.if-contains_key.false in
    let n = none_if _ (sym d.contains_key.ensures ∙ d.if-contains_key.false) in
    pushed m.entries d.insert.new.self.entries k p w d.args.thing d.in_ok-key.ensures (d.in_ok-insert.ensures.entries ∙ insert_entry-new _ m k d.args.thing n) h ∙ ap (λ t. added t p w d.args.thing) d.self.view_is

pub returns-clause-is_new : goal.returns-clause-is_new
returns-clause-is_new c d =
    let p = d.args.prefix.now in
    let w = d.args.name.now in
    let h : has d.args.self.now p w ≡ false = sym (d.contains_key.ensures ∙ lookup_has d.self.inside.map.entries d.in_ok-key.key p w d.in_ok-key.ensures ∙ ap (λ t. has t p w) d.self.view_is) ∙ d.if-contains_key.false in
    is_new (has d.args.self.now p w) h
