use Rattle.std.proofs.Common.{sym, ap, ◌∙◌, Bool, ◌&&◌, drop, ◌+◌}
use Rattle.std.proofs.lemmas.List.{drop_all}
use Rattle.rx_forms.specs.Code.{formed_all}
use Rattle.rx_forms.proofs.Chosen.{choices}
use Rattle.rx_forms.proofs.choices.keeps_choices.Goals as goal

pub returns-then-not-kept : goal.returns-then-not-kept
returns-then-not-kept c =
    let rest = choices c.args.message.now.domains c.args.message.now.graph (formed_all c.args.fields.now) c.args.next (drop (c.loop-place.place + 1) c.args.numbers.now) in
    sym (c.loop-place.invariant ∙ c.in_ok-kept.ensures ∙ ap (λ (t : Bool). t && rest) c.if-not-kept.true)

pub returns : goal.returns
returns c =
    let all = choices c.args.message.now.domains c.args.message.now.graph (formed_all c.args.fields.now) c.args.next in
    sym (c.loop-place.invariant ∙ ap all (drop_all c.loop-place.place c.args.numbers.now c.loop-place-test.false))

pub loop-place-preserved : goal.loop-place-preserved
loop-place-preserved c =
    let rest = choices c.args.message.now.domains c.args.message.now.graph (formed_all c.args.fields.now) c.args.next (drop (c.loop-place.place + 1) c.args.numbers.now) in
    c.loop-place.invariant ∙ c.in_ok-kept.ensures ∙ ap (λ (t : Bool). t && rest) c.if-not-kept.false
