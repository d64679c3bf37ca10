use Rattle.std.proofs.Common.{◌≡◌, ◌≤◌, sym, subst, ◌∙◌, ℕ, List, [], ◌∷◌, get_or, drop, IfOk, Ok, Err, Result, Bool, ◌&&◌, ◌+◌}
use Rattle.std.specs.List.{list_all}
use Rattle.rx_forms.specs.Code.{formed_all}
use Rattle.rx_forms.specs.Steps.{links_on, past}
use Rattle.rx_forms.specs.Choices.{conditions_within}
use Rattle.rx_forms.proofs.Chosen.{alone_at, choices, is_some, room_behind, first_fails, first_plain, first_divides, rest_is}
use Rattle.rx_forms.proofs.choices.keeps_first.Goals as goal

pub keeps_ones-requires : goal.keeps_ones-requires
keeps_ones-requires c =
    let fields = formed_all c.args.fields.now in
    let links = links_on c.args.message.now.domains c.args.message.now.graph (get_or c.args.numbers.now c.args.place 0 ∷ []) in
    let s = is_some (conditions_within fields c.args.next links) (past c.args.next links) c.in-Some.after (sym c.in-Some.is ∙ c.in_ok-after.ensures) in
    record {
      room = subst (λ (n : ℕ). n ≤ 190) s.1 (room_behind fields c.args.next links c.requires.room s.0);
    }

pub returns-in-None : goal.returns-in-None
returns-in-None c =
    first_fails c.args.message.now.domains c.args.message.now.graph (formed_all c.args.fields.now) c.args.next c.args.numbers.now c.args.place c.requires.place (sym c.in-None.is ∙ c.in_ok-after.ensures)

pub returns-then-after-next : goal.returns-then-after-next
returns-then-after-next c =
    first_plain c.args.message.now.domains c.args.message.now.graph (formed_all c.args.fields.now) c.args.next c.args.numbers.now c.args.place c.in-Some.after c.requires.place (sym c.in-Some.is ∙ c.in_ok-after.ensures) c.if-after-next.true

kept_on : {E : Type 0} (r : Result Bool E) (total tests rest : Bool) → ((kept : Bool) → kept ≡ tests → total ≡ (kept && rest)) → IfOk r (λ kept. kept ≡ tests) → IfOk r (λ kept. total ≡ (kept && rest))
kept_on (Ok kept) total tests rest f h = f kept h
kept_on (Err e) total tests rest f h = tt

pub returns-else-after-next : goal.returns-else-after-next
returns-else-after-next c =
    let domains = c.args.message.now.domains in
    let m = c.args.message.now.graph in
    let fields = formed_all c.args.fields.now in
    kept_on c.keeps_ones.result (choices domains m fields c.args.next (drop c.args.place c.args.numbers.now))
    (list_all (alone_at domains m fields c.args.next c.in-Some.after) (drop (c.args.place + 1) c.args.numbers.now))
    (choices domains m fields c.args.next (drop (c.args.place + 1) c.args.numbers.now))
    (λ kept k. first_divides domains m fields c.args.next c.args.numbers.now c.args.place c.in-Some.after kept c.requires.place (sym c.in-Some.is ∙ c.in_ok-after.ensures) k)
    (subst (λ (l : List ℕ). IfOk c.keeps_ones.result (λ kept. kept ≡ list_all (alone_at domains m fields c.args.next c.in-Some.after) l)) (rest_is c.args.numbers.now (c.args.place + 1)) c.keeps_ones.ensures)
