use Rattle.std.proofs.Common.{◌≡◌, ◌∙◌, ap, sym, subst, length, ◌+◌, ℕ, List, map, Some, Err, Option}
use Rattle.rx_cycle.specs.declared.ends.Ends.{Ends}
use Rattle.rx_cycle.specs.Graph.{AreBelow, first_returning}
use Rattle.rx_judge.specs.Meaning.{Meaning}
use Rattle.rx_syntax.specs.declared.rule.Refusal.{Refusal}
use Rattle.rx_syntax.specs.declared.rule.Rule.TheVariants as rule
use Rattle.rx_links.specs.declared.links.Way.{Way}
use Rattle.rx_links.specs.Cycle.{ends_of, told, unless_returning}
use Rattle.rx_links.proofs.Acyclic.{ends_below}
use Rattle.rx_links.proofs.cycle.no_cycle.Goals as goal

pub first-requires : goal.first-requires
first-requires c =
    let n = length c.args.fields.now in
    subst (λ (ls : List Ends). AreBelow (n + 2) ls) (sym (c.as_slice.ensures.value ∙ c.in_ok-ends.ensures)) (ends_below n c.args.ways.now c.requires)

pub returns-clause-refusal : goal.returns-clause-refusal
returns-clause-refusal c =
    let name = c.args.name.now in
    let start = c.args.start.now in
    let fields = c.args.fields.now in
    let ways = c.args.ways.now in
    let e : first_returning (map ends_of ways) ≡ Some c.in-Some.index = ap first_returning (sym (c.as_slice.ensures.value ∙ c.in_ok-ends.ensures)) ∙ sym c.in_ok-first.ensures ∙ c.in-Some.is in
    let refusal : Refusal → Meaning (Unit {0}) = λ r. Err r in
    ap (λ (o : Option ℕ). unless_returning name start fields ways o) e ∙ ap (λ (w : Option Way). refusal (told name start fields w)) (sym c.way_at-way.ensures) ∙ ap refusal (sym c.in_ok-told-in-Some.ensures)
