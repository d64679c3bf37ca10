use Rattle.std.proofs.Common.{sym, ap, ◌∙◌, subst, arith}
use Rattle.rx_layout.specs.Goals.{IsGoal}
use Rattle.rx_layout.specs.Laid.{end_front, behind}
use Rattle.rx_layout.specs.Listed.{goal_of, goal_on}
use Rattle.rx_layout.specs.QueryOf.{Asked, asked_by}
use Rattle.rx_layout.specs.declared.goal.Goal.{Goal}
use Rattle.rx_layout.proofs.Behind
use Rattle.rx_layout.proofs.Gathered.{if_ok}
use Rattle.rx_layout.proofs.Laying.{renamed, at_most}
use Rattle.rx_layout.proofs.Linked.{link_asked}
use Rattle.rx_layout.proofs.goal_parts.ask.Goals as goal

pub numbered-requires : goal.numbered-requires
numbered-requires c =
    let p = c.args.path.now in
    record {
      bytes = λ e. subst (λ (g : Goal). IsGoal p.domains p.graph g) (c.subject_of.ensures ∙ ap goal_on c.in-Link.is ∙ ap (λ check. goal_of check c.in-Link.node c.in-Link.number) e) c.requires.goal;
    }

pub returns-in-Links : goal.returns-in-Links
returns-in-Links c =
    let p = c.args.path.now in
    let front = end_front p in
    if_ok c.both_taken.result _ _ (λ a h. renamed p 192 _ _ a (ap (λ (g : Goal). behind (asked_by p.domains p.graph g front.fields front.division) front) (sym (c.subject_of.ensures ∙ ap goal_on c.in-Links.is))) h) c.both_taken.ensures

pub returns-in-Field : goal.returns-in-Field
returns-in-Field c =
    let p = c.args.path.now in
    let front = end_front p in
    renamed p 192 _ _ c.nothing.result
    (sym (Behind.none_behind p.domains p.graph front) ∙ ap (λ (g : Goal). behind (asked_by p.domains p.graph g front.fields front.division) front) (sym (c.subject_of.ensures ∙ ap goal_on c.in-Field.is)))
    (at_most p 190 192 front c.nothing.result (omega arith) c.nothing.ensures)

pub returns-in-Link : goal.returns-in-Link
returns-in-Link c =
    let p = c.args.path.now in
    let front = end_front p in
    let told = link_asked p.domains p.graph c.in-Link.check c.in-Link.node c.in-Link.number front.fields front.division ∙ ap (λ (g : Goal). asked_by p.domains p.graph g front.fields front.division) (sym (c.subject_of.ensures ∙ ap goal_on c.in-Link.is)) in
    if_ok c.numbered.result _ _ (λ a h. renamed p 192 _ _ a (ap (λ (x : Asked). behind x front) told) h) c.numbered.ensures
