use Rattle.std.proofs.Common.{sym, subst, arith}
use Rattle.rx_layout.specs.declared.checklist.LinkCheck.{LinkCheck}
use Rattle.rx_layout.specs.Laid.{IsAsked, asked_link}
use Rattle.rx_layout.specs.TypedPath.{path_of}
use Rattle.rx_layout.proofs.Gathered.{if_ok}
use Rattle.rx_layout.proofs.Laying.{at_most}
use Rattle.rx_layout.proofs.goal_parts.link_parts.Goals as goal

pub grid-requires : goal.grid-requires
grid-requires c = record { bytes = c.requires.bytes c.in-Grid.is }

pub returns-in-Taken : goal.returns-in-Taken
returns-in-Taken c =
    let e = c.args.end.now in
    if_ok c.taken.result _ _ (λ a h. subst (λ (k : LinkCheck). IsAsked 192 e (asked_link e.domains e.graph k) a) (sym c.in-Taken.is) (at_most (path_of e) 190 192 _ a (omega arith) h)) c.taken.ensures

pub returns-in-Position : goal.returns-in-Position
returns-in-Position c =
    let e = c.args.end.now in
    if_ok c.position.result _ _ (λ a h. subst (λ (k : LinkCheck). IsAsked 192 e (asked_link e.domains e.graph k) a) (sym c.in-Position.is) (at_most (path_of e) 190 192 _ a (omega arith) h)) c.position.ensures

pub returns-in-Grid : goal.returns-in-Grid
returns-in-Grid c =
    let e = c.args.end.now in
    if_ok c.grid.result _ _ (λ a h. subst (λ (k : LinkCheck). IsAsked 192 e (asked_link e.domains e.graph k) a) (sym c.in-Grid.is) (h)) c.grid.ensures

pub returns-in-Overlay : goal.returns-in-Overlay
returns-in-Overlay c =
    let e = c.args.end.now in
    if_ok c.link_overlay.result _ _ (λ a h. subst (λ (k : LinkCheck). IsAsked 192 e (asked_link e.domains e.graph k) a) (sym c.in-Overlay.is) (at_most (path_of e) 190 192 _ a (omega arith) h)) c.link_overlay.ensures

pub returns-in-Cover : goal.returns-in-Cover
returns-in-Cover c =
    let e = c.args.end.now in
    if_ok c.link_cover.result _ _ (λ a h. subst (λ (k : LinkCheck). IsAsked 192 e (asked_link e.domains e.graph k) a) (sym c.in-Cover.is) (at_most (path_of e) 190 192 _ a (omega arith) h)) c.link_cover.ensures

pub returns-in-Whole : goal.returns-in-Whole
returns-in-Whole c =
    let e = c.args.end.now in
    if_ok c.whole.result _ _ (λ a h. subst (λ (k : LinkCheck). IsAsked 192 e (asked_link e.domains e.graph k) a) (sym c.in-Whole.is) (at_most (path_of e) 191 192 _ a (omega arith) h)) c.whole.ensures
