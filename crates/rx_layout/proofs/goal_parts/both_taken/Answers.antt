use Rattle.std.proofs.Common.{◌≡◌, ℕ, refl, sym, ap, subst, ◌∙◌, arith, [], ◌∷◌, Option, Some, None}
use Rattle.std.proofs.lemmas.Result.{IfOk-from_err}
use Rattle.rx_graph.specs.Cycles.{IsLink}
use Rattle.rx_graph.specs.Graph.{Arrow, arrow_of}
use Rattle.rx_graph.specs.Typed.{Typed}
use Rattle.rx_forms.specs.Fronts.{Front, after_end}
use Rattle.rx_layout.specs.Laid.{end_front, IsLaid, behind}
use Rattle.rx_layout.specs.QueryOf.{with_link, taken_asked, link_numbered}
use Rattle.rx_layout.specs.TypedPath.{TypedPath, TypedEnd, path_of}
use Rattle.rx_layout.proofs.Behind
use Rattle.rx_layout.proofs.Gathered.{if_ok}
use Rattle.rx_layout.proofs.Laying.{renamed, at_most}
use Rattle.rx_layout.proofs.goal_parts.both_taken.Goals as goal

-- what is asked of two links that there may be
abbrev both : TypedPath → Option Arrow → Option Arrow → Front
both p one other =
    let front = end_front p in
    behind (with_link p.domains p.graph one front.fields front.division (λ l. with_link p.domains p.graph other front.fields front.division (λ k. taken_asked p.domains p.graph front.fields front.division (l ∷ k ∷ [])))) front

pub returns-in_default : goal.returns-in_default
returns-in_default c =
    let p = c.args.path.now in
    let front = end_front p in
    let none = subst (λ (t : Typed). link_numbered t.graph c.args.node c.args.one ≡ None) c.message.ensures (c.in_default.ensures.none refl) in
    renamed p 192 _ _ c.nothing.result (sym (Behind.none_behind p.domains p.graph front) ∙ ap (λ (o : Option Arrow). both p o (link_numbered p.graph c.args.node c.args.other)) (sym none))
    (at_most p 190 192 front c.nothing.result (omega arith) c.nothing.ensures)

pub returns-in_default-link_numbered : goal.returns-in_default-link_numbered
returns-in_default-link_numbered c =
    let p = c.args.path.now in
    let front = end_front p in
    let one = arrow_of c.in-Some.one.now in
    let nothing = c.nothing-in_default-link_numbered in
    let found = subst (λ (t : Typed). link_numbered t.graph c.args.node c.args.one ≡ Some one) c.message.ensures c.in-Some.ensures.found in
    let none = subst (λ (t : Typed). link_numbered t.graph c.args.node c.args.other ≡ None) c.message-2.ensures (c.in_default-link_numbered.ensures.none refl) in
    renamed p 192 _ _ nothing.result
    (sym (Behind.none_behind p.domains p.graph front) ∙ ap (λ (o : Option Arrow). both p (Some one) o) (sym none) ∙ ap (λ (o : Option Arrow). both p o (link_numbered p.graph c.args.node c.args.other)) (sym found))
    (at_most p 190 192 front nothing.result (omega arith) nothing.ensures)

pub of-requires : goal.of-requires
of-requires c = subst (λ (t : Typed). (i : ℕ) × IsLink t.graph i (arrow_of c.in-Some.one.now)) c.message.ensures c.in-Some.ensures.is

pub returns-in_err-asked : goal.returns-in_err-asked
returns-in_err-asked c = IfOk-from_err c.from_residual.result _ c.from_residual.ensures.0

pub of-requires-2 : goal.of-requires-2
of-requires-2 c = subst (λ (t : Typed). (i : ℕ) × IsLink t.graph i (arrow_of c.in-Some-link_numbered.other.now)) c.message-2.ensures c.in-Some-link_numbered.ensures.is

pub condition_besides-requires : goal.condition_besides-requires
condition_besides-requires c = record { room = c.in_ok-asked.ensures.few }

pub returns : goal.returns
returns c =
    let p = c.args.path.now in
    let front = end_front p in
    let one = arrow_of c.in-Some.one.now in
    let other = arrow_of c.in-Some-link_numbered.other.now in
    let found = subst (λ (t : Typed). link_numbered t.graph c.args.node c.args.one ≡ Some one) c.message.ensures c.in-Some.ensures.found in
    let found_too = subst (λ (t : Typed). link_numbered t.graph c.args.node c.args.other ≡ Some other) c.message-2.ensures c.in-Some-link_numbered.ensures.found in
    let first = after_end p.domains p.graph front one in
    let taken = subst (λ (e : TypedEnd). IsLaid (path_of e) 190 (after_end e.domains e.graph (end_front (path_of e)) e.arrow) c.in_ok-asked.asked) c.of.ensures c.in_ok-asked.ensures in
    if_ok c.condition_besides.result _ _ (λ a h. renamed p 192 _ _ a
    (sym (Behind.two_behind p.domains p.graph front one other) ∙ ap (λ (o : Option Arrow). both p (Some one) o) (sym found_too) ∙ ap (λ (o : Option Arrow). both p o (link_numbered p.graph c.args.node c.args.other)) (sym found))
    (at_most p 190 192 (after_end p.domains p.graph first other) a (omega arith)
    (subst (λ (e : TypedEnd). (w : Front) → IsLaid (path_of e) 190 w c.in_ok-asked.asked → IsLaid (path_of e) 190 (after_end e.domains e.graph w e.arrow) a) c.of-2.ensures h first taken))) c.condition_besides.ensures
