use Rattle.std.proofs.Common.{◌≡◌, ℕ, refl, sym, ap, subst, ◌∙◌, arith, Option, Some, None}
use Rattle.rx_graph.specs.Cycles.{IsLink}
use Rattle.rx_graph.specs.Graph.{Arrow, arrow_of, type_of}
use Rattle.rx_graph.specs.Typed.{Typed}
use Rattle.rx_forms.specs.Steps.{target_field}
use Rattle.rx_layout.specs.Laid.{end_front, IsAsked, behind, asked_link}
use Rattle.rx_layout.specs.QueryOf.{with_link, link_numbered}
use Rattle.rx_layout.specs.TypedPath.{TypedEnd}
use Rattle.rx_layout.proofs.Behind
use Rattle.rx_layout.proofs.Gathered.{if_ok}
use Rattle.rx_layout.proofs.Laying.{renamed, at_most}
use Rattle.rx_layout.proofs.goal_parts.numbered.Goals as goal

pub of-requires : goal.of-requires
of-requires c = subst (λ (t : Typed). (i : ℕ) × IsLink t.graph i (arrow_of c.in-Some.link.now)) c.message.ensures c.in-Some.ensures.is

pub link_parts-requires : goal.link_parts-requires
link_parts-requires c =
    let p = c.args.path.now in
    let a = arrow_of c.in-Some.link.now in
    let found = subst (λ (t : Typed). link_numbered t.graph c.args.node c.args.number ≡ Some a) c.message.ensures c.in-Some.ensures.found in
    record {
      bytes = λ e. subst (λ (x : TypedEnd). type_of x.domains x.graph (target_field x.arrow.target) ≡ None) (sym c.of.ensures)
          (Behind.bytes_type p.domains p.graph c.args.node c.args.number a (c.requires.bytes e) found);
    }

pub returns-in-Some : goal.returns-in-Some
returns-in-Some c =
    let p = c.args.path.now in
    let front = end_front p in
    let asks = asked_link p.domains p.graph c.args.check front.fields front.division in
    let a = arrow_of c.in-Some.link.now in
    let found = subst (λ (t : Typed). link_numbered t.graph c.args.node c.args.number ≡ Some a) c.message.ensures c.in-Some.ensures.found in
    if_ok c.link_parts.result _ _ (λ asked h. renamed p 192 _ _ asked (ap (λ (o : Option Arrow). behind (with_link p.domains p.graph o front.fields front.division asks) front) (sym found))
    (subst (λ (x : TypedEnd). IsAsked 192 x (asked_link x.domains x.graph c.args.check) asked) c.of.ensures h)) c.link_parts.ensures

pub returns-in-None : goal.returns-in-None
returns-in-None c =
    let p = c.args.path.now in
    let front = end_front p in
    let asks = asked_link p.domains p.graph c.args.check front.fields front.division in
    let none = subst (λ (t : Typed). link_numbered t.graph c.args.node c.args.number ≡ None) c.message.ensures (c.in-None.ensures.none refl) in
    renamed p 192 _ _ c.nothing.result (sym (Behind.none_behind p.domains p.graph front) ∙ ap (λ (o : Option Arrow). behind (with_link p.domains p.graph o front.fields front.division asks) front) (sym none))
    (at_most p 190 192 front c.nothing.result (omega arith) c.nothing.ensures)
