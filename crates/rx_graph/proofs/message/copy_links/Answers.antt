use Rattle.std.proofs.Common.{[], ◌∷◌, ◌++◌, sym, ap, ◌∙◌, take, get_or, List}
use Rattle.std.proofs.lemmas.List.{take_more}
use Rattle.rx_graph.specs.Graph.{Arrow, arrow_of, arrows}
use Rattle.rx_graph.proofs.Ways.{arrows-append}
use Rattle.rx_graph.proofs.message.copy_links.Goals as goal

pub loop-link-preserved : goal.loop-link-preserved
loop-link-preserved c =
    let links = c.args.links.now in
    let i = c.loop-link.link-index in
    let link = c.link-item.result in
    ap arrows c.in_ok-push.ensures.items ∙ arrows-append c.loop-link.all.items (c.in_ok-copy.field-0 ∷ [])
    ∙ ap (λ (xs : List Arrow). xs ++ arrow_of c.in_ok-copy.field-0 ∷ []) c.loop-link.invariant
    ∙ ap (λ (x : Arrow). arrows (take i links) ++ x ∷ []) (c.in_ok-copy.ensures ∙ ap arrow_of c.link-item.is)
    ∙ sym (arrows-append (take i links) (get_or links i link ∷ []))
    ∙ ap arrows (sym (take_more links i link c.loop-link-test.true))
