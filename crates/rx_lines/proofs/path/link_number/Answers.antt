use Rattle.std.proofs.Common.{◌∙◌, ◌+◌, sym, ap, List, ℕ, slice_get, take}
use Rattle.std.specs.List.{count_by}
use Rattle.rx_graph.specs.Checks.{is_node}
use Rattle.rx_graph.specs.Graph.{Arrow, arrow_of}
use Rattle.rx_lines.specs.Subjects.{number_if_any}
use Rattle.rx_graph.proofs.Memory.{within_links}
use Rattle.rx_lines.proofs.path.link_number.Goals as goal

pub count_before-before-requires : goal.count_before-before-requires
count_before-before-requires c =
    let place = c.args.place in
    within_links c.links.result.now place (arrow_of c.in-Some.link.now) (c.in-Some.ensures ∙ ap (λ (ls : List Arrow). slice_get ls place) (sym c.links.ensures.links))

pub returns-in-Some : goal.returns-in-Some
returns-in-Some c =
    let m = c.args.message.now.graph in
    let place = c.args.place in
    let link = arrow_of c.in-Some.link.now in
    let count = c.count_before-before.ensures.count ∙ ap (λ (ls : List Arrow). count_by (λ l. is_node link.source l.source) (take place ls)) c.links.ensures.links in
    ap (λ (n : ℕ). n + 1) count ∙ sym (ap (number_if_any m place) (sym c.in-Some.ensures))
