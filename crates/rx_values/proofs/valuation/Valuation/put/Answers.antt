use Rattle.std.proofs.Common.{◌≡◌, ℕ, List, None, sym, ap, ◌∙◌, subst, arith}
use Rattle.std.specs.List.{prefix_len, insert}
use Rattle.rx_graph.specs.Fits.{content_of, IsAscending}
use Rattle.rx_values.specs.declared.valuation.Value.{Value}
use Rattle.rx_values.specs.Valuation.{assigned, content, inserted, is_before}
use Rattle.rx_values.proofs.Ascending.{inserted_is, ascending_inserted}
use Rattle.rx_values.proofs.valuation.Valuation.put.Goals as goal

-- the entries that the code leaves
left : (es new slice : List (ℕ × Value)) (f at : ℕ) (v : Value) → slice ≡ es → at ≡ prefix_len (is_before f) slice → new ≡ insert es at (f, v) → assigned new ≡ inserted f (content v) (assigned es)
left es new slice f at v same count put =
    let place : at ≡ prefix_len (is_before f) es = count ∙ ap (prefix_len (is_before f)) same in
    ap assigned (put ∙ ap (λ k. insert es k (f, v)) place) ∙ inserted_is es f v

pub invariant_of-result : goal.invariant_of-result
invariant_of-result c =
    let es = c.self.inside.entries.items in
    let f = c.args.field in
    let v = c.args.value in
    let is = left es c.insert.new.self.items c.as_slice.result.now f c.count_before-at.result v c.as_slice.ensures.value c.count_before-at.ensures.count c.in_ok-insert.ensures.items in
    let none : content_of f (assigned es) ≡ None = ap (content_of f) c.self.view_is ∙ c.requires in
    subst IsAscending (sym is) (ascending_inserted (assigned es) f (content v) c.self.invariant none)

pub returns : goal.returns
returns c =
    let es = c.self.inside.entries.items in
    let f = c.args.field in
    let v = c.args.value in
    left es c.insert.new.self.items c.as_slice.result.now f c.count_before-at.result v c.as_slice.ensures.value c.count_before-at.ensures.count c.in_ok-insert.ensures.items
    ∙ ap (inserted f (content v)) c.self.view_is
