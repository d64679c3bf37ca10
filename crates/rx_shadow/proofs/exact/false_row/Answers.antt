use Rattle.std.proofs.Common.{sym, ap, ◌∙◌, List}
use Rattle.std.specs.List.{list_any}
use Rattle.std.proofs.lemmas.List.{take_all}
use Rattle.std.proofs.lemmas.List.Folds.{list_any_at}
use Rattle.rx_linear.specs.Joining.{is_false}
use Rattle.rx_shadow.specs.declared.known.Known.{Known}
use Rattle.rx_shadow.proofs.RowTests.{any_rows}
use Rattle.rx_shadow.proofs.Closings.{closing_tighten}
use Rattle.rx_shadow.proofs.exact.false_row.Goals as goal

pub returns-then-is_false : goal.returns-then-is_false
returns-then-is_false c =
    let t = ap is_false (sym c.row.ensures) ∙ sym c.is_false.ensures ∙ c.if-is_false.true in (
      any_rows is_false c.args.known.now
          ∙ list_any_at (λ (k : Known). is_false k.row) c.args.known.now c.loop-k.k-index c.k-item.result c.loop-k-test.true (ap (λ (k : Known). is_false k.row) (sym c.k-item.is) ∙ t),
      closing_tighten c.args.known.now c.k-item.result (c.loop-k.k-index, c.loop-k-test.true, sym c.k-item.is) t,
    )

pub returns : goal.returns
returns c = any_rows is_false c.args.known.now ∙ ap (λ (ks : List Known). list_any (λ k. is_false k.row) ks) (sym (take_all c.loop-k.k-index c.args.known.now c.loop-k-test.false)) ∙ c.loop-k.invariant
