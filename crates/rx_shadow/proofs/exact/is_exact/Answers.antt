use Rattle.std.proofs.Common.{◌≡◌, refl, sym, ap, ◌∙◌, Bool, true, false, ◌&&◌, ◌||◌}
use Rattle.std.specs.List.{list_any}
use Rattle.std.specs.Option.{is_some}
use Rattle.rx_shadow.specs.Bounds.{fixed_value}
use Rattle.rx_shadow.specs.Simple.{has, has_unit_pairs}
use Rattle.rx_shadow.specs.Known.{rows_of}
use Rattle.rx_shadow.proofs.RowTests.{any_rows}
use Rattle.rx_shadow.proofs.exact.is_exact.Goals as goal

joined : (occurs fixed pairs a b c : Bool) → occurs ≡ a → fixed ≡ b → pairs ≡ c → (occurs && (fixed || pairs)) ≡ (a && (b || c))
joined occurs fixed pairs a b c e f g = ap (λ (o : Bool). o && (fixed || pairs)) e ∙ ap (λ (o : Bool). a && (o || pairs)) f ∙ ap (λ (o : Bool). a && (b || o)) g

pub returns-then-is_fixed : goal.returns-then-is_fixed
returns-then-is_fixed c =
    let x = c.args.variable in
    let rows = rows_of c.args.known.now in
    c.if-is_fixed.true
    ∙ sym (joined (list_any (has x) rows) (is_some (fixed_value x rows)) (has_unit_pairs x rows) true true (has_unit_pairs x rows) (any_rows (has x) c.args.known.now ∙ sym c.occurs.ensures ∙ c.if-occurs.true) (sym c.is_fixed.ensures ∙ c.if-is_fixed.true) refl)

pub returns-else-is_fixed : goal.returns-else-is_fixed
returns-else-is_fixed c =
    let x = c.args.variable in
    let rows = rows_of c.args.known.now in
    sym (joined (list_any (has x) rows) (is_some (fixed_value x rows)) (has_unit_pairs x rows) true false c.has_unit_pairs.result (any_rows (has x) c.args.known.now ∙ sym c.occurs.ensures ∙ c.if-occurs.true) (sym c.is_fixed.ensures ∙ c.if-is_fixed.false) (sym c.has_unit_pairs.ensures))

pub returns-else-occurs : goal.returns-else-occurs
returns-else-occurs c =
    let x = c.args.variable in
    let rows = rows_of c.args.known.now in
    c.if-occurs.false
    ∙ sym (ap (λ (o : Bool). o && (is_some (fixed_value x rows) || has_unit_pairs x rows)) (any_rows (has x) c.args.known.now ∙ sym c.occurs.ensures ∙ c.if-occurs.false))
