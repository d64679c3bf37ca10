use Rattle.std.proofs.Common.{arith, ◌≡◌, ◌∷◌, [], sym, ap, ◌∙◌, List, map}
use Rattle.rx_linear.specs.declared.row.Row.{Row}
use Rattle.rx_forms.specs.declared.linear.Form.{Form}
use Rattle.rx_layout.specs.declared.parts.Parts.{Parts}
use Rattle.rx_layout.specs.Parts.{parts_of, all_of, one_of}
use Rattle.rx_layout.proofs.Gathered.{parts_at_least, parts_all, parts_any, sums_fit, alls_fit, anys_fit, item_fits, parts_within, if_ok, count, total, count_all, count_any, item_counts}
use Rattle.rx_layout.proofs.parts.+parts.Goals as goal

pub branches-query_of-requires : goal.branches-query_of-requires
branches-query_of-requires t c =
    parts_within c.args.variables c.form-item.result c.in_ok-parts.parts c.requires.few
    (item_fits c.args.variables c.args.forms.now c.loop-form.form-index c.form-item.result c.loop-form-test.true c.form-item.is c.loop-form.invariant.fits) c.in_ok-parts.ensures

pub parts_of-row_of-requires : goal.parts_of-row_of-requires
parts_of-row_of-requires t c = record { fits = sums_fit c.args.variables c.args.form.now c.in-AtLeast.sum c.requires.fits c.in-AtLeast.is }

pub parts_of-all_of-requires : goal.parts_of-all_of-requires
parts_of-all_of-requires t c =
    let n = ap (λ (f : Form). count f) c.in-All.is ∙ count_all c.in-All.forms in
    let items = ap (λ (fs : List Form). total (map count fs)) c.as_slice.ensures in
    (omega (arith, c.decreases, n, items), (c.requires.few, alls_fit c.args.variables c.args.form.now c.in-All.forms c.as_slice.result.now c.requires.fits c.in-All.is c.as_slice.ensures))

pub parts_of-one_of-requires : goal.parts_of-one_of-requires
parts_of-one_of-requires t c =
    let n = ap (λ (f : Form). count f) c.in-Any.is ∙ count_any c.in-Any.forms in
    let items = ap (λ (fs : List Form). total (map count fs)) c.as_slice-in-Any.ensures in
    (omega (arith, c.decreases, n, items), (c.requires.few, anys_fit c.args.variables c.args.form.now c.in-Any.forms c.as_slice-in-Any.result.now c.requires.fits c.in-Any.is c.as_slice-in-Any.ensures))

pub all_of-parts_of-requires : goal.all_of-parts_of-requires
all_of-parts_of-requires t c =
    let less = item_counts c.args.forms.now c.loop-form.form-index c.form-item.result c.loop-form-test.true c.form-item.is in
    (omega (arith, c.decreases, less), (c.requires.few, item_fits c.args.variables c.args.forms.now c.loop-form.form-index c.form-item.result c.loop-form-test.true c.form-item.is c.loop-form.invariant.fits))

pub branches-parts_of-requires : goal.branches-parts_of-requires
branches-parts_of-requires t c =
    let less = item_counts c.args.forms.now c.loop-form.form-index c.form-item.result c.loop-form-test.true c.form-item.is in
    (omega (arith, c.decreases, less), (c.requires.few, item_fits c.args.variables c.args.forms.now c.loop-form.form-index c.form-item.result c.loop-form-test.true c.form-item.is c.loop-form.invariant.fits))

pub parts_of-returns-in_ok-row_of-in-AtLeast : goal.parts_of-returns-in_ok-row_of-in-AtLeast
parts_of-returns-in_ok-row_of-in-AtLeast t c =
    let n = c.args.variables in
    let one : Row → Parts = λ row. record { rows = row ∷ []; either = [] } in
    if_ok c.one_row.result (λ p. p ≡ one c.in_ok-row_of-in-AtLeast.field-0) (λ p. p ≡ parts_of n c.args.form.now)
    (λ p e. e ∙ ap one c.in_ok-row_of-in-AtLeast.ensures ∙ sym (ap (λ (f : Form). parts_of n f) c.in-AtLeast.is ∙ parts_at_least n c.in-AtLeast.sum))
    c.one_row.ensures

pub parts_of-returns-in-All : goal.parts_of-returns-in-All
parts_of-returns-in-All t c =
    let n = c.args.variables in
    if_ok c.all_of.result (λ p. p ≡ all_of (map (parts_of n) c.as_slice.result.now)) (λ p. p ≡ parts_of n c.args.form.now)
    (λ p e. e ∙ ap (λ (fs : List Form). all_of (map (parts_of n) fs)) c.as_slice.ensures ∙ sym (ap (λ (f : Form). parts_of n f) c.in-All.is ∙ parts_all n c.in-All.forms))
    c.all_of.ensures

pub parts_of-returns-in-Any : goal.parts_of-returns-in-Any
parts_of-returns-in-Any t c =
    let n = c.args.variables in
    if_ok c.one_of.result (λ p. p ≡ one_of n (map (parts_of n) c.as_slice-in-Any.result.now)) (λ p. p ≡ parts_of n c.args.form.now)
    (λ p e. e ∙ ap (λ (fs : List Form). one_of n (map (parts_of n) fs)) c.as_slice-in-Any.ensures ∙ sym (ap (λ (f : Form). parts_of n f) c.in-Any.is ∙ parts_any n c.in-Any.forms))
    c.one_of.ensures
