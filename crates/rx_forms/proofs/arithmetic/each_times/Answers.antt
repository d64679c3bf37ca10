use Rattle.std.proofs.Common.{◌≡◌, ◌++◌, [], sym, subst, get_or, drop, pos, true, List, ℤ, ◌+◌, ◌*ℤ◌}
use Rattle.std.specs.List.{list_all}
use Rattle.std.proofs.lemmas.Result.{err_from_is_err_and}
use Rattle.rx_model.specs.Sums.{weighted_sum}
use Rattle.rx_forms.specs.Limits.{is_word}
use Rattle.rx_forms.proofs.Words.{scaled_step, scaled_fails, words_on}
use Rattle.rx_forms.proofs.arithmetic.each_times.Goals as goal

pub returns-in_err-push_product-clause-limit : goal.returns-in_err-push_product-clause-limit
returns-in_err-push_product-clause-limit c =
    let p = err_from_is_err_and c.from_residual-in_err-push_product.result c.from_residual-in_err-push_product.ensures.1 in
    rw (p.1, p.2) (λ e. scaled_fails c.args.times.now (pos 1) c.loop-place.products.items c.args.numbers.now _ c.loop-place.place c.loop-place-test.true c.loop-place.invariant.0 (c.in_err-push_product.ensures.limit e))

pub loop-place-preserved : goal.loop-place-preserved
loop-place-preserved c =
    let a = c.args.times.now in
    let ls = c.args.numbers.now in
    let i = c.loop-place.place in
    let pushed = c.in_ok-push_product.ensures.pushed in (
      subst (λ (zs : List ℤ). zs ++ weighted_sum (drop (i + 1) ls) a [] (pos 1) ≡ weighted_sum ls a [] (pos 1)) (sym pushed) (scaled_step a (pos 1) c.loop-place.products.items ls _ i c.loop-place-test.true c.loop-place.invariant.0),
      subst (λ (zs : List ℤ). list_all is_word zs ≡ true) (sym pushed) (words_on c.loop-place.products.items (a *ℤ get_or ls i (pos 0)) c.loop-place.invariant.1 c.in_ok-push_product.ensures.word),
    )
