use Rattle.std.proofs.Common.{◌≡◌, sym, ◌∙◌, arith}
use Rattle.std.specs.Prelude.{◌*ℤ◌, FitsSigned}
use Rattle.std.proofs.lemmas.Int.{ints}
use mir.Syntax.{w128}
use Rattle.rx_types.proofs.Short.{around_1, around_2, around_3, around_4, passed}
use Rattle.rx_types.proofs.interval.product.Goals as goal

pub returns-in_err-ac-clause-interval : goal.returns-in_err-ac-clause-interval
returns-in_err-ac-clause-interval c =
    let a = c.args in
    let x : passed a.a ≡ a.a = omega (arith, ints) in
    let y : passed a.c ≡ a.c = omega (arith, ints) in
    let nofit : FitsSigned w128 (a.a *ℤ a.c) → ⊥ = rw (x, y) at c.in_err-ac.ensures in
    c.from_residual.ensures ∙ sym (around_1 (a.a *ℤ a.c) (a.a *ℤ a.d) (a.b *ℤ a.c) (a.b *ℤ a.d) nofit)

pub returns-in_err-ad-clause-interval : goal.returns-in_err-ad-clause-interval
returns-in_err-ad-clause-interval c =
    let a = c.args in
    let x : passed a.a ≡ a.a = omega (arith, ints) in
    let y : passed a.d ≡ a.d = omega (arith, ints) in
    let nofit : FitsSigned w128 (a.a *ℤ a.d) → ⊥ = rw (x, y) at c.in_err-ad.ensures in
    c.from_residual-in_err-ad.ensures ∙ sym (around_2 (a.a *ℤ a.c) (a.a *ℤ a.d) (a.b *ℤ a.c) (a.b *ℤ a.d) nofit)

pub returns-in_err-bc-clause-interval : goal.returns-in_err-bc-clause-interval
returns-in_err-bc-clause-interval c =
    let a = c.args in
    let x : passed a.b ≡ a.b = omega (arith, ints) in
    let y : passed a.c ≡ a.c = omega (arith, ints) in
    let nofit : FitsSigned w128 (a.b *ℤ a.c) → ⊥ = rw (x, y) at c.in_err-bc.ensures in
    c.from_residual-in_err-bc.ensures ∙ sym (around_3 (a.a *ℤ a.c) (a.a *ℤ a.d) (a.b *ℤ a.c) (a.b *ℤ a.d) nofit)

pub returns-in_err-bd-clause-interval : goal.returns-in_err-bd-clause-interval
returns-in_err-bd-clause-interval c =
    let a = c.args in
    let x : passed a.b ≡ a.b = omega (arith, ints) in
    let y : passed a.d ≡ a.d = omega (arith, ints) in
    let nofit : FitsSigned w128 (a.b *ℤ a.d) → ⊥ = rw (x, y) at c.in_err-bd.ensures in
    c.from_residual-in_err-bd.ensures ∙ sym (around_4 (a.a *ℤ a.c) (a.a *ℤ a.d) (a.b *ℤ a.c) (a.b *ℤ a.d) nofit)

pub returns-clause-interval : goal.returns-clause-interval
returns-clause-interval c =
    let a = c.args in
    let xa : passed a.a ≡ a.a = omega (arith, ints) in
    let xb : passed a.b ≡ a.b = omega (arith, ints) in
    let xc : passed a.c ≡ a.c = omega (arith, ints) in
    let xd : passed a.d ≡ a.d = omega (arith, ints) in
    let ac : passed c.in_ok-ac.ac ≡ c.in_ok-ac.ac = omega (arith, ints) in
    let ad : passed c.in_ok-ad.ad ≡ c.in_ok-ad.ad = omega (arith, ints) in
    let bc : passed c.in_ok-bc.bc ≡ c.in_ok-bc.bc = omega (arith, ints) in
    let bd : passed c.in_ok-bd.bd ≡ c.in_ok-bd.bd = omega (arith, ints) in
    let e : c.in_ok-ac.ac ≡ a.a *ℤ a.c = rw (xa, xc) at c.in_ok-ac.ensures.1 in
    let f : c.in_ok-ad.ad ≡ a.a *ℤ a.d = rw (xa, xd) at c.in_ok-ad.ensures.1 in
    let g : c.in_ok-bc.bc ≡ a.b *ℤ a.c = rw (xb, xc) at c.in_ok-bc.ensures.1 in
    let h : c.in_ok-bd.bd ≡ a.b *ℤ a.d = rw (xb, xd) at c.in_ok-bd.ensures.1 in
    rw (ac, ad, bc, bd, e, f, g, h) at c.around.ensures.interval
