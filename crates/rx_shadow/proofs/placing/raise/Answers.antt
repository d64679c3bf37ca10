use Rattle.std.proofs.Common.{◌≡◌, ap, ◌∙◌, ◌<◌, ◌^◌, ◌+ℤ◌, ◌≤ℤ◌, ◌<ℤ◌, ◌-ℤ◌, pos, ℤ, get_or, unsigned_abs, arith, FitsSigned}
use Rattle.std.specs.Int.{w128}
use Rattle.std.proofs.lemmas.Int.{ints, to_z-of_z}
use Rattle.std.proofs.lemmas.List.Elements.{All-get_or}
use Rattle.rx_model.specs.Sums.{product_sum}
use Rattle.rx_linear.specs.Divisors.{divided_up}
use Rattle.rx_linear.specs.Units.{coefficient}
use Rattle.rx_linear.proofs.Bounds.{constant_fits}
use Rattle.rx_shadow.proofs.Raising.{lacks_little, raised_none, raised_some, raised_range}
use Rattle.rx_shadow.proofs.placing.raise.Goals as goal

pub lack-requires-clause-little : goal.lack-requires-clause-little
lack-requires-clause-little c =
    let p = c.requires.possible in
    let l = lacks_little c.args.variable c.args.point.now c.args.row.now p.0 c.requires.within c.requires.same_length c.requires.narrow c.requires.small p.2 p.3 in
    omega (arith, ints, l)

missing_fits : (least sum d : ℤ) → (least -ℤ sum) ≤ℤ pos (2 ^ 125) → d ≡ least -ℤ sum → pos 0 <ℤ d → FitsSigned w128 d
missing_fits least sum d l e p = omega (arith, ints, l, e, p)

pub quotient-more-requires-clause-number_small : goal.quotient-more-requires-clause-number_small
quotient-more-requires-clause-number_small c =
    let p = c.requires.possible in
    let l = lacks_little c.args.variable c.args.point.now c.args.row.now p.0 c.requires.within c.requires.same_length c.requires.narrow c.requires.small p.2 p.3 in
    let e = c.in-Some.ensures.0 in
    let d = c.in-Some.ensures.1 in
    let f : FitsSigned w128 c.in-Some.missing = missing_fits c.args.row.now.least (product_sum c.args.row.now.coefficients c.args.point.now) c.in-Some.missing l e d in
    let small : unsigned_abs c.in-Some.missing < 2 ^ 126 = omega (arith, ints, l, e, d) in
    simp to_z-of_z small

pub overflow_add-point : goal.overflow_add-point
overflow_add-point c =
    let p = c.requires.possible in
    let little = lacks_little c.args.variable c.args.point.now c.args.row.now p.0 c.requires.within c.requires.same_length c.requires.narrow c.requires.small p.2 p.3 in
    let fm : FitsSigned w128 c.in-Some.missing = missing_fits c.args.row.now.least (product_sum c.args.row.now.coefficients c.args.point.now) c.in-Some.missing little c.in-Some.ensures.0 c.in-Some.ensures.1 in
    let fc : FitsSigned w128 c.coefficient.result = record { sfits = c.coefficient.type_inv } in
    let fq : FitsSigned w128 c.quotient-more.result = record { sfits = c.quotient-more.type_inv } in
    let sv = All-get_or (λ z. unsigned_abs z < 2 ^ 100) c.args.point.now c.args.variable (pos 0) c.requires.within c.requires.small in
    let fv : FitsSigned w128 (get_or c.args.point.now c.args.variable (pos 0)) = constant_fits (get_or c.args.point.now c.args.variable (pos 0)) sv in
    let q : c.quotient-more.result ≡ divided_up c.in-Some.missing (unsigned_abs (coefficient c.args.variable c.args.row.now)) =
    (simp to_z-of_z at c.quotient-more.ensures) ∙ ap (λ (z : ℤ). divided_up c.in-Some.missing (unsigned_abs z)) c.coefficient.ensures in
    let r = raised_range c.args.variable c.args.point.now c.args.row.now c.in-Some.missing c.quotient-more.result p.0 c.requires.within c.requires.positive c.in-Some.ensures.0 c.in-Some.ensures.1 q p.3 in
    let sw = p.2 in
    omega (arith, ints, r.0, r.1, sv, sw)

pub returns-in-Some : goal.returns-in-Some
returns-in-Some c =
    let p = c.requires.possible in
    let little = lacks_little c.args.variable c.args.point.now c.args.row.now p.0 c.requires.within c.requires.same_length c.requires.narrow c.requires.small p.2 p.3 in
    let fm : FitsSigned w128 c.in-Some.missing = missing_fits c.args.row.now.least (product_sum c.args.row.now.coefficients c.args.point.now) c.in-Some.missing little c.in-Some.ensures.0 c.in-Some.ensures.1 in
    let fc : FitsSigned w128 c.coefficient.result = record { sfits = c.coefficient.type_inv } in
    let fq : FitsSigned w128 c.quotient-more.result = record { sfits = c.quotient-more.type_inv } in
    let sv = All-get_or (λ z. unsigned_abs z < 2 ^ 100) c.args.point.now c.args.variable (pos 0) c.requires.within c.requires.small in
    let fv : FitsSigned w128 (get_or c.args.point.now c.args.variable (pos 0)) = constant_fits (get_or c.args.point.now c.args.variable (pos 0)) sv in
    let q : c.quotient-more.result ≡ divided_up c.in-Some.missing (unsigned_abs (coefficient c.args.variable c.args.row.now)) =
    (simp to_z-of_z at c.quotient-more.ensures) ∙ ap (λ (z : ℤ). divided_up c.in-Some.missing (unsigned_abs z)) c.coefficient.ensures in
    let r = raised_range c.args.variable c.args.point.now c.args.row.now c.in-Some.missing c.quotient-more.result p.0 c.requires.within c.requires.positive c.in-Some.ensures.0 c.in-Some.ensures.1 q p.3 in
    let sw = p.2 in
    let fs : FitsSigned w128 (get_or c.args.point.now c.args.variable (pos 0) +ℤ c.quotient-more.result) = omega (arith, ints, r.0, r.1, sv, sw) in
    simp to_z-of_z (raised_some c.args.variable c.args.point.now c.args.row.now c.in-Some.missing c.quotient-more.result c.requires.within c.requires.positive c.in-Some.ensures.0 c.in-Some.ensures.1 q)

pub returns-in_default : goal.returns-in_default
returns-in_default c = raised_none c.args.variable c.args.point.now c.args.row.now c.in_default.ensures
