use Rattle.std.proofs.Common.{rules, ◌≡◌, true, false, ap, sym, ◌∙◌, subst, arith, refl, ℤ, ◌+◌, ◌++◌, ◌&&◌, nat_le, IfOk, IfErr, OnOk}
use Rattle.std.proofs.lemmas.Int.{ints}
use Rattle.std.proofs.lemmas.Result.{err_from_is_err_and, IfOk-from_err, IfOk-weaker}
use Rattle.std.proofs.Common.{to_z, of_z}
use mir.Syntax.{w128}
use Rattle.rx_types.specs.declared.expr.Expr.{Expr}
use Rattle.rx_types.specs.declared.expr.Expr.TheViews.{the_lemmas}
use Rattle.rx_types.specs.declared.expr.Operator.{Operator}
use Rattle.rx_types.specs.declared.expr.Operator.TheVariants as op
use Rattle.rx_types.specs.declared.interval.Interval.{Interval}
use Rattle.rx_types.specs.Tree.{Tree, tree_of, Neg, Binary}
use Rattle.rx_types.specs.Narrow.{IsNarrow, interval_of}
use Rattle.rx_types.specs.Static.{is_static, static_value}
use Rattle.rx_forms.specs.declared.fault.FormFault.TheVariants.{PathLimit}
use Rattle.rx_forms.specs.Linear.{times}
use Rattle.rx_forms.specs.Divisions.{division_rows}
use Rattle.rx_forms.specs.Limits.{has_words, all_kept, divided}
use Rattle.rx_forms.specs.Expressions.{divided_by}
use Rattle.rx_forms.specs.Normal.{IsNumeric}
use Rattle.rx_forms.specs.Code.{formed_all, limits}
use Rattle.rx_forms.proofs.Numbers
use Rattle.rx_forms.proofs.Reaching.{fails_too}
use Rattle.rx_forms.proofs.number.+number_form.Goals as goal

pub number_form-requires : goal.number_form-requires
number_form-requires t c =
    let limit = limits c.args.message.now in
    let fields = formed_all c.args.fields.now in
    let x = ap tree_of c.in-Neg.is ∙ ap (λ (y : Expr). Neg (tree_of y)) (sym c.deref.ensures) in
    (search (rules, the_lemmas), (subst IsNumeric x c.requires.numeric, ((subst (λ (y : Tree). IsNarrow limit y) x c.requires.narrow).1, c.requires.room)))

pub returns-in_err-form-in-Neg-clause-sum : goal.returns-in_err-form-in-Neg-clause-sum
returns-in_err-form-in-Neg-clause-sum t c =
    IfOk-from_err c.from_residual.result _ c.from_residual.ensures.0

pub returns-in_err-form-in-Neg-clause-limit : goal.returns-in_err-form-in-Neg-clause-limit
returns-in_err-form-in-Neg-clause-limit t c =
    let limit = limits c.args.message.now in
    let fields = formed_all c.args.fields.now in
    let x = ap tree_of c.in-Neg.is ∙ ap (λ (y : Expr). Neg (tree_of y)) (sym c.deref.ensures) in
    let p = err_from_is_err_and c.from_residual.result c.from_residual.ensures.1 in
    rw (p.1, p.2) (λ e. Numbers.neg_part_fails limit fields _ _ _ x (c.in_err-form-in-Neg.ensures.limit e))

pub returns-in_ok-form-in-Neg-clause-sum : goal.returns-in_ok-form-in-Neg-clause-sum
returns-in_ok-form-in-Neg-clause-sum t c =
    let limit = limits c.args.message.now in
    let fields = formed_all c.args.fields.now in
    let x = ap tree_of c.in-Neg.is ∙ ap (λ (y : Expr). Neg (tree_of y)) (sym c.deref.ensures) in
    Numbers.neg_ok limit fields _ _ _ _ c.in_ok-form-in-Neg.form c.scaled.result x c.in_ok-form-in-Neg.ensures.sum c.scaled.ensures.value c.scaled.ensures.words

pub returns-in_ok-form-in-Neg-clause-limit : goal.returns-in_ok-form-in-Neg-clause-limit
returns-in_ok-form-in-Neg-clause-limit t c =
    let limit = limits c.args.message.now in
    let fields = formed_all c.args.fields.now in
    let x = ap tree_of c.in-Neg.is ∙ ap (λ (y : Expr). Neg (tree_of y)) (sym c.deref.ensures) in
    fails_too c.scaled.result _ _ (λ h. Numbers.neg_fails limit fields _ _ _ _ c.in_ok-form-in-Neg.form x c.in_ok-form-in-Neg.ensures.sum h) c.scaled.ensures.limit

pub number_form-requires-then-is_static : goal.number_form-requires-then-is_static
number_form-requires-then-is_static t c =
    let limit = limits c.args.message.now in
    let fields = formed_all c.args.fields.now in
    let x0 = ap tree_of c.in-Binary.is ∙ ap (λ (o : Operator). Binary o (tree_of c.in-Binary.left.value) (tree_of c.in-Binary.right.value)) c.in-Mul.is in
    let x = x0 ∙ Numbers.same_parts op.Mul _ _ _ _ refl c.deref-then-is_static.ensures in
    (search (rules, the_lemmas), ((subst IsNumeric x c.requires.numeric).1, ((subst (λ (y : Tree). IsNarrow limit y) x c.requires.narrow).3, c.requires.room)))

pub number_form-requires-else-is_static : goal.number_form-requires-else-is_static
number_form-requires-else-is_static t c =
    let limit = limits c.args.message.now in
    let fields = formed_all c.args.fields.now in
    let x0 = ap tree_of c.in-Binary.is ∙ ap (λ (o : Operator). Binary o (tree_of c.in-Binary.left.value) (tree_of c.in-Binary.right.value)) c.in-Mul.is in
    let x = x0 ∙ Numbers.same_parts op.Mul _ _ _ _ c.deref-else-is_static.ensures refl in
    (search (rules, the_lemmas), ((subst IsNumeric x c.requires.numeric).0, ((subst (λ (y : Tree). IsNarrow limit y) x c.requires.narrow).2, c.requires.room)))

pub static_number-requires : goal.static_number-requires
static_number-requires t c =
    let limit = limits c.args.message.now in
    let fields = formed_all c.args.fields.now in
    let x0 = ap tree_of c.in-Binary.is ∙ ap (λ (o : Operator). Binary o (tree_of c.in-Binary.left.value) (tree_of c.in-Binary.right.value)) c.in-Mul.is in
    let x = x0 ∙ Numbers.same_parts op.Mul _ _ _ _ c.deref-then-is_static-2.ensures refl in
    record { narrow = (limit, (subst (λ (y : Tree). IsNarrow limit y) x c.requires.narrow).2) }

pub static_number-requires-else-is_static : goal.static_number-requires-else-is_static
static_number-requires-else-is_static t c =
    let limit = limits c.args.message.now in
    let fields = formed_all c.args.fields.now in
    let x0 = ap tree_of c.in-Binary.is ∙ ap (λ (o : Operator). Binary o (tree_of c.in-Binary.left.value) (tree_of c.in-Binary.right.value)) c.in-Mul.is in
    let x = x0 ∙ Numbers.same_parts op.Mul _ _ _ _ refl c.deref-else-is_static-2.ensures in
    record { narrow = (limit, (subst (λ (y : Tree). IsNarrow limit y) x c.requires.narrow).3) }

pub returns-in_err-form-in-Mul-clause-sum : goal.returns-in_err-form-in-Mul-clause-sum
returns-in_err-form-in-Mul-clause-sum t c =
    IfOk-from_err c.from_residual-in_err-form-in-Mul.result _ c.from_residual-in_err-form-in-Mul.ensures.0

pub returns-in_err-form-in-Mul-2-clause-sum : goal.returns-in_err-form-in-Mul-2-clause-sum
returns-in_err-form-in-Mul-2-clause-sum t c =
    IfOk-from_err c.from_residual-in_err-form-in-Mul-2.result _ c.from_residual-in_err-form-in-Mul-2.ensures.0

pub returns-in_err-form-in-Mul-clause-limit : goal.returns-in_err-form-in-Mul-clause-limit
returns-in_err-form-in-Mul-clause-limit t c =
    let limit = limits c.args.message.now in
    let fields = formed_all c.args.fields.now in
    let x0 = ap tree_of c.in-Binary.is ∙ ap (λ (o : Operator). Binary o (tree_of c.in-Binary.left.value) (tree_of c.in-Binary.right.value)) c.in-Mul.is in
    let x = x0 ∙ Numbers.same_parts op.Mul _ _ _ _ c.deref-in-Mul.ensures c.deref-then-is_static.ensures in
    let s = sym c.is_static.ensures ∙ c.if-is_static.true in
    let p = err_from_is_err_and c.from_residual-in_err-form-in-Mul.result c.from_residual-in_err-form-in-Mul.ensures.1 in
    rw (p.1, p.2) (λ e. Numbers.mul_part_fails limit fields _ _ _ _ true x s (c.in_err-form-in-Mul.ensures.limit e))

pub returns-in_err-form-in-Mul-2-clause-limit : goal.returns-in_err-form-in-Mul-2-clause-limit
returns-in_err-form-in-Mul-2-clause-limit t c =
    let limit = limits c.args.message.now in
    let fields = formed_all c.args.fields.now in
    let x0 = ap tree_of c.in-Binary.is ∙ ap (λ (o : Operator). Binary o (tree_of c.in-Binary.left.value) (tree_of c.in-Binary.right.value)) c.in-Mul.is in
    let x = x0 ∙ Numbers.same_parts op.Mul _ _ _ _ c.deref-else-is_static.ensures refl in
    let s = ap is_static (ap tree_of c.deref-else-is_static.ensures) ∙ sym (ap is_static (ap tree_of c.deref-in-Mul.ensures)) ∙ sym c.is_static.ensures ∙ c.if-is_static.false in
    let p = err_from_is_err_and c.from_residual-in_err-form-in-Mul-2.result c.from_residual-in_err-form-in-Mul-2.ensures.1 in
    rw (p.1, p.2) (λ e. Numbers.mul_part_fails limit fields _ _ _ _ false x s (c.in_err-form-in-Mul-2.ensures.limit e))

pub returns-in_ok-form-in-Mul-clause-sum : goal.returns-in_ok-form-in-Mul-clause-sum
returns-in_ok-form-in-Mul-clause-sum t c =
    let limit = limits c.args.message.now in
    let fields = formed_all c.args.fields.now in
    let x0 = ap tree_of c.in-Binary.is ∙ ap (λ (o : Operator). Binary o (tree_of c.in-Binary.left.value) (tree_of c.in-Binary.right.value)) c.in-Mul.is in
    let x = x0 ∙ Numbers.same_parts op.Mul _ _ _ _ c.deref-then-is_static-2.ensures c.deref-then-is_static.ensures in
    let s = ap is_static (ap tree_of c.deref-then-is_static-2.ensures) ∙ sym (ap is_static (ap tree_of c.deref-in-Mul.ensures)) ∙ sym c.is_static.ensures ∙ c.if-is_static.true in
    let z : to_z w128 (of_z w128 c.static_number.result) ≡ c.static_number.result = omega (arith, ints) in
    let k : to_z w128 (of_z w128 c.static_number.result) ≡ static_value (tree_of c.deref-then-is_static-2.result.now) = z ∙ c.static_number.ensures in
    let f = c.in_ok-form-in-Mul in
    let r = c.scaled-then-is_static in
    Numbers.mul_right_ok limit fields _ _ _ _ _ f.form r.result x s f.ensures.sum (subst (λ (n : ℤ). IfOk r.result (λ h. h ≡ times n f.form)) k r.ensures.value) (subst (λ (n : ℤ). OnOk r.result (has_words (times n f.form) ≡ true)) k r.ensures.words)

pub returns-in_ok-form-in-Mul-clause-limit : goal.returns-in_ok-form-in-Mul-clause-limit
returns-in_ok-form-in-Mul-clause-limit t c =
    let limit = limits c.args.message.now in
    let fields = formed_all c.args.fields.now in
    let x0 = ap tree_of c.in-Binary.is ∙ ap (λ (o : Operator). Binary o (tree_of c.in-Binary.left.value) (tree_of c.in-Binary.right.value)) c.in-Mul.is in
    let x = x0 ∙ Numbers.same_parts op.Mul _ _ _ _ c.deref-then-is_static-2.ensures c.deref-then-is_static.ensures in
    let s = ap is_static (ap tree_of c.deref-then-is_static-2.ensures) ∙ sym (ap is_static (ap tree_of c.deref-in-Mul.ensures)) ∙ sym c.is_static.ensures ∙ c.if-is_static.true in
    let z : to_z w128 (of_z w128 c.static_number.result) ≡ c.static_number.result = omega (arith, ints) in
    let k : to_z w128 (of_z w128 c.static_number.result) ≡ static_value (tree_of c.deref-then-is_static-2.result.now) = z ∙ c.static_number.ensures in
    let f = c.in_ok-form-in-Mul in
    let r = c.scaled-then-is_static in
    fails_too r.result _ _ (λ h. Numbers.mul_right_fails limit fields _ _ _ _ _ f.form x s f.ensures.sum h) (subst (λ (n : ℤ). IfErr r.result (λ e. e ≡ PathLimit → has_words (times n f.form) ≡ false)) k r.ensures.limit)

pub returns-in_ok-form-in-Mul-2-clause-sum : goal.returns-in_ok-form-in-Mul-2-clause-sum
returns-in_ok-form-in-Mul-2-clause-sum t c =
    let limit = limits c.args.message.now in
    let fields = formed_all c.args.fields.now in
    let x0 = ap tree_of c.in-Binary.is ∙ ap (λ (o : Operator). Binary o (tree_of c.in-Binary.left.value) (tree_of c.in-Binary.right.value)) c.in-Mul.is in
    let x = x0 ∙ Numbers.same_parts op.Mul _ _ _ _ c.deref-else-is_static.ensures c.deref-else-is_static-2.ensures in
    let s = ap is_static (ap tree_of c.deref-else-is_static.ensures) ∙ sym (ap is_static (ap tree_of c.deref-in-Mul.ensures)) ∙ sym c.is_static.ensures ∙ c.if-is_static.false in
    let z : to_z w128 (of_z w128 c.static_number-else-is_static.result) ≡ c.static_number-else-is_static.result = omega (arith, ints) in
    let k : to_z w128 (of_z w128 c.static_number-else-is_static.result) ≡ static_value (tree_of c.deref-else-is_static-2.result.now) = z ∙ c.static_number-else-is_static.ensures in
    let f = c.in_ok-form-in-Mul-2 in
    let r = c.scaled-else-is_static in
    Numbers.mul_left_ok limit fields _ _ _ _ _ f.form r.result x s f.ensures.sum (subst (λ (n : ℤ). IfOk r.result (λ h. h ≡ times n f.form)) k r.ensures.value) (subst (λ (n : ℤ). OnOk r.result (has_words (times n f.form) ≡ true)) k r.ensures.words)

pub returns-in_ok-form-in-Mul-2-clause-limit : goal.returns-in_ok-form-in-Mul-2-clause-limit
returns-in_ok-form-in-Mul-2-clause-limit t c =
    let limit = limits c.args.message.now in
    let fields = formed_all c.args.fields.now in
    let x0 = ap tree_of c.in-Binary.is ∙ ap (λ (o : Operator). Binary o (tree_of c.in-Binary.left.value) (tree_of c.in-Binary.right.value)) c.in-Mul.is in
    let x = x0 ∙ Numbers.same_parts op.Mul _ _ _ _ c.deref-else-is_static.ensures c.deref-else-is_static-2.ensures in
    let s = ap is_static (ap tree_of c.deref-else-is_static.ensures) ∙ sym (ap is_static (ap tree_of c.deref-in-Mul.ensures)) ∙ sym c.is_static.ensures ∙ c.if-is_static.false in
    let z : to_z w128 (of_z w128 c.static_number-else-is_static.result) ≡ c.static_number-else-is_static.result = omega (arith, ints) in
    let k : to_z w128 (of_z w128 c.static_number-else-is_static.result) ≡ static_value (tree_of c.deref-else-is_static-2.result.now) = z ∙ c.static_number-else-is_static.ensures in
    let f = c.in_ok-form-in-Mul-2 in
    let r = c.scaled-else-is_static in
    fails_too r.result _ _ (λ h. Numbers.mul_left_fails limit fields _ _ _ _ _ f.form x s f.ensures.sum h) (subst (λ (n : ℤ). IfErr r.result (λ e. e ≡ PathLimit → has_words (times n f.form) ≡ false)) k r.ensures.limit)

pub number_form-requires-in_default-operator : goal.number_form-requires-in_default-operator
number_form-requires-in_default-operator t c =
    let limit = limits c.args.message.now in
    let fields = formed_all c.args.fields.now in
    let x0 = ap tree_of c.in-Binary.is in
    let o = c.in-Binary.operator in
    let d = c.in_default-operator in
    let s = Numbers.sum_operator o _ _ (subst IsNumeric x0 c.requires.numeric) d.not-Mul d.not-Div d.not-Mod in
    let x = x0 ∙ Numbers.same_parts o _ _ _ _ c.deref-in_default-operator.ensures refl in
    (search (rules, the_lemmas), ((Numbers.sum_numeric o _ _ s (subst IsNumeric x c.requires.numeric)).0, ((subst (λ (y : Tree). IsNarrow limit y) x c.requires.narrow).2, c.requires.room)))

pub number_form-requires-in_default-operator-2 : goal.number_form-requires-in_default-operator-2
number_form-requires-in_default-operator-2 t c =
    let limit = limits c.args.message.now in
    let fields = formed_all c.args.fields.now in
    let x0 = ap tree_of c.in-Binary.is in
    let o = c.in-Binary.operator in
    let d = c.in_default-operator in
    let s = Numbers.sum_operator o _ _ (subst IsNumeric x0 c.requires.numeric) d.not-Mul d.not-Div d.not-Mod in
    let x = x0 ∙ Numbers.same_parts o _ _ _ _ refl c.deref-in_default-operator-2.ensures in
    (search (rules, the_lemmas), ((Numbers.sum_numeric o _ _ s (subst IsNumeric x c.requires.numeric)).1, ((subst (λ (y : Tree). IsNarrow limit y) x c.requires.narrow).3, Numbers.room_after limit fields _ _ _ c.in_ok-left-in_default-operator.ensures.sum.goes)))

pub returns-in_err-left-in_default-operator : goal.returns-in_err-left-in_default-operator
returns-in_err-left-in_default-operator t c =
    let limit = limits c.args.message.now in
    let fields = formed_all c.args.fields.now in
    let x0 = ap tree_of c.in-Binary.is in
    let o = c.in-Binary.operator in
    let d = c.in_default-operator in
    let s = Numbers.sum_operator o _ _ (subst IsNumeric x0 c.requires.numeric) d.not-Mul d.not-Div d.not-Mod in
    let x = x0 ∙ Numbers.same_parts o _ _ _ _ c.deref-in_default-operator.ensures refl in
    let p = err_from_is_err_and c.from_residual-in_err-left-in_default-operator.result c.from_residual-in_err-left-in_default-operator.ensures.1 in
    record {
      sum = IfOk-from_err c.from_residual-in_err-left-in_default-operator.result _ c.from_residual-in_err-left-in_default-operator.ensures.0;
      limit = rw (p.1, p.2) (λ e. Numbers.sum_left_fails limit fields _ o _ _ _ x s (c.in_err-left-in_default-operator.ensures.limit e));
    }

pub returns-in_err-right-in_default-operator : goal.returns-in_err-right-in_default-operator
returns-in_err-right-in_default-operator t c =
    let limit = limits c.args.message.now in
    let fields = formed_all c.args.fields.now in
    let x0 = ap tree_of c.in-Binary.is in
    let o = c.in-Binary.operator in
    let d = c.in_default-operator in
    let s = Numbers.sum_operator o _ _ (subst IsNumeric x0 c.requires.numeric) d.not-Mul d.not-Div d.not-Mod in
    let x = x0 ∙ Numbers.same_parts o _ _ _ _ c.deref-in_default-operator.ensures c.deref-in_default-operator-2.ensures in
    let p = err_from_is_err_and c.from_residual-in_err-right-in_default-operator.result c.from_residual-in_err-right-in_default-operator.ensures.1 in
    record {
      sum = IfOk-from_err c.from_residual-in_err-right-in_default-operator.result _ c.from_residual-in_err-right-in_default-operator.ensures.0;
      limit = rw (p.1, p.2) (λ e. Numbers.sum_right_fails limit fields _ o _ _ _ x s (Numbers.behind limit fields (tree_of c.deref-in_default-operator.result.now) (tree_of c.deref-in_default-operator-2.result.now) _ _ c.in_ok-left-in_default-operator.ensures.sum.goes (c.in_err-right-in_default-operator.ensures.limit e)));
    }

pub returns-in_ok-right-in_default-operator : goal.returns-in_ok-right-in_default-operator
returns-in_ok-right-in_default-operator t c =
    let limit = limits c.args.message.now in
    let fields = formed_all c.args.fields.now in
    let x0 = ap tree_of c.in-Binary.is in
    let o = c.in-Binary.operator in
    let d = c.in_default-operator in
    let s = Numbers.sum_operator o _ _ (subst IsNumeric x0 c.requires.numeric) d.not-Mul d.not-Div d.not-Mod in
    let x = x0 ∙ Numbers.same_parts o _ _ _ _ c.deref-in_default-operator.ensures c.deref-in_default-operator-2.ensures in
    let f = c.in_ok-left-in_default-operator in
    let g = c.in_ok-right-in_default-operator in
    record {
      sum = Numbers.sum_ok limit fields _ o _ _ _ _ _ f.left g.right c.joined.result x s f.ensures.sum g.ensures.sum c.joined.ensures.value c.joined.ensures.words;
      limit = fails_too c.joined.result _ _ (λ h. Numbers.sum_fails limit fields _ o _ _ _ _ _ f.left g.right x s f.ensures.sum g.ensures.sum h) c.joined.ensures.limit;
    }

pub number_form-requires-in-Div : goal.number_form-requires-in-Div
number_form-requires-in-Div t c =
    let limit = limits c.args.message.now in
    let fields = formed_all c.args.fields.now in
    let x0 = ap tree_of c.in-Binary.is in
    let o = c.in-Binary.operator in
    let s = c.in-Div.is in
    let x = x0 ∙ Numbers.same_parts o _ _ _ _ c.deref-in-Div.ensures refl in
    (search (rules, the_lemmas), ((Numbers.division_numeric o _ _ s (subst IsNumeric x c.requires.numeric)).0, ((subst (λ (y : Tree). IsNarrow limit y) x c.requires.narrow).2, c.requires.room)))

pub returns-in_err-form-in-Div-clause-sum : goal.returns-in_err-form-in-Div-clause-sum
returns-in_err-form-in-Div-clause-sum t c =
    IfOk-from_err c.from_residual-in_err-form-in-Div.result _ c.from_residual-in_err-form-in-Div.ensures.0

pub returns-in_err-form-in-Div-clause-limit : goal.returns-in_err-form-in-Div-clause-limit
returns-in_err-form-in-Div-clause-limit t c =
    let limit = limits c.args.message.now in
    let fields = formed_all c.args.fields.now in
    let x0 = ap tree_of c.in-Binary.is in
    let o = c.in-Binary.operator in
    let s = c.in-Div.is in
    let x = x0 ∙ Numbers.same_parts o _ _ _ _ c.deref-in-Div.ensures refl in
    let p = err_from_is_err_and c.from_residual-in_err-form-in-Div.result c.from_residual-in_err-form-in-Div.ensures.1 in
    rw (p.1, p.2) (λ e. Numbers.division_part_fails limit fields _ o _ _ _ x s (c.in_err-form-in-Div.ensures.limit e))

pub static_number-divisor-requires : goal.static_number-divisor-requires
static_number-divisor-requires t c =
    let limit = limits c.args.message.now in
    let fields = formed_all c.args.fields.now in
    let x0 = ap tree_of c.in-Binary.is in
    let o = c.in-Binary.operator in
    let s = c.in-Div.is in
    let x = x0 ∙ Numbers.same_parts o _ _ _ _ refl c.deref-in-Div-2.ensures in
    record { narrow = (limit, (subst (λ (y : Tree). IsNarrow limit y) x c.requires.narrow).3) }

pub interval-interval-requires : goal.interval-interval-requires
interval-interval-requires t c =
    let limit = limits c.args.message.now in
    let fields = formed_all c.args.fields.now in
    let x0 = ap tree_of c.in-Binary.is in
    let o = c.in-Binary.operator in
    let s = c.in-Div.is in
    let x = x0 ∙ Numbers.same_parts o _ _ _ _ c.deref-in-Div-3.ensures refl in
    record { narrow = (subst (λ (y : Tree). IsNarrow limit y) x c.requires.narrow).2 }

pub divided-requires-clause-positive : goal.divided-requires-clause-positive
divided-requires-clause-positive t c =
    let limit = limits c.args.message.now in
    let fields = formed_all c.args.fields.now in
    let x0 = ap tree_of c.in-Binary.is in
    let o = c.in-Binary.operator in
    let s = c.in-Div.is in
    let x = x0 ∙ Numbers.same_parts o _ _ _ _ refl c.deref-in-Div-2.ensures in
    let k = (Numbers.division_numeric o _ _ s (subst IsNumeric x c.requires.numeric)).2 in
    let e = c.static_number-divisor.ensures in
    omega (arith, ints, k, e)

pub divided-requires-clause-short : goal.divided-requires-clause-short
divided-requires-clause-short t c =
    c.interval-interval.ensures.short

pub returns-in_ok-form-in-Div-clause-sum : goal.returns-in_ok-form-in-Div-clause-sum
returns-in_ok-form-in-Div-clause-sum t c =
    let limit = limits c.args.message.now in
    let fields = formed_all c.args.fields.now in
    let x0 = ap tree_of c.in-Binary.is in
    let o = c.in-Binary.operator in
    let s = c.in-Div.is in
    let x = x0 ∙ Numbers.same_parts o _ _ _ _ c.deref-in-Div.ensures c.deref-in-Div-2.ensures in
    let z : to_z w128 (of_z w128 c.static_number-divisor.result) ≡ c.static_number-divisor.result = omega (arith, ints) in
    let k : to_z w128 (of_z w128 c.static_number-divisor.result) ≡ static_value (tree_of c.deref-in-Div-2.result.now) = z ∙ c.static_number-divisor.ensures in
    let i = c.interval-interval.ensures.value ∙ ap (interval_of limit) (ap tree_of (c.deref-in-Div-3.ensures ∙ sym c.deref-in-Div.ensures)) in
    let f = c.in_ok-form-in-Div in
    let r = c.divided in
    let q = c.number_form-in-Div.new.work in
    Numbers.division_ok limit fields _ o _ _ _ q r.new.work f.form r.result x s f.ensures.sum (subst (λ (n : ℤ). IfOk r.result (λ h. h ≡ divided_by o q.next f.form n)) k r.ensures.value) r.ensures.next (subst (λ (n : ℤ). OnOk r.result (r.new.work.rows ≡ q.rows ++ division_rows q.next f.form n (interval_of limit (tree_of c.deref-in-Div.result.now)))) k (subst (λ (j : Interval). OnOk r.result (r.new.work.rows ≡ q.rows ++ division_rows q.next f.form (to_z w128 (of_z w128 c.static_number-divisor.result)) j)) i r.ensures.pushed)) (subst (λ (n : ℤ). OnOk r.result ((nat_le (q.next + 1) 190 && all_kept (divided q.next f.form n)) ≡ true)) k r.ensures.kept)

pub returns-in_ok-form-in-Div-clause-limit : goal.returns-in_ok-form-in-Div-clause-limit
returns-in_ok-form-in-Div-clause-limit t c =
    let limit = limits c.args.message.now in
    let fields = formed_all c.args.fields.now in
    let x0 = ap tree_of c.in-Binary.is in
    let o = c.in-Binary.operator in
    let s = c.in-Div.is in
    let x = x0 ∙ Numbers.same_parts o _ _ _ _ c.deref-in-Div.ensures c.deref-in-Div-2.ensures in
    let z : to_z w128 (of_z w128 c.static_number-divisor.result) ≡ c.static_number-divisor.result = omega (arith, ints) in
    let k : to_z w128 (of_z w128 c.static_number-divisor.result) ≡ static_value (tree_of c.deref-in-Div-2.result.now) = z ∙ c.static_number-divisor.ensures in
    let i = c.interval-interval.ensures.value ∙ ap (interval_of limit) (ap tree_of (c.deref-in-Div-3.ensures ∙ sym c.deref-in-Div.ensures)) in
    let f = c.in_ok-form-in-Div in
    let r = c.divided in
    let q = c.number_form-in-Div.new.work in
    fails_too r.result _ _ (λ h. Numbers.division_fails limit fields _ o _ _ _ q f.form x s f.ensures.sum h) (subst (λ (n : ℤ). IfErr r.result (λ e. e ≡ PathLimit → (nat_le (q.next + 1) 190 && all_kept (divided q.next f.form n)) ≡ false)) k r.ensures.limit)

pub leaf_form-requires : goal.leaf_form-requires
leaf_form-requires t c =
    record {
      leaf = Numbers.leaf_code c.args.expr.now c.requires.numeric c.in_default.not-Neg c.in_default.not-Binary;
      room = c.requires.room;
    }

pub returns-in_default : goal.returns-in_default
returns-in_default t c =
    let limit = limits c.args.message.now in
    let fields = formed_all c.args.fields.now in
    record {
      sum = IfOk-weaker c.leaf_form.result _ _ (λ f h. h limit) c.leaf_form.ensures.sum;
      limit = c.leaf_form.ensures.limit;
    }
