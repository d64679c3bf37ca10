use Rattle.std.proofs.Common.{rules, ap, sym, ◌∙◌, subst, refl, Bool, IfOk}
use Rattle.std.proofs.lemmas.Result.{err_from_is_err_and, IfOk-from_err}
use Rattle.rx_types.specs.declared.expr.Expr.{Expr}
use Rattle.rx_types.specs.declared.expr.Expr.TheViews.{the_lemmas}
use Rattle.rx_types.specs.Tree.{Tree, tree_of, Not}
use Rattle.rx_types.specs.Narrow.{IsNarrow}
use Rattle.rx_forms.specs.Normal.{IsCondition, joined}
use Rattle.rx_forms.specs.Limits.{is_within}
use Rattle.rx_forms.specs.Expressions.{HasFact, spelled_in}
use Rattle.rx_forms.specs.Code.{formed_all, limits}
use Rattle.rx_forms.proofs.Facts
use Rattle.rx_forms.proofs.Numbers
use Rattle.rx_forms.proofs.Reaching.{fails_too}
use Rattle.rx_forms.proofs.condition.+condition_form.Goals as goal

pub condition_form-requires : goal.condition_form-requires
condition_form-requires t c =
    let limit = limits c.args.message.now in
    let fields = formed_all c.args.fields.now in
    let x = ap tree_of c.in-Not.is ∙ ap (λ (y : Expr). Not (tree_of y)) (sym c.deref.ensures) in
    (search (rules, the_lemmas), (subst (λ (y : Tree). IsCondition limit y) x c.requires.condition, ((subst (λ (y : Tree). IsNarrow limit y) x c.requires.narrow).1, c.requires.room)))

pub returns-in-Not-clause-fact : goal.returns-in-Not-clause-fact
returns-in-Not-clause-fact t c =
    let limit = limits c.args.message.now in
    let fields = formed_all c.args.fields.now in
    let x = ap tree_of c.in-Not.is ∙ ap (λ (y : Expr). Not (tree_of y)) (sym c.deref.ensures) in
    Facts.not_ok limit fields _ c.args.wanted _ _ _ c.condition_form.result x c.condition_form.ensures.fact

pub returns-in-Not-clause-limit : goal.returns-in-Not-clause-limit
returns-in-Not-clause-limit t c =
    let limit = limits c.args.message.now in
    let fields = formed_all c.args.fields.now in
    let x = ap tree_of c.in-Not.is ∙ ap (λ (y : Expr). Not (tree_of y)) (sym c.deref.ensures) in
    fails_too c.condition_form.result _ _ (λ h. ap (λ (y : Tree). is_within fields c.args.work.now.next y) x ∙ h) c.condition_form.ensures.limit

pub condition_form-requires-in-And : goal.condition_form-requires-in-And
condition_form-requires-in-And t c =
    let limit = limits c.args.message.now in
    let fields = formed_all c.args.fields.now in
    let x0 = ap tree_of c.in-Binary.is in
    let o = c.in-Binary.operator in
    let s = c.in-And.is in
    let x = x0 ∙ Numbers.same_parts o _ _ _ _ c.deref-in-And.ensures refl in
    (search (rules, the_lemmas), ((Facts.join_conditions limit o _ _ s (subst (λ (y : Tree). IsCondition limit y) x c.requires.condition)).0, ((subst (λ (y : Tree). IsNarrow limit y) x c.requires.narrow).2, c.requires.room)))

pub condition_form-requires-in-And-2 : goal.condition_form-requires-in-And-2
condition_form-requires-in-And-2 t c =
    let limit = limits c.args.message.now in
    let fields = formed_all c.args.fields.now in
    let x0 = ap tree_of c.in-Binary.is in
    let o = c.in-Binary.operator in
    let s = c.in-And.is in
    let x = x0 ∙ Numbers.same_parts o _ _ _ _ refl c.deref-in-And-2.ensures in
    (search (rules, the_lemmas), ((Facts.join_conditions limit o _ _ s (subst (λ (y : Tree). IsCondition limit y) x c.requires.condition)).1, ((subst (λ (y : Tree). IsNarrow limit y) x c.requires.narrow).3, Numbers.room_after limit fields _ _ _ c.in_ok-left-in-And.ensures.fact.goes)))

pub returns-in_err-left-in-And-clause-fact : goal.returns-in_err-left-in-And-clause-fact
returns-in_err-left-in-And-clause-fact t c =
    IfOk-from_err c.from_residual.result _ c.from_residual.ensures.0

pub returns-in_err-right-in-And-clause-fact : goal.returns-in_err-right-in-And-clause-fact
returns-in_err-right-in-And-clause-fact t c =
    IfOk-from_err c.from_residual-in_err-right-in-And.result _ c.from_residual-in_err-right-in-And.ensures.0

pub returns-in_err-pair-in-And-clause-fact : goal.returns-in_err-pair-in-And-clause-fact
returns-in_err-pair-in-And-clause-fact t c =
    IfOk-from_err c.from_residual-in_err-pair-in-And.result _ c.from_residual-in_err-pair-in-And.ensures.0

pub returns-in_err-left-in-And-clause-limit : goal.returns-in_err-left-in-And-clause-limit
returns-in_err-left-in-And-clause-limit t c =
    let limit = limits c.args.message.now in
    let fields = formed_all c.args.fields.now in
    let x0 = ap tree_of c.in-Binary.is in
    let o = c.in-Binary.operator in
    let s = c.in-And.is in
    let x = x0 ∙ Numbers.same_parts o _ _ _ _ c.deref-in-And.ensures refl in
    let p = err_from_is_err_and c.from_residual.result c.from_residual.ensures.1 in
    rw (p.1, p.2) (λ e. Facts.join_left_fails limit fields _ o _ _ _ x s (c.in_err-left-in-And.ensures.limit e))

pub returns-in_err-right-in-And-clause-limit : goal.returns-in_err-right-in-And-clause-limit
returns-in_err-right-in-And-clause-limit t c =
    let limit = limits c.args.message.now in
    let fields = formed_all c.args.fields.now in
    let x0 = ap tree_of c.in-Binary.is in
    let o = c.in-Binary.operator in
    let s = c.in-And.is in
    let x = x0 ∙ Numbers.same_parts o _ _ _ _ c.deref-in-And.ensures c.deref-in-And-2.ensures in
    let p = err_from_is_err_and c.from_residual-in_err-right-in-And.result c.from_residual-in_err-right-in-And.ensures.1 in
    rw (p.1, p.2) (λ e. Facts.join_right_fails limit fields _ o (tree_of c.deref-in-And.result.now) (tree_of c.deref-in-And-2.result.now) _ _ x s c.in_ok-left-in-And.ensures.fact.goes (c.in_err-right-in-And.ensures.limit e))

pub returns-in_err-pair-in-And-clause-limit : goal.returns-in_err-pair-in-And-clause-limit
returns-in_err-pair-in-And-clause-limit t c =
    let p = err_from_is_err_and c.from_residual-in_err-pair-in-And.result c.from_residual-in_err-pair-in-And.ensures.1 in
    rw (p.1, p.2) (λ e. absurd (cc))

pub returns-in_ok-pair-in-And-clause-fact : goal.returns-in_ok-pair-in-And-clause-fact
returns-in_ok-pair-in-And-clause-fact t c =
    let limit = limits c.args.message.now in
    let fields = formed_all c.args.fields.now in
    let x0 = ap tree_of c.in-Binary.is in
    let o = c.in-Binary.operator in
    let s = c.in-And.is in
    let x = x0 ∙ Numbers.same_parts o _ _ _ _ c.deref-in-And.ensures c.deref-in-And-2.ensures in
    Facts.join_works limit fields _ o c.args.wanted _ _ _ _ _ c.in_ok-left-in-And.left c.in_ok-right-in-And.right _ x s c.in_ok-left-in-And.ensures.fact c.in_ok-right-in-And.ensures.fact (c.in_ok-pair-in-And.ensures ∙ ap (λ (b : Bool). joined b c.in_ok-left-in-And.left c.in_ok-right-in-And.right) c.takes_all-all.ensures)

pub condition_form-requires-in-Some : goal.condition_form-requires-in-Some
condition_form-requires-in-Some t c =
    let limit = limits c.args.message.now in
    let fields = formed_all c.args.fields.now in
    let x0 = ap tree_of c.in-Binary.is in
    let o = c.in-Binary.operator in
    let x = x0 ∙ Numbers.same_parts o _ _ _ _ c.deref-in_default-operator.ensures c.deref-in-Some.ensures in
    let e = sym c.spelled_in.ensures ∙ c.in-Some.is in
    (search (rules, the_lemmas), (Facts.right_condition limit o _ _ _ e (subst (λ (y : Tree). IsCondition limit y) x c.requires.condition), ((subst (λ (y : Tree). IsNarrow limit y) x c.requires.narrow).3, c.requires.room)))

pub returns-in-Some : goal.returns-in-Some
returns-in-Some t c =
    let limit = limits c.args.message.now in
    let fields = formed_all c.args.fields.now in
    let x0 = ap tree_of c.in-Binary.is in
    let o = c.in-Binary.operator in
    let x = x0 ∙ Numbers.same_parts o _ _ _ _ c.deref-in_default-operator.ensures c.deref-in-Some.ensures in
    let e = sym c.spelled_in.ensures ∙ c.in-Some.is in
    let r = c.condition_form-in-Some in
    record {
      fact = Facts.right_ok limit fields _ o c.args.wanted _ _ _ _ _ r.result x e (subst (λ (b : Bool). IfOk r.result (λ f. HasFact limit fields b (tree_of c.deref-in-Some.result.now) c.args.work.now r.new.work f)) c.agreed-wanted.ensures r.ensures.fact);
      limit = fails_too r.result _ _ (λ h. Facts.right_fails limit fields _ o _ _ _ _ x e h) r.ensures.limit;
    }

pub condition_form-requires-in-Some-spelled_in : goal.condition_form-requires-in-Some-spelled_in
condition_form-requires-in-Some-spelled_in t c =
    let limit = limits c.args.message.now in
    let fields = formed_all c.args.fields.now in
    let x0 = ap tree_of c.in-Binary.is in
    let o = c.in-Binary.operator in
    let x = x0 ∙ Numbers.same_parts o _ _ _ _ c.deref-in-Some-spelled_in.ensures c.deref-in_default-operator-2.ensures in
    let d = ap (λ (y : Expr). spelled_in o (tree_of y)) (c.deref-in-Some-spelled_in.ensures ∙ sym c.deref-in_default-operator.ensures) ∙ sym c.spelled_in.ensures ∙ c.in_default-spelled_in.is in
    let e = sym c.spelled_in-in_default-operator.ensures ∙ c.in-Some-spelled_in.is in
    (search (rules, the_lemmas), (Facts.left_condition limit o _ _ _ d e (subst (λ (y : Tree). IsCondition limit y) x c.requires.condition), ((subst (λ (y : Tree). IsNarrow limit y) x c.requires.narrow).2, c.requires.room)))

pub returns-in-Some-spelled_in : goal.returns-in-Some-spelled_in
returns-in-Some-spelled_in t c =
    let limit = limits c.args.message.now in
    let fields = formed_all c.args.fields.now in
    let x0 = ap tree_of c.in-Binary.is in
    let o = c.in-Binary.operator in
    let x = x0 ∙ Numbers.same_parts o _ _ _ _ c.deref-in-Some-spelled_in.ensures c.deref-in_default-operator-2.ensures in
    let d = ap (λ (y : Expr). spelled_in o (tree_of y)) (c.deref-in-Some-spelled_in.ensures ∙ sym c.deref-in_default-operator.ensures) ∙ sym c.spelled_in.ensures ∙ c.in_default-spelled_in.is in
    let e = sym c.spelled_in-in_default-operator.ensures ∙ c.in-Some-spelled_in.is in
    let r = c.condition_form-in-Some-spelled_in in
    record {
      fact = Facts.left_ok limit fields _ o c.args.wanted _ _ _ _ _ r.result x d e (subst (λ (b : Bool). IfOk r.result (λ f. HasFact limit fields b (tree_of c.deref-in-Some-spelled_in.result.now) c.args.work.now r.new.work f)) c.agreed-wanted-in-Some-spelled_in.ensures r.ensures.fact);
      limit = fails_too r.result _ _ (λ h. Facts.left_fails limit fields _ o _ _ _ _ x d e h) r.ensures.limit;
    }

pub compared-requires : goal.compared-requires
compared-requires t c =
    let limit = limits c.args.message.now in
    let fields = formed_all c.args.fields.now in
    let x0 = ap tree_of c.in-Binary.is in
    let o = c.in-Binary.operator in
    let x = x0 ∙ Numbers.same_parts o _ _ _ _ c.deref-in_default-operator-3.ensures c.deref-in_default-operator-4.ensures in
    let d = ap (λ (y : Expr). spelled_in o (tree_of y)) (c.deref-in_default-operator-3.ensures ∙ sym c.deref-in_default-operator.ensures) ∙ sym c.spelled_in.ensures ∙ c.in_default-spelled_in.is in
    let e = ap (λ (y : Expr). spelled_in o (tree_of y)) (c.deref-in_default-operator-4.ensures ∙ sym c.deref-in_default-operator-2.ensures) ∙ sym c.spelled_in-in_default-operator.ensures ∙ c.in_default-spelled_in-2.is in
    let k = Facts.other_operator limit o _ _ (subst (λ (y : Tree). IsCondition limit y) x c.requires.condition) c.in_default-operator.not-And c.in_default-operator.not-Or in
    let n = Facts.sides_numeric limit o _ _ k d e (subst (λ (y : Tree). IsCondition limit y) x c.requires.condition) in
    let w = subst (λ (y : Tree). IsNarrow limit y) x c.requires.narrow in
    record { left = (n.0, w.2); right = (n.1, w.3); room = c.requires.room }

pub returns-in_default-spelled_in-2 : goal.returns-in_default-spelled_in-2
returns-in_default-spelled_in-2 t c =
    let limit = limits c.args.message.now in
    let fields = formed_all c.args.fields.now in
    let x0 = ap tree_of c.in-Binary.is in
    let o = c.in-Binary.operator in
    let x = x0 ∙ Numbers.same_parts o _ _ _ _ c.deref-in_default-operator-3.ensures c.deref-in_default-operator-4.ensures in
    let d = ap (λ (y : Expr). spelled_in o (tree_of y)) (c.deref-in_default-operator-3.ensures ∙ sym c.deref-in_default-operator.ensures) ∙ sym c.spelled_in.ensures ∙ c.in_default-spelled_in.is in
    let e = ap (λ (y : Expr). spelled_in o (tree_of y)) (c.deref-in_default-operator-4.ensures ∙ sym c.deref-in_default-operator-2.ensures) ∙ sym c.spelled_in-in_default-operator.ensures ∙ c.in_default-spelled_in-2.is in
    let k = Facts.other_operator limit o _ _ (subst (λ (y : Tree). IsCondition limit y) x c.requires.condition) c.in_default-operator.not-And c.in_default-operator.not-Or in
    let r = c.compared in
    record {
      fact = Facts.compared_ok limit fields _ o c.args.wanted _ _ _ _ r.result x k d e r.ensures.fact;
      limit = fails_too r.result _ _ (λ h. Facts.compared_fails limit fields _ o _ _ _ x k d e h) r.ensures.limit;
    }

pub leaf_fact-requires : goal.leaf_fact-requires
leaf_fact-requires t c =
    let limit = limits c.args.message.now in
    let fields = formed_all c.args.fields.now in
    record { leaf = Facts.leaf_code limit c.args.expr.now c.requires.condition c.in_default.not-Not c.in_default.not-Binary }

pub returns-in_err-leaf_fact-in_default : goal.returns-in_err-leaf_fact-in_default
returns-in_err-leaf_fact-in_default t c =
    let p = err_from_is_err_and c.from_residual-in_err-leaf_fact-in_default.result c.from_residual-in_err-leaf_fact-in_default.ensures.1 in
    record {
      fact = IfOk-from_err c.from_residual-in_err-leaf_fact-in_default.result _ c.from_residual-in_err-leaf_fact-in_default.ensures.0;
      limit = rw (p.1, p.2) (λ e. absurd (cc));
    }

pub returns-in_ok-leaf_fact-in_default : goal.returns-in_ok-leaf_fact-in_default
returns-in_ok-leaf_fact-in_default t c =
    let limit = limits c.args.message.now in
    let fields = formed_all c.args.fields.now in
    let k = Facts.leaf_code limit c.args.expr.now c.requires.condition c.in_default.not-Not c.in_default.not-Binary in
    record { fact = Facts.leaf_works limit fields (tree_of c.args.expr.now) c.args.wanted c.args.work.now _ k c.requires.room (c.in_ok-leaf_fact-in_default.ensures c.args.work.now.next); limit = tt }
