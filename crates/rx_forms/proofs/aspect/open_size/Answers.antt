use Rattle.std.proofs.Common.{◌≡◌, ap, sym, subst, false, IfOk, IfErr, Option}
use Rattle.std.proofs.lemmas.Result.{IfOk-weaker}
use Rattle.rx_types.specs.Tree.{Tree, tree_if_any}
use Rattle.rx_forms.specs.declared.fault.FormFault.TheVariants.{PathLimit}
use Rattle.rx_forms.specs.Linear.{minus}
use Rattle.rx_forms.specs.Normal.{bits}
use Rattle.rx_forms.specs.Steps.{form_or}
use Rattle.rx_forms.specs.Links.{IsNumericIfAny, IsNarrowIfAny}
use Rattle.rx_forms.specs.Code.{formed_all, limits}
use Rattle.rx_forms.specs.Expressions.{HasAspect, aspect_within}
use Rattle.rx_forms.proofs.Aspects
use Rattle.rx_forms.proofs.Reaching.{fails_too}
use Rattle.rx_forms.proofs.aspect.open_size.Goals as goal

pub said-requires : goal.said-requires
said-requires c =
    let limit = limits c.args.message.now in
    let x = ap tree_if_any c.in-Some.is in
    record {
      numeric = subst IsNumericIfAny x c.requires.numeric;
      narrow = subst (λ (y : Option Tree). IsNarrowIfAny limit y) x c.requires.narrow;
      room = c.requires.room;
    }

pub returns-in-Some : goal.returns-in-Some
returns-in-Some c =
    let limit = limits c.args.message.now in
    let fields = formed_all c.args.fields.now in
    let otherwise = minus bits c.args.first.now in
    let n = c.args.work.now.next in
    let r = c.said.result in
    let x = ap tree_if_any c.in-Some.is in
    record {
      aspect = subst (λ (y : Option Tree). IfOk r (λ f. HasAspect limit fields y otherwise c.args.work.now c.said.new.work f)) (sym x) (IfOk-weaker r _ _ (λ f h. h otherwise) c.said.ensures.aspect);
      limit = subst (λ (y : Option Tree). IfErr r (λ e. e ≡ PathLimit → aspect_within fields n y (form_or y fields n otherwise) ≡ false)) (sym x) c.said.ensures.limit;
    }

pub returns-in-None : goal.returns-in-None
returns-in-None c =
    let limit = limits c.args.message.now in
    let fields = formed_all c.args.fields.now in
    let otherwise = minus bits c.args.first.now in
    let n = c.args.work.now.next in
    let r = c.low_rest.result in
    let x = ap tree_if_any c.in-None.is in
    record {
      aspect = subst (λ (y : Option Tree). IfOk r (λ f. HasAspect limit fields y otherwise c.args.work.now c.args.work.now f)) (sym x) (Aspects.unsaid_ok limit fields otherwise c.args.work.now r c.requires.room c.low_rest.ensures.value c.low_rest.ensures.low);
      limit = subst (λ (y : Option Tree). IfErr r (λ e. e ≡ PathLimit → aspect_within fields n y (form_or y fields n otherwise) ≡ false)) (sym x) (fails_too r _ _ (λ h. Aspects.unsaid_fails limit fields otherwise n h) c.low_rest.ensures.limit);
    }
