use Rattle.std.proofs.Common.{◌≡◌, sym, subst, true, false, pos, ℕ, IfOk, IfErr, OnOk, Option}
use Rattle.rx_types.specs.Domain.{Domain, domain_of, size_of}
use Rattle.rx_types.specs.Tree.{tree_if_any}
use Rattle.rx_graph.specs.Graph.{type_of}
use Rattle.rx_forms.specs.declared.fault.FormFault.TheVariants.{PathLimit}
use Rattle.rx_forms.specs.Linear.{constant}
use Rattle.rx_forms.specs.Limits.{is_low}
use Rattle.rx_forms.specs.Steps.{form_or, size_aspect}
use Rattle.rx_forms.specs.Code.{formed_all, limits}
use Rattle.rx_forms.specs.Expressions.{HasAspect, aspect_within, size_otherwise}
use Rattle.rx_forms.proofs.Aspects
use Rattle.rx_forms.proofs.Reaching.{fails_too}
use Rattle.rx_forms.proofs.aspect.size_form.Goals as goal

pub open_size-requires : goal.open_size-requires
open_size-requires c = record { numeric = c.requires.numeric; narrow = c.requires.narrow; room = c.requires.room }

pub returns-in-Some : goal.returns-in-Some
returns-in-Some c =
    let limit = limits c.args.message.now in
    let fields = formed_all c.args.fields.now in
    let type = type_of c.args.message.now.domains c.args.message.now.graph c.args.field in
    let n = c.args.work.now.next in
    let r = c.fixed.result in
    let t = domain_of c.in-Some.scalar.now in
    let x = tree_if_any c.args.size.now in
    let z = c.size.ensures in
    record {
      aspect = Aspects.by_type (λ y o. IfOk r (λ f. HasAspect limit fields y o c.args.work.now c.args.work.now f)) type t x c.args.first.now (sym c.in-Some.ensures) (Aspects.unsaid_ok limit fields (constant (pos (size_of t))) c.args.work.now r c.requires.room (subst (λ (k : ℕ). IfOk r (λ f. f ≡ constant (pos k))) z c.fixed.ensures.value) (subst (λ (k : ℕ). OnOk r (is_low (constant (pos k)) ≡ true)) z c.fixed.ensures.low));
      limit = Aspects.by_type (λ y o. IfErr r (λ e. e ≡ PathLimit → aspect_within fields n y (form_or y fields n o) ≡ false)) type t x c.args.first.now (sym c.in-Some.ensures) (fails_too r _ _ (λ h. Aspects.unsaid_fails limit fields (constant (pos (size_of t))) n h) (subst (λ (k : ℕ). IfErr r (λ e. e ≡ PathLimit → is_low (constant (pos k)) ≡ false)) z c.fixed.ensures.limit));
    }

pub returns-in-None : goal.returns-in-None
returns-in-None c =
    let limit = limits c.args.message.now in
    let fields = formed_all c.args.fields.now in
    let n = c.args.work.now.next in
    let r = c.open_size.result in
    let x = tree_if_any c.args.size.now in
    let first = c.args.first.now in
    record {
      aspect = subst (λ (s : Option Domain). IfOk r (λ f. HasAspect limit fields (size_aspect s x) (size_otherwise s first) c.args.work.now c.open_size.new.work f)) c.in-None.ensures c.open_size.ensures.aspect;
      limit = subst (λ (s : Option Domain). IfErr r (λ e. e ≡ PathLimit → aspect_within fields n (size_aspect s x) (form_or (size_aspect s x) fields n (size_otherwise s first)) ≡ false)) c.in-None.ensures c.open_size.ensures.limit;
    }
