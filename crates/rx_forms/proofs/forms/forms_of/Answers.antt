use Rattle.std.proofs.Common.{◌≡◌, subst, ℕ, List, true, false, IfOk, IfErr, OnOk}
use Rattle.rx_graph.specs.Typed.{Typed}
use Rattle.rx_forms.specs.declared.fault.FormFault.TheVariants.{PathLimit}
use Rattle.rx_forms.specs.Steps.{forms_along, passes_limit}
use Rattle.rx_forms.proofs.forms.forms_of.Goals as goal

pub over-message-requires : goal.over-message-requires
over-message-requires c = record { elaborated = c.requires.elaborated; boolean = c.requires.boolean }

pub returns : goal.returns
returns c =
    let out = c.args.out.now in
    let r = c.forms_with.result in
    let p = c.args.path.now in
    record {
      value = subst (λ (t : Typed). IfOk r (λ f. f ≡ forms_along t.domains t.graph p out)) c.over-message.ensures (subst (λ (q : List ℕ). IfOk r (λ f. f ≡ forms_along c.over-message.result.domains c.over-message.result.graph q out)) c.links.ensures c.forms_with.ensures.value);
      within = subst (λ (t : Typed). OnOk r (passes_limit t.domains t.graph p out ≡ false)) c.over-message.ensures (subst (λ (q : List ℕ). OnOk r (passes_limit c.over-message.result.domains c.over-message.result.graph q out ≡ false)) c.links.ensures c.forms_with.ensures.within);
      limit = subst (λ (t : Typed). IfErr r (λ e. e ≡ PathLimit → passes_limit t.domains t.graph p out ≡ true)) c.over-message.ensures (subst (λ (q : List ℕ). IfErr r (λ e. e ≡ PathLimit → passes_limit c.over-message.result.domains c.over-message.result.graph q out ≡ true)) c.links.ensures c.forms_with.ensures.limit);
    }
