use Rattle.std.proofs.Common.{◌≡◌, subst, List, IfOk}
use Rattle.std.proofs.lemmas.Result.{IfOk-weaker}
use Rattle.rx_forms.specs.declared.field.FieldForms.{FieldForms}
use Rattle.rx_forms.specs.Code.{formed_all}
use Rattle.rx_forms.specs.Fronts.{front_of}
use Rattle.rx_forms.specs.PathLimit.{keeps_path}
use Rattle.rx_forms.proofs.Chosen.{choices, path_kept, path_fails, path_too_long}
use Rattle.rx_forms.proofs.within.keeps_path.Goals as goal

pub reach-requires : goal.reach-requires
reach-requires c = record { count = c.scalars_along-count.ensures; few = c.if-count-ge-VARIABLES.false }

pub keeps_choices-requires : goal.keeps_choices-requires
keeps_choices-requires c = record { room = c.in-Ok.ensures.room }

pub returns-then-count-ge-VARIABLES : goal.returns-then-count-ge-VARIABLES
returns-then-count-ge-VARIABLES c =
    path_too_long c.args.message.now.domains c.args.message.now.graph c.args.path.now c.scalars_along-count.result c.scalars_along-count.ensures c.args.numbers.now c.if-count-ge-VARIABLES.true

pub returns-in-Err-PathLimit : goal.returns-in-Err-PathLimit
returns-in-Err-PathLimit c =
    path_fails c.args.message.now.domains c.args.message.now.graph c.args.path.now c.scalars_along-count.result c.scalars_along-count.ensures c.args.numbers.now c.if-count-ge-VARIABLES.false (c.in-Err-PathLimit.ensures.limit c.in-Err-PathLimit.field-0-is)

pub returns-in-Ok : goal.returns-in-Ok
returns-in-Ok c =
    let domains = c.args.message.now.domains in
    let m = c.args.message.now.graph in
    let r = c.keeps_choices.result in
    let told = subst (λ (fs : List FieldForms). IfOk r (λ kept. kept ≡ choices domains m (formed_all fs) c.in-Ok.builder.work.next c.args.numbers.now)) c.as_slice-fields.ensures.value c.keeps_choices.ensures in
    IfOk-weaker r (λ kept. kept ≡ choices domains m (formed_all c.in-Ok.builder.fields.items) c.in-Ok.builder.work.next c.args.numbers.now) (λ kept. kept ≡ keeps_path domains m c.args.numbers.now c.args.path.now)
    (λ kept k. path_kept domains m c.args.path.now c.scalars_along-count.result c.scalars_along-count.ensures c.args.numbers.now kept (front_of c.in-Ok.builder) c.if-count-ge-VARIABLES.false c.in-Ok.ensures.front c.in-Ok.ensures.within k) told
