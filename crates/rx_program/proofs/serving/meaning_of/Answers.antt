use Rattle.std.proofs.Common.{◌≡◌, ℕ, List, length, sym, ap, subst, arith, Result, Ok}
use Rattle.rx_syntax.specs.declared.tree.PackageTree.{PackageTree}
use Rattle.rx_graph.specs.Graph.{Specified, spec_of}
use Rattle.rx_forms.specs.Checkable.{TypedMessages}
use Rattle.rx_spec.specs.Elaboration.{elaborated, Told, TellsOf}
use Rattle.rx_program.specs.Refusals.{Means}
use Rattle.rx_program.specs.Stage.{AreServed, IsUnserved, IsWithin, IsToldIn}
use Rattle.rx_program.proofs.AnswerLemmas.{form_refused, rule_refused, meant_by}
use Rattle.rx_program.proofs.OperandLemmas.{all_checkable}
use Rattle.rx_program.proofs.RequestLemmas.{fault_within}
use Rattle.rx_program.proofs.StageLemmas.{unserved_within}
use Rattle.rx_program.proofs.serving.meaning_of.Goals as goal

pub refused-requires : goal.refused-requires
refused-requires c =
    let within = unserved_within c.as_slice-trees.result.now c.in-Err.fault c.in-Err.ensures.refused in
    let asked = ap length c.as_slice-asked.ensures.value in
    let trees = ap length c.as_slice-trees.ensures.value in
    let paired = c.requires.same in
    let same : length c.as_slice-trees.result.now ≡ length c.as_slice-asked.result.now = omega arith in
    subst (λ (n : ℕ). IsWithin n c.in-Err.fault) same within

pub returns-in-Err-clause-refused : goal.returns-in-Err-clause-refused
returns-in-Err-clause-refused c =
    let packages = c.args.packages.now in
    let first = subst (λ (ps : List PackageTree). IsUnserved ps c.in-Err.fault) c.as_slice-trees.ensures.value c.in-Err.ensures.refused in
    let told = subst (λ (ns : List (List ℕ)). IsToldIn ns c.in-Err.fault c.in_ok-answer.answer) c.as_slice-asked.ensures.value c.in_ok-answer.ensures in
    form_refused packages.asked.items packages.trees.items c.in-Err.fault c.in_ok-answer.answer first told

pub of-requires : goal.of-requires
of-requires c = all_checkable c.in-Ok.spec c.in-Ok.ensures.sound

pub refused-requires-in-Err-elaborate : goal.refused-requires-in-Err-elaborate
refused-requires-in-Err-elaborate c =
    let within = fault_within c.as_slice-asked.result.now c.as_slice-trees.result.now c.in-Err-elaborate.fault c.in-Err-elaborate.ensures.refusal in
    let asked = ap length c.as_slice-asked.ensures.value in
    let trees = ap length c.as_slice-trees.ensures.value in
    let paired = c.requires.same in
    let same : length c.as_slice-trees.result.now ≡ length c.as_slice-asked.result.now = omega arith in
    subst (λ (n : ℕ). IsWithin n c.in-Err-elaborate.fault) same within

pub returns-in-Ok-clause-means : goal.returns-in-Ok-clause-means
returns-in-Ok-clause-means c =
    let packages = c.args.packages.now in
    let ok : Result Specified Told = Ok (spec_of c.in-Ok.spec) in
    let served = subst (λ (ps : List PackageTree). AreServed ps) c.as_slice-trees.ensures.value c.in_default.ensures.served in
    let by_names = subst (λ (ns : List (List ℕ)). elaborated ns c.as_slice-trees.result.now ≡ ok) c.as_slice-asked.ensures.value c.in-Ok.ensures.meaning in
    let meaning = subst (λ (ps : List PackageTree). elaborated packages.asked.items ps ≡ ok) c.as_slice-trees.ensures.value by_names in
    subst (λ (t : TypedMessages). Means packages.asked.items packages.trees.items t) (sym c.of.ensures) (meant_by packages.asked.items packages.trees.items c.in-Ok.spec served meaning)

pub returns-in_ok-answer-in-Err-elaborate-clause-refused : goal.returns-in_ok-answer-in-Err-elaborate-clause-refused
returns-in_ok-answer-in-Err-elaborate-clause-refused c =
    let packages = c.args.packages.now in
    let fault = c.in-Err-elaborate.fault in
    let answer = c.in_ok-answer-in-Err-elaborate.answer in
    let served = subst (λ (ps : List PackageTree). AreServed ps) c.as_slice-trees.ensures.value c.in_default.ensures.served in
    let by_names = subst (λ (ns : List (List ℕ)). TellsOf fault (elaborated ns c.as_slice-trees.result.now)) c.as_slice-asked.ensures.value c.in-Err-elaborate.ensures.refusal in
    let tells = subst (λ (ps : List PackageTree). TellsOf fault (elaborated packages.asked.items ps)) c.as_slice-trees.ensures.value by_names in
    let told = subst (λ (ns : List (List ℕ)). IsToldIn ns fault answer) c.as_slice-asked.ensures.value c.in_ok-answer-in-Err-elaborate.ensures in
    rule_refused packages.asked.items packages.trees.items fault answer served tells told
