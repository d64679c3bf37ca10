use Rattle.std.proofs.Common.{◌≡◌, List, IfErr, OnOk, sym, ap, ◌∙◌, subst}
use Rattle.rx_types.specs.Domain.{Domain}
use Rattle.rx_graph.specs.Fits.{Number, Bytes}
use Rattle.rx_graph.specs.Graph.{Graph}
use Rattle.rx_draft.specs.Drafts.{StandsForSound, environment_of}
use Rattle.rx_draft.specs.Puts.{Refuses, HasPut, values_of}
use Rattle.rx_values.specs.Valuation.{content}
use Rattle.rx_serial.proofs.filling.put_value.Goals as goal

pub returns-in-Number-clause-refused : goal.returns-in-Number-clause-refused
returns-in-Number-clause-refused c =
    let is : Number c.in-Number.number ≡ content c.args.value.now = sym (ap content c.in-Number.is) in
    subst (λ x. IfErr c.put_number.result (λ fault. (domains : List Domain) (m : Graph) → StandsForSound domains m c.args.draft.now.plan → Refuses domains m (environment_of c.args.draft.now) (values_of domains m c.args.draft.now) c.args.field x fault)) is c.put_number.ensures.refused

pub returns-in-Bytes-clause-put : goal.returns-in-Bytes-clause-put
returns-in-Bytes-clause-put c =
    let is : Bytes c.as_slice.result.now ≡ content c.args.value.now = ap Bytes c.as_slice.ensures.value ∙ sym (ap content c.in-Bytes.is) in
    subst (λ x. OnOk c.put_bytes.result ((domains : List Domain) (m : Graph) → StandsForSound domains m c.args.draft.now.plan → HasPut domains m c.args.draft.now c.put_bytes.new.self c.args.field x)) is c.put_bytes.ensures.put

pub returns-in-Bytes-clause-refused : goal.returns-in-Bytes-clause-refused
returns-in-Bytes-clause-refused c =
    let is : Bytes c.as_slice.result.now ≡ content c.args.value.now = ap Bytes c.as_slice.ensures.value ∙ sym (ap content c.in-Bytes.is) in
    subst (λ x. IfErr c.put_bytes.result (λ fault. (domains : List Domain) (m : Graph) → StandsForSound domains m c.args.draft.now.plan → Refuses domains m (environment_of c.args.draft.now) (values_of domains m c.args.draft.now) c.args.field x fault)) is c.put_bytes.ensures.refused
