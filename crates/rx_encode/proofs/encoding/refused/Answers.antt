use Rattle.std.proofs.Common.{◌≡◌, ℕ, List, Err, IfSome, subst}
use Rattle.rx_types.specs.Domain.{Domain}
use Rattle.rx_graph.specs.Graph.{Graph}
use Rattle.rx_values.specs.Answers.{refusal_of}
use Rattle.rx_values.specs.Reading.{value_of}
use Rattle.rx_values.specs.declared.fault.ValueFault.{ValueFault}
use Rattle.rx_encode.proofs.encoding.refused.Goals as goal

abbrev IsTold : List Domain → Graph → List ℕ → ValueFault → Type 0
IsTold domains m text fault = IfSome (refusal_of fault) (λ r. value_of domains m text ≡ Err r)

pub returns-in-NotJson : goal.returns-in-NotJson
returns-in-NotJson c = λ domains m text told. subst (IsTold domains m text) c.in-NotJson.is told

pub returns-in-NotObject : goal.returns-in-NotObject
returns-in-NotObject c = λ domains m text told. subst (IsTold domains m text) c.in-NotObject.is told

pub returns-in-UnknownField : goal.returns-in-UnknownField
returns-in-UnknownField c = λ domains m text told. subst (IsTold domains m text) c.in-UnknownField.is told

pub returns-in-BadValue : goal.returns-in-BadValue
returns-in-BadValue c = λ domains m text told. subst (IsTold domains m text) c.in-BadValue.is told

pub returns-in-Duplicate : goal.returns-in-Duplicate
returns-in-Duplicate c = λ domains m text told. subst (IsTold domains m text) c.in-Duplicate.is told
