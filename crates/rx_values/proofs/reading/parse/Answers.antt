use Rattle.serde_json.specs.Errors.{IsMemory}
use Rattle.serde_json.specs.View.{view}
use Rattle.rx_values.specs.Answers.{refusal_of}
use Rattle.rx_values.proofs.Judging.{json_is, no_json}
use Rattle.rx_values.proofs.reading.parse.Goals as goal

pub returns-in-Ok-clause-ok : goal.returns-in-Ok-clause-ok
returns-in-Ok-clause-ok c = json_is c.args.text.now (view c.in-Ok.value) c.in-Ok.ensures.ok.0 c.in-Ok.ensures.ok.1

pub returns-in-Err-clause-refused : goal.returns-in-Err-clause-refused
returns-in-Err-clause-refused c = no_json c.args.text.now (refusal_of c.fault_of.result) (IsMemory c.in-Err.error) c.fault_of.ensures.told c.fault_of.ensures.memory c.in-Err.ensures.err
