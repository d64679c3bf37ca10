use Rattle.rx_decode.specs.Gathered.{IsGathered}
use Rattle.rx_decode.proofs.gathering.values_of.Given as goal

abbrev pub invariant-loop-field : goal.invariant-loop-field
invariant-loop-field l = IsGathered l.message.domains l.message.graph l.verified.bytes l.verified.fields l.field l.values
