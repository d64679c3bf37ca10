use Rattle.std.proofs.Common.{◌≡◌, ◌+◌, ◌≤◌, drop}
use Rattle.rx_forms.specs.Steps.{links_on, scalars_on, into_fields}
use Rattle.rx_forms.proofs.gather.scalars_along.Given as goal

abbrev pub invariant-loop-index : goal.invariant-loop-index
invariant-loop-index l = record {
  told : l.count + scalars_on l.message.domains l.message.graph (into_fields (links_on l.message.domains l.message.graph (drop l.index-index l.path))) ≡ scalars_on l.message.domains l.message.graph (into_fields (links_on l.message.domains l.message.graph l.path));
  few : l.count ≤ l.index-index;
}
