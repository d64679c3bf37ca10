use Rattle.std.proofs.Common.{◌≡◌, ◌≤◌, drop}
use Rattle.rx_forms.specs.Steps.{links_on}
use Rattle.rx_forms.specs.Fronts.{front_of, after_ends, ends_within, ends_of}
use Rattle.rx_forms.proofs.gather.gather_ends.Given as goal

abbrev pub invariant-loop-index : goal.invariant-loop-index
invariant-loop-index l = record {
  gone : after_ends l.message.domains l.message.graph (front_of l.builder) (ends_of l.all (links_on l.message.domains l.message.graph (drop l.index-index l.path))) ≡ after_ends l.message.domains l.message.graph (front_of l.fn.builder) (ends_of l.all (links_on l.message.domains l.message.graph l.path));
  within : ends_within l.message.domains l.message.graph (front_of l.fn.builder) (ends_of l.all (links_on l.message.domains l.message.graph l.path)) ≡ ends_within l.message.domains l.message.graph (front_of l.builder) (ends_of l.all (links_on l.message.domains l.message.graph (drop l.index-index l.path)));
  room : l.builder.work.next ≤ 190;
}
