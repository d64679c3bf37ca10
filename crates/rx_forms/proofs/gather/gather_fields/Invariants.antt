use Rattle.std.proofs.Common.{◌≡◌, ◌≤◌, drop}
use Rattle.rx_forms.specs.Steps.{links_on, into_fields}
use Rattle.rx_forms.specs.Fronts.{front_of, after_links, links_within}
use Rattle.rx_forms.proofs.gather.gather_fields.Given as goal

abbrev pub invariant-loop-index : goal.invariant-loop-index
invariant-loop-index l = record {
  gone : after_links l.message.domains l.message.graph (front_of l.builder) (into_fields (links_on l.message.domains l.message.graph (drop l.index-index l.path))) ≡ after_links l.message.domains l.message.graph (front_of l.fn.builder) (into_fields (links_on l.message.domains l.message.graph l.path));
  within : links_within l.message.domains l.message.graph (front_of l.fn.builder) (into_fields (links_on l.message.domains l.message.graph l.path)) ≡ links_within l.message.domains l.message.graph (front_of l.builder) (into_fields (links_on l.message.domains l.message.graph (drop l.index-index l.path)));
  room : l.builder.work.next ≤ 190;
}
