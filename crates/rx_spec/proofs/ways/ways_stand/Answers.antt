use Rattle.rx_links.proofs.Acyclic.{acyclic}
use Rattle.rx_spec.proofs.ways.ways_stand.Goals as goal

pub counted_ways-requires-clause-acyclic : goal.counted_ways-requires-clause-acyclic
counted_ways-requires-clause-acyclic c = λ m h. acyclic c.args.name.now c.deref.result.now c.deref-2.result.now c.args.ways.now m c.in_ok-no_cycle.ensures.meaning h
