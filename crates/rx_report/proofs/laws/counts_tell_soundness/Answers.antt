use Rattle.rx_graph.specs.Graph.{domains_of}
use Rattle.rx_report.proofs.Soundness.{tell_soundness}
use Rattle.rx_report.proofs.laws.counts_tell_soundness.Goals as goal

pub returns : goal.returns
returns c = tell_soundness (domains_of c.args.spec.now) c.requires.boolean
