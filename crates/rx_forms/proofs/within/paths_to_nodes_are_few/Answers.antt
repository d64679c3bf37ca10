use Rattle.rx_forms.proofs.Few.{few_paths}
use Rattle.rx_forms.proofs.within.paths_to_nodes_are_few.Goals as goal

pub returns : goal.returns
returns c = few_paths c.args.message.now.domains c.args.message.now.graph c.is_known.ensures.elaborated
