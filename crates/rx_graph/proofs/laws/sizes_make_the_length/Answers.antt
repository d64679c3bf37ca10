use Rattle.rx_graph.proofs.Covered.{length_is}
use Rattle.rx_graph.proofs.Lengths.{length_fits}
use Rattle.rx_graph.proofs.laws.sizes_make_the_length.Goals as goal

pub returns-clause-fields : goal.returns-clause-fields
returns-clause-fields c =
    λ total path fields w. length_is c.args.message.now.domains c.args.message.now.graph c.is_sound.ensures.sound.elaborated c.is_sound.ensures.sound.holds total path fields w

pub returns-clause-valuation : goal.returns-clause-valuation
returns-clause-valuation c =
    λ values total path fields ascending f. length_fits c.args.message.now.domains c.args.message.now.graph c.is_sound.ensures.sound values ascending total path fields f
