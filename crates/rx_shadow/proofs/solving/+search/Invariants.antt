use Rattle.std.proofs.Common.{◌+◌, ◌*◌}
use Rattle.rx_shadow.proofs.solving.+search.Given as goal

abbrev pub decreases-search : goal.decreases-search
decreases-search l = 2 * l.rounds + 1

abbrev pub decreases-search_exact : goal.decreases-search_exact
decreases-search_exact l = 2 * l.rounds
