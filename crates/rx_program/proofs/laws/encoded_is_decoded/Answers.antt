use Rattle.rx_program.proofs.RoundTrips.{encoded_is_decoded}
use Rattle.rx_program.proofs.laws.encoded_is_decoded.Goals as goal

pub returns : goal.returns
returns c = encoded_is_decoded c.one_tree.ensures c.one_meaning.ensures
