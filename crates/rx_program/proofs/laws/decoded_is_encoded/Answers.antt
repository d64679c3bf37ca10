use Rattle.rx_program.proofs.RoundTrips.{decoded_is_encoded}
use Rattle.rx_program.proofs.laws.decoded_is_encoded.Goals as goal

pub returns : goal.returns
returns c = decoded_is_encoded c.one_tree.ensures c.one_meaning.ensures
