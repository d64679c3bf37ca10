use Rattle.std.proofs.Common.{◌^◌, pos}
use Rattle.rx_checks.specs.Told.{IsNatural}
use Rattle.rx_checks.proofs.Judged.{all_index}
use Rattle.rx_checks.proofs.finding.numbers_in.Goals as goal

pub number_in-requires : goal.number_in-requires
number_in-requires c = all_index (IsNatural (2 ^ 64)) c.args.numbers.now c.loop-number.number-index (pos 0) c.requires c.loop-number-test.true
