use Rattle.rx_checks.proofs.OneReport.{are_one}
use Rattle.rx_checks.proofs.laws.reports_are_one.Goals as goal

pub returns : goal.returns
returns c = are_one c.args.message.now.domains c.args.message.now.graph
