use Rattle.rx_serial.proofs.OneRefusal.{none_fits}
use Rattle.rx_serial.proofs.laws.unfit_valuations_fit_no_path.Goals as goal

pub returns : goal.returns
returns c =
    λ values why u fit. none_fits c.args.message.now.domains c.args.message.now.graph c.requires values why u fit
