use Rattle.rx_report.proofs.reporting.examine.Goals as goal

pub returns-then-accepted : goal.returns-then-accepted
returns-then-accepted c = record { report = c.in_ok-report.report; is = c.in_ok-report.ensures; passed = c.accepted.ensures.0 c.if-accepted.true }
