-- How many checks passed, failed and are undecided.
--   Counts, counted    the counts, and with the verdicts of some lines
--   closing_text       the last line of a report
use Rattle.std.specs.Prelude.{ℕ, ◌+◌, List, [], ◌∷◌, ◌++◌, codes, decimal}
use Rattle.rx_checks.specs.declared.verdict.Verdict.{Verdict}
use Rattle.rx_checks.specs.declared.verdict.Verdict.TheVariants.{Passed, Failed, Undecided}
use Rattle.rx_checks.specs.declared.report.Line.{Line}

pub record Counts : Type 0 where
  pub passed : ℕ
  pub failed : ℕ
  pub undecided : ℕ

abbrev pub none_counted : Counts
none_counted = record { passed = 0; failed = 0; undecided = 0 }

abbrev pub with_verdict : Verdict → Counts → Counts
with_verdict (Passed evidence) c = record c { passed = c.passed + 1 }
with_verdict (Failed evidence) c = record c { failed = c.failed + 1 }
with_verdict (Undecided path tree) c = record c { undecided = c.undecided + 1 }

abbrev pub counted : List Line → Counts → Counts
counted [] c = c
counted (line ∷ lines) c = counted lines (with_verdict line.verdict c)

-- `A passed, B failed, C undecided`
abbrev pub closing_text : Counts → List ℕ
closing_text c = decimal c.passed ++ codes " passed, " ++ decimal c.failed ++ codes " failed, " ++ decimal c.undecided ++ codes " undecided" ++ 10 ∷ []
