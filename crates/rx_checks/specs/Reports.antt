-- Reports: a verdict on each check of a message.
--   IsReport splits r    a line for each goal, in order, with the verdict that it has with so many splits
--   AllPassed lines      every line has passed
use Rattle.std.specs.Prelude.{◌≡◌, ℕ, List, map}
use Rattle.std.specs.List.{AllByRecursion}
use Rattle.rx_types.specs.Domain.{Domain}
use Rattle.rx_graph.specs.Graph.{Graph}
use Rattle.rx_checks.specs.declared.verdict.Verdict.{Verdict}
use Rattle.rx_checks.specs.declared.verdict.Verdict.TheVariants.{Passed, Failed, Undecided}
use Rattle.rx_checks.specs.declared.report.Line.{Line}
use Rattle.rx_checks.specs.declared.report.Report.{Report}
use Rattle.rx_layout.specs.Listed.{all_goals}
use Rattle.rx_checks.specs.Verdicts.{StandsFor}

pub record IsReport (domains : List Domain) (m : Graph) (splits : ℕ) (r : Report) : Type 0 where
  pub goals : map (λ line. line.goal) r.lines.items ≡ all_goals domains m
  pub stand : AllByRecursion (λ line. StandsFor domains m splits line.goal line.verdict) r.lines.items

abbrev pub HasPassed : Verdict → Type 0
HasPassed (Passed evidence) = Unit {0}
HasPassed (Failed evidence) = ⊥
HasPassed (Undecided path tree) = ⊥

abbrev pub AllPassed : List Line → Type 0
AllPassed lines = AllByRecursion (λ line. HasPassed line.verdict) lines
