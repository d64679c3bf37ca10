-- Reports of messages as text.
--   messages_of name ms         the messages of a package
--   Passes splits m             a report of the message has passed
--   IsReported splits ms r      the text and the counts of a report of each message, in order
--   Adds splits m before after  the lines of one message are added; AddsIf: or nothing
--   Examines splits m e         the message is accepted, or why it is not
use Rattle.std.specs.Prelude.{◌≡◌, ◌<◌, ◌⊎◌, ℕ, ◌+◌, Bool, true, false, List, [], ◌∷◌, ◌++◌, filter}
use Rattle.std.specs.Str.{str_eq_ignore_ascii_case}
use Rattle.rx_types.specs.Domain.{Domain}
use Rattle.rx_graph.specs.Graph.{Graph}
use Rattle.rx_checks.specs.declared.report.Report.{Report}
use Rattle.rx_checks.specs.Reports.{IsReport, AllPassed}
use Rattle.rx_lines.specs.Reports.{lines_text}
use Rattle.rx_report.specs.declared.reported.Reported.{Reported}
use Rattle.rx_report.specs.declared.reported.Examined.{Examined}
use Rattle.rx_report.specs.declared.reported.Examined.TheVariants.{Accepted, Rejected}
use Rattle.rx_report.specs.Counts.{Counts, none_counted, counted, closing_text}

-- the messages of a package, whatever the case of the letters of its name, in order
abbrev pub messages_of : List ℕ → List Graph → List Graph
messages_of name ms = filter (λ m. str_eq_ignore_ascii_case m.«package» name) ms

abbrev pub counts_in : Reported → Counts
counts_in r = record { passed = r.passed; failed = r.failed; undecided = r.undecided }

-- all checks that are counted
abbrev pub total_in : Reported → ℕ
total_in r = r.passed + r.failed + r.undecided

-- some check did not pass
abbrev pub HasOpen : Reported → Type 0
HasOpen r = (0 < r.failed) ⊎ (0 < r.undecided)

abbrev pub all_counted : List Report → Counts → Counts
all_counted [] c = c
all_counted (r ∷ rs) c = all_counted rs (counted r.lines.items c)

module _ (domains : List Domain) (splits : ℕ) where
  pub record Passes (m : Graph) : Type 0 where
    pub report : Report
    pub is : IsReport domains m splits report
    pub passed : AllPassed report.lines.items

  abbrev pub AreReports : List Graph → List Report → Type 0
  AreReports [] [] = Unit {0}
  AreReports (m ∷ ms) (r ∷ rs) = IsReport domains m splits r × AreReports ms rs
  AreReports ms rs = ⊥

  -- the lines of each message behind those of the one before
  abbrev pub all_lines : List Graph → List Report → List ℕ
  all_lines (m ∷ ms) (r ∷ rs) = lines_text domains m splits r.lines.items ++ all_lines ms rs
  all_lines ms rs = []

  -- a line for each check, and the last line
  pub record IsReported (ms : List Graph) (r : Reported) : Type 0 where
    pub reports : List Report
    pub are : AreReports ms reports
    pub counts : counts_in r ≡ all_counted reports none_counted
    pub text : r.text.items ≡ all_lines ms reports ++ closing_text (counts_in r)

  -- the lines of one message are added, and counted
  pub record Adds (m : Graph) (before after : Reported) : Type 0 where
    pub report : Report
    pub is : IsReport domains m splits report
    pub counts : counts_in after ≡ counted report.lines.items (counts_in before)
    pub text : after.text.items ≡ before.text.items ++ lines_text domains m splits report.lines.items

  -- those of a message that is not asked for are not
  abbrev pub AddsIf : Bool → Graph → Reported → Reported → Type 0
  AddsIf true m before after = Adds m before after
  AddsIf false m before after = after ≡ before

  abbrev pub Examines : Graph → Examined → Type 0
  Examines m Accepted = Passes m
  Examines m (Rejected r) = IsReported (m ∷ []) r × HasOpen r
