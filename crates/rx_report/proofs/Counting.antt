-- Counts of checks by their verdicts.
use Rattle.std.proofs.Common.{◌≡◌, sym, ap, ◌∙◌, inl, inr, ℕ, ◌+◌, ◌<◌, ◌⊎◌, arith, List, [], ◌∷◌, length, get_or, drop}
use Rattle.std.proofs.lemmas.List.{drop_more}
use Rattle.rx_checks.specs.declared.verdict.Verdict.{Verdict}
use Rattle.rx_checks.specs.declared.verdict.Verdict.TheVariants.{Passed, Failed, Undecided}
use Rattle.rx_checks.specs.declared.report.Line.{Line}
use Rattle.rx_checks.specs.Reports.{AllPassed, HasPassed}
use Rattle.rx_report.specs.Counts.{Counts, with_verdict, counted}

-- one line more
pub counted_more : (lines : List Line) (i : ℕ) (line : Line) (now new : Counts) → i < length lines → line ≡ get_or lines i line → new ≡ with_verdict line.verdict now → counted (drop (i + 1) lines) new ≡ counted (drop i lines) now
counted_more lines i line now new within is put =
    ap (counted (drop (i + 1) lines)) put
    ∙ ap (λ (l : Line). counted (drop (i + 1) lines) (with_verdict l.verdict now)) is
    ∙ sym (ap (λ (ls : List Line). counted ls now) (drop_more lines i line within))

-- ---- lines that have not passed

abbrev pub IsOpen : Counts → Type 0
IsOpen c = (0 < c.failed) ⊎ (0 < c.undecided)

still_open : (verdict : Verdict) (c : Counts) → IsOpen c → IsOpen (with_verdict verdict c)
still_open (Passed evidence) c some = some
still_open (Failed evidence) c some = inl (omega arith)
still_open (Undecided path tree) c some = inr (omega arith)

stays_open : (lines : List Line) (c : Counts) → IsOpen c → IsOpen (counted lines c)
stays_open [] c some = some
stays_open (line ∷ lines) c some = stays_open lines (with_verdict line.verdict c) (still_open line.verdict c some)

open_next : (line : Line) (lines : List Line) (c : Counts) (v : Verdict) → ((d : Counts) → (AllPassed lines → ⊥) → IsOpen (counted lines d)) → (HasPassed v × AllPassed lines → ⊥) → IsOpen (counted lines (with_verdict v c))
open_next line lines c (Passed evidence) rest none = rest (with_verdict (Passed evidence) c) (λ all. none (tt, all))
open_next line lines c (Failed evidence) rest none = stays_open lines (with_verdict (Failed evidence) c) (inl (omega arith))
open_next line lines c (Undecided path tree) rest none = stays_open lines (with_verdict (Undecided path tree) c) (inr (omega arith))

pub open_unless_passed : (lines : List Line) (c : Counts) → (AllPassed lines → ⊥) → IsOpen (counted lines c)
open_unless_passed [] c none = absurd (none tt)
open_unless_passed (line ∷ lines) c none = open_next line lines c line.verdict (λ d rest. open_unless_passed lines d rest) none
