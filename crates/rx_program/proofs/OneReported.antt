-- Reports of the same messages count the same, and a message that passes has none with an open check.
use Rattle.std.proofs.Common.{◌≡◌, ◌∙◌, refl, sym, ap, ℕ, inl, inr, List, [], ◌∷◌, arith}
use Rattle.rx_types.specs.Domain.{Domain}
use Rattle.rx_graph.specs.Graph.{Graph}
use Rattle.rx_checks.specs.declared.verdict.Verdict.{Verdict}
use Rattle.rx_checks.specs.declared.verdict.Verdict.TheVariants.{Passed, Failed, Undecided}
use Rattle.rx_checks.specs.declared.report.Line.{Line}
use Rattle.rx_checks.specs.declared.report.Report.{Report}
use Rattle.rx_checks.specs.Reports.{HasPassed, AllPassed}
use Rattle.rx_checks.specs.Laws.{IsSameVerdict, AreSameLines}
use Rattle.rx_checks.proofs.OneReport.{are_one}
use Rattle.rx_report.specs.declared.reported.Reported.{Reported}
use Rattle.rx_report.specs.Counts.{Counts, none_counted, with_verdict, counted}
use Rattle.rx_report.specs.Reported.{counts_in, HasOpen, Passes, AreReports, all_counted, IsReported}
use Rattle.rx_program.specs.Laws.{IsSameReport}

verdict_counts : (v w : Verdict) (c : Counts) → IsSameVerdict v w → with_verdict v c ≡ with_verdict w c
verdict_counts (Passed e) (Passed f) c same = refl
verdict_counts (Passed e) (Failed f) c same = absurd same
verdict_counts (Passed e) (Undecided q u) c same = absurd same
verdict_counts (Failed e) (Passed f) c same = absurd same
verdict_counts (Failed e) (Failed f) c same = refl
verdict_counts (Failed e) (Undecided q u) c same = absurd same
verdict_counts (Undecided p t) (Passed f) c same = absurd same
verdict_counts (Undecided p t) (Failed f) c same = absurd same
verdict_counts (Undecided p t) (Undecided q u) c same = refl

lines_counted : (ks ls : List Line) (c : Counts) → AreSameLines ks ls → counted ks c ≡ counted ls c
lines_counted [] [] c same = refl
lines_counted [] (l ∷ ls) c same = absurd same
lines_counted (k ∷ ks) [] c same = absurd same
lines_counted (k ∷ ks) (l ∷ ls) c same = lines_counted ks ls (with_verdict k.verdict c) same.2 ∙ ap (counted ls) (verdict_counts k.verdict l.verdict c same.1)

module _ (domains : List Domain) (splits : ℕ) where
  reports_counted : (ms : List Graph) (rs ss : List Report) (c : Counts) → AreReports domains splits ms rs → AreReports domains splits ms ss → all_counted rs c ≡ all_counted ss c
  reports_counted [] [] [] c one two = refl
  reports_counted [] [] (s ∷ ss) c one two = absurd two
  reports_counted [] (r ∷ rs) ss c one two = absurd one
  reports_counted (m ∷ ms) [] ss c one two = absurd one
  reports_counted (m ∷ ms) (r ∷ rs) [] c one two = absurd two
  reports_counted (m ∷ ms) (r ∷ rs) (s ∷ ss) c one two =
      let same = lines_counted r.lines.items s.lines.items c (are_one domains m splits r s one.0 two.0) in
      reports_counted ms rs ss (counted r.lines.items c) one.1 two.1 ∙ ap (all_counted ss) same

  pub reported_same : (ms : List Graph) (x y : Reported) → IsReported domains splits ms x → IsReported domains splits ms y → IsSameReport x y
  reported_same ms x y one two =
      let same : counts_in x ≡ counts_in y = one.counts ∙ reports_counted ms one.reports two.reports none_counted one.are two.are ∙ sym two.counts in
      record { passed = ap (λ (c : Counts). c.passed) same; failed = ap (λ (c : Counts). c.failed) same; undecided = ap (λ (c : Counts). c.undecided) same }

-- lines that all passed count neither failed nor undecided ones
record IsClean (c d : Counts) : Type 0 where
  failed : c.failed ≡ d.failed
  undecided : c.undecided ≡ d.undecided

clean_on : (v : Verdict) (c : Counts) → HasPassed v → IsClean (with_verdict v c) c
clean_on (Passed e) c has = record { failed = refl; undecided = refl }
clean_on (Failed e) c has = absurd has
clean_on (Undecided p t) c has = absurd has

clean_all : (ls : List Line) (c : Counts) → AllPassed ls → IsClean (counted ls c) c
clean_all [] c all = record { failed = refl; undecided = refl }
clean_all (l ∷ ls) c all =
    let rest = clean_all ls (with_verdict l.verdict c) all.1 in
    let here = clean_on l.verdict c all.0 in
    record { failed = rest.failed ∙ here.failed; undecided = rest.undecided ∙ here.undecided }

nothing_open : (x : Reported) → x.failed ≡ 0 → x.undecided ≡ 0 → HasOpen x → ⊥
nothing_open x failed undecided (inl more) = absurd (omega arith)
nothing_open x failed undecided (inr more) = absurd (omega arith)

pub passes_not_open : (domains : List Domain) (splits : ℕ) (m : Graph) (x : Reported) → Passes domains splits m → IsReported domains splits (m ∷ []) x → HasOpen x → ⊥
passes_not_open domains splits m x passes is unmet =
    let counts = is.counts ∙ reports_counted domains splits (m ∷ []) is.reports (passes.report ∷ []) none_counted is.are (passes.is, tt) in
    let clean = clean_all passes.report.lines.items none_counted passes.passed in
    nothing_open x (ap (λ (c : Counts). c.failed) counts ∙ clean.failed) (ap (λ (c : Counts). c.undecided) counts ∙ clean.undecided) unmet
