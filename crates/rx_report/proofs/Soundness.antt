-- What the counts of reports tell of the messages.
use Rattle.std.proofs.Common.{◌≡◌, refl, sym, ap, ◌∙◌, subst, ℕ, ◌<◌, ◌≤◌, List, [], ◌∷◌, map, Some, ◌⊎◌, inl, inr, arith}
use Rattle.std.proofs.lemmas.Bool.{cases_lt}
use Rattle.std.specs.Prelude.{slice_get}
use Rattle.std.specs.List.{AllByRecursion}
use Rattle.rx_types.specs.Domain.{Domain, boolean}
use Rattle.rx_graph.specs.Elaborated.{IsElaborated}
use Rattle.rx_graph.specs.Graph.{Graph}
use Rattle.rx_layout.specs.declared.goal.Goal.{Goal}
use Rattle.rx_layout.specs.Goals.{IsGoal}
use Rattle.rx_layout.specs.Listed.{Among}
use Rattle.rx_forms.proofs.Typed.{links_formable, links_narrow}
use Rattle.rx_checks.specs.declared.verdict.Verdict.{Verdict}
use Rattle.rx_checks.specs.declared.verdict.Verdict.TheVariants.{Passed, Failed, Undecided}
use Rattle.rx_checks.specs.declared.report.Line.{Line}
use Rattle.rx_checks.specs.declared.report.Report.{Report}
use Rattle.rx_checks.specs.Reports.{HasPassed, AllPassed}
use Rattle.rx_checks.specs.Verdicts.{StandsFor}
use Rattle.rx_checks.specs.Laws.{HasFailed, IsUndecided, HasBrokenCheck, HasLongWalk}
use Rattle.rx_checks.proofs.Soundness.{show_soundness, true_verdicts, over_at, lines_are_goals}
use Rattle.rx_report.specs.declared.reported.Reported.{Reported}
use Rattle.rx_report.specs.Counts.{Counts, none_counted, with_verdict, counted}
use Rattle.rx_report.specs.Reported.{counts_in, AreReports, all_counted}
use Rattle.rx_report.specs.Laws.{AnyOf, AreElaborated, AreSound, CountsTellSoundness}

-- ---- counts grow

pub record IsUpTo (c d : Counts) : Type 0 where
  pub failed : c.failed ≤ d.failed
  pub undecided : c.undecided ≤ d.undecided

up_to_one : (v : Verdict) (c : Counts) → IsUpTo c (with_verdict v c)
up_to_one (Passed e) c = record { failed = omega arith; undecided = omega arith }
up_to_one (Failed e) c = record { failed = omega arith; undecided = omega arith }
up_to_one (Undecided p t) c = record { failed = omega arith; undecided = omega arith }

up_to_end : (c d e : Counts) → IsUpTo c d → IsUpTo d e → IsUpTo c e
up_to_end c d e h k = record { failed = omega (arith, h.failed, k.failed); undecided = omega (arith, h.undecided, k.undecided) }

up_to_lines : (ls : List Line) (c : Counts) → IsUpTo c (counted ls c)
up_to_lines [] c = record { failed = omega arith; undecided = omega arith }
up_to_lines (l ∷ ls) c = up_to_end c (with_verdict l.verdict c) (counted ls (with_verdict l.verdict c)) (up_to_one l.verdict c) (up_to_lines ls (with_verdict l.verdict c))

up_to_reports : (rs : List Report) (c : Counts) → IsUpTo c (all_counted rs c)
up_to_reports [] c = record { failed = omega arith; undecided = omega arith }
up_to_reports (r ∷ rs) c = up_to_end c (counted r.lines.items c) (all_counted rs (counted r.lines.items c)) (up_to_lines r.lines.items c) (up_to_reports rs (counted r.lines.items c))

-- ---- where the counts are as before, every line has passed

has_passed : (v : Verdict) (c d : Counts) → IsUpTo (with_verdict v c) d → IsUpTo d c → HasPassed v
has_passed (Passed e) c d h k = tt
has_passed (Failed e) c d h k = absurd (omega (arith, h.failed, k.failed))
has_passed (Undecided p t) c d h k = absurd (omega (arith, h.undecided, k.undecided))

all_passed : (ls : List Line) (c : Counts) → IsUpTo (counted ls c) c → AllPassed ls
all_passed [] c h = tt
all_passed (l ∷ ls) c h =
    let next = with_verdict l.verdict c in
    (has_passed l.verdict c (counted ls next) (up_to_lines ls next) h, all_passed ls next (up_to_end (counted ls next) c next h (up_to_one l.verdict c)))

reports_passed : (rs : List Report) (c : Counts) → IsUpTo (all_counted rs c) c → AllByRecursion (λ r. AllPassed r.lines.items) rs
reports_passed [] c h = tt
reports_passed (r ∷ rs) c h =
    let next = counted r.lines.items c in (
      all_passed r.lines.items c (up_to_end next (all_counted rs next) c (up_to_reports rs next) h),
      reports_passed rs next (up_to_end (all_counted rs next) c next h (up_to_lines r.lines.items c)),
    )

-- ---- a line that failed, and one that is undecided

abbrev AnyLine : (Verdict → Type 0) → List Line → Type 0
AnyLine P [] = ⊥
AnyLine P (line ∷ lines) = P line.verdict ⊎ AnyLine P lines

failed_or_later : (v : Verdict) (c : Counts) (end : ℕ) (Later : Type 0) → c.failed < end → ((with_verdict v c).failed < end → Later) → HasFailed v ⊎ Later
failed_or_later (Passed e) c end Later h later = inr (later h)
failed_or_later (Failed e) c end Later h later = inl tt
failed_or_later (Undecided p t) c end Later h later = inr (later h)

some_failed : (ls : List Line) (c : Counts) → c.failed < (counted ls c).failed → AnyLine HasFailed ls
some_failed [] c h = absurd (omega (arith, h))
some_failed (l ∷ ls) c h = failed_or_later l.verdict c (counted ls (with_verdict l.verdict c)).failed (AnyLine HasFailed ls) h (λ k. some_failed ls (with_verdict l.verdict c) k)

undecided_or_later : (v : Verdict) (c : Counts) (end : ℕ) (Later : Type 0) → c.undecided < end → ((with_verdict v c).undecided < end → Later) → IsUndecided v ⊎ Later
undecided_or_later (Passed e) c end Later h later = inr (later h)
undecided_or_later (Failed e) c end Later h later = inr (later h)
undecided_or_later (Undecided p t) c end Later h later = inl tt

some_undecided : (ls : List Line) (c : Counts) → c.undecided < (counted ls c).undecided → AnyLine IsUndecided ls
some_undecided [] c h = absurd (omega (arith, h))
some_undecided (l ∷ ls) c h = undecided_or_later l.verdict c (counted ls (with_verdict l.verdict c)).undecided (AnyLine IsUndecided ls) h (λ k. some_undecided ls (with_verdict l.verdict c) k)

-- a count grows in one report, or behind it
grows : (a b c : ℕ) (P Q : Type 0) → a < c → (a < b → P) → (b < c → Q) → P ⊎ Q
grows a b c P Q h here later = by_side (cases_lt a b)
  where
    by_side : (a < b) ⊎ (b ≤ a) → P ⊎ Q
    by_side (inl k) = inl (here k)
    by_side (inr k) = inr (later (omega (arith, h, k)))

module _ (domains : List Domain) (first : (d : Domain) → slice_get domains 0 ≡ Some d → d ≡ boolean) (splits : ℕ) where
  all_sound : (ms : List Graph) (rs : List Report) → AreElaborated domains ms → AreReports domains splits ms rs → AllByRecursion (λ r. AllPassed r.lines.items) rs → AreSound domains ms
  all_sound [] [] el are all = tt
  all_sound [] (r ∷ rs) el are all = absurd are
  all_sound (m ∷ ms) [] el are all = absurd are
  all_sound (m ∷ ms) (r ∷ rs) el are all =
      (show_soundness domains m el.0 (links_formable domains m first el.0) (links_narrow domains m first el.0) splits r are.0 all.0, all_sound ms rs el.1 are.1 all.1)

  module _ (m : Graph) (el : IsElaborated domains m) where
    abbrev Stands : Line → Type 0
    Stands line = StandsFor domains m splits line.goal line.verdict

    abbrev AreGoals : List Line → Type 0
    AreGoals lines = (goal : Goal) → Among goal (map (λ line. line.goal) lines) → IsGoal domains m goal

    line_broken : (lines : List Line) → AllByRecursion Stands lines → AreGoals lines → AnyLine HasFailed lines → HasBrokenCheck domains m
    line_broken [] stand goals any = absurd any
    line_broken (line ∷ lines) stand goals (inl failed) =
        let is = goals line.goal (inl refl) in
        (line.goal, is, (true_verdicts domains m el (links_formable domains m first el) (links_narrow domains m first el) splits line.goal line.verdict is stand.0).1 failed)
    line_broken (line ∷ lines) stand goals (inr any) = line_broken lines stand.1 (λ goal among. goals goal (inr among)) any

    line_long : (lines : List Line) → AllByRecursion Stands lines → AreGoals lines → AnyLine IsUndecided lines → HasLongWalk domains m splits
    line_long [] stand goals any = absurd any
    line_long (line ∷ lines) stand goals (inl undecided) = over_at domains m splits line.goal line.verdict (goals line.goal (inl refl)) stand.0 undecided
    line_long (line ∷ lines) stand goals (inr any) = line_long lines stand.1 (λ goal among. goals goal (inr among)) any

  some_broken : (ms : List Graph) (rs : List Report) (c : Counts) → AreElaborated domains ms → AreReports domains splits ms rs → c.failed < (all_counted rs c).failed → AnyOf (λ m. HasBrokenCheck domains m) ms
  some_broken [] [] c el are h = absurd (omega (arith, h))
  some_broken [] (r ∷ rs) c el are h = absurd are
  some_broken (m ∷ ms) [] c el are h = absurd are
  some_broken (m ∷ ms) (r ∷ rs) c el are h =
      let next = counted r.lines.items c in
      grows c.failed next.failed (all_counted rs next).failed (HasBrokenCheck domains m) (AnyOf (λ m. HasBrokenCheck domains m) ms) h
      (λ k. line_broken m el.0 r.lines.items are.0.stand (lines_are_goals domains m splits r are.0) (some_failed r.lines.items c k))
      (λ k. some_broken ms rs next el.1 are.1 k)

  some_long : (ms : List Graph) (rs : List Report) (c : Counts) → AreElaborated domains ms → AreReports domains splits ms rs → c.undecided < (all_counted rs c).undecided → AnyOf (λ m. HasLongWalk domains m splits) ms
  some_long [] [] c el are h = absurd (omega (arith, h))
  some_long [] (r ∷ rs) c el are h = absurd are
  some_long (m ∷ ms) [] c el are h = absurd are
  some_long (m ∷ ms) (r ∷ rs) c el are h =
      let next = counted r.lines.items c in
      grows c.undecided next.undecided (all_counted rs next).undecided (HasLongWalk domains m splits) (AnyOf (λ m. HasLongWalk domains m splits) ms) h
      (λ k. line_long m el.0 r.lines.items are.0.stand (lines_are_goals domains m splits r are.0) (some_undecided r.lines.items c k))
      (λ k. some_long ms rs next el.1 are.1 k)

up_to_none : (r : Reported) (c : Counts) → counts_in r ≡ c → r.failed ≡ 0 → r.undecided ≡ 0 → IsUpTo c none_counted
up_to_none r c same failed undecided =
    record { failed = at_most (ap (λ (d : Counts). d.failed) (sym same) ∙ failed); undecided = at_most (ap (λ (d : Counts). d.undecided) (sym same) ∙ undecided) }
  where
    at_most : {n : ℕ} → n ≡ 0 → n ≤ 0
    at_most h = omega (arith, h)

pub tell_soundness : (domains : List Domain) → ((d : Domain) → slice_get domains 0 ≡ Some d → d ≡ boolean) → CountsTellSoundness domains
tell_soundness domains first = record {
  sound = λ splits ms r el is failed undecided.
      all_sound domains first splits ms is.reports el is.are (reports_passed is.reports none_counted (up_to_none r (all_counted is.reports none_counted) is.counts failed undecided));
  broken = λ splits ms r el is some. some_broken domains first splits ms is.reports none_counted el is.are (subst (λ (d : Counts). 0 < d.failed) is.counts some);
  long = λ splits ms r el is some. some_long domains first splits ms is.reports none_counted el is.are (subst (λ (d : Counts). 0 < d.undecided) is.counts some);
}
