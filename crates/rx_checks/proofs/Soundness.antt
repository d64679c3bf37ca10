-- What verdicts and reports show: that checks hold or do not, and that a message is sound and has one reading; and that a sound
-- message passes.
use Rattle.std.proofs.Common.{◌≡◌, refl, sym, subst, ◌∙◌, ℕ, zero, suc, ◌<◌, arith, List, [], ◌∷◌, ◌++◌, map, length, Bool, true, false, inl, inr}
use Rattle.std.specs.Prelude.{Contains, not, slice_index_or}
use Rattle.std.specs.List.{AllByRecursion}
use Rattle.rx_types.specs.Domain.{Domain}
use Rattle.rx_types.specs.Environment.{Placed}
use Rattle.rx_graph.specs.declared.message.Node.{Node}
use Rattle.rx_graph.specs.declared.message.Node.TheVariants.{Start, At}
use Rattle.rx_graph.specs.Graph.{Graph, limit_of}
use Rattle.rx_graph.specs.Cycles.{IsPath, ArePathsTo}
use Rattle.rx_graph.specs.Paths.{Leads}
use Rattle.rx_graph.specs.Elaborated.{IsElaborated, IsSound}
use Rattle.rx_graph.specs.Fits.{Fits}
use Rattle.rx_graph.proofs.Lengths.{length_fits}
use Rattle.rx_graph.proofs.OneFit.{one_fit}
use Rattle.rx_graph.proofs.Exclusions.{exclusive_from_checks}
use Rattle.rx_graph.proofs.Unique.{one_path}
use Rattle.rx_forms.specs.Links.{AreFormable, AreNarrow}
use Rattle.rx_proof.specs.declared.proof.Proof.{Proof}
use Rattle.rx_proof.proofs.Exclusion.{accepts_sound}
use Rattle.rx_prover.specs.Answers.{HasNoPoint}
use Rattle.rx_layout.specs.declared.goal.Goal.{Goal}
use Rattle.rx_layout.specs.Goals
use Rattle.rx_layout.specs.Goals.{source, is_universal, IsGoal, MetBy, GoalHolds, AllGoalsHold}
use Rattle.rx_layout.specs.QueryOf.{query_for}
use Rattle.rx_layout.specs.Listed.{Among}
use Rattle.rx_layout.proofs.Whole.{goals_point}
use Rattle.rx_layout.proofs.Listing.{goals_are_listed, listed_are_goals}
use Rattle.rx_layout.proofs.Holding.{all_hold, goals_hold}
use Rattle.rx_checks.specs.declared.verdict.Evidence.{Evidence}
use Rattle.rx_checks.specs.declared.verdict.Evidence.TheVariants.{Proofs, Found}
use Rattle.rx_checks.specs.declared.verdict.Verdict.{Verdict}
use Rattle.rx_checks.specs.declared.verdict.Verdict.TheVariants.{Passed, Failed, Undecided}
use Rattle.rx_checks.specs.declared.report.Line.{Line}
use Rattle.rx_checks.specs.declared.report.Report.{Report}
use Rattle.rx_checks.specs.Verdicts
use Rattle.rx_checks.specs.Reports.{IsReport, HasPassed, AllPassed}
use Rattle.rx_checks.specs.Laws.{HasFailed, IsUndecided, HasLongWalk, VerdictsAreTrue, HasOneReading, ReportsShowSoundness, ReportsShowOneReading, WalksEnd, SoundMessagesPass}

at_place : (P : List ℕ → Type 0) (xs : List (List ℕ)) (p : List ℕ) (k : ℕ) → k < length xs → slice_index_or xs k p ≡ p → AllByRecursion P xs → P p
at_place P [] p k h e all = absurd (omega (arith, h))
at_place P (x ∷ xs) p zero h e all = subst P e all.0
at_place P (x ∷ xs) p (suc k) h e all = at_place P xs p k (omega (arith, h)) e all.1

-- what holds of each path of a list holds of one that is in it
holds_of : (P : List ℕ → Type 0) (xs : List (List ℕ)) (p : List ℕ) → AllByRecursion P xs → Contains xs p → P p
holds_of P xs p all h = at_place P xs p h.0 h.1 h.2 all

-- the links of a path that is taken lead from one node to the other
links_lead : (domains : List Domain) (m : Graph) (total : ℕ) (before : List Placed) (at : Node) (path : List ℕ) (fields : List Placed) (end : Node) → Leads domains m total before at path fields end → IsPath m at path end
links_lead domains m total before at [] [] end h = h
links_lead domains m total before at [] (p ∷ fields) end h = absurd h
links_lead domains m total before at (i ∷ path) [] end h = absurd h
links_lead domains m total before at (i ∷ path) (p ∷ fields) end h =
    (h.0, h.1, h.2, subst (λ n. IsPath m n path end) (sym h.3.target) (links_lead domains m total _ (At p.field) path fields end h.4))

module _ (domains : List Domain) (m : Graph) (el : IsElaborated domains m) (formable : AreFormable (limit_of domains m) m) (narrow : AreNarrow (limit_of domains m) m) (splits : ℕ) where
  module _ (goal : Goal) where
    abbrev IsEmpty : List ℕ → Type 0
    IsEmpty path = HasNoPoint (query_for domains m goal path)

    -- a closed proof leaves no point
    all_empty : (paths : List (List ℕ)) (proofs : List Proof) → Verdicts.AreClosed domains m splits goal paths proofs → AllByRecursion IsEmpty paths
    all_empty [] [] h = tt
    all_empty [] (proof ∷ proofs) h = absurd h
    all_empty (path ∷ paths) [] h = absurd h
    all_empty (path ∷ paths) (proof ∷ proofs) h = (accepts_sound (query_for domains m goal path) proof h.0.closed.is_accepted, all_empty paths proofs h.1)

    met_by_none : (paths : List (List ℕ)) → IsGoal domains m goal → ArePathsTo m (source goal) paths → AllByRecursion IsEmpty paths → (total : ℕ) (path : List ℕ) (fields : List Placed) → MetBy domains m goal total path fields → ⊥
    met_by_none paths is are none total path fields met =
        let found = goals_point domains m el formable narrow goal total path fields is met in
        let here = are.all path (links_lead domains m total [] Start path fields (source goal) met.partial.leads) in
        holds_of IsEmpty paths path none here found.0 found.1.satisfies

    shown_holds : (b : Bool) (paths : List (List ℕ)) (evidence : Evidence) → IsGoal domains m goal → ArePathsTo m (source goal) paths → Verdicts.IsShownBy domains m splits goal b paths evidence → Goals.HoldsIf domains m b goal
    shown_holds true paths (Proofs proofs) is are h = met_by_none paths is are (all_empty paths proofs.items h)
    shown_holds true paths (Found path total numbers) is are h = absurd h
    shown_holds false paths (Proofs proofs) is are h = absurd h
    shown_holds false paths (Found path total numbers) is are h = (total, path, h.1.fields, h.1.met)

    passed_holds : (verdict : Verdict) → IsGoal domains m goal → Verdicts.StandsFor domains m splits goal verdict → HasPassed verdict → GoalHolds domains m goal
    passed_holds (Passed evidence) is h passed = shown_holds (is_universal goal) h.0 evidence is h.1 h.2
    passed_holds (Failed evidence) is h passed = absurd passed
    passed_holds (Undecided path tree) is h passed = absurd passed

    -- what shows the other verdict leaves the goal not to hold
    failed_breaks : (b : Bool) (paths : List (List ℕ)) (evidence : Evidence) → IsGoal domains m goal → ArePathsTo m (source goal) paths → Verdicts.IsShownBy domains m splits goal (not b) paths evidence → Goals.HoldsIf domains m b goal → ⊥
    failed_breaks true paths (Proofs proofs) is are h holds = absurd h
    failed_breaks true paths (Found path total numbers) is are h holds = holds total path h.1.fields h.1.met
    failed_breaks false paths (Proofs proofs) is are h holds = met_by_none paths is are (all_empty paths proofs.items h) holds.0 holds.1 holds.2 holds.3
    failed_breaks false paths (Found path total numbers) is are h holds = absurd h

    failed_fails : (verdict : Verdict) → IsGoal domains m goal → Verdicts.StandsFor domains m splits goal verdict → HasFailed verdict → GoalHolds domains m goal → ⊥
    failed_fails (Passed evidence) is h failed = absurd failed
    failed_fails (Failed evidence) is h failed = failed_breaks (is_universal goal) h.0 evidence is h.1 h.2
    failed_fails (Undecided path tree) is h failed = absurd failed

  listed_holds : (lines : List Line) (goal : Goal) → AllByRecursion (λ line. Verdicts.StandsFor domains m splits line.goal line.verdict) lines → AllPassed lines → IsGoal domains m goal → Among goal (map (λ line. line.goal) lines) → GoalHolds domains m goal
  listed_holds [] goal stand passed is among = absurd among
  listed_holds (line ∷ lines) goal stand passed is (inl e) =
      subst (λ g. GoalHolds domains m g) e (passed_holds line.goal line.verdict (subst (λ g. IsGoal domains m g) (sym e) is) stand.0 passed.0)
  listed_holds (line ∷ lines) goal stand passed is (inr among) = listed_holds lines goal stand.1 passed.1 is among

pub show_soundness : (domains : List Domain) (m : Graph) → IsElaborated domains m → AreFormable (limit_of domains m) m → AreNarrow (limit_of domains m) m → ReportsShowSoundness domains m
show_soundness domains m el formable narrow splits r h passed =
    record { elaborated = el; holds = all_hold domains m all }
  where
    all : AllGoalsHold domains m
    all goal is = listed_holds domains m el formable narrow splits r.lines.items goal h.stand passed is (subst (λ goals. Among goal goals) (sym h.goals) (goals_are_listed domains m el goal is))

pub true_verdicts : (domains : List Domain) (m : Graph) → IsElaborated domains m → AreFormable (limit_of domains m) m → AreNarrow (limit_of domains m) m → VerdictsAreTrue domains m
true_verdicts domains m el formable narrow splits goal verdict is stands =
    (passed_holds domains m el formable narrow splits goal verdict is stands, failed_fails domains m el formable narrow splits goal verdict is stands)

-- ---- one reading

one_reading : (domains : List Domain) (m : Graph) → IsSound domains m → HasOneReading domains m
one_reading domains m sound =
    let exclusive = exclusive_from_checks domains m sound.holds in
    record {
      buffer = one_path domains m exclusive;
      valuation = λ values total other_total path other fields more ascending f g.
          let same : total ≡ other_total = sym (length_fits domains m sound values ascending total path fields f) ∙ length_fits domains m sound values ascending other_total other more g in
          let one = one_fit domains m values exclusive total path other fields more f (subst (λ t. Fits domains m values t other more) (sym same) g) in
          (same, one.0, one.1);
      sized = λ values total path fields ascending f. length_fits domains m sound values ascending total path fields f;
    }

pub show_one_reading : (domains : List Domain) (m : Graph) → IsElaborated domains m → AreFormable (limit_of domains m) m → AreNarrow (limit_of domains m) m → ReportsShowOneReading domains m
show_one_reading domains m el formable narrow splits r h passed = one_reading domains m (show_soundness domains m el formable narrow splits r h passed)

-- ---- the walk of an undecided verdict

module _ (domains : List Domain) (m : Graph) (splits : ℕ) (goal : Goal) where
  abbrev LeadsToSource : List ℕ → Type 0
  LeadsToSource path = IsPath m Start path (source goal)

  leads_there : (paths before after : List (List ℕ)) (path : List ℕ) → AllByRecursion LeadsToSource paths → paths ≡ before ++ path ∷ after → LeadsToSource path
  leads_there [] [] after path all e = cc
  leads_there [] (p ∷ before) after path all e = cc
  leads_there (p ∷ paths) [] after path all e = subst LeadsToSource (head_same p path paths after e) all.0
    where
      head_same : (p q : List ℕ) (ps qs : List (List ℕ)) → p ∷ ps ≡ q ∷ qs → p ≡ q
      head_same p q ps qs e = cc
  leads_there (p ∷ paths) (q ∷ before) after path all e = leads_there paths before after path all.1 (rest_same p q paths (before ++ path ∷ after) e)
    where
      rest_same : (p q : List ℕ) (ps qs : List (List ℕ)) → p ∷ ps ≡ q ∷ qs → ps ≡ qs
      rest_same p q ps qs e = cc

  -- it is that of a path to the source, and needs more inner nodes than there are splits
  pub over_at : (verdict : Verdict) → IsGoal domains m goal → Verdicts.StandsFor domains m splits goal verdict → IsUndecided verdict → HasLongWalk domains m splits
  over_at (Passed evidence) is h undecided = absurd undecided
  over_at (Failed evidence) is h undecided = absurd undecided
  over_at (Undecided path tree) is h undecided =
      let first = h.2.1 in
      (goal, path, is, leads_there h.0 first.before first.after path h.1.alone first.is, first.has)

-- ---- sound messages pass

module _ (domains : List Domain) (m : Graph) (el : IsElaborated domains m) (formable : AreFormable (limit_of domains m) m) (narrow : AreNarrow (limit_of domains m) m) (splits : ℕ) (hold : AllGoalsHold domains m) where
  abbrev Stands : Line → Type 0
  Stands line = Verdicts.StandsFor domains m splits line.goal line.verdict

  none_fail : (lines : List Line) → AllByRecursion Stands lines → ((goal : Goal) → Among goal (map (λ line. line.goal) lines) → IsGoal domains m goal) → AllByRecursion (λ line. HasFailed line.verdict → ⊥) lines
  none_fail [] stand goals = tt
  none_fail (line ∷ lines) stand goals =
      let is = goals line.goal (inl refl) in
      ((λ failed. failed_fails domains m el formable narrow splits line.goal line.verdict is stand.0 failed (hold line.goal is)), none_fail lines stand.1 (λ goal among. goals goal (inr among)))

  passes : (goal : Goal) (verdict : Verdict) → (IsUndecided verdict → HasLongWalk domains m splits) → (HasFailed verdict → ⊥) → WalksEnd domains m splits → HasPassed verdict
  passes goal (Passed evidence) long fails ends = tt
  passes goal (Failed evidence) long fails ends = absurd (fails tt)
  passes goal (Undecided path tree) long fails ends = (let w = long tt in absurd (ends w.0 w.1 w.2 w.3 w.4))

  each_passes : (lines : List Line) → AllByRecursion Stands lines → ((goal : Goal) → Among goal (map (λ line. line.goal) lines) → IsGoal domains m goal) → AllByRecursion (λ line. HasFailed line.verdict → ⊥) lines → WalksEnd domains m splits → AllPassed lines
  each_passes [] stand goals fails ends = tt
  each_passes (line ∷ lines) stand goals fails ends = (
    passes line.goal line.verdict (over_at domains m splits line.goal line.verdict (goals line.goal (inl refl)) stand.0) fails.0 ends,
    each_passes lines stand.1 (λ goal among. goals goal (inr among)) fails.1 ends,
  )

-- each line of a report is about a check of the message
pub lines_are_goals : (domains : List Domain) (m : Graph) (splits : ℕ) (r : Report) → IsReport domains m splits r → (goal : Goal) → Among goal (map (λ line. line.goal) r.lines.items) → IsGoal domains m goal
lines_are_goals domains m splits r h goal among = listed_are_goals domains m goal (subst (λ goals. Among goal goals) h.goals among)

pub messages_pass : (domains : List Domain) (m : Graph) → IsElaborated domains m → AreFormable (limit_of domains m) m → AreNarrow (limit_of domains m) m → SoundMessagesPass domains m
messages_pass domains m el formable narrow =
    record {
      none_fails = λ splits r h hold. none_fail domains m el formable narrow splits (goals_hold domains m hold) r.lines.items h.stand (lines_are_goals domains m splits r h);
      all_pass = λ splits r h hold ends.
          let goals = goals_hold domains m hold in
          each_passes domains m el formable narrow splits goals r.lines.items h.stand (lines_are_goals domains m splits r h)
          (none_fail domains m el formable narrow splits goals r.lines.items h.stand (lines_are_goals domains m splits r h)) ends;
    }
