-- From a point of a goal's query to the goal, and back, whatever the goal asks.
use Rattle.std.proofs.Common.{◌≡◌, sym, ap, subst, ◌∙◌, ℕ, ◌+◌, ◌≤◌, arith, List, [], ◌∷◌, length, true, ℤ, pos, Option}
use Rattle.rx_types.specs.Tree.{Tree}
use Rattle.rx_types.specs.Domain.{Domain}
use Rattle.rx_types.specs.Environment.{Placed, in_message}
use Rattle.rx_graph.specs.declared.message.Node.TheVariants.{Start}
use Rattle.rx_graph.specs.Graph.{Arrow, Graph, limit_of, type_of}
use Rattle.rx_graph.specs.Elaborated.{IsElaborated}
use Rattle.rx_graph.specs.Paths.{IsPartial}
use Rattle.rx_graph.proofs.Bounded.{stays_within}
use Rattle.rx_proof.specs.Queries.{satisfied}
use Rattle.rx_forms.specs.declared.linear.Linear.{Linear}
use Rattle.rx_forms.specs.declared.linear.Form.{Form}
use Rattle.rx_forms.specs.Normal.{divisions_in}
use Rattle.rx_forms.specs.Laws.{fields_on}
use Rattle.rx_forms.specs.Steps
use Rattle.rx_forms.specs.Steps.{Step, divisions_in_any, target_field, past}
use Rattle.rx_forms.specs.Links.{AreFormable, AreNarrow, IsNumericIfAny, IsNarrowIfAny}
use Rattle.rx_forms.specs.Points
use Rattle.rx_forms.proofs.Matching.{represents}
use Rattle.rx_forms.proofs.Carrying.{links_length, numbers_length}
use Rattle.rx_layout.specs.declared.goal.Goal.{Goal}
use Rattle.rx_layout.specs.Goals.{source, IsMet}
use Rattle.rx_layout.specs.QueryOf
use Rattle.rx_layout.specs.QueryOf.{Asked}
use Rattle.rx_layout.specs.Laws
use Rattle.rx_layout.specs.Laws.{IsPoint}
use Rattle.rx_layout.proofs.Even.{query_variables}
use Rattle.rx_layout.proofs.Cuts.{cut_of}
use Rattle.rx_layout.proofs.Asking.{AllTaken, AllFormable, AllNarrow, Granted, granted}
use Rattle.rx_layout.proofs.Ends
use Rattle.rx_layout.proofs.Ends.{IsPartialAt, partial_at, point_at}

conditions_least : (n : ℕ) (links : List Arrow) → n ≤ past n links
conditions_least n [] = omega arith
conditions_least n (link ∷ links) = let a = conditions_least (n + divisions_in link.condition) links in omega arith

module _ (domains : List Domain) (m : Graph) where
  division_least : (d : ℕ) (links : List Arrow) → d ≤ Steps.division_after domains m d links
  division_least d [] = omega arith
  division_least d (link ∷ links) =
      let step : Step = record { before = []; scalar = 0; division = d; link = link; field = target_field link.target } in
      let a = division_least (Steps.next_division domains m step) links in
      let b = later d (divisions_in link.condition) (divisions_in_any link.first) (divisions_in_any (Steps.size_aspect (type_of domains m step.field) link.size)) in
      omega (arith, a, b)
    where
      later : (d x y z : ℕ) → d ≤ d + x + y + z
      later d x y z = omega arith

module _ (domains : List Domain) (m : Graph) (el : IsElaborated domains m) (formable : AreFormable (limit_of domains m) m) (narrow : AreNarrow (limit_of domains m) m) where
  -- what makes the goal's query
  abbrev pub IsAsked : Goal → List ℕ → List Arrow → Option Tree → Option Tree → List Form → List Linear → ℕ → Type 0
  IsAsked goal path links first size formula units quotients =
      QueryOf.asked_at domains m goal path ≡ QueryOf.asked_of domains m (fields_on domains m path) (QueryOf.division_at domains m path) links first size formula units quotients

  pub found : (goal : Goal) (path : List ℕ) (point : List ℤ) (links : List Arrow) (first size : Option Tree) (formula : List Form) (units : List Linear) (quotients : ℕ)
      → Steps.LeadsThrough domains m Start path (source goal) → IsAsked goal path links first size formula units quotients
      → AllFormable (limit_of domains m) links → IsNumericIfAny first → IsNumericIfAny size → IsPoint (QueryOf.query_for domains m goal path) point
      → ((p : IsPartialAt domains m el formable narrow point path (source goal)) → Granted point (QueryOf.division_at domains m path) (in_message p.total p.fields) links first size formula units → IsMet domains m (in_message p.total p.fields) goal)
      → Laws.Meets domains m goal path point
  found goal path point links first size formula units quotients lt is fm nf ns at met =
      let gs = fields_on domains m path in
      let n = QueryOf.division_at domains m path in
      let on = Steps.links_on domains m path in
      let asked = QueryOf.asked_of domains m gs n links first size formula units quotients in
      let h : satisfied (QueryOf.asked_query domains m path asked) point ≡ true = subst (λ (a : Asked). satisfied (QueryOf.asked_query domains m path a) point ≡ true) is at.satisfies in
      let s = partial_at domains m el formable narrow point path (source goal) asked lt h in
      let p = s.0 in
      let e = in_message p.total p.fields in
      let w = stays_within domains m el p.total path p.fields (source goal) p.partial in
      let r = represents point p.total gs p.fields p.length_is p.matches in
      let g = granted domains m point gs e r w n links first size formula units quotients fm nf ns s.1 s.2 in
      let whole : length point ≡ asked.variables = at.whole ∙ query_variables (QueryOf.asked_at domains m goal path).variables (QueryOf.asked_form domains m path (QueryOf.asked_at domains m goal path)) ∙ ap (λ (a : Asked). a.variables) is in
      let counted = numbers_length domains m p.total [] Start path p.fields (source goal) p.partial.leads in
      let least = division_least domains m (1 + Steps.scalars_on domains m on) on in
      let more = conditions_least n links in
      let long = enough (Points.numbers_of domains m p.fields) p.total (Steps.scalars_on domains m on) n (past n links) (divisions_in_any first) (divisions_in_any size) quotients (length point) counted least more whole in (
        p.total,
        p.fields,
        record { partial = p.partial; met = met p g },
        cut_of domains m point p.total (1 + Steps.scalars_on domains m on) on p.fields p.length_is (links_length domains m p.total [] Start path p.fields (source goal) p.partial.leads) p.matches long,
      )
    where
      enough : (numbers : List ℤ) (total count n k x y z l : ℕ) → length numbers ≡ count → 1 + count ≤ n → n ≤ k → l ≡ k + x + y + z → length (pos total ∷ numbers) ≤ l
      enough numbers total count n k x y z l a b c d = omega arith

  pub placed : (goal : Goal) (total : ℕ) (path : List ℕ) (fields : List Placed) (partial : IsPartial domains m total path fields (source goal))
      (links : List Arrow) (first size : Option Tree) (formula : List Form) (units : List Linear) (quotients : ℕ) (qs : List ℤ)
      → IsAsked goal path links first size formula units quotients
      → AllFormable (limit_of domains m) links → AllNarrow (limit_of domains m) links → IsNumericIfAny first → IsNarrowIfAny (limit_of domains m) first → IsNumericIfAny size → IsNarrowIfAny (limit_of domains m) size
      → AllTaken (in_message total fields) links → length qs ≡ quotients
      → Ends.Serves domains m el formable narrow total path fields (source goal) partial links first size formula units quotients qs
      → Laws.HasPoint domains m goal total path fields
  placed goal total path fields partial links first size formula units quotients qs is fm nr nf rf ns rs taken lq serves =
      let h = point_at domains m el formable narrow total path fields (source goal) partial links first size formula units quotients qs fm nr nf rf ns rs taken lq serves in
      let asked = QueryOf.asked_at domains m goal path in (
        h.0,
        record {
          whole = h.1 ∙ sym (ap (λ (a : Asked). a.variables) is) ∙ sym (query_variables asked.variables (QueryOf.asked_form domains m path asked));
          satisfies = subst (λ (a : Asked). satisfied (QueryOf.asked_query domains m path a) h.0 ≡ true) (sym is) h.2;
        },
        h.3,
      )
