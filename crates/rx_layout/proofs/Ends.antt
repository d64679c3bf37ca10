-- The points of a path's query are those of its partial numbers, with what is asked at its end.
use Rattle.std.proofs.Common.{◌≡◌, refl, sym, ap, ◌∙◌, ℕ, ◌+◌, arith, List, [], ◌∷◌, ◌++◌, length, take, true, get_or, ℤ, pos, Option, Some, None, append_assoc}
use Rattle.std.proofs.Math.Seq.{take-append_seam}
use Rattle.rx_types.specs.Tree.{Tree}
use Rattle.rx_types.specs.Domain.{Domain}
use Rattle.rx_types.specs.Environment.{Environment, Placed, in_message}
use Rattle.rx_graph.specs.declared.message.Node.{Node}
use Rattle.rx_graph.specs.declared.message.Node.TheVariants.{Start}
use Rattle.rx_graph.specs.Graph.{Arrow, Graph, limit_of}
use Rattle.rx_graph.specs.Elaborated.{IsElaborated}
use Rattle.rx_graph.specs.Paths.{IsPartial}
use Rattle.rx_graph.proofs.Bounded.{stays_within}
use Rattle.rx_proof.specs.Queries.{satisfied}
use Rattle.rx_forms.specs.declared.linear.Linear.{Linear}
use Rattle.rx_forms.specs.declared.linear.Form.{Form, All}
use Rattle.rx_forms.specs.Linear.{not_below_zero}
use Rattle.rx_forms.specs.Points.{SolvesAny, Matches, quotients_any}
use Rattle.rx_forms.specs.Laws
use Rattle.rx_forms.specs.Steps
use Rattle.rx_forms.specs.Steps.{divisions_in_any, past}
use Rattle.rx_forms.specs.Links.{AreFormable, AreNarrow, IsNumericIfAny, IsNarrowIfAny}
use Rattle.rx_forms.specs.Points
use Rattle.rx_forms.proofs.Matching.{represents}
use Rattle.rx_forms.proofs.Along.{rows_lead, lead_rows}
use Rattle.rx_forms.proofs.Carrying.{carried, solved_in, any_length, links_length, numbers_length, along_length}
use Rattle.rx_forms.proofs.Extension.{two}
use Rattle.rx_layout.specs.Types.{type_form}
use Rattle.rx_layout.specs.QueryOf
use Rattle.rx_layout.specs.QueryOf.{Asked}
use Rattle.rx_layout.proofs.Lists.{meet_all, meets_all}
use Rattle.rx_layout.proofs.Domains.{types_have_forms}
use Rattle.rx_layout.proofs.Satisfied.{query_meets}
use Rattle.rx_layout.proofs.Along.{path_points, points_path}
use Rattle.rx_layout.proofs.Asking.{AllTaken, AllFormable, AllNarrow, condition_quotients, conditions_length, conditions_solved, granting}

solved_any_at : (x : Option Tree) (e : Environment) (point front rest : List ℤ) (n : ℕ) → point ≡ front ++ (quotients_any x e ++ rest) → length front ≡ n → SolvesAny point n x e
solved_any_at None e point front rest n h l = tt
solved_any_at (Some x) e point front rest n h l = solved_in x e point front rest n h l

module _ (domains : List Domain) (m : Graph) (el : IsElaborated domains m) (formable : AreFormable (limit_of domains m) m) (narrow : AreNarrow (limit_of domains m) m) where
  -- ---- from a point to the path

  -- a partial path that has the point's numbers
  pub record IsPartialAt (point : List ℤ) (path : List ℕ) (end : Node) : Type 0 where
    pub total : ℕ
    pub fields : List Placed
    pub partial : IsPartial domains m total path fields end
    pub length_is : get_or point 0 (pos 0) ≡ pos total
    pub matches : Matches point (Laws.fields_on domains m path) fields

  pub partial_at : (point : List ℤ) (path : List ℕ) (end : Node) (asked : Asked) → Steps.LeadsThrough domains m Start path end → satisfied (QueryOf.asked_query domains m path asked) point ≡ true
      → IsPartialAt point path end × (meet_all point asked.forms ≡ true) × (not_below_zero point asked.divisions ≡ true)
  partial_at point path end asked lt h =
      let links = Steps.links_on domains m path in
      let forms = QueryOf.path_forms domains m (Steps.steps_of domains m path) asked.forms asked.divisions in
      let p = path_points domains m point (Steps.steps_of domains m path) asked.forms asked.divisions (sym (meets_all forms point) ∙ sym (query_meets asked.variables (All forms) point) ∙ h) in
      let l = rows_lead domains m el formable narrow type_form point (types_have_forms point) p.0.0 p.0.2 p.0.1 path [] [] [] 1 (1 + Steps.scalars_on domains m links) Start end lt tt refl p.1 in
      (record { total = p.0.0; fields = l.0; partial = record { short = p.0.2; leads = l.1 }; length_is = p.0.1; matches = l.2 }, p.2, p.3)

  -- ---- from the path to a point

  -- the point's first numbers are the length and those of the scalars
  abbrev pub IsCutTo : List ℤ → ℕ → List Placed → Type 0
  IsCutTo point total fields = take (length (pos total ∷ Points.numbers_of domains m fields)) point ≡ pos total ∷ Points.numbers_of domains m fields

  abbrev pub HasPoint : List ℕ → Asked → ℕ → List Placed → Type 0
  HasPoint path asked total fields = (point : List ℤ) × (length point ≡ asked.variables) × (satisfied (QueryOf.asked_query domains m path asked) point ≡ true) × IsCutTo point total fields

  plus_comm : (x y : ℕ) → x + y ≡ y + x
  plus_comm x y = omega arith

  module _ (total : ℕ) (path : List ℕ) (fields : List Placed) (end : Node) (partial : IsPartial domains m total path fields end)
      (links : List Arrow) (first size : Option Tree) (formula : List Form) (units : List Linear) (quotients : ℕ) (qs : List ℤ) where
    abbrev n : ℕ
    n = QueryOf.division_at domains m path

    abbrev pub quotient_variable : ℕ
    quotient_variable = past n links + divisions_in_any first + divisions_in_any size

    abbrev pub asked : Asked
    asked = QueryOf.asked_of domains m (Laws.fields_on domains m path) n links first size formula units quotients

    -- what a point that goes on with the quotients has to do
    abbrev pub Serves : Type 0
    Serves =
        (point : List ℤ) → get_or point 0 (pos 0) ≡ pos total → Matches point (Laws.fields_on domains m path) fields
        → SolvesAny point (past n links) first (in_message total fields) → SolvesAny point (past n links + divisions_in_any first) size (in_message total fields)
        → (front : List ℤ) → point ≡ front ++ qs → length front ≡ quotient_variable
        → (meet_all point formula ≡ true) × (not_below_zero point units ≡ true)

    pub point_at : AllFormable (limit_of domains m) links → AllNarrow (limit_of domains m) links → IsNumericIfAny first → IsNarrowIfAny (limit_of domains m) first → IsNumericIfAny size → IsNarrowIfAny (limit_of domains m) size
        → AllTaken (in_message total fields) links → length qs ≡ quotients → Serves → HasPoint path asked total fields
    point_at fm nr nf rf ns rs taken lq serves =
        let e = in_message total fields in
        let gs = Laws.fields_on domains m path in
        let on = Steps.links_on domains m path in
        let numbers = Points.numbers_of domains m fields in
        let count = Steps.scalars_on domains m on in
        let along = Points.quotients_along domains m total [] on fields in
        let cq = condition_quotients links e in
        let fq = quotients_any first e in
        let sq = quotients_any size e in
        let more = cq ++ (fq ++ (sq ++ qs)) in
        let point : List ℤ = pos total ∷ (numbers ++ (along ++ more)) in
        let k = past n links in
        let l0 : length (pos total ∷ numbers) ≡ 1 + count = two (pos total ∷ []) numbers 1 count refl (numbers_length domains m total [] Start path fields end partial.leads) in
        let c = carried domains m point total [] 1 (1 + count) on fields (links_length domains m total [] Start path fields end partial.leads) (pos total ∷ []) (along ++ more) refl refl (pos total ∷ numbers) more refl l0 in
        let rows = lead_rows domains m el formable narrow type_form point (types_have_forms point) total partial.short refl path [] [] [] fields 1 (1 + count) Start end tt refl partial.leads c in
        let front = (pos total ∷ numbers) ++ along in
        let p0 : point ≡ front ++ (cq ++ (fq ++ (sq ++ qs))) = sym (append_assoc (pos total ∷ numbers) along more) in
        let n0 : length front ≡ n = two (pos total ∷ numbers) along (1 + count) (length along) l0 refl ∙ plus_comm (1 + count) (length along) ∙ along_length domains m total [] Start path fields end (1 + count) partial.leads in
        let p1 : point ≡ (front ++ cq) ++ (fq ++ (sq ++ qs)) = p0 ∙ sym (append_assoc front cq (fq ++ (sq ++ qs))) in
        let n1 : length (front ++ cq) ≡ k = conditions_length links e front n n0 in
        let p2 : point ≡ ((front ++ cq) ++ fq) ++ (sq ++ qs) = p1 ∙ sym (append_assoc (front ++ cq) fq (sq ++ qs)) in
        let n2 : length ((front ++ cq) ++ fq) ≡ k + divisions_in_any first = two (front ++ cq) fq k (divisions_in_any first) n1 (any_length first e) in
        let p3 : point ≡ (((front ++ cq) ++ fq) ++ sq) ++ qs = p2 ∙ sym (append_assoc ((front ++ cq) ++ fq) sq qs) in
        let n3 : length (((front ++ cq) ++ fq) ++ sq) ≡ quotient_variable = two ((front ++ cq) ++ fq) sq (k + divisions_in_any first) (divisions_in_any size) n2 (any_length size e) in
        let fs = solved_any_at first e point (front ++ cq) (sq ++ qs) k p1 n1 in
        let ss = solved_any_at size e point ((front ++ cq) ++ fq) qs (k + divisions_in_any first) p2 n2 in
        let w = stays_within domains m el total path fields end partial in
        let r = represents point total gs fields refl rows.1 in
        let h = serves point refl rows.1 fs ss (((front ++ cq) ++ fq) ++ sq) p3 n3 in
        let g = granting domains m point gs e r w n links first size formula units quotients fm nr nf rf ns rs (conditions_solved links e point front (fq ++ (sq ++ qs)) n p0 n0)
        (record { taken = taken; first_solved = fs; size_solved = ss; holds = h.0; bounded = h.1 }) in
        let forms = QueryOf.path_forms domains m (Steps.steps_of domains m path) asked.forms asked.divisions in
        let all = points_path domains m point (Steps.steps_of domains m path) asked.forms asked.divisions total refl partial.short rows.0 g.0 g.1 in (
          point,
          ap (λ (zs : List ℤ). length zs) p3 ∙ two (((front ++ cq) ++ fq) ++ sq) qs quotient_variable quotients n3 lq,
          query_meets asked.variables (All forms) point ∙ meets_all forms point ∙ all,
          take-append_seam (pos total ∷ numbers) (along ++ more),
        )
