-- What is asked at the end of a path holds at a point where the links are taken and the formula holds.
use Rattle.std.proofs.Common.{◌≡◌, refl, sym, ap, ◌∙◌, ℕ, ◌+◌, arith, List, [], ◌∷◌, ◌++◌, length, true, ℤ, Option, append_assoc}
use Rattle.std.specs.List.{AllByRecursion}
use Rattle.rx_linear.proofs.Joining.{both, and_true}
use Rattle.rx_types.specs.Tree.{Tree}
use Rattle.rx_types.specs.Domain.{Domain}
use Rattle.rx_types.specs.Environment.{Environment}
use Rattle.rx_types.specs.Narrow.{StaysWithin}
use Rattle.rx_graph.specs.Graph.{Arrow, Graph, limit_of}
use Rattle.rx_graph.specs.Paths.{IsTrue}
use Rattle.rx_forms.specs.declared.linear.Linear.{Linear}
use Rattle.rx_forms.specs.declared.linear.Form.{Form}
use Rattle.rx_forms.specs.Linear.{meets, not_below_zero}
use Rattle.rx_forms.specs.Normal.{Formed, divisions_in, condition}
use Rattle.rx_forms.specs.Divisions.{divisions, quotients}
use Rattle.rx_forms.specs.Points.{Represents, Solves, SolvesAny}
use Rattle.rx_forms.specs.Steps.{divisions_any, divisions_in_any, conditions_from, rows_from, past}
use Rattle.rx_forms.specs.Links.{IsFormable, IsNarrowLink, IsNumericIfAny, IsNarrowIfAny}
use Rattle.rx_forms.proofs.Quotients.{parts_of, of_parts}
use Rattle.rx_forms.proofs.Conditions.{condition_meets}
use Rattle.rx_forms.proofs.Rows.{solves_condition, rows_of_condition}
use Rattle.rx_forms.proofs.Matching.{solves_any, rows_of_any}
use Rattle.rx_forms.proofs.Extension.{two, quotients_length}
use Rattle.rx_forms.proofs.Carrying.{solved_in}
use Rattle.rx_layout.specs.QueryOf
use Rattle.rx_layout.proofs.Lists.{meet_all, split, join}

-- ---- conditions of links

abbrev pub AllTaken : Environment → List Arrow → Type 0
AllTaken e links = AllByRecursion (λ link. IsTrue link e) links

abbrev pub AllFormable : (ℕ → ℕ) → List Arrow → Type 0
AllFormable limit links = AllByRecursion (IsFormable limit) links

abbrev pub AllNarrow : (ℕ → ℕ) → List Arrow → Type 0
AllNarrow limit links = AllByRecursion (IsNarrowLink limit) links

-- from variable n on, the point has the quotients of the links' conditions
abbrev pub AllSolved : List ℤ → ℕ → List Arrow → Environment → Type 0
AllSolved point n [] e = Unit {0}
AllSolved point n (link ∷ links) e = Solves point n link.condition e × AllSolved point (n + divisions_in link.condition) links e

abbrev pub condition_quotients : List Arrow → Environment → List ℤ
condition_quotients [] e = []
condition_quotients (link ∷ links) e = quotients link.condition e ++ condition_quotients links e

pub conditions_length : (links : List Arrow) (e : Environment) (front : List ℤ) (n : ℕ) → length front ≡ n → length (front ++ condition_quotients links e) ≡ past n links
conditions_length [] e front n l = two front [] n 0 l refl ∙ (omega arith)
conditions_length (link ∷ links) e front n l =
    ap (λ (zs : List ℤ). length zs) (sym (append_assoc front (quotients link.condition e) (condition_quotients links e)))
    ∙ conditions_length links e (front ++ quotients link.condition e) (n + divisions_in link.condition) (two front (quotients link.condition e) n (divisions_in link.condition) l (quotients_length link.condition e))

pub conditions_solved : (links : List Arrow) (e : Environment) (point front rest : List ℤ) (n : ℕ) → point ≡ front ++ (condition_quotients links e ++ rest) → length front ≡ n → AllSolved point n links e
conditions_solved [] e point front rest n h l = tt
conditions_solved (link ∷ links) e point front rest n h l =
    let q = quotients link.condition e in
    let more = condition_quotients links e in
    let first : point ≡ front ++ (q ++ (more ++ rest)) = h ∙ ap (λ (zs : List ℤ). front ++ zs) (append_assoc q more rest) in (
      solved_in link.condition e point front (more ++ rest) n first l,
      conditions_solved links e point (front ++ q) rest (n + divisions_in link.condition) (first ∙ sym (append_assoc front q (more ++ rest))) (two front q n (divisions_in link.condition) l (quotients_length link.condition e)),
    )

module _ (limit : ℕ → ℕ) (point : List ℤ) (gs : List Formed) (e : Environment) (r : Represents point gs e) (w : StaysWithin limit e) where
  conditions_true : (n : ℕ) (links : List Arrow) → AllFormable limit links → not_below_zero point (rows_from limit gs n links) ≡ true → meet_all point (conditions_from gs n links) ≡ true → AllTaken e links
  conditions_true n [] fm d h = tt
  conditions_true n (link ∷ links) fm d h =
      let k = n + divisions_in link.condition in
      let p = parts_of point (divisions limit gs n link.condition) (rows_from limit gs k links) d in
      let q = both {a = meets (condition gs n true link.condition) point} h in
      let s = solves_condition limit point gs e r n link.condition fm.0.condition p.0 in
      (sym (condition_meets limit point gs e r (λ f. (w.fields f).number) n true link.condition fm.0.condition s) ∙ q.0, conditions_true k links fm.1 p.1 q.1)

  true_conditions : (n : ℕ) (links : List Arrow) → AllFormable limit links → AllNarrow limit links → AllSolved point n links e → AllTaken e links
      → (not_below_zero point (rows_from limit gs n links) ≡ true) × (meet_all point (conditions_from gs n links) ≡ true)
  true_conditions n [] fm nr s t = (refl, refl)
  true_conditions n (link ∷ links) fm nr s t =
      let k = n + divisions_in link.condition in
      let more = true_conditions k links fm.1 nr.1 s.1 t.1 in (
        of_parts point (divisions limit gs n link.condition) (rows_from limit gs k links) (rows_of_condition limit point gs e r w n link.condition fm.0.condition nr.0.condition s.0) more.0,
        and_true (condition_meets limit point gs e r (λ f. (w.fields f).number) n true link.condition fm.0.condition s.0 ∙ t.0) more.1,
      )

-- ---- all that is asked

-- the links are taken, the named First and Size have their quotients, and the formula and the rows of the quotients by 8 hold
pub record Granted (point : List ℤ) (n : ℕ) (e : Environment) (links : List Arrow) (first size : Option Tree) (formula : List Form) (units : List Linear) : Type 0 where
  pub taken : AllTaken e links
  pub first_solved : SolvesAny point (past n links) first e
  pub size_solved : SolvesAny point (past n links + divisions_in_any first) size e
  pub holds : meet_all point formula ≡ true
  pub bounded : not_below_zero point units ≡ true

module _ (domains : List Domain) (m : Graph) (point : List ℤ) (gs : List Formed) (e : Environment) (r : Represents point gs e) (w : StaysWithin (limit_of domains m) e)
    (n : ℕ) (links : List Arrow) (first size : Option Tree) (formula : List Form) (units : List Linear) (quotients : ℕ) where
  pub granted : AllFormable (limit_of domains m) links → IsNumericIfAny first → IsNumericIfAny size
      → meet_all point (QueryOf.asked_of domains m gs n links first size formula units quotients).forms ≡ true
      → not_below_zero point (QueryOf.asked_of domains m gs n links first size formula units quotients).divisions ≡ true
      → Granted point n e links first size formula units
  granted fm nf ns h d =
      let limit = limit_of domains m in
      let k = past n links in
      let first_rows = divisions_any limit gs k first in
      let size_rows = divisions_any limit gs (k + divisions_in_any first) size in
      let p1 = parts_of point (rows_from limit gs n links) (first_rows ++ (size_rows ++ units)) d in
      let p2 = parts_of point first_rows (size_rows ++ units) p1.1 in
      let p3 = parts_of point size_rows units p2.1 in
      let f = split point (conditions_from gs n links) formula h in
      record {
        taken = conditions_true limit point gs e r w n links fm p1.0 f.0;
        first_solved = solves_any limit point gs e r first k nf p2.0;
        size_solved = solves_any limit point gs e r size (k + divisions_in_any first) ns p3.0;
        holds = f.1;
        bounded = p3.1;
      }

  pub granting : AllFormable (limit_of domains m) links → AllNarrow (limit_of domains m) links → IsNumericIfAny first → IsNarrowIfAny (limit_of domains m) first → IsNumericIfAny size → IsNarrowIfAny (limit_of domains m) size
      → AllSolved point n links e → Granted point n e links first size formula units
      → (meet_all point (QueryOf.asked_of domains m gs n links first size formula units quotients).forms ≡ true)
      × (not_below_zero point (QueryOf.asked_of domains m gs n links first size formula units quotients).divisions ≡ true)
  granting fm nr nf rf ns rs s g =
      let limit = limit_of domains m in
      let k = past n links in
      let first_rows = divisions_any limit gs k first in
      let size_rows = divisions_any limit gs (k + divisions_in_any first) size in
      let c = true_conditions limit point gs e r w n links fm nr s g.taken in (
        join point (conditions_from gs n links) formula c.1 g.holds,
        of_parts point (rows_from limit gs n links) (first_rows ++ (size_rows ++ units)) c.0
            (of_parts point first_rows (size_rows ++ units) (rows_of_any limit point gs e r w first k nf rf g.first_solved)
            (of_parts point size_rows units (rows_of_any limit point gs e r w size (k + divisions_in_any first) ns rs g.size_solved) g.bounded)),
      )
