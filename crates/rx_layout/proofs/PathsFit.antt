-- What is gathered along a path that stays within the path limit fits a system.
use Rattle.std.proofs.Common.{◌≡◌, refl, sym, ◌∙◌, ℕ, ◌+◌, ◌≤◌, arith, List, [], ◌∷◌, ◌++◌, true, pos, Option, Some, None}
use Rattle.std.specs.Prelude.{nat_le}
use Rattle.std.specs.List.{list_all, AllByRecursion}
use Rattle.std.proofs.lemmas.List.Folds.{list_all-append}
use Rattle.rx_linear.proofs.Joining.{both, and_true}
use Rattle.rx_types.specs.Domain.{Domain}
use Rattle.rx_types.specs.Tree.{Tree}
use Rattle.rx_graph.specs.Graph.{Arrow, Graph, type_of, limit_of}
use Rattle.rx_forms.specs.Linear.{plus}
use Rattle.rx_forms.specs.Normal.{Formed}
use Rattle.rx_forms.specs.Divisions.{divisions}
use Rattle.rx_forms.specs.Limits.{Met, Limited, is_kept, all_kept, is_low, met}
use Rattle.rx_forms.specs.Steps.{Step, first_form, size_form, condition_form, first_division, size_division, size_aspect, scalars_in, scalars_on, target_field, divisions_any, divisions_in_any, next_division, division_after, formed_at, end_form, met_any, met_at}
use Rattle.rx_forms.specs.Links.{IsNarrowIfAny, IsNarrowLink}
use Rattle.rx_forms.specs.Fronts.{Front, step_at, after_link, after_links, link_within, links_within}
use Rattle.rx_forms.proofs.Gathering.{division_above}
use Rattle.rx_layout.specs.Fitting.{fits_row}
use Rattle.rx_layout.proofs.Targets.{narrow_aspect}
use Rattle.rx_layout.proofs.Bounds.{low_to, weighted_width}
use Rattle.rx_layout.proofs.Widths.{AreLowTo}
use Rattle.rx_layout.proofs.FactsFit.{condition_fits}
use Rattle.rx_layout.proofs.RowsFit.{divisions_fit}
use Rattle.rx_layout.proofs.FrontsFit.{IsFitting, join_rows, join_facts, found_low, each_wider, each_low, end_low, said_width, size_width, number_low}

split : (xs ys : List Met) → all_kept (xs ++ ys) ≡ true → (all_kept xs ≡ true) × (all_kept ys ≡ true)
split xs ys h = both {a = all_kept xs} {b = all_kept ys} (sym (list_all-append is_kept xs ys) ∙ h)

-- what is met at a link into a field
pub record MetLink (type : Option Domain) (step : Step) : Type 0 where
  pub condition : all_kept (met step.before step.division step.link.condition) ≡ true
  pub aspect : all_kept (met_any step.before (first_division step) step.link.first) ≡ true
  pub begins : is_low (first_form step) ≡ true
  pub long : all_kept (met_any step.before (size_division step) (size_aspect type step.link.size)) ≡ true
  pub extends : is_low (size_form type step) ≡ true
  pub ends : is_low (plus (first_form step) (size_form type step)) ≡ true

met_link : (type : Option Domain) (step : Step) → all_kept (met_at type step) ≡ true → MetLink type step
met_link type step h =
    let f = first_form step in
    let s = size_form type step in
    let last = Limited s ∷ Limited (plus f s) ∷ [] in
    let size = met_any step.before (size_division step) (size_aspect type step.link.size) in
    let p = split (met step.before step.division step.link.condition) (met_any step.before (first_division step) step.link.first ++ (Limited f ∷ (size ++ last))) h in
    let q = split (met_any step.before (first_division step) step.link.first) (Limited f ∷ (size ++ last)) p.1 in
    let r = both {a = is_low f} {b = all_kept (size ++ last)} q.1 in
    let t = split size last r.1 in
    let u = both {a = is_low s} t.1 in
    record { condition = p.0; aspect = q.0; begins = r.0; long = t.0; extends = u.0; ends = (both {a = is_low (plus f s)} u.1).0 }

aspect_rows : (limit : ℕ → ℕ) (fields : List Formed) (d n k : ℕ) (x : Option Tree) → AllByRecursion (λ g. AreLowTo d g) fields → d ≤ k → 1 ≤ k → k + divisions_in_any x ≤ n → all_kept (met_any fields k x) ≡ true → IsNarrowIfAny limit x
    → list_all (fits_row n) (divisions_any limit fields k x) ≡ true
aspect_rows limit fields d n k None l h e r m w = refl
aspect_rows limit fields d n k (Some x) l h e r m w = divisions_fit limit fields d (λ f. found_low d fields f l) n k x h e r m w

module _ (domains : List Domain) (m : Graph) where
  pub link_fits : (n : ℕ) (front : Front) (link : Arrow) → IsNarrowLink (limit_of domains m) link → link_within domains m front link ≡ true → next_division domains m (step_at front link) ≤ n
      → front.scalar + scalars_in (type_of domains m (target_field link.target)) ≤ front.division → IsFitting n front → IsFitting n (after_link domains m front link)
  link_fits n front link narrow w r v h =
      let limit = limit_of domains m in
      let step = step_at front link in
      let type = type_of domains m step.field in
      let d = front.division in
      let next = next_division domains m step in
      let k = met_link type step (both {a = nat_le next 190} w).1 in
      let s = h.some in
      let low = λ (f : ℕ). found_low d front.fields f h.fields in
      let end = end_low d front.fields h.fields in
      let e = end.short in
      let first = said_width d (first_division step) front.fields link.first (end_form front.fields) (omega arith) (omega (arith, s)) h.fields (omega (arith, e)) in
      let begins = low_to next (first_form step) (omega (arith, first)) k.begins in
      let extends = low_to next (size_form type step) (size_width d next type step h.fields (omega arith) (omega (arith, s)) first (omega arith)) k.extends in
      let a = begins.short in
      let b = extends.short in
      let ends = low_to next (plus (first_form step) (size_form type step)) (weighted_width (first_form step).coefficients (size_form type step).coefficients (pos 1) (pos 1) next a b) k.ends in
      let formed : AreLowTo next (formed_at domains m step) = record { first = begins; size = extends; end = ends; number = number_low next type step (omega (arith, v)) } in
      let rows = join_rows n (divisions limit front.fields d link.condition) _ (divisions_fit limit front.fields d low n d link.condition (omega arith) s (omega (arith, r)) k.condition narrow.condition)
      (join_rows n (divisions_any limit front.fields (first_division step) link.first) _
      (aspect_rows limit front.fields d n (first_division step) link.first h.fields (omega arith) (omega (arith, s)) (omega (arith, r)) k.aspect narrow.first)
      (aspect_rows limit front.fields d n (size_division step) (size_aspect type link.size) h.fields (omega arith) (omega (arith, s)) r k.long (narrow_aspect limit type link.size narrow.size))) in
      record {
        some = omega (arith, s);
        fields = each_low next front.fields (formed_at domains m step) (each_wider d next front.fields (omega arith) h.fields) formed;
        rows = join_rows n front.rows _ h.rows rows;
        conditions = join_facts n front.conditions (condition_form step ∷ []) h.conditions (and_true (condition_fits front.fields d low n d true link.condition (omega arith) s (omega (arith, r)) k.condition) refl);
      }

  pub path_fits : (n : ℕ) (front : Front) (links : List Arrow) → AllByRecursion (λ l. IsNarrowLink (limit_of domains m) l) links → links_within domains m front links ≡ true → division_after domains m front.division links ≤ n
      → front.scalar + scalars_on domains m links ≤ front.division → IsFitting n front → IsFitting n (after_links domains m front links)
  path_fits n front [] narrow w r v h = h
  path_fits n front (link ∷ links) narrow w r v h =
      let next = next_division domains m (step_at front link) in
      let p = both {a = link_within domains m front link} w in
      let up = division_above domains m next links in
      path_fits n (after_link domains m front link) links narrow.1 p.1 r (omega (arith, v)) (link_fits n front link narrow.0 p.0 (omega (arith, up, r)) (omega (arith, v)) h)
