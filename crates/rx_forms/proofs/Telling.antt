-- What is gathered along a path are its forms, and it is told exactly where the path passes the path limit.
use Rattle.std.proofs.Common.{◌≡◌, refl, sym, ap, ◌∙◌, ℕ, ◌+◌, ◌<◌, ◌≤◌, arith, List, ◌++◌, map, Bool, true, false, not, ◌&&◌, nat_le}
use Rattle.std.specs.List.{flat_map}
use Rattle.std.proofs.lemmas.List.Folds.{list_all-append}
use Rattle.rx_types.specs.Domain.{Domain}
use Rattle.rx_graph.specs.Graph.{Arrow, Graph, type_of, limit_of}
use Rattle.rx_forms.specs.declared.forms.Forms.{Forms}
use Rattle.rx_forms.specs.declared.linear.Linear.{Linear}
use Rattle.rx_forms.specs.declared.linear.Form.{Form}
use Rattle.rx_forms.specs.Normal.{Formed}
use Rattle.rx_forms.specs.Limits.{Met, is_kept, all_kept}
use Rattle.rx_forms.specs.Steps.{scalars_on, links_on, condition_form, division_forms}
use Rattle.rx_forms.specs.Steps
use Rattle.rx_forms.specs.Fronts
use Rattle.rx_forms.proofs.Gathering
use Rattle.rx_forms.proofs.Looping

abbrev made : ℕ → List Linear → List Linear → List Linear → List Form → Forms
made variables divisions firsts sizes conditions = record { variables = variables; divisions = divisions; firsts = firsts; sizes = sizes; conditions = conditions }

pub same_forms : (a b : Forms) → a.variables ≡ b.variables → a.divisions ≡ b.divisions → a.firsts ≡ b.firsts → a.sizes ≡ b.sizes → a.conditions ≡ b.conditions → a ≡ b
same_forms a b p q r s t =
    ap (λ (x : ℕ). made x a.divisions a.firsts a.sizes a.conditions) p
    ∙ ap (λ (x : List Linear). made b.variables x a.firsts a.sizes a.conditions) q
    ∙ ap (λ (x : List Linear). made b.variables b.divisions x a.sizes a.conditions) r
    ∙ ap (λ (x : List Linear). made b.variables b.divisions b.firsts x a.conditions) s
    ∙ ap (λ (x : List Form). made b.variables b.divisions b.firsts b.sizes x) t

pub fails_before : (a b c : Bool) → (a && b) ≡ false → (a && (b && c)) ≡ false
fails_before true b c h = ap (λ (t : Bool). t && c) h
fails_before false b c h = refl

module _ (domains : List Domain) (m : Graph) (path out : List ℕ) where
  abbrev fields : List Arrow
  fields = Steps.into_fields (links_on domains m path)

  abbrev ends : List Arrow
  ends = Steps.ends_along domains m path out

  abbrev count : ℕ
  count = scalars_on domains m fields

  abbrev begin : Fronts.Front
  begin = Fronts.first_front count

  abbrev mid : Fronts.Front
  mid = Fronts.after_links domains m begin fields

  -- the ends one after the other are the ends together
  both_ends : Fronts.after_path domains m begin path out ≡ Fronts.after_ends domains m mid ends
  both_ends = sym (Looping.ends_after domains m mid (Steps.others (links_on domains m path)) (links_on domains m out))

  mid_division : mid.division ≡ Steps.next_along domains m path
  mid_division = Gathering.division_is domains m begin fields

  mid_fields : mid.fields ≡ Steps.fields_along domains m path
  mid_fields = Gathering.fields_after domains m begin fields

  pub tells_forms : Fronts.forms_in (Fronts.after_path domains m begin path out) ≡ Steps.forms_along domains m path out
  tells_forms =
      ap Fronts.forms_in both_ends
      ∙ same_forms _ _
      (Gathering.ends_division domains m mid ends ∙ ap (λ (n : ℕ). Steps.past n ends) mid_division)
      (Gathering.ends_rows domains m mid ends
      ∙ ap (λ (rs : List Linear). rs ++ Steps.rows_from (limit_of domains m) mid.fields mid.division ends) (Gathering.rows_after domains m begin fields)
      ∙ ap (λ (fs : List Formed). flat_map (λ step. division_forms (limit_of domains m) (type_of domains m step.field) step) (Steps.steps_along domains m path) ++ Steps.rows_from (limit_of domains m) fs mid.division ends) mid_fields
      ∙ ap (λ (n : ℕ). flat_map (λ step. division_forms (limit_of domains m) (type_of domains m step.field) step) (Steps.steps_along domains m path) ++ Steps.rows_from (limit_of domains m) (Steps.fields_along domains m path) n ends) mid_division)
      (Gathering.ends_firsts domains m mid ends ∙ Gathering.firsts_after domains m begin fields)
      (Gathering.ends_sizes domains m mid ends ∙ Gathering.sizes_after domains m begin fields)
      (Gathering.ends_conditions domains m mid ends
      ∙ ap (λ (cs : List Form). cs ++ Steps.conditions_from mid.fields mid.division ends) (Gathering.conditions_after domains m begin fields)
      ∙ ap (λ (fs : List Formed). map condition_form (Steps.steps_along domains m path) ++ Steps.conditions_from fs mid.division ends) mid_fields
      ∙ ap (λ (n : ℕ). map condition_form (Steps.steps_along domains m path) ++ Steps.conditions_from (Steps.fields_along domains m path) n ends) mid_division)

  -- ---- the path limit

  abbrev met_fields : List Met
  met_fields = flat_map (λ step. Steps.met_at (type_of domains m step.field) step) (Steps.steps_along domains m path)

  abbrev met_ends : List Met
  met_ends = Steps.met_from (Steps.fields_along domains m path) (Steps.next_along domains m path) ends

  ends_by_parts : Fronts.path_within domains m begin path out ≡ (Fronts.links_within domains m begin fields && Fronts.ends_within domains m mid ends)
  ends_by_parts = ap (λ (t : Bool). Fronts.links_within domains m begin fields && t) (sym (Looping.ends_test domains m mid (Steps.others (links_on domains m path)) (links_on domains m out)))

  ends_tested : nat_le (Steps.next_along domains m path) 190 ≡ true → Fronts.ends_within domains m mid ends ≡ (nat_le (Steps.variables_along domains m path out) 190 && all_kept met_ends)
  ends_tested h =
      Gathering.within_ends domains m mid ends (ap (λ (n : ℕ). nat_le n 190) mid_division ∙ h)
      ∙ ap (λ (n : ℕ). nat_le (Steps.past n ends) 190 && all_kept (Steps.met_from mid.fields n ends)) mid_division
      ∙ ap (λ (fs : List Formed). nat_le (Steps.variables_along domains m path out) 190 && all_kept (Steps.met_from fs (Steps.next_along domains m path) ends)) mid_fields

  pub tells_limit : nat_le (1 + count) 190 ≡ true → Steps.passes_limit domains m path out ≡ not (Fronts.path_within domains m begin path out)
  tells_limit h =
      ap not (sym (
      ends_by_parts
      ∙ ap (λ (t : Bool). t && Fronts.ends_within domains m mid ends) (Gathering.within_links domains m begin fields h)
      ∙ Gathering.joins (nat_le (Steps.next_along domains m path) 190) (nat_le (Steps.variables_along domains m path out) 190) (all_kept met_fields) (all_kept met_ends) (Fronts.ends_within domains m mid ends)
      (Gathering.le_back (Steps.next_along domains m path) (Steps.variables_along domains m path out) (Gathering.past_above domains m (Steps.next_along domains m path) ends)) ends_tested
      ∙ ap (λ (t : Bool). nat_le (Steps.variables_along domains m path out) 190 && t) (sym (list_all-append is_kept met_fields met_ends))))

  too_many : (n : ℕ) (t : Bool) → 190 ≤ count → 1 + count ≤ n → not (nat_le n 190 && t) ≡ true
  too_many n t h k = let e : nat_le n 190 ≡ false = grind (arith, h, k) in ap (λ (b : Bool). not (b && t)) e

  pub tells_many : 190 ≤ count → Steps.passes_limit domains m path out ≡ true
  tells_many h =
      let a = Gathering.division_above domains m (1 + count) fields in
      let b = Gathering.past_above domains m (Steps.next_along domains m path) ends in
      too_many (Steps.variables_along domains m path out) _ h (omega (arith, a, b))

  few_test : (n t : ℕ) → n ≡ t → n < 190 → nat_le (1 + t) 190 ≡ true
  few_test n t e h = grind (arith, e, h)

  -- the limit is told by what was tested along the path
  pub told_limit : (n : ℕ) → n ≡ count → n < 190 → (t : Bool) → Fronts.path_within domains m begin path out ≡ t → Steps.passes_limit domains m path out ≡ not t
  told_limit n e h t w = tells_limit (few_test n count e h) ∙ ap not w
